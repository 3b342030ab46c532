-- 02, U3: in the soft-clip count a missing quality counts as one of 0 does. Assumes nothing.
use Rattle.std.specs.Prelude.{◌≡◌, refl, Bool, true, false, cond, ◌&&◌, List, [], ◌∷◌, map, ℕ, zero, suc, ◌+◌, eqb, ltb, take, drop}
use Rattle.std.specs.List.{fold}
use Rattle.std.proofs.Common.{ap, ◌∙◌}
use Rattle.lists.specs.Folds.{fold-same}
use Rattle.genome.specs.Ranges.{missing_quality}
use Rattle.genome.specs.Refusals.{Outcome, refused, answered}
use Rattle.hq_soft_clip.specs.declared.Walk.{Walk}
use Rattle.hq_soft_clip.proofs.Operations.{by_arms}
use Rattle.hq_soft_clip.specs.SoftClips.{operation, span, is_high, with_base, count_high, high_of, after, start, count_of, clip_count}
use Rattle.hq_soft_clip.specs.Missing.{zeroed}

high_zeroed : (q : ℕ) → is_high (zeroed q) ≡ is_high q
high_zeroed q = go (eqb q missing_quality) refl
  where
    and_false : (b : Bool) → false ≡ (b && false)
    and_false true = refl
    and_false false = refl

    go : (b : Bool) → eqb q missing_quality ≡ b → is_high (cond b 0 q) ≡ is_high q
    go true e = rw e (and_false (ltb 28 q))
    go false e = refl

count_zeroed : (n : ℕ) (qs : List ℕ) → fold with_base n (map zeroed qs) ≡ fold with_base n qs
count_zeroed n [] = refl
count_zeroed n (q ∷ qs) = ap (λ (b : Bool). fold with_base (cond b (n + 1) n) (map zeroed qs)) (high_zeroed q) ∙ count_zeroed (with_base n q) qs

-- of n bases from base `at` on
high_of-zeroed : (qs : List ℕ) (at n : ℕ) → high_of (map zeroed qs) at n ≡ high_of qs at n
unfolding count_high
high_of-zeroed qs at n = ap (fold with_base 0) (part qs at n) ∙ count_zeroed 0 (take n (drop at qs))
  where
    part : (qs : List ℕ) (at n : ℕ) → take n (drop at (map zeroed qs)) ≡ map zeroed (take n (drop at qs))
    part [] zero zero = refl
    part [] zero (suc n) = refl
    part [] (suc at) zero = refl
    part [] (suc at) (suc n) = refl
    part (q ∷ qs) zero zero = refl
    part (q ∷ qs) zero (suc n) = ap (λ (l : List ℕ). zeroed q ∷ l) (part qs zero n)
    part (q ∷ qs) (suc at) n = part qs at n

after-zeroed : (qs : List ℕ) (o : Outcome Walk) (w : ℕ) → after (map zeroed qs) o w ≡ after qs o w
after-zeroed qs (refused r) w = refl
after-zeroed qs (answered s) w =
    by_arms (λ x y. x ≡ y) (operation w) (span w) (map zeroed qs) qs s s refl refl (rw (high_of-zeroed qs s.at (span w))) refl

-- for every list of CIGAR words and of qualities, refused or not
pub clips_zeroed : (cigar qualities : List ℕ) → clip_count cigar (map zeroed qualities) ≡ clip_count cigar qualities
unfolding clip_count
clips_zeroed cigar qs = ap count_of (fold-same (after (map zeroed qs)) (after qs) (answered start) cigar (after-zeroed qs))
