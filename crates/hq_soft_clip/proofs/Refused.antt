-- 01, Soft-clip count: "Operations 9 to 15 are refused 3, also with no qualities", and nothing else is refused. Assumes nothing.
use Rattle.std.specs.Prelude.{◌≡◌, refl, false, List, [], ◌∷◌, ℕ, zero, suc, ◌≤◌, ◌<◌, eqb, length, get_or}
use Rattle.std.specs.List.{fold}
use Prim.{⊥, absurd}
use Rattle.std.proofs.Common.{not-suc-le-zero, le_of_suc-le-suc, zero-lt-suc, arith, ne_eqb}
use Rattle.genome.specs.Refusals.{Outcome, refused, answered, word_refusal}
use Rattle.hq_soft_clip.specs.declared.Walk.{Walk}
use Rattle.hq_soft_clip.proofs.Operations.{by_arms}
use Rattle.hq_soft_clip.specs.SoftClips.{operation, span, by_operation, after, start, count_of, clip_count}
use Rattle.hq_soft_clip.specs.Refused.{Counted}

-- ---- an operation that the table does not have, wherever it stands
past_table : (op n : ℕ) (qs : List ℕ) (s : Walk) → 8 < op → by_operation op qs n s ≡ refused word_refusal
unfolding by_operation
past_table op n qs s h =
    rw (ne 0 (omega arith), ne 1 (omega arith), ne 2 (omega arith), ne 3 (omega arith), ne 4 (omega arith), ne 5 (omega arith), ne 6 (omega arith), ne 7 (omega arith), ne 8 h)
  where
    ne : (k : ℕ) → k < op → eqb op k ≡ false
    ne k l = let no : op ≡ k → ⊥ = λ e. omega arith in ne_eqb op k no

-- a refused walk stays refused
pub refused_count : (qs ws : List ℕ) (r : ℕ) → count_of (fold (after qs) (refused r) ws) ≡ refused r
refused_count qs [] r = refl
refused_count qs (w ∷ ws) r = refused_count qs ws r

-- a walk goes on, or was refused 3
abbrev Or3 : Outcome Walk → Type 0
Or3 (refused r) = r ≡ word_refusal
Or3 (answered s) = Unit

after_or3 : (qs : List ℕ) (o : Outcome Walk) (w : ℕ) → Or3 o → Or3 (after qs o w)
after_or3 qs (refused r) w h = h
after_or3 qs (answered s) w h = by_arms (λ x y. Or3 x) (operation w) (span w) qs qs s s tt tt tt refl

after_unknown : (qs : List ℕ) (o : Outcome Walk) (w : ℕ) → Or3 o → 8 < operation w → after qs o w ≡ refused word_refusal
after_unknown qs (refused r) w h u = rw h
after_unknown qs (answered s) w h u = past_table (operation w) (span w) qs s u

from_any : (qs ws : List ℕ) (o : Outcome Walk) (i : ℕ) → Or3 o → i < length ws → 8 < operation (get_or ws i 0) → count_of (fold (after qs) o ws) ≡ refused word_refusal
from_any qs [] o i h l u = absurd (not-suc-le-zero l)
from_any qs (w ∷ ws) o zero h l u = rw (after_unknown qs o w h u) (refused_count qs ws word_refusal)
from_any qs (w ∷ ws) o (suc i) h l u = from_any qs ws (after qs o w) i (after_or3 qs o w h) (le_of_suc-le-suc l) u

pub unknown_refused : (cigar qualities : List ℕ) (i : ℕ) → i < length cigar → 8 < operation (get_or cigar i 0) → clip_count cigar qualities ≡ refused word_refusal
unfolding clip_count
unknown_refused cigar qualities i l u = from_any qualities cigar (answered start) i tt l u

-- ---- where it has them all, there is a count
in_table : (op n : ℕ) (qs : List ℕ) (s : Walk) → op ≤ 8 → Counted (by_operation op qs n s)
unfolding by_operation
in_table zero n qs s h = tt
in_table (suc zero) n qs s h = tt
in_table (suc (suc zero)) n qs s h = tt
in_table (suc (suc (suc zero))) n qs s h = tt
in_table (suc (suc (suc (suc zero)))) n qs s h = tt
in_table (suc (suc (suc (suc (suc zero))))) n qs s h = tt
in_table (suc (suc (suc (suc (suc (suc zero)))))) n qs s h = tt
in_table (suc (suc (suc (suc (suc (suc (suc zero))))))) n qs s h = tt
in_table (suc (suc (suc (suc (suc (suc (suc (suc zero)))))))) n qs s h = tt
in_table (suc (suc (suc (suc (suc (suc (suc (suc (suc op))))))))) n qs s h = absurd (omega (arith, h))

after_known : (qs : List ℕ) (o : Outcome Walk) (w : ℕ) → Counted o → operation w ≤ 8 → Counted (after qs o w)
after_known qs (refused r) w h k = absurd h
after_known qs (answered s) w h k = in_table (operation w) (span w) qs s k

count_known : (o : Outcome Walk) → Counted o → Counted (count_of o)
count_known (refused r) h = h
count_known (answered s) h = tt

from_known : (qs ws : List ℕ) (o : Outcome Walk) → Counted o → ((i : ℕ) → i < length ws → operation (get_or ws i 0) ≤ 8) → Counted (count_of (fold (after qs) o ws))
from_known qs [] o h known = count_known o h
from_known qs (w ∷ ws) o h known =
    from_known qs ws (after qs o w) (after_known qs o w h (known 0 (zero-lt-suc (length ws)))) (λ i l. known (suc i) (omega (arith, l)))

pub known_counted : (cigar qualities : List ℕ) → ((i : ℕ) → i < length cigar → operation (get_or cigar i 0) ≤ 8) → Counted (clip_count cigar qualities)
unfolding clip_count
known_counted cigar qualities known = from_known qualities cigar (answered start) tt known
