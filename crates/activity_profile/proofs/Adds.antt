-- What the add's definitions say in the code's terms. Assumes nothing.
use Prim.Native.Nat.{ℕ, zero, suc, ◌+◌, ◌-◌, ◌*◌, ◌≤◌, min, max}
use mathlib.Core.Path.{◌≡◌, refl, sym, ◌∙◌}
use mathlib.Core.Bool.{Bool, true, false, ◌&&◌, cond}
use native.Mathlib.Omega.{arith}
use Rattle.std.proofs.Common.{sub-one, zero-add}
use Rattle.std.proofs.Math.Nat.{add-zero}
use lib.Dec.{leb, ltb}
use lib.Ieee.{Float, binary64, add}
use Rattle.std.proofs.lemmas.List.Sums.{sum_by-cons}
use Rattle.std.specs.List.{count_by, fold, range_with_len}
use borrow.Author.Tests.{ltb-true, ltb-false, leb-true, leb-false}
use Rattle.activity_profile.specs.declared.BandPassActivityProfile.{BandPassActivityProfile}
use Rattle.activity_profile.specs.declared.ActivityEvidence.TheVariants.{HighQualitySoftClips}
use Rattle.activity_profile.specs.Loci.{from}
use Rattle.activity_profile.specs.Profile.{D}
use Rattle.activity_profile.specs.Add.{super_states, times}

-- ---- the m-fold sum

-- one addition for each number of a range of m - 1
pub times_by : (a m : ℕ) (w : Float) → fold (λ sum _. add binary64 sum w) w (range_with_len a (m - 1)) ≡ times m w
unfolding times
times_by a zero w = refl
times_by a (suc m) w = rw sub-one (go a m zero ∙ rw zero-add)
  where
    go : (a n k : ℕ) → fold (λ sum _. add binary64 sum w) (times (suc k) w) (range_with_len a n) ≡ times (suc (k + n)) w
    go a zero k = rw add-zero
    go a (suc n) k = let e : k + suc n ≡ suc k + n = omega arith in rw e (go (a + 1) n (suc k))

-- ---- super states

-- how many of n offsets from a on lie in the stretch
pub counted_is : (low q high a n : ℕ) → count_by (λ j. ltb low (q + j) && leb (q + j) high) (from a n) ≡ min (high + 1) (q + a + n) - max (low + 1) (q + a)
counted_is low q high a zero = omega arith
counted_is low q high a (suc n) =
    sum_by-cons (λ j. cond (ltb low (q + j) && leb (q + j) high) 1 0) a (from (suc a) n)
    ∙ go (ltb low (q + a)) (leb (q + a) high) refl refl (counted_is low q high (suc a) n)
  where
    rest : ℕ
    rest = count_by (λ j. ltb low (q + j) && leb (q + j) high) (from (suc a) n)

    go : (b c : Bool) → ltb low (q + a) ≡ b → leb (q + a) high ≡ c → rest ≡ min (high + 1) (q + suc a + n) - max (low + 1) (q + suc a)
        → cond (b && c) 1 0 + rest ≡ min (high + 1) (q + a + suc n) - max (low + 1) (q + a)
    go true true e f h = omega (arith, ltb-true low (q + a) e, leb-true (q + a) high f)
    go true false e f h = omega (arith, ltb-true low (q + a) e, leb-false (q + a) high f)
    go false c e f h = omega (arith, ltb-false low (q + a) e)

-- the same count from the two ends; in parts, since `omega` takes at most six of -, min and max at once
ends : (x y n : ℕ) → y ≤ x → x + (n + 1) - (y + n) ≡ x - y + 1
ends x y n h = omega arith

pub clips_is : (p : BandPassActivityProfile) (q c : ℕ) → 1 ≤ q → q ≤ p.contig_len →
    min p.contig_len (q + min c (D p)) - max 1 (q - min c (D p)) + 1 ≡ super_states p q (HighQualitySoftClips c)
unfolding super_states
clips_is p q c h₁ h₂ = go (min c (D p))
  where
    go : (n : ℕ) → min p.contig_len (q + n) - max 1 (q - n) + 1 ≡ count_by (λ j. ltb n (q + j) && leb (q + j) (p.contig_len + n)) (from 0 (2 * n + 1))
    go n =
        let e₁ : min (p.contig_len + n + 1) (q + 0 + (2 * n + 1)) ≡ min p.contig_len (q + n) + (n + 1) = omega arith in
        let e₂ : max (n + 1) (q + 0) ≡ max 1 (q - n) + n = omega arith in
        let h : max 1 (q - n) ≤ min p.contig_len (q + n) = omega arith in
        sym (counted_is n q (p.contig_len + n) 0 (2 * n + 1) ∙ rw (e₁, e₂) (ends (min p.contig_len (q + n)) (max 1 (q - n)) n h))
