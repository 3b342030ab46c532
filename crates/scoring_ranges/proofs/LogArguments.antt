-- Within document 01's ranges the likelihoods hand ln only finite numbers above 0. Assumes nothing.
use Rattle.std.specs.Prelude.{◌≡◌, refl, Bool, true, false, ℕ, zero, suc, ◌+◌, ◌-◌, ◌≤◌, ◌<◌, T, ltb, pos, Float}
use Rattle.std.proofs.Common.{sym, subst, le_trans, not-suc-le-zero, le_of_suc-le-suc, add-zero, arith, lit≤, ltb-true, ltb-false}
use Rattle.std.specs.Float.{nan, inf, fin, binary64}
use Rattle.std.specs.Float.Ieee.{of_bits, of_int, round, add, sub, mul, neg, lt, le, fits}
use Rattle.std.specs.Float.Ieee.Fits.{mul-fits}
use Rattle.lists.specs.Tests.{and_left, and_right}
use Rattle.doubles.specs.Constants.{zero_f, one_f}
use Rattle.double_ranges.specs.Sign.{Plus, round-plus, Down, down-neg}
use Rattle.double_ranges.specs.Size.{Size, neg_size, add_size, mul_size, whole_size}
use Rattle.double_ranges.specs.Small.{Small}
use Rattle.double_ranges.specs.Constants.{one_size, one_at_least}
use Rattle.double_ranges.specs.Sums.{add-at_least, mul_below, mul_not_above}
use Rattle.elementary.specs.Exp.{exp_of, ten_to_of}
use Rattle.elementary.specs.ExpRange.{exp_small, whole-at_least, ln10_size, ln10_plus}
use Rattle.elementary.proofs.GammaRange.{above_zero, finite_below}
use Rattle.genotype_likelihoods.specs.Contribution.{error_prob}
use Rattle.scoring_ranges.specs.LogArguments.{Argument}
use Rattle.scoring_ranges.proofs.Tried.{positive, positives, from_1, from_65, from_129, from_193}

-- ---- log10 of 1 less an error's probability, at quality 1 to 254, of what was tried

positives_at : (q n i : ℕ) → positives q n ≡ true → i < n → positive (sub binary64 one_f (error_prob (q + i))) ≡ true
unfolding positives
positives_at q zero i e h = absurd (not-suc-le-zero h)
positives_at q (suc n) zero e h = subst (λ (k : ℕ). positive (sub binary64 one_f (error_prob k)) ≡ true) (sym (add-zero q)) (and_left (positive (sub binary64 one_f (error_prob q))) (positives (suc q) n) e)
positives_at q (suc n) (suc i) e h =
    subst (λ (k : ℕ). positive (sub binary64 one_f (error_prob k)) ≡ true) (moved q i)
    (positives_at (suc q) n i (and_right (positive (sub binary64 one_f (error_prob q))) (positives (suc q) n) e) (le_of_suc-le-suc h))
  where
    moved : (q i : ℕ) → suc q + i ≡ q + suc i
    moved q i = omega arith

argument_of : (x : Float) → positive x ≡ true → Argument x
unfolding positive
argument_of x e = (
  subst T (sym (and_left (lt zero_f x) (lt x (inf false)) e)) tt,
  subst T (sym (and_right (lt zero_f x) (lt x (inf false)) e)) tt,
)

-- in one of the four parts
part : (q n i : ℕ) → positives q n ≡ true → q ≤ i → i < q + n → Argument (sub binary64 one_f (error_prob i))
part q n i e h l =
    let k : q + (i - q) ≡ i = omega arith in
    argument_of (sub binary64 one_f (error_prob i)) (subst (λ (j : ℕ). positive (sub binary64 one_f (error_prob j)) ≡ true) k (positives_at q n (i - q) e (omega arith)))

pub quality_argument : (q : ℕ) → 1 ≤ q → q ≤ 254 → Argument (sub binary64 one_f (error_prob q))
quality_argument q h l = go (ltb q 65) (ltb q 129) (ltb q 193) (ltb-true q 65) (ltb-false q 65) (ltb-true q 129) (ltb-false q 129) (ltb-true q 193) (ltb-false q 193)
  where
    go : (a b c : Bool) → (a ≡ true → q < 65) → (a ≡ false → 65 ≤ q) → (b ≡ true → q < 129) → (b ≡ false → 129 ≤ q) → (c ≡ true → q < 193) → (c ≡ false → 193 ≤ q)
        → Argument (sub binary64 one_f (error_prob q))
    go true b c p p' r r' s s' = part 1 64 q from_1 h (omega (arith, p refl))
    go false true c p p' r r' s s' = part 65 64 q from_65 (p' refl) (omega (arith, r refl))
    go false false true p p' r r' s s' = part 129 64 q from_129 (r' refl) (omega (arith, s refl))
    go false false false p p' r r' s s' = part 193 62 q from_193 (s' refl) (omega arith)

-- ---- log10 of the copies of an allele, and of the ploidy

pub copies_argument : (n : ℕ) → 1 ≤ n → n ≤ 100 → Argument (of_int binary64 (pos n))
copies_argument zero h l = absurd (not-suc-le-zero h)
copies_argument (suc n) h l =
    let a = whole-at_least n (le_trans (less n l) (lit≤ tt)) in
    (above_zero (of_int binary64 (pos (suc n))) a, finite_below 7 (of_int binary64 (pos (suc n))) (whole_size 7 (suc n) (lit≤ tt) (le_trans l (lit≤ tt))))
  where
    less : (n : ℕ) → suc n ≤ 100 → n < 101
    less n l = omega arith

down-whole : (k : ℕ) → Down (neg (of_int binary64 (pos k)))
unfolding of_int
down-whole k = down-neg (round binary64 false k 1) (round-plus binary64 k 1)

-- ---- log10 of a Jacobian entry: 1 + 10 to what is not above 0

entry_argument : (x : Float) → T (fits binary64 x) → T (le x zero_f) → Argument (add binary64 one_f (exp_of x))
entry_argument x t h = go (exp_of x) (exp_small x t h)
  where
    go : (e : Float) → Small false e → Argument (add binary64 one_f e)
    go nan p = absurd p
    go (inf s) p = absurd p
    go (fin s m e) p =
        let u : Size 0 (fin s m e) = omega (arith, p.1) in
        (above_zero (add binary64 one_f (fin s m e)) (add-at_least 0 one_f (fin s m e) one_at_least one_size u p.0), finite_below 1 (add binary64 one_f (fin s m e)) (add_size 0 one_f (fin s m e) (lit≤ tt) one_size u))

step_size : Size 0 (of_bits binary64 0x3f1a_36e2_eb1c_432d)
unfolding of_bits
step_size = lit≤ tt

step-plus : Plus (of_bits binary64 0x3f1a_36e2_eb1c_432d)
unfolding of_bits
step-plus = refl

pub jacobian_argument : (k : ℕ) → k ≤ 80000
    → Argument (add binary64 one_f (ten_to_of (mul binary64 (neg (of_int binary64 (pos k))) (of_bits binary64 0x3f1a_36e2_eb1c_432d))))
unfolding ten_to_of
jacobian_argument k h =
    let n = neg (of_int binary64 (pos k)) in
    let s = of_bits binary64 0x3f1a_36e2_eb1c_432d in
    let w = neg_size 17 (of_int binary64 (pos k)) (whole_size 17 k (lit≤ tt) (le_trans h (lit≤ tt))) in
    entry_argument (mul binary64 (mul binary64 n s) (of_bits binary64 0x4002_6bb1_bbb5_5516)) (mul-fits binary64 (mul binary64 n s) (of_bits binary64 0x4002_6bb1_bbb5_5516))
    (mul_not_above (mul binary64 n s) (of_bits binary64 0x4002_6bb1_bbb5_5516) 17 2 (lit≤ tt)
    (mul_below n s 17 0 (down-whole k) w step-plus step_size) (mul_size 17 0 n s (lit≤ tt) w step_size) ln10_plus ln10_size)
