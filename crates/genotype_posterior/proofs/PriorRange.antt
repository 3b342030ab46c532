-- Within document 01's ranges the priors hand ln_gamma only finite numbers above 0, and are finite. Assumes nothing.
use Rattle.std.proofs.Common.{sym, subst, le_trans, add-one, arith, lit≤}
use Rattle.std.specs.Prelude.{ℕ, ◌+◌, ◌-◌, ◌<◌, ◌≤◌, false, T, refl, Float}
use Rattle.std.specs.Float.{binary64}
use Rattle.std.specs.Float.Ieee.{of_bits, of_int, add, sub, mul, le, fits}
use Rattle.std.specs.Float.Ieee.Fits.{round-fits, add-fits}
use Rattle.std.specs.Float.Ieee.Back.{round_whole}
use Rattle.std.specs.Float.Ieee.Order.{le_of_values}
use Rattle.doubles.specs.Constants.{half_f, one_f}
use Rattle.doubles.specs.Shift.{AtLeast}
use Rattle.double_ranges.specs.Order.{AtMost, at_most_of_le}
use Rattle.double_ranges.specs.Sign.{Plus, round-plus}
use Rattle.double_ranges.specs.Size.{Size, size_mono, add_size, sub_size, mul_size, whole_size, sub-plus}
use Rattle.double_ranges.specs.Constants.{half_size, one_size}
use Rattle.double_ranges.specs.Least.{Least, least_above, least_up, plus_up, size_down, mul_least, div_least, div_least_size, add_least}
use Rattle.elementary.specs.Ln.{log10_e}
use Rattle.elementary.specs.LnGamma.{ln_gamma_of}
use Rattle.elementary.specs.ExpRange.{whole-at_least}
use Rattle.elementary.proofs.LnRange.{log10_e_size}
use Rattle.elementary.proofs.GammaRange.{gamma_size, above_zero}
use Rattle.genotype_posterior.specs.Posterior.{whole, log_binomial, ref_pseudocount, snp_pseudocount, ln_prior, unnormalized}
use Rattle.genotype_posterior.specs.PriorRange.{least_heterozygosity, least_deviation, InRange, Pseudocount, Argument}

-- ---- the ranges

het_least : Least 20 least_heterozygosity
unfolding of_bits
het_least = (refl, lit≤ tt)

sd_least : Least 14 least_deviation
unfolding of_bits
sd_least = (refl, lit≤ tt)

-- x from a positive w to a constant of size 1
record Ranged (j : ℕ) (x : Float) : Type 0 where
  size : Size 0 x
  least : Least j x

ranged : (j : ℕ) (w x high : Float) → Least j w → Size 0 high → T (le w x) → T (le x high) → Ranged j x
ranged j w x high p q l h =
    let a = at_most_of_le w x l in
    let s = size_down 0 x high (plus_up j w x p a) (at_most_of_le x high h) q in
    record { size = s; least = least_up j 0 w x p a s }

-- ---- the pseudocounts

pub ref_range : (het sd : Float) → InRange het sd → Pseudocount 20 (ref_pseudocount het sd)
ref_range het sd r =
    let h = ranged 20 least_heterozygosity het half_f het_least half_size r.het_low r.het_high in
    let d = ranged 14 least_deviation sd one_f sd_least one_size r.sd_low r.sd_high in
    let q = mul binary64 sd sd in
    let q-size = mul_size 0 0 sd sd (lit≤ tt) d.size d.size in
    let q-least = mul_least 14 14 0 sd sd (lit≤ tt) d.least d.least q-size in
    let s = div_least_size 0 28 het q (lit≤ tt) h.size q-least in
    record { size = s; least = div_least 20 28 28 het q (lit≤ tt) h.least q-least q-size s }

pub snp_range : (het sd : Float) → InRange het sd → Pseudocount 40 (snp_pseudocount het sd)
snp_range het sd r =
    let h = ranged 20 least_heterozygosity het half_f het_least half_size r.het_low r.het_high in
    let p = ref_range het sd r in
    let s = mul_size 0 28 het (ref_pseudocount het sd) (lit≤ tt) h.size p.size in
    record { size = s; least = mul_least 20 20 28 het (ref_pseudocount het sd) (lit≤ tt) h.least p.least s }

-- ---- what ln_gamma is handed: finite, above 0, and of a size at which it is finite

argument_size : (x : Float) → Argument x → Size 150 (ln_gamma_of x)
argument_size x a = gamma_size x a.fit a.above a.size

whole_fits : (n : ℕ) → T (fits binary64 (whole n))
unfolding of_int
whole_fits n = round-fits binary64 false n 1

whole-plus : (n : ℕ) → Plus (whole n)
unfolding of_int
whole-plus n = round-plus binary64 n 1

-- n + 1, for n up to 100
pub whole_argument : (n : ℕ) → n ≤ 100 → Argument (whole (n + 1))
whole_argument n h = record {
  fit = whole_fits (n + 1);
  above = above_zero (whole (n + 1)) (subst (λ (k : ℕ). AtLeast 1 (whole k)) (sym (add-one n)) (whole-at_least n (le_trans (more n h) (lit≤ tt))));
  size = size_mono 7 40 (whole (n + 1)) (lit≤ tt) (whole_size 7 (n + 1) (lit≤ tt) (le_trans (less n h) (lit≤ tt)));
}
  where
    more : (n : ℕ) → n ≤ 100 → n < 101
    more n h = omega arith

    less : (n : ℕ) → n ≤ 100 → n + 1 ≤ 101
    less n h = omega arith

-- the copies of the alternate + its pseudocount
pub alt_argument : (n : ℕ) (snp : Float) → n ≤ 100 → Pseudocount 40 snp → Argument (add binary64 (whole n) snp)
alt_argument n snp h p =
    let w = size_mono 7 28 (whole n) (lit≤ tt) (whole_size 7 n (lit≤ tt) (le_trans h (lit≤ tt))) in
    record {
      fit = add-fits binary64 (whole n) snp;
      above = least_above 40 (add binary64 (whole n) snp) (add_least 28 40 (whole n) snp (lit≤ tt) (lit≤ tt) w p.size (whole-plus n) p.least);
      size = size_mono 29 40 (add binary64 (whole n) snp) (lit≤ tt) (add_size 28 (whole n) snp (lit≤ tt) w p.size);
    }

-- the copies of the reference + its pseudocount
whole-at_most : (n m : ℕ) → n ≤ m → m ≤ 100 → AtMost (whole n) (whole m)
unfolding of_int
whole-at_most n m h k =
    at_most_of_le (whole n) (whole m)
    (le_of_values (whole n) (whole m) n 1 m 1 (lit≤ tt) (lit≤ tt) (round_whole binary64 false n (le_trans h (le_trans k (lit≤ tt)))) (round_whole binary64 false m (le_trans k (lit≤ tt))) (omega arith))

pub ref_argument : (ploidy n : ℕ) (ref : Float) → n ≤ ploidy → ploidy ≤ 100 → Pseudocount 20 ref → Argument (add binary64 (sub binary64 (whole ploidy) (whole n)) ref)
ref_argument ploidy n ref h k p =
    let a = whole_size 7 ploidy (lit≤ tt) (le_trans k (lit≤ tt)) in
    let b = whole_size 7 n (lit≤ tt) (le_trans h (le_trans k (lit≤ tt))) in
    let d = sub binary64 (whole ploidy) (whole n) in
    let s = size_mono 8 28 d (lit≤ tt) (sub_size 7 (whole ploidy) (whole n) (lit≤ tt) a b) in
    let u = sub-plus 7 7 (whole ploidy) (whole n) a b (whole-plus ploidy) (whole-plus n) (whole-at_most n ploidy h k) in
    record {
      fit = add-fits binary64 d ref;
      above = least_above 20 (add binary64 d ref) (add_least 28 20 d ref (lit≤ tt) (lit≤ tt) s p.size u p.least);
      size = size_mono 29 40 (add binary64 d ref) (lit≤ tt) (add_size 28 d ref (lit≤ tt) s p.size);
    }

-- ---- the priors

binomial_size : (n k : ℕ) → k ≤ n → n ≤ 100 → Size 152 (log_binomial n k)
unfolding log_binomial
binomial_size n k h l =
    let a = argument_size (whole (n + 1)) (whole_argument n l) in
    let b = argument_size (whole (k + 1)) (whole_argument k (le_trans h l)) in
    let c = argument_size (whole (n - k + 1)) (whole_argument (n - k) (omega arith)) in
    sub_size 151 (sub binary64 (ln_gamma_of (whole (n + 1))) (ln_gamma_of (whole (k + 1)))) (ln_gamma_of (whole (n - k + 1))) (lit≤ tt)
    (sub_size 150 (ln_gamma_of (whole (n + 1))) (ln_gamma_of (whole (k + 1))) (lit≤ tt) a b) (size_mono 150 151 (ln_gamma_of (whole (n - k + 1))) (lit≤ tt) c)

pub prior_size : (ploidy n : ℕ) (het sd : Float) → InRange het sd → n ≤ ploidy → ploidy ≤ 100 → Size 154 (ln_prior ploidy (ref_pseudocount het sd) (snp_pseudocount het sd) n)
unfolding ln_prior
prior_size ploidy n het sd r h k =
    let ref = ref_pseudocount het sd in
    let snp = snp_pseudocount het sd in
    let alt = ln_gamma_of (add binary64 (whole n) snp) in
    let reference = ln_gamma_of (add binary64 (sub binary64 (whole ploidy) (whole n)) ref) in
    let a = argument_size (add binary64 (whole n) snp) (alt_argument n snp (le_trans h k) (snp_range het sd r)) in
    let b = argument_size (add binary64 (sub binary64 (whole ploidy) (whole n)) ref) (ref_argument ploidy n ref h k (ref_range het sd r)) in
    add_size 153 (add binary64 (log_binomial ploidy n) alt) reference (lit≤ tt)
    (add_size 152 (log_binomial ploidy n) alt (lit≤ tt) (binomial_size ploidy n h k) (size_mono 150 152 alt (lit≤ tt) a)) (size_mono 150 153 reference (lit≤ tt) b)

pub unnormalized_size : (ploidy n : ℕ) (het sd x : Float) → InRange het sd → n ≤ ploidy → ploidy ≤ 100 → Size 31 x
    → Size 155 (unnormalized ploidy (ref_pseudocount het sd) (snp_pseudocount het sd) n x)
unfolding unnormalized
unnormalized_size ploidy n het sd x r h k p =
    let prior = ln_prior ploidy (ref_pseudocount het sd) (snp_pseudocount het sd) n in
    add_size 154 x (mul binary64 prior log10_e) (lit≤ tt) (size_mono 31 154 x (lit≤ tt) p)
    (mul_size 154 0 prior log10_e (lit≤ tt) (prior_size ploidy n het sd r h k) log10_e_size)
