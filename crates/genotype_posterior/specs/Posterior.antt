-- 01, Scoring: "priors and both zero exits follow the Rust": calculate_single_sample_biallelic_non_ref_posterior, with its zero exits on. The
-- likelihoods are those of 0 to ploidy copies of the alternate, so that the ploidy is their number less 1; of one likelihood or none the largest is
-- the first, and the answer 0.0.
use Rattle.std.specs.Prelude.{ℕ, ◌+◌, ◌-◌, cond, List, length, pos, ◌==◌, slice_index_or, Float}
use Rattle.std.specs.Float.{binary64, nan}
use Rattle.std.specs.Float.Ieee.{of_int, add, sub, mul, div}
use Rattle.lists.specs.Each.{each}
use Rattle.doubles.specs.Constants.{zero_f, one_f}
use Rattle.elementary.specs.Ln.{log10_e}
use Rattle.elementary.specs.Exp.{ten_to_of}
use Rattle.elementary.specs.LnGamma.{ln_gamma_of}
use Rattle.log10_sums.specs.Sums.{max_element_index, log10_sum_log10}

abbrev pub whole : ℕ → Float
whole n = of_int binary64 (pos n)

-- log_binomial_coefficient_natural
unfoldable pub log_binomial : ℕ → ℕ → Float
log_binomial n k = sub binary64 (sub binary64 (ln_gamma_of (whole (n + 1))) (ln_gamma_of (whole (k + 1)))) (ln_gamma_of (whole (n - k + 1)))

-- ref_pseudocount and snp_pseudocount
abbrev pub ref_pseudocount : Float → Float → Float
ref_pseudocount het sd = div binary64 het (mul binary64 sd sd)

abbrev pub snp_pseudocount : Float → Float → Float
snp_pseudocount het sd = mul binary64 het (ref_pseudocount het sd)

-- the natural logarithm of the prior of n copies
unfoldable pub ln_prior : ℕ → Float → Float → ℕ → Float
ln_prior ploidy ref_pc snp_pc n =
    add binary64
    (add binary64 (log_binomial ploidy n) (ln_gamma_of (add binary64 (whole n) snp_pc)))
    (ln_gamma_of (add binary64 (sub binary64 (whole ploidy) (whole n)) ref_pc))

-- likelihood n + its log10 prior
unfoldable pub unnormalized : ℕ → Float → Float → ℕ → Float → Float
unnormalized ploidy ref_pc snp_pc n x = add binary64 x (mul binary64 (ln_prior ploidy ref_pc snp_pc n) log10_e)

abbrev pub unnormalized_all : Float → Float → List Float → List Float
unnormalized_all het sd gl = each (unnormalized (length gl - 1) (ref_pseudocount het sd) (snp_pseudocount het sd)) gl

-- the second zero exit; else 1 − 10 to (entry 0 − sum)
unfoldable pub non_ref : List Float → Float
non_ref u = cond (max_element_index u == 0) zero_f (sub binary64 one_f (ten_to_of (sub binary64 (slice_index_or u 0 nan) (log10_sum_log10 u))))

-- the first zero exit
unfoldable pub posterior : Float → Float → List Float → Float
posterior het sd gl = cond (max_element_index gl == 0) zero_f (non_ref (unnormalized_all het sd gl))

-- what the call leaves in the slice that it was lent
unfoldable pub posterior_written : Float → Float → List Float → List Float
posterior_written het sd gl = cond (max_element_index gl == 0) gl (unnormalized_all het sd gl)
