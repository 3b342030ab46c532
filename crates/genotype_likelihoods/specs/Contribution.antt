-- 01, Scoring: "Likelihoods .. follow the Rust". What one observation of quality q, alternate or not, contributes to the genotype with i copies of
-- the alternate, at a ploidy.
use Rattle.std.specs.Prelude.{ℕ, ◌-◌, Bool, cond, pos, ◌==◌, from_bits, Float}
use Rattle.std.specs.Float.{binary64}
use Rattle.std.specs.Float.Ieee.{of_int, add, sub, mul, div, neg}
use Rattle.doubles.specs.Constants.{one_f, ten_f}
use Rattle.elementary.specs.Exp.{ten_to_of}
use Rattle.elementary.specs.Ln.{log10_of}
use Rattle.log10_sums.specs.Pair.{approximate_log10_sum_log10_pair}

-- 10 to (−q / 10)
unfoldable pub error_prob : ℕ → Float
error_prob q = ten_to_of (div binary64 (neg (of_int binary64 (pos q))) ten_f)

-- log10 (1 − that)
unfoldable pub qual_to_prob_log10 : ℕ → Float
qual_to_prob_log10 q = log10_of (sub binary64 one_f (error_prob q))

-- q × −0.1 + LOG10_ONE_THIRD
unfoldable pub qual_to_error_prob_log10_third : ℕ → Float
qual_to_error_prob_log10_third q = add binary64 (mul binary64 (of_int binary64 (pos q)) (neg (from_bits binary64 0x3fb9_9999_9999_999a))) (neg (from_bits binary64 0x3fde_8927_964f_d5fd))

abbrev pub reference_likelihood : ℕ → Bool → Float
reference_likelihood q alt = cond alt (qual_to_error_prob_log10_third q) (qual_to_prob_log10 q)

abbrev pub non_ref_likelihood : ℕ → Bool → Float
non_ref_likelihood q alt = cond alt (qual_to_prob_log10 q) (qual_to_error_prob_log10_third q)

abbrev pub log10_whole : ℕ → Float
log10_whole n = log10_of (of_int binary64 (pos n))

-- the reference alone, the alternate alone, or the sum of both
unfoldable pub contribution_of : ℕ → Bool → ℕ → ℕ → Float
contribution_of q alt i ploidy =
    cond (i == 0) (add binary64 (reference_likelihood q alt) (log10_whole ploidy))
    (cond (i == ploidy) (add binary64 (non_ref_likelihood q alt) (log10_whole ploidy))
    (approximate_log10_sum_log10_pair
    (add binary64 (reference_likelihood q alt) (log10_whole (ploidy - i)))
    (add binary64 (non_ref_likelihood q alt) (log10_whole i))))
