-- The priors of the genotypes as a list, which depends on the ploidy, the heterozygosity and its deviation alone and carries the three that it was filled for,
-- and the posterior by it.
use Rattle.std.specs.Prelude.{◌≡◌, ℕ, ◌+◌, ◌-◌, ◌<◌, Bool, cond, ◌&&◌, List, length, drop, ◌==◌, nat_lt, slice_index_or, Float}
use Rattle.std.specs.Float.{binary64, nan}
use Rattle.std.specs.Float.Ieee.{add, mul}
use Rattle.elementary.specs.Ln.{log10_e}
use Rattle.lists.specs.Each.{each}
use Rattle.doubles.specs.Constants.{zero_f}
use Rattle.numbers.specs.Same.{same_positive}
use Rattle.log10_sums.specs.Sums.{max_element_index}
use Rattle.genotype_posterior.specs.Posterior.{whole, ref_pseudocount, snp_pseudocount, ln_prior, unnormalized_all, non_ref}

-- the settings that it carries: ploidy, heterozygosity, deviation
abbrev pub heading : ℕ
heading = 3

-- and a prior for each genotype
abbrev pub priors_length : ℕ → ℕ
priors_length ploidy = heading + (ploidy + 1)

-- the log10 prior of n copies
unfoldable pub log10_prior : Float → Float → ℕ → ℕ → Float
log10_prior het sd ploidy n = mul binary64 (ln_prior ploidy (ref_pseudocount het sd) (snp_pseudocount het sd) n) log10_e

unfoldable pub prior_at : ℕ → Float → Float → ℕ → Float
prior_at ploidy het sd j = cond (j == 0) (whole ploidy) (cond (j == 1) het (cond (j == 2) sd (log10_prior het sd ploidy (j - heading))))

-- a rule for the cells of a slice: those past the priors keep what they hold
abbrev pub listed : ℕ → Float → Float → ℕ → Float → Float
listed ploidy het sd j x = cond (nat_lt j (priors_length ploidy)) (prior_at ploidy het sd j) x

-- what filling makes of a slice: one that is too short is left as it is
unfoldable pub log10_priors : ℕ → Float → Float → List Float → List Float
log10_priors ploidy het sd l = cond (nat_lt (length l) (priors_length ploidy)) l (each (listed ploidy het sd) l)

-- ---- the posterior by a list

abbrev pub with_prior : List Float → ℕ → Float → Float
with_prior priors n x = add binary64 x (slice_index_or priors n nan)

-- the settings that a list carries are those of the call; there are n genotypes, so that the ploidy is n less 1
abbrev pub carries_reals : List Float → Float → Float → Bool
carries_reals priors het sd = same_positive (slice_index_or priors 1 nan) het && same_positive (slice_index_or priors 2 nan) sd

abbrev pub carries : List Float → ℕ → Float → Float → Bool
carries priors n het sd = same_positive (slice_index_or priors 0 nan) (whole (n - 1)) && carries_reals priors het sd

-- and so is its length
unfoldable pub are_for : List Float → ℕ → Float → Float → Bool
are_for priors n het sd = length priors == heading + n && carries priors n het sd

-- a list of other settings, or of another length, is not looked at
unfoldable pub unnormalized_by : List Float → Float → Float → List Float → List Float
unnormalized_by priors het sd gl = cond (are_for priors (length gl) het sd) (each (with_prior (drop heading priors)) gl) (unnormalized_all het sd gl)

unfoldable pub posterior_by : List Float → Float → Float → List Float → Float
posterior_by priors het sd gl = cond (max_element_index gl == 0) zero_f (non_ref (unnormalized_by priors het sd gl))

unfoldable pub posterior_written_by : List Float → Float → Float → List Float → List Float
posterior_written_by priors het sd gl = cond (max_element_index gl == 0) gl (unnormalized_by priors het sd gl)

-- ---- By a list that was filled, for whatever settings, the posterior is the plain one of the call's settings: for every slice that it was filled into and every
-- part of it from the front. Assumes nothing.

-- the numbers of the list of some settings, as far as the slice goes
abbrev pub HoldsPriors : ℕ → Float → Float → List Float → Type 0
HoldsPriors ploidy het sd priors = (j : ℕ) → j < length priors → j < priors_length ploidy → slice_index_or priors j nan ≡ prior_at ploidy het sd j
