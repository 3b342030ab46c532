-- The score by a table of contributions and a list of priors that are lent. Each carries the settings that it was filled for, and is read only where they are the
-- call's: so by whatever was filled, for whatever settings, the score is the plain one.
use Rattle.std.specs.Prelude.{◌≡◌, ℕ, ◌+◌, Bool, cond, not, ◌||◌, List, length, nat_lt, slice_index_or, Float}
use Rattle.std.specs.Float.{binary64, nan}
use Rattle.std.specs.Float.Ieee.{sub}
use Rattle.genome.specs.declared.GenomePosition.{GenomePosition}
use Rattle.genome.specs.Refusals.{Outcome, setting_refusal, buffer_refusal}
use Rattle.genotype_likelihoods.specs.declared.HaplotypeCallerActivityScoringParams.{HaplotypeCallerActivityScoringParams}
use Rattle.genotype_likelihoods.specs.Settings.{settings_in_range}
use Rattle.contribution_table.specs.Table.{ploidy_of, table_length, filled, likelihoods_by}
use Rattle.genotype_posterior.specs.Phred.{pl_round_trip}
use Rattle.genotype_posterior.specs.Priors.{priors_length, log10_priors, posterior_by, posterior_written_by}
use Rattle.log10_sums.specs.Sums.{max_element_index}
use Rattle.activity_profile.specs.declared.ActivityProfileState.{ActivityProfileState}
use Rattle.activity_profile.specs.Verdict.{Verdict, refusal, granted}
use Rattle.activity_scoring.specs.declared.Activity.{Activity}
use Rattle.activity_scoring.specs.Score.{activity_of, state_with, score_with}

-- of rounded likelihoods: the posterior, and the largest less that of the reference genotype
abbrev pub from_rounded_by : List Float → HaplotypeCallerActivityScoringParams → List Float → Activity
from_rounded_by priors s gl = record {
  probability = posterior_by priors s.snp_heterozygosity s.heterozygosity_standard_deviation gl;
  original = sub binary64 (slice_index_or gl (max_element_index gl) nan) (slice_index_or gl 0 nan);
}

-- what the posterior leaves in the likelihoods
abbrev pub written_by : List Float → HaplotypeCallerActivityScoringParams → List Float → List Float
written_by priors s gl = posterior_written_by priors s.snp_heterozygosity s.heterozygosity_standard_deviation gl

-- the rounded likelihoods of ploidy + 1 genotypes
abbrev pub rounded_by : List Float → List ℕ → HaplotypeCallerActivityScoringParams → List Float
rounded_by table words s = pl_round_trip (likelihoods_by table s (s.sample_ploidy.0 + 1) words)

unfoldable pub activity_by : List Float → List Float → List ℕ → HaplotypeCallerActivityScoringParams → Activity
activity_by table priors words s = from_rounded_by priors s (rounded_by table words s)

abbrev pub state_by : List Float → List Float → ℕ → GenomePosition → List ℕ → HaplotypeCallerActivityScoringParams → ActivityProfileState
state_by table priors contig p words s = state_with (activity_by table priors words s) contig p words s

abbrev pub score_by : List Float → List Float → ℕ → GenomePosition → List ℕ → HaplotypeCallerActivityScoringParams → Outcome ActivityProfileState
score_by table priors contig p words s = score_with (state_by table priors contig p words s) p words s

-- ---- filling both

-- the priors of the settings
abbrev pub priors_filled : HaplotypeCallerActivityScoringParams → List Float → List Float
priors_filled s l = log10_priors (ploidy_of s) s.snp_heterozygosity s.heterozygosity_standard_deviation l

-- slices of n and m numbers are too short
abbrev pub too_short : HaplotypeCallerActivityScoringParams → ℕ → ℕ → Bool
too_short s n m = nat_lt n (table_length (ploidy_of s)) || nat_lt m (priors_length (ploidy_of s))

-- 1 for a setting outside its range, then 2 for a slice that is too short
unfoldable pub fill_verdict : HaplotypeCallerActivityScoringParams → ℕ → ℕ → Verdict
fill_verdict s n m = cond (not (settings_in_range s)) (refusal setting_refusal) (cond (too_short s n m) (refusal buffer_refusal) granted)

-- a refusal writes nothing
abbrev pub where_granted : Verdict → List Float → List Float → List Float
where_granted (refusal n) old new = old
where_granted granted old new = new

abbrev pub table_after : HaplotypeCallerActivityScoringParams → List Float → List Float → List Float
table_after s table priors = where_granted (fill_verdict s (length table) (length priors)) table (filled s table)

abbrev pub priors_after : HaplotypeCallerActivityScoringParams → List Float → List Float → List Float
priors_after s table priors = where_granted (fill_verdict s (length table) (length priors)) priors (priors_filled s priors)

-- by this table and these priors, every pile has the activity that it has without
abbrev pub Plain : HaplotypeCallerActivityScoringParams → List Float → List Float → Type 0
Plain s table priors = (words : List ℕ) → activity_by table priors words s ≡ activity_of words s
