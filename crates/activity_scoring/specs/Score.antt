-- 01, Scoring: haplotype_caller_activity_profile_state_single_sample, which in the Rust is
-- haplotype_caller_activity_profile_state_minimal_genotyping.
use Rattle.std.specs.Prelude.{ℕ, ◌+◌, Bool, true, cond, not, ◌&&◌, List, length, ◌==◌, from_bits, nat_lt, slice_index_or, Float}
use Rattle.std.specs.List.{fold}
use Rattle.std.specs.Float.{binary64, nan}
use Rattle.std.specs.Float.Ieee.{to_unsigned, sub, lt}
use Rattle.doubles.specs.Constants.{zero_f}
use Rattle.genome.specs.declared.GenomePosition.{GenomePosition}
use Rattle.genome.specs.Refusals.{Outcome, refused, answered, setting_refusal, word_refusal, depth_refusal}
use Rattle.genome.specs.Ranges.{is_position}
use Rattle.genotype_likelihoods.specs.declared.HaplotypeCallerActivityScoringParams.{HaplotypeCallerActivityScoringParams}
use Rattle.genotype_likelihoods.specs.Settings.{settings_in_range}
use Rattle.pileup_words.specs.Words.{is_observation}
use Rattle.genotype_likelihoods.specs.Likelihoods.{likelihoods}
use Rattle.genotype_posterior.specs.Phred.{pl_round_trip}
use Rattle.genotype_posterior.specs.Posterior.{posterior}
use Rattle.log10_sums.specs.Sums.{max_element_index}
use Rattle.activity_profile.specs.declared.ActivityProfileState.{ActivityProfileState}
use Rattle.activity_profile.specs.declared.ActivityEvidence.{ActivityEvidence}
use Rattle.activity_profile.specs.declared.ActivityEvidence.TheVariants.{Plain, HighQualitySoftClips}
use Rattle.activity_scoring.specs.Mean.{mean_of}
use Rattle.activity_scoring.specs.declared.Activity.{Activity}

-- ---- the refusals

-- 1: a setting outside its range, or "The position must be in 1 to 1,073,741,823, else 1"
abbrev pub in_range : GenomePosition → HaplotypeCallerActivityScoringParams → Bool
in_range p s = settings_in_range s && is_position p.0

-- 4: "a pile of more than 16,384 words"
abbrev pub max_depth : ℕ
max_depth = 16384

-- 3: "a word .. not allowed there", here one that is no observation
abbrev pub and_observation : Bool → ℕ → Bool
and_observation b w = b && is_observation w

abbrev pub all_observations : List ℕ → Bool
all_observations words = fold and_observation true words

-- ---- the state

-- "if above 6.0, makes clip evidence with its whole part"
unfoldable pub evidence_of : Float → ActivityEvidence
evidence_of mean = cond (lt (from_bits binary64 0x4018_0000_0000_0000) mean) (HighQualitySoftClips (to_unsigned 32 mean)) Plain

-- of rounded likelihoods: the posterior, and the largest less that of the reference genotype
abbrev pub from_rounded : HaplotypeCallerActivityScoringParams → List Float → Activity
from_rounded s gl = record {
  probability = posterior s.snp_heterozygosity s.heterozygosity_standard_deviation gl;
  original = sub binary64 (slice_index_or gl (max_element_index gl) nan) (slice_index_or gl 0 nan);
}

-- the rounded likelihoods of ploidy + 1 genotypes
abbrev pub rounded_of : List ℕ → HaplotypeCallerActivityScoringParams → List Float
rounded_of words s = pl_round_trip (likelihoods s (s.sample_ploidy.0 + 1) words)

unfoldable pub activity_of : List ℕ → HaplotypeCallerActivityScoringParams → Activity
activity_of words s = from_rounded s (rounded_of words s)

abbrev pub state : ℕ → GenomePosition → Activity → ActivityEvidence → ActivityProfileState
state contig p a e = record {
  contig = contig;
  pos = p;
  active_prob = a.probability;
  original_active_prob = a.original;
  evidence = e;
}

-- "An empty pile gives probability 0.0, original 0.0, plain"
abbrev pub empty_pile : ℕ → GenomePosition → ActivityProfileState
empty_pile contig p = state contig p (record { probability = zero_f; original = zero_f }) Plain

-- another has its activity
unfoldable pub state_with : Activity → ℕ → GenomePosition → List ℕ → HaplotypeCallerActivityScoringParams → ActivityProfileState
state_with a contig p words s =
    cond (length words == 0) (empty_pile contig p) (state contig p a (evidence_of (mean_of s words)))

abbrev pub state_of : ℕ → GenomePosition → List ℕ → HaplotypeCallerActivityScoringParams → ActivityProfileState
state_of contig p words s = state_with (activity_of words s) contig p words s

-- ---- the answer

-- "scoring 1, 4, 3", or the state
unfoldable pub score_with : ActivityProfileState → GenomePosition → List ℕ → HaplotypeCallerActivityScoringParams → Outcome ActivityProfileState
score_with x p words s =
    cond (not (in_range p s)) (refused setting_refusal)
    (cond (nat_lt max_depth (length words)) (refused depth_refusal)
    (cond (not (all_observations words)) (refused word_refusal)
    (answered x)))

abbrev pub score_of : ℕ → GenomePosition → List ℕ → HaplotypeCallerActivityScoringParams → Outcome ActivityProfileState
score_of contig p words s = score_with (state_of contig p words s) p words s
