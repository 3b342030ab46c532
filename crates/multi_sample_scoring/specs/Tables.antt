-- The score of a set by a table of contributions and a list of priors that are lent, as for one pile: by whatever was filled, for whatever settings, it is the
-- plain one. Assumes nothing.
use Rattle.std.specs.Prelude.{ℕ, Float}
use mathlib.Core.List.{List}
use Rattle.genome.specs.declared.GenomePosition.{GenomePosition}
use Rattle.genome.specs.Refusals.{Outcome}
use Rattle.genotype_likelihoods.specs.declared.HaplotypeCallerActivityScoringParams.{HaplotypeCallerActivityScoringParams}
use Rattle.activity_profile.specs.declared.ActivityProfileState.{ActivityProfileState}
use Rattle.activity_scoring.specs.Tables.{from_rounded_by, rounded_by}
use Rattle.multi_sample_scoring.specs.Sets.{piles_left, set_state_with, set_score_with}

abbrev pub set_state_by : List Float → List Float → ℕ → GenomePosition → List ℕ → List ℕ → HaplotypeCallerActivityScoringParams → ActivityProfileState
set_state_by table priors contig p words lengths s = set_state_with (λ (pile : List ℕ). rounded_by table pile s) (from_rounded_by priors s) contig p s (piles_left words lengths)

abbrev pub set_score_by : List Float → List Float → ℕ → GenomePosition → List ℕ → List ℕ → HaplotypeCallerActivityScoringParams → Outcome ActivityProfileState
set_score_by table priors contig p words lengths s = set_score_with (set_state_by table priors contig p words lengths s) p words lengths s
