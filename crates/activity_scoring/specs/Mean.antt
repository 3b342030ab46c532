-- 01, Scoring: "The Rust's running mean of the clip counts of alt words next to a clip and not skipped".
use Rattle.std.specs.Prelude.{ℕ, ◌+◌, Bool, cond, not, ◌&&◌, ◌||◌, List, pos, Float}
use Rattle.std.specs.List.{fold}
use Rattle.std.specs.Float.{binary64}
use Rattle.std.specs.Float.Ieee.{of_int, add, sub, div}
use Rattle.doubles.specs.Constants.{zero_f}
use Rattle.genotype_likelihoods.specs.declared.HaplotypeCallerActivityScoringParams.{HaplotypeCallerActivityScoringParams}
use Rattle.pileup_words.specs.Words.{observation}
use Rattle.genotype_likelihoods.specs.Observation.{skipped}
use Rattle.activity_scoring.specs.declared.RunningMean.{RunningMean}

-- mean + (count of bases − mean) / how many
abbrev pub with_count : RunningMean → ℕ → RunningMean
with_count r x = record {
  count = r.count + 1;
  mean = add binary64 r.mean (div binary64 (sub binary64 (of_int binary64 (pos x)) r.mean) (of_int binary64 (pos (r.count + 1))));
}

-- an "alt word next to a clip"
abbrev pub next_to_clip : ℕ → Bool
next_to_clip w = (observation w).is_alt && (observation w).is_next_to_soft_clip

-- ".. and not skipped"
abbrev pub counts : HaplotypeCallerActivityScoringParams → ℕ → Bool
counts s w = not (skipped s w) && next_to_clip w

unfoldable pub with_word : HaplotypeCallerActivityScoringParams → RunningMean → ℕ → RunningMean
with_word s r w = cond (counts s w) (with_count r (observation w).read_hq_soft_clip_base_count) r

abbrev pub none : RunningMean
none = record { count = 0; mean = zero_f }

unfoldable pub mean_of : HaplotypeCallerActivityScoringParams → List ℕ → Float
mean_of s words = (fold (with_word s) none words).mean

-- whether there is such a word, skipped or not
abbrev pub or_next_to_clip : Bool → ℕ → Bool
or_next_to_clip b w = b || next_to_clip w
