-- 02, U6: "Each member's skipped words and likelihoods are those it has alone, shown for any number of piles up to 64." Assumes nothing.
use Rattle.std.specs.Prelude.{◌≡◌, Bool, List, [], map, ℕ, ◌+◌, ◌≤◌, ◌<◌, length, get_or, take, drop}
use Rattle.genotype_likelihoods.specs.declared.HaplotypeCallerActivityScoringParams.{HaplotypeCallerActivityScoringParams}
use Rattle.genotype_likelihoods.specs.Observation.{skipped}
use Rattle.activity_scoring.specs.Score.{rounded_of}
use Rattle.multi_sample_scoring.specs.Sets.{piles, total, piles_left, likelihoods_of}
use Rattle.multi_sample_scoring.specs.Passed.{count_left}

-- ---- the statement

-- n elements of a run, from a place on
abbrev pub part : {A : Type 0} → ℕ → ℕ → List A → List A
part from n l = take n (drop from l)

-- where pile i begins: behind the words of those before
abbrev pub start_of : List ℕ → ℕ → ℕ
start_of lengths i = total (take i lengths)

-- pile i
abbrev pub pile_at : List ℕ → List ℕ → ℕ → List ℕ
pile_at words lengths i = part (start_of lengths i) (get_or lengths i 0) words

-- for each word whether it is skipped
abbrev pub skips_of : HaplotypeCallerActivityScoringParams → List ℕ → List Bool
skips_of s = map (skipped s)

pub record Member (s : HaplotypeCallerActivityScoringParams) (words lengths : List ℕ) (i : ℕ) : Type 0 where
  -- it stands in the run, and is what the set has in its place
  pub within : start_of lengths i + get_or lengths i 0 ≤ length words
  pub pile : get_or (piles words lengths) i [] ≡ pile_at words lengths i
  -- of the run's words in its place just those are skipped that it skips alone
  pub skips : part (start_of lengths i) (get_or lengths i 0) (skips_of s words) ≡ skips_of s (pile_at words lengths i)
  -- unless it is empty, its likelihoods in the set stand behind those of the piles left before it, and are those that it has alone
  pub likelihoods : 0 < get_or lengths i 0 → get_or (likelihoods_of s (piles_left words lengths)) (count_left (take i lengths)) [] ≡ rounded_of (pile_at words lengths i) s
