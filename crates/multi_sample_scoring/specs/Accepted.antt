-- The terms in which a set is said to be scored by its piles' own scores.
use Rattle.std.specs.Prelude.{◌≡◌, true, false, List, ℕ, ◌≤◌, length, Float}
use Rattle.std.specs.Float.{binary64}
use Rattle.std.specs.Float.Ieee.{sub, mul}
use Rattle.doubles.specs.Constants.{one_f}
use Rattle.genome.specs.declared.GenomePosition.{GenomePosition}
use Rattle.genotype_likelihoods.specs.declared.HaplotypeCallerActivityScoringParams.{HaplotypeCallerActivityScoringParams}
use Rattle.activity_scoring.specs.Score.{in_range, all_observations, state_of}
use Rattle.multi_sample_scoring.specs.Sets.{total, clamped, max_piles, any_too_deep}

pub record Accepted (p : GenomePosition) (words lengths : List ℕ) (s : HaplotypeCallerActivityScoringParams) : Type 0 where
  pub few : length lengths ≤ max_piles
  pub ranged : in_range p s ≡ true
  pub shallow : any_too_deep lengths ≡ false
  pub whole : total lengths ≡ length words
  pub observed : all_observations words ≡ true

-- 1 less a product of 1 less each
abbrev pub with_probability : Float → Float → Float
with_probability q x = mul binary64 q (clamped (sub binary64 one_f x))

-- what a pile scores alone
abbrev pub alone : ℕ → GenomePosition → HaplotypeCallerActivityScoringParams → List ℕ → Float
alone contig p s pile = (state_of contig p pile s).active_prob
