-- The activity of a set by how many of its piles are left: none, or one, which is the run, or several. Assumes nothing.
use Rattle.std.specs.Prelude.{◌≡◌, List, ℕ, ◌≤◌, length, Float}
use Rattle.std.proofs.Common.{ap, arith}
use Rattle.doubles.specs.Constants.{zero_f}
use Rattle.genotype_likelihoods.specs.declared.HaplotypeCallerActivityScoringParams.{HaplotypeCallerActivityScoringParams}
use Rattle.activity_scoring.specs.Tables.{from_rounded_by, rounded_by, activity_by}
use Rattle.multi_sample_scoring.specs.Sets.{total, piles_left}
use Rattle.multi_sample_scoring.specs.Passed.{count_left, any_by, set_activity_with, set_activity_by}
use Rattle.multi_sample_scoring.proofs.Piles.{count_is, no_pile, one_pile, several_piles}

module _ (table priors : List Float) (s : HaplotypeCallerActivityScoringParams) (words lengths : List ℕ) where
  pub with_none : total lengths ≡ length words → count_left lengths ≡ 0 → set_activity_by table priors s words lengths ≡ record { probability = zero_f; original = zero_f }
  unfolding set_activity_with
  with_none e h = ap (set_activity_with (λ (pile : List ℕ). rounded_by table pile s) (from_rounded_by priors s)) (no_pile words lengths e h)

  pub with_one : total lengths ≡ length words → count_left lengths ≡ 1 → set_activity_by table priors s words lengths ≡ activity_by table priors words s
  unfolding set_activity_with activity_by
  with_one e h = ap (set_activity_with (λ (pile : List ℕ). rounded_by table pile s) (from_rounded_by priors s)) (one_pile words lengths e h)

  pub with_several : total lengths ≡ length words → 2 ≤ count_left lengths → set_activity_by table priors s words lengths ≡ record { probability = any_by table priors s words lengths; original = zero_f }
  with_several e h = several_piles (λ (pile : List ℕ). rounded_by table pile s) (from_rounded_by priors s) (piles_left words lengths) (omega (arith, h, count_is words lengths e))

pub ruleset by_count = (with_none, with_one, with_several)
