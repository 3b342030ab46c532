-- What the code goes through: every length and every pile, the empty ones passed over on the way. Document 02 has no such terms.
use Rattle.std.specs.Prelude.{cond, List, [], ◌∷◌, map, ℕ, ◌+◌, eqb, Float}
use Rattle.std.specs.List.{fold}
use Rattle.doubles.specs.Constants.{zero_f}
use Rattle.genotype_likelihoods.specs.declared.HaplotypeCallerActivityScoringParams.{HaplotypeCallerActivityScoringParams}
use Rattle.activity_scoring.specs.declared.Activity.{Activity}
use Rattle.activity_scoring.specs.Tables.{from_rounded_by, rounded_by}
use Rattle.multi_sample_scoring.specs.Sets.{is_empty, piles_left, with_sample, any_non_ref}

-- how many lengths are not 0
abbrev pub with_length : ℕ → ℕ → ℕ
with_length k n = cond (eqb n 0) k (k + 1)

abbrev pub count_left : List ℕ → ℕ
count_left lengths = fold with_length 0 lengths

-- the probability that no sample is active, after one pile more
unfoldable pub with_pile : List Float → List Float → HaplotypeCallerActivityScoringParams → Float → List ℕ → Float
with_pile table priors s q pile = cond (is_empty pile) q (with_sample (from_rounded_by priors s) q (rounded_by table pile s))

-- the probability that any sample of a set is active, by tables
abbrev pub any_by : List Float → List Float → HaplotypeCallerActivityScoringParams → List ℕ → List ℕ → Float
any_by table priors s words lengths = any_non_ref (from_rounded_by priors s) (map (λ (pile : List ℕ). rounded_by table pile s) (piles_left words lengths))

-- the activity of the piles that are left, apart from the evidence
unfoldable pub set_activity_with : (List ℕ → List Float) → (List Float → Activity) → List (List ℕ) → Activity
set_activity_with rounded activity [] = record { probability = zero_f; original = zero_f }
set_activity_with rounded activity (pile ∷ []) = activity (rounded pile)
set_activity_with rounded activity (pile ∷ next ∷ more) = record { probability = any_non_ref activity (map rounded (pile ∷ next ∷ more)); original = zero_f }

abbrev pub set_activity_by : List Float → List Float → HaplotypeCallerActivityScoringParams → List ℕ → List ℕ → Activity
set_activity_by table priors s words lengths = set_activity_with (λ (pile : List ℕ). rounded_by table pile s) (from_rounded_by priors s) (piles_left words lengths)
