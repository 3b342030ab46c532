-- The score of a set by tables is, by whatever was filled, for whatever settings, the plain one. Assumes nothing.
use Rattle.std.specs.Prelude.{◌≡◌, Bool, true, false, ℕ, ◌≤◌, length, replicate, Float}
use Rattle.std.specs.List.{fold}
use Rattle.std.proofs.Math.Path.{refl, ap}
use Rattle.std.proofs.Common.{◌∙◌}
use mathlib.Core.List.{List, [], ◌∷◌, map}
use Rattle.std.specs.Float.Ieee.{binary64, sub, mul}
use Rattle.lists.specs.Tests.{and_left}
use Rattle.doubles.specs.Constants.{zero_f, one_f}
use Rattle.genome.specs.declared.GenomePosition.{GenomePosition}
use Rattle.genotype_likelihoods.specs.declared.HaplotypeCallerActivityScoringParams.{HaplotypeCallerActivityScoringParams}
use Rattle.genotype_likelihoods.specs.Settings.{settings_in_range}
use Rattle.contribution_table.specs.Table.{ploidy_of, filled}
use Rattle.contribution_table.specs.Filled.{Holds}
use Rattle.genotype_posterior.specs.Priors.{HoldsPriors}
use Rattle.activity_profile.specs.declared.ActivityProfileState.{ActivityProfileState}
use Rattle.activity_profile.specs.Verdict.{granted}
use Rattle.activity_scoring.specs.declared.Activity.{Activity}
use Rattle.activity_scoring.specs.Score.{in_range, from_rounded, rounded_of, activity_of, state_with, state, evidence_of}
use Rattle.activity_scoring.specs.Tables.{from_rounded_by, rounded_by, activity_by, priors_filled, fill_verdict}
use Rattle.activity_scoring.proofs.ByTables.{plain_by_filled, plain_filled, plain_own, plain_zeros}
use Rattle.activity_scoring.specs.Tables.{Plain}
use Rattle.multi_sample_scoring.specs.Sets.{piles_left, clamped, with_sample, any_non_ref, stratified_mean, set_state_with, set_score_with, set_score_of}
use Rattle.multi_sample_scoring.specs.Tables.{set_score_by}

-- ---- two ways to an activity that agree

module _ (rounded rounded' : List ℕ → List Float) (activity activity' : List Float → Activity) (same : (pile : List ℕ) → activity (rounded pile) ≡ activity' (rounded' pile)) where
  product_same : (q : Float) (piles : List (List ℕ)) → fold (with_sample activity) q (map rounded piles) ≡ fold (with_sample activity') q (map rounded' piles)
  product_same q [] = refl
  product_same q (pile ∷ piles) =
      ap (λ (a : Activity). fold (with_sample activity) (mul binary64 q (clamped (sub binary64 one_f a.probability))) (map rounded piles)) (same pile)
      ∙ product_same (with_sample activity' q (rounded' pile)) piles

  set_same : (contig : ℕ) (p : GenomePosition) (s : HaplotypeCallerActivityScoringParams) (piles : List (List ℕ))
      → set_state_with rounded activity contig p s piles ≡ set_state_with rounded' activity' contig p s piles
  unfolding set_state_with any_non_ref
  set_same contig p s [] = refl
  set_same contig p s (pile ∷ []) = ap (λ (a : Activity). state_with a contig p pile s) (same pile)
  set_same contig p s (pile ∷ next ∷ more) =
      ap (λ (q : Float). state contig p (record { probability = sub binary64 one_f q; original = zero_f }) (evidence_of (stratified_mean s (pile ∷ next ∷ more)))) (product_same one_f (pile ∷ next ∷ more))

-- ---- by what was filled

-- a score that is refused looks at neither
set_plain : (s : HaplotypeCallerActivityScoringParams) (table priors : List Float) (contig : ℕ) (p : GenomePosition) (words lengths : List ℕ)
    → (settings_in_range s ≡ true → Plain s table priors) → set_score_by table priors contig p words lengths s ≡ set_score_of contig p words lengths s
unfolding set_score_with activity_by activity_of
set_plain s table priors contig p words lengths plain = go (in_range p s) refl
  where
    go : (b : Bool) → in_range p s ≡ b → set_score_by table priors contig p words lengths s ≡ set_score_of contig p words lengths s
    go true e =
        ap (λ (x : ActivityProfileState). set_score_with x p words lengths s)
        (set_same (λ (pile : List ℕ). rounded_by table pile s) (λ (pile : List ℕ). rounded_of pile s) (from_rounded_by priors s) (from_rounded s) (plain (and_left (settings_in_range s) _ e)) contig p s (piles_left words lengths))
    go false e = rw e

pub set_by-filled : (s t u : HaplotypeCallerActivityScoringParams) (table priors : List Float) → Holds t table → ploidy_of t ≤ 255
    → HoldsPriors (ploidy_of u) u.snp_heterozygosity u.heterozygosity_standard_deviation priors → ploidy_of u ≤ 255
    → (contig : ℕ) (p : GenomePosition) (words lengths : List ℕ) → set_score_by table priors contig p words lengths s ≡ set_score_of contig p words lengths s
set_by-filled s t u table priors held few held-priors few-priors contig p words lengths =
    set_plain s table priors contig p words lengths (plain_by_filled s t u table priors held few held-priors few-priors)

-- every filling that is granted, for whatever settings t, and every call, for whatever settings s
pub set-filled : (s t : HaplotypeCallerActivityScoringParams) (l k : List Float) → fill_verdict t (length l) (length k) ≡ granted
    → (contig : ℕ) (p : GenomePosition) (words lengths : List ℕ) → set_score_by (filled t l) (priors_filled t k) contig p words lengths s ≡ set_score_of contig p words lengths s
set-filled s t l k e contig p words lengths = set_plain s (filled t l) (priors_filled t k) contig p words lengths (plain_filled s t l k e)

-- the call's own settings, and slices of any length
pub set_own : (s : HaplotypeCallerActivityScoringParams) (l k : List Float) (contig : ℕ) (p : GenomePosition) (words lengths : List ℕ)
    → set_score_by (filled s l) (priors_filled s k) contig p words lengths s ≡ set_score_of contig p words lengths s
set_own s l k contig p words lengths = set_plain s (filled s l) (priors_filled s k) contig p words lengths (plain_own s l k)

-- slices of zeros that were never filled, of any length
pub set_zeros : (s : HaplotypeCallerActivityScoringParams) (n m contig : ℕ) (p : GenomePosition) (words lengths : List ℕ)
    → set_score_by (replicate n zero_f) (replicate m zero_f) contig p words lengths s ≡ set_score_of contig p words lengths s
set_zeros s n m contig p words lengths = set_plain s (replicate n zero_f) (replicate m zero_f) contig p words lengths (λ e. plain_zeros s n m)
