-- Within document 01's ranges a word that is not skipped has a quality from 1 to 254, so that log10 is asked of a finite number above 0. Assumes nothing.
use Rattle.std.specs.Prelude.{◌≡◌, refl, Bool, true, false, cond, not, ◌&&◌, ◌||◌, ℕ, ◌≤◌, ◌<◌, ltb, eqb}
use Rattle.std.proofs.Common.{le_trans, arith, leb-true, ltb-false}
use Rattle.std.specs.Float.{binary64}
use Rattle.std.specs.Float.Ieee.{sub}
use Rattle.lists.specs.Tests.{and_left, and_right}
use Rattle.doubles.specs.Constants.{one_f}
use Rattle.genome.specs.Ranges.{missing_quality}
use Rattle.pileup_words.specs.Words.{observation}
use Rattle.genotype_likelihoods.specs.declared.HaplotypeCallerActivityScoringParams.{HaplotypeCallerActivityScoringParams}
use Rattle.genotype_likelihoods.specs.Settings.{settings_in_range}
use Rattle.genotype_likelihoods.specs.Observation.{effective_qual, lacks_quality, skips, qual_of, skipped}
use Rattle.genotype_likelihoods.proofs.Skipped.{counted_has_quality}
use Rattle.genotype_likelihoods.specs.Contribution.{error_prob}
use Rattle.scoring_ranges.proofs.LogArguments.{quality_argument}
use Rattle.scoring_ranges.specs.LogArguments.{Argument}

minimum_from_1 : (s : HaplotypeCallerActivityScoringParams) → settings_in_range s ≡ true → 1 ≤ s.min_base_quality_score
unfolding settings_in_range
minimum_from_1 s e = search (leb-true, and_left, and_right) depth 12

deletion_from_1 : (s : HaplotypeCallerActivityScoringParams) → settings_in_range s ≡ true → 1 ≤ s.ref_model_deletion_qual
unfolding settings_in_range
deletion_from_1 s e = search (leb-true, and_left, and_right) depth 12

deletion_to_254 : (s : HaplotypeCallerActivityScoringParams) → settings_in_range s ≡ true → s.ref_model_deletion_qual < missing_quality
unfolding settings_in_range
deletion_to_254 s e =
    let most : s.ref_model_deletion_qual ≤ 254 = search (leb-true, and_left, and_right) depth 12 in
    omega arith

counted-from_1 : (s : HaplotypeCallerActivityScoringParams) (w : ℕ) → settings_in_range s ≡ true → skipped s w ≡ false → 1 ≤ qual_of s w
unfolding skips lacks_quality effective_qual
counted-from_1 s w r = go (observation w).is_deletion
  where
    q : ℕ
    q = (observation w).qual

    at_minimum : (b m f : Bool) → ((b || m) && (f || true)) ≡ false → b ≡ false
    at_minimum true m true e = e
    at_minimum true m false e = e
    at_minimum false m f e = refl

    go : (d : Bool)
        → ((ltb (cond d s.ref_model_deletion_qual q) s.min_base_quality_score || eqb (cond d s.ref_model_deletion_qual q) missing_quality) && (s.flow_based_reference_model || not d)) ≡ false
        → 1 ≤ cond d s.ref_model_deletion_qual q
    go true e = deletion_from_1 s r
    go false e = le_trans (minimum_from_1 s r) (ltb-false q s.min_base_quality_score (at_minimum (ltb q s.min_base_quality_score) (eqb q missing_quality) s.flow_based_reference_model e))

pub counted_quality : (s : HaplotypeCallerActivityScoringParams) (w : ℕ) → settings_in_range s ≡ true → skipped s w ≡ false → (1 ≤ qual_of s w) × (qual_of s w ≤ 254)
counted_quality s w r e = (counted-from_1 s w r e, omega (arith, counted_has_quality s w (deletion_to_254 s r) e))

-- so what a word that counts hands log10 is in its domain
pub counted_argument : (s : HaplotypeCallerActivityScoringParams) (w : ℕ) → settings_in_range s ≡ true → skipped s w ≡ false → Argument (sub binary64 one_f (error_prob (qual_of s w)))
counted_argument s w r e = quality_argument (qual_of s w) (counted_quality s w r e).0 (counted_quality s w r e).1
