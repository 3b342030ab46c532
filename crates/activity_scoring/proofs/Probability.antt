-- A score's probability is in 0.0 to 1.0, for every pile and every setting that is not refused: so no add refuses what scoring answered with 8.
-- Assumes nothing.
use Rattle.std.proofs.Common.{◌≡◌, ℕ, ◌+◌, Bool, true, false, cond, not, ◌&&◌, T, eqb, ltb, List, length, sym, refl, ap, ◌∙◌, subst, arith}
use lib.Ieee.{le}
use Rattle.lists.specs.Tests.{and_left, and_right, not_false}
use Rattle.doubles.specs.Constants.{zero_f, half_f, one_f}
use Rattle.genome.specs.declared.GenomePosition.{GenomePosition}
use Rattle.genome.specs.Refusals.{answered}
use Rattle.genome.specs.Ranges.{is_probability}
use Rattle.genotype_likelihoods.specs.declared.HaplotypeCallerActivityScoringParams.{HaplotypeCallerActivityScoringParams}
use Rattle.genotype_likelihoods.specs.Settings.{settings_in_range}
use Rattle.genotype_likelihoods.specs.Likelihoods.{likelihoods}
use Rattle.genotype_likelihoods.specs.Lengths.{length-likelihoods}
use Rattle.genotype_posterior.specs.Phred.{pl_round_trip}
use Rattle.genotype_posterior.specs.Posterior.{posterior}
use Rattle.genotype_posterior.specs.PriorRange.{InRange, least_heterozygosity, least_deviation}
use Rattle.genotype_posterior.proofs.Probability.{zero_unit, rounded_size, rounded_length, posterior_unit}
use Rattle.activity_profile.specs.declared.ActivityProfileState.{ActivityProfileState}
use Rattle.activity_profile.specs.Add.{no_activity}
use Rattle.activity_scoring.specs.Mean.{mean_of}
use Rattle.activity_scoring.specs.Score.{in_range, max_depth, all_observations, evidence_of, activity_of, state, empty_pile, state_with, state_of, score_with, score_of}
use Rattle.activity_scoring.proofs.Skipped.{told}
use Rattle.activity_scoring.proofs.Counts.{ploidy_at_most}

het_low : (s : HaplotypeCallerActivityScoringParams) → settings_in_range s ≡ true → le least_heterozygosity s.snp_heterozygosity ≡ true
unfolding settings_in_range
het_low s e = search (and_left, and_right) depth 12

het_high : (s : HaplotypeCallerActivityScoringParams) → settings_in_range s ≡ true → le s.snp_heterozygosity half_f ≡ true
unfolding settings_in_range
het_high s e = search (and_left, and_right) depth 12

sd_low : (s : HaplotypeCallerActivityScoringParams) → settings_in_range s ≡ true → le least_deviation s.heterozygosity_standard_deviation ≡ true
unfolding settings_in_range
sd_low s e = search (and_left, and_right) depth 12

sd_high : (s : HaplotypeCallerActivityScoringParams) → settings_in_range s ≡ true → le s.heterozygosity_standard_deviation one_f ≡ true
unfolding settings_in_range
sd_high s e = search (and_left, and_right) depth 12

holds : (b : Bool) → b ≡ true → T b
holds b e = subst T (sym e) tt

pub true_of : (a b : Bool) → T a → T b → (a && b) ≡ true
true_of true true p q = refl
true_of true false p q = absurd q
true_of false b p q = absurd p

ranges : (s : HaplotypeCallerActivityScoringParams) → settings_in_range s ≡ true → InRange s.snp_heterozygosity s.heterozygosity_standard_deviation
ranges s e = record {
  het_low = holds (le least_heterozygosity s.snp_heterozygosity) (het_low s e);
  het_high = holds (le s.snp_heterozygosity half_f) (het_high s e);
  sd_low = holds (le least_deviation s.heterozygosity_standard_deviation) (sd_low s e);
  sd_high = holds (le s.heterozygosity_standard_deviation one_f) (sd_high s e);
}

-- the activity of a pile, by the formulas
pub activity_unit : (p : GenomePosition) (words : List ℕ) (s : HaplotypeCallerActivityScoringParams) → in_range p s ≡ true → is_probability (activity_of words s).probability ≡ true
unfolding activity_of
activity_unit p words s e =
    let gl = likelihoods s (s.sample_ploidy.0 + 1) words in
    let n : length (pl_round_trip gl) ≡ s.sample_ploidy.0 + 1 = rounded_length gl ∙ length-likelihoods s (s.sample_ploidy.0 + 1) words in
    let u = posterior_unit s.snp_heterozygosity s.heterozygosity_standard_deviation (pl_round_trip gl) (ranges s (and_left (settings_in_range s) _ e)) (omega (arith, n, ploidy_at_most p s e))
    (λ i h. rounded_size gl i (omega (arith, rounded_length gl))) in
    true_of (le zero_f (posterior s.snp_heterozygosity s.heterozygosity_standard_deviation (pl_round_trip gl)))
    (le (posterior s.snp_heterozygosity s.heterozygosity_standard_deviation (pl_round_trip gl)) one_f) u.0 u.1

pub state_unit : (contig : ℕ) (p : GenomePosition) (words : List ℕ) (s : HaplotypeCallerActivityScoringParams) → in_range p s ≡ true → is_probability (state_of contig p words s).active_prob ≡ true
unfolding state_with
state_unit contig p words s e = go (eqb (length words) 0)
  where
    go : (b : Bool) → is_probability (cond b (empty_pile contig p) (state contig p (activity_of words s) (evidence_of (mean_of s words)))).active_prob ≡ true
    go true = true_of (le zero_f zero_f) (le zero_f one_f) zero_unit.0 zero_unit.1
    go false = activity_unit p words s e

pub score_in_unit : (contig : ℕ) (p : GenomePosition) (words : List ℕ) (s : HaplotypeCallerActivityScoringParams) (r : ActivityProfileState)
    → score_of contig p words s ≡ answered r → is_probability r.active_prob ≡ true
unfolding score_with
score_in_unit contig p words s r e =
    let t = told (not (in_range p s)) (ltb max_depth (length words)) (not (all_observations words)) (state_of contig p words s) r e in
    subst (λ (x : ActivityProfileState). is_probability x.active_prob ≡ true) t.3 (state_unit contig p words s (not_false (in_range p s) t.0))

-- so refusal 8 of an add never meets a score
pub score_never_8 : (contig : ℕ) (p : GenomePosition) (words : List ℕ) (s : HaplotypeCallerActivityScoringParams) (r : ActivityProfileState)
    → score_of contig p words s ≡ answered r → no_activity r ≡ false
score_never_8 contig p words s r e = ap not (score_in_unit contig p words s r e)
