-- 02, U3: words that are skipped settle nothing, wherever they stand. Assumes nothing.
use Rattle.std.specs.Prelude.{◌≡◌, ℕ, suc, ◌+◌, ◌-◌, ◌<◌, ◌≤◌, Bool, true, false, cond, not, List, [], ◌∷◌, length, replicate, pos, nat_lt, slice_index, refl, Float}
use Rattle.std.proofs.Common.{sym, ap, ◌∙◌, le_trans, add-one, arith, leb-true, ltb-false, le-ltb, ne_eqb}
use Rattle.std.specs.Float.{binary64}
use Rattle.std.specs.Float.Ieee.{of_bits, of_int, round, sum, add, sub, mul, neg, lt}
use Rattle.lists.specs.Folds.{each_alike}
use Rattle.lists.specs.Tests.{and_left, and_right, not_false}
use Rattle.lists.specs.Without.{without, length_without, without_all, fold-without, all_without, all_pass}
use Rattle.doubles.specs.Constants.{zero_f}
use Rattle.double_ranges.specs.Size.{Size}
use Rattle.double_ranges.specs.Quotients.{none-less-none}
use Rattle.elementary.proofs.LnRange.{log10_size}
use Rattle.elementary.proofs.GammaRange.{finite_below}
use Rattle.genome.specs.declared.GenomePosition.{GenomePosition}
use Rattle.genome.specs.Refusals.{refused, answered}
use Rattle.pileup_words.specs.Words.{is_observation}
use Rattle.genotype_likelihoods.specs.declared.HaplotypeCallerActivityScoringParams.{HaplotypeCallerActivityScoringParams}
use Rattle.genotype_likelihoods.specs.Settings.{settings_in_range}
use Rattle.genotype_likelihoods.specs.Observation.{skipped}
use Rattle.genotype_likelihoods.proofs.Skipped.{blank-skipped, likelihoods-without}
use Rattle.genotype_likelihoods.specs.Skipped.{is_blank}
use Rattle.genotype_likelihoods.specs.Contribution.{log10_whole}
use Rattle.genotype_likelihoods.specs.Likelihoods.{less, likelihoods}
use Rattle.genotype_posterior.specs.Posterior.{whole}
use Rattle.genotype_posterior.proofs.PriorRange.{whole_argument}
use Rattle.genotype_posterior.specs.PriorRange.{Argument}
use Rattle.genotype_posterior.proofs.Alike.{rounded_alike, first_largest, posterior_alike}
use Rattle.genotype_posterior.specs.Alike.{minus_zero}
use Rattle.activity_profile.specs.declared.ActivityProfileState.{ActivityProfileState}
use Rattle.activity_profile.specs.declared.ActivityEvidence.TheVariants.{Plain}
use Rattle.activity_scoring.specs.declared.Activity.{Activity}
use Rattle.activity_scoring.specs.Mean.{with_word, none, mean_of}
use Rattle.activity_scoring.specs.Score.{in_range, max_depth, all_observations, evidence_of, activity_of, state, empty_pile, state_with, state_of, score_with, score_of}

-- ---- a pile without a word, by the formulas

ploidy_range : (s : HaplotypeCallerActivityScoringParams) → settings_in_range s ≡ true → (1 ≤ s.sample_ploidy.0) × (s.sample_ploidy.0 ≤ 100)
unfolding settings_in_range
ploidy_range s e = search (leb-true, and_left, and_right) depth 12

-- log10 of the ploidy is finite
log10_finite : (p : ℕ) → 1 ≤ p → p ≤ 100 → Size 89 (log10_whole p)
log10_finite p h l =
    let n : p - 1 + 1 ≡ p = omega arith in
    let b = whole_argument (p - 1) (omega arith) in
    let a : Argument (whole p) = rw n at b in
    log10_size (whole p) a.fit a.above (finite_below 40 (whole p) a.size)

no_likelihoods : (s : HaplotypeCallerActivityScoringParams) (n : ℕ) → settings_in_range s ≡ true → likelihoods s n [] ≡ replicate n zero_f
unfolding likelihoods of_int of_bits
no_likelihoods s n e =
    let r = ploidy_range s e in
    each_alike (less (mul binary64 (of_int binary64 (pos 0)) (log10_whole s.sample_ploidy.0))) n zero_f zero_f (λ k. none-less-none 89 (log10_whole s.sample_ploidy.0) (log10_finite s.sample_ploidy.0 r.0 r.1))

alike_less : sub binary64 minus_zero minus_zero ≡ zero_f
unfolding sub add sum neg of_bits round
alike_less = refl

no_activity_lem : (s : HaplotypeCallerActivityScoringParams) → settings_in_range s ≡ true → activity_of [] s ≡ record { probability = zero_f; original = zero_f }
unfolding activity_of
no_activity_lem s e =
    let n = s.sample_ploidy.0 in
    rw (add-one, no_likelihoods s (suc n) e, rounded_alike n, posterior_alike s.snp_heterozygosity s.heterozygosity_standard_deviation (suc n), first_largest (suc n), alike_less)

no_evidence : (s : HaplotypeCallerActivityScoringParams) → evidence_of (mean_of s []) ≡ Plain
unfolding evidence_of mean_of lt of_bits
no_evidence s = refl

-- so the formulas hold of the empty pile too
by_formulas : (contig : ℕ) (p : GenomePosition) (words : List ℕ) (s : HaplotypeCallerActivityScoringParams) → settings_in_range s ≡ true
    → state_of contig p words s ≡ state contig p (activity_of words s) (evidence_of (mean_of s words))
unfolding state_with
by_formulas contig p [] s e = rw (no_activity_lem s e, no_evidence s)
by_formulas contig p (w ∷ words) s e = rw (ne_eqb (suc (length words)) 0 (λ h. absurd (omega (arith, h))))

-- ---- a pile without its skipped words

mean_without : (s : HaplotypeCallerActivityScoringParams) (words : List ℕ) → mean_of s (without (skipped s) words) ≡ mean_of s words
unfolding mean_of with_word
mean_without s words = ap (λ r. r.mean) (fold-without (skipped s) (with_word s) none words (λ r w e. rw e))

activity_without : (s : HaplotypeCallerActivityScoringParams) (words : List ℕ) → activity_of (without (skipped s) words) s ≡ activity_of words s
unfolding activity_of
activity_without s words = rw (likelihoods-without s (s.sample_ploidy.0 + 1) words)

pub state-without : (contig : ℕ) (p : GenomePosition) (words : List ℕ) (s : HaplotypeCallerActivityScoringParams) → settings_in_range s ≡ true
    → state_of contig p (without (skipped s) words) s ≡ state_of contig p words s
state-without contig p words s e =
    by_formulas contig p (without (skipped s) words) s e
    ∙ ap (λ (a : Activity). state contig p a (evidence_of (mean_of s (without (skipped s) words)))) (activity_without s words)
    ∙ ap (λ (m : Float). state contig p (activity_of words s) (evidence_of m)) (mean_without s words)
    ∙ sym (by_formulas contig p words s e)

-- ---- the laws

-- what an answer tells of the tests before it
pub told : {A : Type 0} (a b c : Bool) (x y : A) → cond a (refused 1) (cond b (refused 4) (cond c (refused 3) (answered x))) ≡ answered y
    → (a ≡ false) × (b ≡ false) × (c ≡ false) × (x ≡ y)
told true b c x y e = (cc, cc, cc, cc)
told false true c x y e = (cc, cc, cc, cc)
told false false true x y e = (cc, cc, cc, cc)
told false false false x y e = (refl, refl, refl, cc)

-- a score that is not refused is that of the pile without its skipped words; where none is left, that of the empty pile
pub score_without_skipped : (contig : ℕ) (p : GenomePosition) (words : List ℕ) (s : HaplotypeCallerActivityScoringParams) (r : ActivityProfileState)
    → score_of contig p words s ≡ answered r → score_of contig p (without (skipped s) words) s ≡ answered r
unfolding score_with
score_without_skipped contig p words s r e =
    let t = told (not (in_range p s)) (nat_lt max_depth (length words)) (not (all_observations words)) (state_of contig p words s) r e in
    let ranged = not_false (in_range p s) t.0 in
    let few = le_trans (length_without (skipped s) words) (ltb-false max_depth (length words) t.1) in
    let all = all_without (skipped s) is_observation words (not_false (all_observations words) t.2) in
    rw (ranged, le-ltb max_depth (length (without (skipped s) words)) few, all)
    (ap answered (state-without contig p words s (and_left (settings_in_range s) _ ranged) ∙ t.3))

-- of a pile of skipped words alone the score is 0.0, original 0.0, plain
pub score_of-skipped : (contig : ℕ) (p : GenomePosition) (words : List ℕ) (s : HaplotypeCallerActivityScoringParams) (r : ActivityProfileState)
    → score_of contig p words s ≡ answered r → ((i : ℕ) → i < length words → skipped s (slice_index words i) ≡ true) → r ≡ empty_pile contig p
unfolding score_with state_with
score_of-skipped contig p words s r e h =
    let left = score_without_skipped contig p words s r e in
    let nothing : score_of contig p [] s ≡ answered r = rw (without_all (skipped s) words 0 h) at left in
    sym (told (not (in_range p s)) (nat_lt max_depth (length {A = ℕ} [])) (not (all_observations [])) (state_of contig p [] s) r nothing).3

-- so it is of any number of bases without a quality, by any settings in their ranges
pub score_of_blanks : (contig : ℕ) (p : GenomePosition) (words : List ℕ) (s : HaplotypeCallerActivityScoringParams) → in_range p s ≡ true → length words ≤ max_depth
    → ((i : ℕ) → i < length words → (is_observation (slice_index words i) ≡ true) × (is_blank (slice_index words i) ≡ true)) → score_of contig p words s ≡ answered (empty_pile contig p)
unfolding score_with
score_of_blanks contig p words s ranged few h =
    let all = all_pass is_observation words 0 (λ i k. (h i k).0) in
    let scored : score_of contig p words s ≡ answered (state_of contig p words s) = rw (ranged, le-ltb max_depth (length words) few, all) in
    scored ∙ ap answered (score_of-skipped contig p words s (state_of contig p words s) scored (λ i k. blank-skipped s (slice_index words i) (h i k).1))
