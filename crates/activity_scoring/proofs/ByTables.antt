-- By whatever was filled, for whatever settings, the score by tables is the plain one. Assumes nothing.
use Rattle.std.specs.Prelude.{◌≡◌, ℕ, ◌+◌, ◌≤◌, Bool, true, false, cond, not, ◌||◌, List, length, replicate, nat_lt, refl, Float}
use Rattle.std.proofs.Common.{ap, ◌∙◌, arith, leb-true, ltb-false}
use Rattle.lists.specs.Tests.{and_left, and_right}
use Rattle.doubles.specs.Constants.{zero_f}
use Rattle.genome.specs.declared.GenomePosition.{GenomePosition}
use Rattle.genome.specs.Refusals.{setting_refusal, buffer_refusal}
use Rattle.genotype_likelihoods.specs.declared.HaplotypeCallerActivityScoringParams.{HaplotypeCallerActivityScoringParams}
use Rattle.genotype_likelihoods.specs.Settings.{settings_in_range}
use Rattle.genotype_likelihoods.specs.Likelihoods.{likelihoods}
use Rattle.genotype_likelihoods.specs.Lengths.{length-likelihoods}
use Rattle.contribution_table.specs.Table.{ploidy_of, table_length, filled, likelihoods_by}
use Rattle.contribution_table.proofs.Filled.{filled_holds, likelihoods_by-filled, likelihoods_by_own, likelihoods_by_zeros}
use Rattle.contribution_table.specs.Filled.{Holds}
use Rattle.genotype_posterior.specs.Phred.{pl_round_trip}
use Rattle.genotype_posterior.specs.Posterior.{posterior}
use Rattle.genotype_posterior.proofs.Probability.{rounded_length}
use Rattle.genotype_posterior.specs.Priors.{priors_length, posterior_by, HoldsPriors}
use Rattle.genotype_posterior.proofs.Priors.{filled_priors, posterior-filled, posterior_own, posterior_zeros}
use Rattle.activity_profile.specs.Verdict.{refusal, granted}
use Rattle.activity_scoring.specs.declared.Activity.{Activity}
use Rattle.activity_scoring.specs.Score.{in_range, activity_of, state_with, score_with, score_of}
use Rattle.activity_scoring.specs.Tables.{activity_by, score_by, priors_filled, fill_verdict, Plain}

ploidy_small : (s : HaplotypeCallerActivityScoringParams) → settings_in_range s ≡ true → ploidy_of s ≤ 100
unfolding settings_in_range
ploidy_small s e = search (leb-true, and_left, and_right) depth 12

-- what has to be shown of the table, and of the priors
abbrev PlainLikelihoods : HaplotypeCallerActivityScoringParams → List Float → Type 0
PlainLikelihoods s table = (n : ℕ) (words : List ℕ) → likelihoods_by table s n words ≡ likelihoods s n words

abbrev PlainPosterior : HaplotypeCallerActivityScoringParams → List Float → Type 0
PlainPosterior s priors = (gl : List Float) → length gl ≡ ploidy_of s + 1
    → posterior_by priors s.snp_heterozygosity s.heterozygosity_standard_deviation gl ≡ posterior s.snp_heterozygosity s.heterozygosity_standard_deviation gl

activity_plain : (s : HaplotypeCallerActivityScoringParams) (table priors : List Float) → PlainLikelihoods s table → PlainPosterior s priors → Plain s table priors
unfolding activity_by activity_of
activity_plain s table priors f g words =
    rw (f (ploidy_of s + 1) words, g (pl_round_trip (likelihoods s (ploidy_of s + 1) words)) (rounded_length (likelihoods s (ploidy_of s + 1) words) ∙ length-likelihoods s (ploidy_of s + 1) words))

-- The table was filled for t and the priors for u, into slices of any length; lent is any part of those from the front. The call's settings are s.
pub plain_by_filled : (s t u : HaplotypeCallerActivityScoringParams) (table priors : List Float) → Holds t table → ploidy_of t ≤ 255
    → HoldsPriors (ploidy_of u) u.snp_heterozygosity u.heterozygosity_standard_deviation priors → ploidy_of u ≤ 255
    → settings_in_range s ≡ true → Plain s table priors
plain_by_filled s t u table priors held few held-priors few-priors e =
    let small = ploidy_small s e in
    activity_plain s table priors (λ n ws. likelihoods_by-filled s t table n ws held few (omega (arith, small)))
    (λ gl l. posterior-filled (ploidy_of u) u.snp_heterozygosity u.heterozygosity_standard_deviation s.snp_heterozygosity s.heterozygosity_standard_deviation priors gl
    held-priors few-priors (omega (arith, small, l)))

-- what a filling that is granted says of its settings and of its slices
granted_is : (t : HaplotypeCallerActivityScoringParams) (n m : ℕ) → fill_verdict t n m ≡ granted
    → (settings_in_range t ≡ true) × (table_length (ploidy_of t) ≤ n) × (priors_length (ploidy_of t) ≤ m)
unfolding fill_verdict
granted_is t n m = go (settings_in_range t) (nat_lt n (table_length (ploidy_of t))) (nat_lt m (priors_length (ploidy_of t))) (ltb-false n (table_length (ploidy_of t))) (ltb-false m (priors_length (ploidy_of t)))
  where
    go : (a b c : Bool) → (b ≡ false → table_length (ploidy_of t) ≤ n) → (c ≡ false → priors_length (ploidy_of t) ≤ m)
        → cond (not a) (refusal setting_refusal) (cond (b || c) (refusal buffer_refusal) granted) ≡ granted
        → (a ≡ true) × (table_length (ploidy_of t) ≤ n) × (priors_length (ploidy_of t) ≤ m)
    go true false false f g e = (refl, f refl, g refl)
    go true false true f g e = absurd (let z : ◌≡◌ {A = ℕ} 0 1 = cc in omega arith)
    go true true c f g e = absurd (let z : ◌≡◌ {A = ℕ} 0 1 = cc in omega arith)
    go false b c f g e = absurd (let z : ◌≡◌ {A = ℕ} 0 1 = cc in omega arith)

-- Every filling that is granted, for whatever settings t, and every call, for whatever settings s.
pub plain_filled : (s t : HaplotypeCallerActivityScoringParams) (l k : List Float) → fill_verdict t (length l) (length k) ≡ granted
    → settings_in_range s ≡ true → Plain s (filled t l) (priors_filled t k)
plain_filled s t l k e =
    let g = granted_is t (length l) (length k) e in
    let small = ploidy_small t g.0 in
    let byte : ploidy_of t ≤ 255 = omega (arith, small) in
    plain_by_filled s t t (filled t l) (priors_filled t k) (filled_holds t l g.1) byte
    (filled_priors (ploidy_of t) t.snp_heterozygosity t.heterozygosity_standard_deviation k g.2) byte

-- For the call's own settings every slice will do, also one that was too short to be filled.
pub plain_own : (s : HaplotypeCallerActivityScoringParams) (l k : List Float) → settings_in_range s ≡ true → Plain s (filled s l) (priors_filled s k)
plain_own s l k e =
    let small = ploidy_small s e in
    activity_plain s (filled s l) (priors_filled s k) (λ n ws. likelihoods_by_own s l n ws (omega (arith, small)))
    (λ gl g. posterior_own (ploidy_of s) s.snp_heterozygosity s.heterozygosity_standard_deviation k gl g (omega (arith, small)))

-- and slices of zeros that were never filled, of any length; none at all are two of length 0
pub plain_zeros : (s : HaplotypeCallerActivityScoringParams) (n m : ℕ) → Plain s (replicate n zero_f) (replicate m zero_f)
plain_zeros s n m =
    activity_plain s (replicate n zero_f) (replicate m zero_f) (λ k ws. likelihoods_by_zeros s n k ws)
    (λ gl l. posterior_zeros m s.snp_heterozygosity s.heterozygosity_standard_deviation gl)

-- ---- so is the score

-- a score that is refused looks at neither
score_plain : (s : HaplotypeCallerActivityScoringParams) (table priors : List Float) (contig : ℕ) (p : GenomePosition) (words : List ℕ)
    → (settings_in_range s ≡ true → Plain s table priors) → score_by table priors contig p words s ≡ score_of contig p words s
unfolding score_with
score_plain s table priors contig p words plain = go (in_range p s) refl
  where
    go : (b : Bool) → in_range p s ≡ b → score_by table priors contig p words s ≡ score_of contig p words s
    go true e = ap (λ (a : Activity). score_with (state_with a contig p words s) p words s) (plain (and_left (settings_in_range s) _ e) words)
    go false e = rw e

pub score_by-filled : (s t u : HaplotypeCallerActivityScoringParams) (table priors : List Float) → Holds t table → ploidy_of t ≤ 255
    → HoldsPriors (ploidy_of u) u.snp_heterozygosity u.heterozygosity_standard_deviation priors → ploidy_of u ≤ 255
    → (contig : ℕ) (p : GenomePosition) (words : List ℕ) → score_by table priors contig p words s ≡ score_of contig p words s
score_by-filled s t u table priors held few held-priors few-priors contig p words =
    score_plain s table priors contig p words (plain_by_filled s t u table priors held few held-priors few-priors)

pub score_filled : (s t : HaplotypeCallerActivityScoringParams) (l k : List Float) → fill_verdict t (length l) (length k) ≡ granted
    → (contig : ℕ) (p : GenomePosition) (words : List ℕ) → score_by (filled t l) (priors_filled t k) contig p words s ≡ score_of contig p words s
score_filled s t l k e contig p words = score_plain s (filled t l) (priors_filled t k) contig p words (plain_filled s t l k e)

pub score_own : (s : HaplotypeCallerActivityScoringParams) (l k : List Float) (contig : ℕ) (p : GenomePosition) (words : List ℕ)
    → score_by (filled s l) (priors_filled s k) contig p words s ≡ score_of contig p words s
score_own s l k contig p words = score_plain s (filled s l) (priors_filled s k) contig p words (plain_own s l k)

pub score_zeros : (s : HaplotypeCallerActivityScoringParams) (n m contig : ℕ) (p : GenomePosition) (words : List ℕ)
    → score_by (replicate n zero_f) (replicate m zero_f) contig p words s ≡ score_of contig p words s
score_zeros s n m contig p words = score_plain s (replicate n zero_f) (replicate m zero_f) contig p words (λ e. plain_zeros s n m)
