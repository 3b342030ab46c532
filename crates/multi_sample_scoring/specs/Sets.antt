-- 02, U6, "Pools read as several samples": a set of piles, scored together. The Rust's names are haplotype_caller_activity_profile_state_multi_sample,
-- calculate_multi_sample_any_non_ref_posterior and hq_soft_clip_running_mean_rcm_stratified.
use Rattle.std.specs.Prelude.{Bool, false, cond, not, ◌||◌, List, [], ◌∷◌, map, ℕ, ◌+◌, ltb, eqb, length, take, drop, Float}
use Rattle.std.specs.List.{fold}
use Rattle.std.specs.Float.{binary64}
use Rattle.std.specs.Float.Ieee.{sub, mul, lt}
use Rattle.lists.specs.Without.{without}
use Rattle.doubles.specs.Constants.{zero_f, one_f}
use Rattle.genome.specs.declared.GenomePosition.{GenomePosition}
use Rattle.genome.specs.Refusals.{Outcome, refused, answered, setting_refusal, word_refusal, depth_refusal, piles_refusal}
use Rattle.genotype_likelihoods.specs.declared.HaplotypeCallerActivityScoringParams.{HaplotypeCallerActivityScoringParams}
use Rattle.activity_profile.specs.declared.ActivityProfileState.{ActivityProfileState}
use Rattle.activity_scoring.specs.declared.Activity.{Activity}
use Rattle.activity_scoring.specs.declared.RunningMean.{RunningMean}
use Rattle.activity_scoring.specs.Mean.{with_word, none}
use Rattle.activity_scoring.specs.Score.{in_range, max_depth, all_observations, evidence_of, from_rounded, rounded_of, state, empty_pile, state_with}

-- ---- the piles

-- "A set is one run of words and a list of pile lengths": each pile stands behind the one before
unfoldable pub piles : List ℕ → List ℕ → List (List ℕ)
piles words [] = []
piles words (n ∷ lengths) = take n words ∷ piles (drop n words) lengths

-- what the lengths add up to
unfoldable pub total : List ℕ → ℕ
total [] = 0
total (n ∷ lengths) = n + total lengths

abbrev pub is_empty : List ℕ → Bool
is_empty pile = eqb (length pile) 0

-- "Empty piles are passed over"; a pile of skipped words is not empty
abbrev pub piles_left : List ℕ → List ℕ → List (List ℕ)
piles_left words lengths = without is_empty (piles words lengths)

-- ---- the probability

-- "each pile's likelihoods rounded as today"
abbrev pub likelihoods_of : HaplotypeCallerActivityScoringParams → List (List ℕ) → List (List Float)
likelihoods_of s = map (λ (pile : List ℕ). rounded_of pile s)

-- the Rust's clamp(0.0, 1.0)
unfoldable pub clamped : Float → Float
clamped x = cond (lt x zero_f) zero_f (cond (lt one_f x) one_f x)

-- the probability that no sample is active: q after those before, and one sample more; `activity` is what comes of its likelihoods
abbrev pub with_sample : (List Float → Activity) → Float → List Float → Float
with_sample activity q gl = mul binary64 q (clamped (sub binary64 one_f (activity gl).probability))

-- "after calculate_multi_sample_any_non_ref_posterior": 1 less the product of 1.0 and, in the order of the piles, each 1 - p
unfoldable pub any_non_ref : (List Float → Activity) → List (List Float) → Float
any_non_ref activity gls = sub binary64 one_f (fold (with_sample activity) one_f gls)

-- ---- the evidence

-- "The clip mean runs on across piles in their order": a pile's words begin with the mean of those before
abbrev pub with_words : HaplotypeCallerActivityScoringParams → RunningMean → List ℕ → RunningMean
with_words s r pile = fold (with_word s) r pile

unfoldable pub stratified_mean : HaplotypeCallerActivityScoringParams → List (List ℕ) → Float
stratified_mean s left = (fold (with_words s) none left).mean

-- ---- the state, of the piles that are left

-- `rounded` gives a pile's rounded likelihoods, `activity` what comes of them
unfoldable pub set_state_with : (List ℕ → List Float) → (List Float → Activity) → ℕ → GenomePosition → HaplotypeCallerActivityScoringParams → List (List ℕ) → ActivityProfileState
-- "a set with none left scores 0.0 and is plain"
set_state_with rounded activity contig p s [] = empty_pile contig p
-- "One pile left over scores as it does today"
set_state_with rounded activity contig p s (pile ∷ []) = state_with (activity (rounded pile)) contig p pile s
-- "Original probability is 0.0 unless exactly one is left"
set_state_with rounded activity contig p s (pile ∷ next ∷ more) =
    state contig p (record { probability = any_non_ref activity (map rounded (pile ∷ next ∷ more)); original = zero_f }) (evidence_of (stratified_mean s (pile ∷ next ∷ more)))

abbrev pub set_state_of : ℕ → GenomePosition → List ℕ → List ℕ → HaplotypeCallerActivityScoringParams → ActivityProfileState
set_state_of contig p words lengths s = set_state_with (λ (pile : List ℕ). rounded_of pile s) (from_rounded s) contig p s (piles_left words lengths)

-- ---- the answer

-- 12: "when a set has more than 64 piles", empty ones counted
abbrev pub max_piles : ℕ
max_piles = 64

-- "4 in any pile"
abbrev pub or_too_deep : Bool → ℕ → Bool
or_too_deep b n = b || ltb max_depth n

abbrev pub any_too_deep : List ℕ → Bool
any_too_deep lengths = fold or_too_deep false lengths

-- "12 .. before every other check of scoring; then 1, 4 in any pile, 3 in any pile"; "lengths that do not add up to the run are refused 3, before any word is
-- looked at"
unfoldable pub set_score_with : ActivityProfileState → GenomePosition → List ℕ → List ℕ → HaplotypeCallerActivityScoringParams → Outcome ActivityProfileState
set_score_with x p words lengths s =
    cond (ltb max_piles (length lengths)) (refused piles_refusal)
    (cond (not (in_range p s)) (refused setting_refusal)
    (cond (any_too_deep lengths) (refused depth_refusal)
    (cond (not (eqb (total lengths) (length words))) (refused word_refusal)
    (cond (not (all_observations words)) (refused word_refusal)
    (answered x)))))

abbrev pub set_score_of : ℕ → GenomePosition → List ℕ → List ℕ → HaplotypeCallerActivityScoringParams → Outcome ActivityProfileState
set_score_of contig p words lengths s = set_score_with (set_state_of contig p words lengths s) p words lengths s
