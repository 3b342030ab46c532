-- 02, U6: "One pile left over scores as it does today", whatever empty ones stand around it. Assumes nothing.
use Rattle.std.specs.Prelude.{◌≡◌, refl, Bool, true, false, cond, ◌||◌, ℕ, ◌+◌, ◌≤◌, ltb, eqb, length, Float}
use Rattle.std.specs.List.{fold}
use Rattle.std.proofs.Common.{sym, ap, ◌∙◌, add-zero, zero-add, arith, eqb-true, le-ltb, eq-eqb}
use Rattle.std.proofs.Math.Bool.{or-false}
use mathlib.Core.List.{List, [], ◌∷◌, flatten, append-nil}
use Rattle.genome.specs.declared.GenomePosition.{GenomePosition}
use Rattle.genotype_likelihoods.specs.declared.HaplotypeCallerActivityScoringParams.{HaplotypeCallerActivityScoringParams}
use Rattle.activity_profile.specs.declared.ActivityProfileState.{ActivityProfileState}
use Rattle.activity_scoring.specs.declared.Activity.{Activity}
use Rattle.activity_scoring.specs.Score.{max_depth, from_rounded, rounded_of, activity_of, state_with, score_with, score_of}
use Rattle.multi_sample_scoring.specs.Sets.{total, piles_left, max_piles, or_too_deep, set_state_with, set_score_with, set_score_of}
use Rattle.multi_sample_scoring.specs.Passed.{count_left}
use Rattle.multi_sample_scoring.proofs.Piles.{left_are_the_run, count_is}
use Rattle.multi_sample_scoring.proofs.Members.{count_more}

-- ---- the state

-- of so few piles the run is all that there is
few_left : (rounded : List ℕ → List Float) (activity : List Float → Activity) (contig : ℕ) (p : GenomePosition) (s : HaplotypeCallerActivityScoringParams) (words lengths : List ℕ)
    → total lengths ≡ length words → count_left lengths ≤ 1
    → set_state_with rounded activity contig p s (piles_left words lengths) ≡ state_with (activity (rounded words)) contig p words s
unfolding set_state_with state_with flatten
few_left rounded activity contig p s words lengths e h = go (piles_left words lengths) (left_are_the_run words lengths e) (omega (arith, count_is words lengths e))
  where
    go : (ps : List (List ℕ)) → flatten ps ≡ words → length ps ≤ 1 → set_state_with rounded activity contig p s ps ≡ state_with (activity (rounded words)) contig p words s
    go [] f k = ap (λ (l : List ℕ). state_with (activity (rounded l)) contig p l s) f
    go (a ∷ []) f k = ap (λ (l : List ℕ). state_with (activity (rounded l)) contig p l s) (sym (append-nil a) ∙ f)
    go (a ∷ b ∷ ps) f k = absurd (omega arith)

-- ---- the depth

-- zeros are not too deep, and add up to 0
none_deep : (b : Bool) (lengths : List ℕ) → count_left lengths ≤ 0 → (fold or_too_deep b lengths ≡ b) × (total lengths ≡ 0)
unfolding total
none_deep b [] h = (refl, refl)
none_deep b (n ∷ lengths) h = go (eqb n 0) (eqb-true n 0) (omega (arith, count_more (cond (eqb n 0) 0 (0 + 1)) lengths, h)) (λ k. none_deep b lengths k)
  where
    go : (c : Bool) → (c ≡ true → n ≡ 0) → cond c 0 (0 + 1) + count_left lengths ≤ 0 → (count_left lengths ≤ 0 → (fold or_too_deep b lengths ≡ b) × (total lengths ≡ 0))
        → (fold or_too_deep (b || ltb max_depth n) lengths ≡ b) × (n + total lengths ≡ 0)
    go true f k rest = let r = rest (omega arith) in (rw (f refl, or-false b) r.0, omega (arith, f refl, r.1))
    go false f k rest = absurd (omega arith)

-- with one pile left, a pile is too deep where the run is
deep_is : (b : Bool) (lengths : List ℕ) → count_left lengths ≤ 1 → fold or_too_deep b lengths ≡ (b || ltb max_depth (total lengths))
unfolding total
deep_is b [] h = sym (or-false b)
deep_is b (n ∷ lengths) h = go (eqb n 0) (eqb-true n 0) (omega (arith, count_more (cond (eqb n 0) 0 (0 + 1)) lengths, h)) (λ k. deep_is b lengths k)
  where
    go : (c : Bool) → (c ≡ true → n ≡ 0) → cond c 0 (0 + 1) + count_left lengths ≤ 1 → (count_left lengths ≤ 1 → fold or_too_deep b lengths ≡ (b || ltb max_depth (total lengths)))
        → fold or_too_deep (b || ltb max_depth n) lengths ≡ (b || ltb max_depth (n + total lengths))
    go true f k rest = rw (f refl, or-false b, zero-add (total lengths)) (rest (omega arith))
    go false f k rest = let r = none_deep (b || ltb max_depth n) lengths (omega arith) in r.0 ∙ rw (r.1, add-zero n)

-- ---- the score

-- For every set of up to 64 piles whose lengths add up to its run: with at most one pile left its score is that of the run, in refusal too.
pub one_left : (contig : ℕ) (p : GenomePosition) (words lengths : List ℕ) (s : HaplotypeCallerActivityScoringParams) → length lengths ≤ max_piles → total lengths ≡ length words
    → count_left lengths ≤ 1 → set_score_of contig p words lengths s ≡ score_of contig p words s
unfolding set_score_with score_with activity_of
one_left contig p words lengths s few e h =
    rw (le-ltb max_piles (length lengths) few, eq-eqb (total lengths) (length words) e, deep_is false lengths (omega (arith, h)), e)
    (ap (λ (x : ActivityProfileState). score_with x p words s) (few_left (λ (pile : List ℕ). rounded_of pile s) (from_rounded s) contig p s words lengths e (omega (arith, h))))
