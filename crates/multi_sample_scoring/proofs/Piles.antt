-- The piles of a set, put one behind the other, are its run; so the clip mean of the set is that of the run, and a set with one pile left is that pile.
-- Assumes nothing.
use Rattle.std.specs.Prelude.{◌≡◌, Bool, true, false, ℕ, ◌+◌, ◌≤◌, eqb, length, take, drop, Float}
use Rattle.std.specs.List.{fold}
use Rattle.std.proofs.Math.Path.{refl, ap}
use Rattle.std.proofs.Common.{sym, ◌∙◌, add-zero, zero-add, arith, eqb-true, length-drop, take-append-drop, length-take-le}
use Rattle.std.proofs.lemmas.List.{nil_from_length}
use Rattle.std.proofs.lemmas.List.Sums.{fold-append}
use Rattle.std.proofs.Math.Bool.{cond}
use mathlib.Core.List.{List, [], ◌∷◌, ◌++◌, map, flatten, append-nil, nil≢cons, head-eq_of_cons-eq}
use Rattle.std.specs.Float.Ieee.{lt, of_bits}
use Rattle.lists.specs.Without.{without}
use Rattle.doubles.specs.Constants.{zero_f}
use Rattle.genome.specs.declared.GenomePosition.{GenomePosition}
use Rattle.genotype_likelihoods.specs.declared.HaplotypeCallerActivityScoringParams.{HaplotypeCallerActivityScoringParams}
use Rattle.activity_profile.specs.declared.ActivityEvidence.TheVariants.{Plain}
use Rattle.activity_scoring.specs.declared.Activity.{Activity}
use Rattle.activity_scoring.specs.declared.RunningMean.{RunningMean}
use Rattle.activity_scoring.specs.Mean.{with_word, none, mean_of}
use Rattle.activity_scoring.specs.Score.{evidence_of, state, empty_pile, state_with}
use Rattle.multi_sample_scoring.specs.Sets.{piles, total, is_empty, piles_left, any_non_ref, stratified_mean, set_state_with}
use Rattle.multi_sample_scoring.specs.Passed.{with_length, count_left, set_activity_with}

-- ---- the piles as one run

pub piles_are_the_run : (words lengths : List ℕ) → total lengths ≡ length words → flatten (piles words lengths) ≡ words
unfolding piles total flatten
piles_are_the_run words [] e = sym (nil_from_length words (sym e))
piles_are_the_run words (n ∷ lengths) e =
    ap (λ (l : List ℕ). take n words ++ l) (piles_are_the_run (drop n words) lengths (omega (arith, e, length-drop n words)))
    ∙ take-append-drop n words

-- the empty ones add nothing to it
flatten_left : (ps : List (List ℕ)) → flatten (without is_empty ps) ≡ flatten ps
unfolding without flatten
flatten_left [] = refl
flatten_left (p ∷ ps) = go (is_empty p) (eqb-true (length p) 0) (flatten_left ps)
  where
    go : (b : Bool) → (b ≡ true → length p ≡ 0) → flatten (without is_empty ps) ≡ flatten ps → flatten (cond b (without is_empty ps) (p ∷ without is_empty ps)) ≡ p ++ flatten ps
    go true f rest = rw (nil_from_length p (f refl)) rest
    go false f rest = ap (λ (l : List ℕ). p ++ l) rest

pub left_are_the_run : (words lengths : List ℕ) → total lengths ≡ length words → flatten (piles_left words lengths) ≡ words
left_are_the_run words lengths e = flatten_left (piles words lengths) ∙ piles_are_the_run words lengths e

-- ---- the mean

fold-flatten : {S A : Type 0} (f : S → A → S) (s : S) (ls : List (List A)) → fold (λ (r : S) (l : List A). fold f r l) s ls ≡ fold f s (flatten ls)
unfolding flatten
fold-flatten f s [] = refl
fold-flatten f s (l ∷ ls) = fold-flatten f (fold f s l) ls ∙ sym (fold-append f s l (flatten ls))

-- the clip mean of a set is that of its run
pub mean_of_the_run : (s : HaplotypeCallerActivityScoringParams) (words lengths : List ℕ) → total lengths ≡ length words → stratified_mean s (piles_left words lengths) ≡ mean_of s words
unfolding stratified_mean mean_of
mean_of_the_run s words lengths e = ap (λ (r : RunningMean). r.mean) (fold-flatten (with_word s) none (piles_left words lengths) ∙ ap (fold (with_word s) none) (left_are_the_run words lengths e))

-- ---- how many are left

count_from : (k : ℕ) (words lengths : List ℕ) → total lengths ≤ length words → fold with_length k lengths ≡ k + length (piles_left words lengths)
unfolding piles total without
count_from k words [] h = sym (add-zero k)
count_from k words (n ∷ lengths) h =
    let few = length-take-le n words (omega arith) in
    rw few (go (eqb n 0) (count_from (cond (eqb n 0) k (k + 1)) (drop n words) lengths (omega (arith, length-drop n words))))
  where
    go : (b : Bool) → fold with_length (cond b k (k + 1)) lengths ≡ cond b k (k + 1) + length (piles_left (drop n words) lengths)
        → fold with_length (cond b k (k + 1)) lengths ≡ k + length (cond b (piles_left (drop n words) lengths) (take n words ∷ piles_left (drop n words) lengths))
    go true e = omega (arith, e)
    go false e = omega (arith, e)

pub count_is : (words lengths : List ℕ) → total lengths ≡ length words → count_left lengths ≡ length (piles_left words lengths)
count_is words lengths e = count_from 0 words lengths (omega (arith, e)) ∙ zero-add (length (piles_left words lengths))

-- ---- none is left, or one, or several

pub no_pile : (words lengths : List ℕ) → total lengths ≡ length words → count_left lengths ≡ 0 → piles_left words lengths ≡ []
no_pile words lengths e h = nil_from_length (piles_left words lengths) (sym (count_is words lengths e) ∙ h)

-- the pile that is left is the run
pub one_pile : (words lengths : List ℕ) → total lengths ≡ length words → count_left lengths ≡ 1 → piles_left words lengths ≡ words ∷ []
unfolding flatten
one_pile words lengths e h = go (piles_left words lengths) (left_are_the_run words lengths e) (sym (count_is words lengths e) ∙ h)
  where
    go : (ps : List (List ℕ)) → flatten ps ≡ words → length ps ≡ 1 → ps ≡ words ∷ []
    go [] f k = absurd (omega (arith, k))
    go (a ∷ []) f k = ap (λ (l : List ℕ). l ∷ []) (sym (append-nil a) ∙ f)
    go (a ∷ b ∷ ps) f k = absurd (omega (arith, k))

-- a pile that is left is not empty
not_empty : (ps : List (List ℕ)) (pile : List ℕ) → without is_empty ps ≡ pile ∷ [] → is_empty pile ≡ false
unfolding without
not_empty [] pile e = absurd (nil≢cons e)
not_empty (p ∷ ps) pile e = go (is_empty p) refl e (not_empty ps pile)
  where
    go : (b : Bool) → is_empty p ≡ b → cond b (without is_empty ps) (p ∷ without is_empty ps) ≡ pile ∷ [] → (without is_empty ps ≡ pile ∷ [] → is_empty pile ≡ false) → is_empty pile ≡ false
    go true f e rest = rest e
    go false f e rest = ap is_empty (sym (head-eq_of_cons-eq e)) ∙ f

no_clips : (s : HaplotypeCallerActivityScoringParams) → evidence_of (stratified_mean s []) ≡ Plain
unfolding evidence_of stratified_mean lt of_bits
no_clips s = refl

module _ (rounded : List ℕ → List Float) (activity : List Float → Activity) where
  pub several_piles : (ps : List (List ℕ)) → 2 ≤ length ps → set_activity_with rounded activity ps ≡ record { probability = any_non_ref activity (map rounded ps); original = zero_f }
  unfolding set_activity_with
  several_piles [] h = absurd (omega arith)
  several_piles (a ∷ []) h = absurd (omega arith)
  several_piles (a ∷ b ∷ ps) h = refl

  -- the state is the activity, and the evidence of the run's mean
  pub state_is : (contig : ℕ) (p : GenomePosition) (s : HaplotypeCallerActivityScoringParams) (words lengths : List ℕ) → total lengths ≡ length words
      → set_state_with rounded activity contig p s (piles_left words lengths) ≡ state contig p (set_activity_with rounded activity (piles_left words lengths)) (evidence_of (mean_of s words))
  unfolding set_state_with set_activity_with state_with flatten
  state_is contig p s words lengths e =
      go (piles_left words lengths) (left_are_the_run words lengths e) (mean_of_the_run s words lengths e) (not_empty (piles words lengths))
    where
      go : (ps : List (List ℕ)) → flatten ps ≡ words → stratified_mean s ps ≡ mean_of s words → ((pile : List ℕ) → ps ≡ pile ∷ [] → is_empty pile ≡ false)
          → set_state_with rounded activity contig p s ps ≡ state contig p (set_activity_with rounded activity ps) (evidence_of (mean_of s words))
      go [] f m some = ap (state contig p (record { probability = zero_f; original = zero_f })) (sym (no_clips s) ∙ ap evidence_of m)
      go (a ∷ []) f m some =
          ap (λ (b : Bool). cond b (empty_pile contig p) (state contig p (activity (rounded a)) (evidence_of (mean_of s a)))) (some a refl)
          ∙ ap (λ (l : List ℕ). state contig p (activity (rounded a)) (evidence_of (mean_of s l))) (sym (append-nil a) ∙ f)
      go (a ∷ b ∷ ps) f m some = ap (λ (x : Float). state contig p (record { probability = any_non_ref activity (map rounded (a ∷ b ∷ ps)); original = zero_f }) (evidence_of x)) m
