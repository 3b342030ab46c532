-- What an accepted set tells: each of its piles is accepted alone, and where several are left its probability is made of theirs. Assumes nothing.
use Rattle.std.specs.Prelude.{◌≡◌, refl, Bool, true, false, cond, not, ◌||◌, List, [], ◌∷◌, map, ℕ, zero, suc, ◌+◌, ◌≤◌, ◌<◌, ltb, eqb, length, get_or, drop, Float}
use Rattle.std.specs.List.{fold}
use Rattle.std.proofs.Common.{sym, ap, ◌∙◌, true≢false, not-suc-le-zero, arith, eqb-true, ltb-false, length-drop, length-take-le, get_or-take, get_or-drop}
use Rattle.std.specs.Float.{binary64}
use Rattle.std.specs.Float.Ieee.{sub}
use Rattle.lists.specs.Tests.{not_false, or_left, or_right}
use Rattle.lists.specs.Without.{without, and_also, none_passes, all_pass}
use Rattle.doubles.specs.Constants.{zero_f, one_f}
use Rattle.genome.specs.declared.GenomePosition.{GenomePosition}
use Rattle.genome.specs.Refusals.{refused, answered}
use Rattle.pileup_words.specs.Words.{is_observation}
use Rattle.genotype_likelihoods.specs.declared.HaplotypeCallerActivityScoringParams.{HaplotypeCallerActivityScoringParams}
use Rattle.activity_profile.specs.declared.ActivityProfileState.{ActivityProfileState}
use Rattle.activity_scoring.specs.declared.Activity.{Activity}
use Rattle.activity_scoring.specs.Mean.{mean_of}
use Rattle.activity_scoring.specs.Score.{in_range, max_depth, all_observations, evidence_of, from_rounded, rounded_of, activity_of, state, empty_pile, state_with, state_of, score_with, score_of}
use Rattle.multi_sample_scoring.specs.Sets.{piles, total, is_empty, piles_left, likelihoods_of, with_sample, any_non_ref, max_piles, or_too_deep, any_too_deep, set_state_of, set_score_with, set_score_of}
use Rattle.multi_sample_scoring.specs.Passed.{count_left}
use Rattle.multi_sample_scoring.proofs.Piles.{count_is, several_piles, state_is}
use Rattle.multi_sample_scoring.specs.Members.{start_of, pile_at}
use Rattle.multi_sample_scoring.proofs.Members.{member}
use Rattle.multi_sample_scoring.specs.Accepted.{Accepted, with_probability, alone}

-- ---- what an answer tells of the tests before it

told : {A : Type 0} (a b c d e : Bool) (x y : A) → cond a (refused 12) (cond b (refused 1) (cond c (refused 4) (cond d (refused 3) (cond e (refused 3) (answered x))))) ≡ answered y
    → (a ≡ false) × (b ≡ false) × (c ≡ false) × (d ≡ false) × (e ≡ false) × (x ≡ y)
told true b c d e x y h = (cc, cc, cc, cc, cc, cc)
told false true c d e x y h = (cc, cc, cc, cc, cc, cc)
told false false true d e x y h = (cc, cc, cc, cc, cc, cc)
told false false false true e x y h = (cc, cc, cc, cc, cc, cc)
told false false false false true x y h = (cc, cc, cc, cc, cc, cc)
told false false false false false x y h = (refl, refl, refl, refl, refl, cc)

pub accepted_is : (p : GenomePosition) (words lengths : List ℕ) (s : HaplotypeCallerActivityScoringParams) (x r : ActivityProfileState)
    → set_score_with x p words lengths s ≡ answered r → Accepted p words lengths s × (x ≡ r)
unfolding set_score_with
accepted_is p words lengths s x r h =
    let t = told (ltb max_piles (length lengths)) (not (in_range p s)) (any_too_deep lengths) (not (eqb (total lengths) (length words))) (not (all_observations words)) x r h in (
      record {
        few = ltb-false max_piles (length lengths) t.0;
        ranged = not_false (in_range p s) t.1;
        shallow = t.2;
        whole = eqb-true (total lengths) (length words) (not_false (eqb (total lengths) (length words)) t.3);
        observed = not_false (all_observations words) t.4;
      },
      t.5,
    )

-- ---- each pile alone

begun : (b : Bool) (lengths : List ℕ) → fold or_too_deep b lengths ≡ false → b ≡ false
begun b [] h = h
begun b (n ∷ lengths) h = or_left b (ltb max_depth n) (begun (b || ltb max_depth n) lengths h)

shallow_at : (b : Bool) (lengths : List ℕ) (i : ℕ) → fold or_too_deep b lengths ≡ false → i < length lengths → ltb max_depth (get_or lengths i 0) ≡ false
shallow_at b [] i h k = absurd (not-suc-le-zero k)
shallow_at b (n ∷ lengths) zero h k = or_right b (ltb max_depth n) (begun (b || ltb max_depth n) lengths h)
shallow_at b (n ∷ lengths) (suc i) h k = shallow_at (b || ltb max_depth n) lengths i h (omega arith)

passes_at : (q : ℕ → Bool) (l : List ℕ) (i : ℕ) → fold (and_also q) true l ≡ true → i < length l → q (get_or l i 0) ≡ true
passes_at q [] i h k = absurd (not-suc-le-zero k)
passes_at q (x ∷ l) i h k = go (q x) refl h i k (λ e j m. passes_at q l j e m)
  where
    go : (b : Bool) → q x ≡ b → fold (and_also q) b l ≡ true → (i : ℕ) → i < suc (length l) → (fold (and_also q) true l ≡ true → (j : ℕ) → j < length l → q (get_or l j 0) ≡ true) → q (get_or (x ∷ l) i 0) ≡ true
    go true f e zero k rest = f
    go true f e (suc i) k rest = rest e i (omega arith)
    go false f e i k rest = absurd (true≢false (sym e ∙ none_passes q l))

-- a pile of an accepted set, empty or not, is accepted alone
pub pile_accepted : (contig : ℕ) (p : GenomePosition) (words lengths : List ℕ) (s : HaplotypeCallerActivityScoringParams) → Accepted p words lengths s → (i : ℕ) → i < length lengths
    → score_of contig p (pile_at words lengths i) s ≡ answered (state_of contig p (pile_at words lengths i) s)
unfolding score_with
pile_accepted contig p words lengths s a i h =
    let from = start_of lengths i in
    let n = get_or lengths i 0 in
    let in-run = (member s words lengths a.whole i h).within in
    let size : length (pile_at words lengths i) ≡ n = length-take-le n (drop from words) (omega (arith, in-run, length-drop from words)) in
    let observed : all_observations (pile_at words lengths i) ≡ true =
    all_pass is_observation (pile_at words lengths i) 0
    (λ j k. ap is_observation (get_or-take n (drop from words) j 0 (omega (arith, k, size)) ∙ get_or-drop from words j 0) ∙ passes_at is_observation words (from + j) a.observed (omega (arith, k, size, in-run))) in
    rw (a.ranged, size, shallow_at false lengths i a.shallow h, observed)

-- ---- the probability, by the piles' own

alone_is : (contig : ℕ) (p : GenomePosition) (s : HaplotypeCallerActivityScoringParams) (pile : List ℕ) → is_empty pile ≡ false → (from_rounded s (rounded_of pile s)).probability ≡ alone contig p s pile
unfolding state_with activity_of
alone_is contig p s pile e = ap (λ (b : Bool). (cond b (empty_pile contig p) (state contig p (activity_of pile s) (evidence_of (mean_of s pile)))).active_prob) (sym e)

by_scores : (contig : ℕ) (p : GenomePosition) (s : HaplotypeCallerActivityScoringParams) (q : Float) (ps : List (List ℕ))
    → fold (with_sample (from_rounded s)) q (map (λ (pile : List ℕ). rounded_of pile s) (without is_empty ps)) ≡ fold with_probability q (map (alone contig p s) (without is_empty ps))
unfolding without
by_scores contig p s q [] = refl
by_scores contig p s q (pile ∷ ps) = go (is_empty pile) refl (λ r. by_scores contig p s r ps)
  where
    go : (b : Bool) → is_empty pile ≡ b → ((r : Float) → fold (with_sample (from_rounded s)) r (map (λ (pile : List ℕ). rounded_of pile s) (without is_empty ps)) ≡ fold with_probability r (map (alone contig p s) (without is_empty ps)))
        → fold (with_sample (from_rounded s)) q (map (λ (pile : List ℕ). rounded_of pile s) (cond b (without is_empty ps) (pile ∷ without is_empty ps)))
        ≡ fold with_probability q (map (alone contig p s) (cond b (without is_empty ps) (pile ∷ without is_empty ps)))
    go true e rest = rest q
    go false e rest =
        rest (with_sample (from_rounded s) q (rounded_of pile s)) ∙ ap (λ (x : Float). fold with_probability (with_probability q x) (map (alone contig p s) (without is_empty ps))) (alone_is contig p s pile e)

-- Where several piles are left, the probability is made of just the likelihoods of which `Member` speaks.
pub several_left : (contig : ℕ) (p : GenomePosition) (words lengths : List ℕ) (s : HaplotypeCallerActivityScoringParams) → total lengths ≡ length words → 2 ≤ count_left lengths
    → set_state_of contig p words lengths s
    ≡ state contig p (record { probability = any_non_ref (from_rounded s) (likelihoods_of s (piles_left words lengths)); original = zero_f }) (evidence_of (mean_of s words))
several_left contig p words lengths s e h =
    state_is (λ (pile : List ℕ). rounded_of pile s) (from_rounded s) contig p s words lengths e
    ∙ ap (λ (x : Activity). state contig p x (evidence_of (mean_of s words)))
    (several_piles (λ (pile : List ℕ). rounded_of pile s) (from_rounded s) (piles_left words lengths) (omega (arith, h, count_is words lengths e)))

-- Where several piles are left: 1 less the product, in the order of the piles, of 1 less what each scores alone; original 0.0; the evidence of the run's mean.
pub set_of_scores : (contig : ℕ) (p : GenomePosition) (words lengths : List ℕ) (s : HaplotypeCallerActivityScoringParams) (r : ActivityProfileState)
    → set_score_of contig p words lengths s ≡ answered r → 2 ≤ count_left lengths
    → r ≡ state contig p (record { probability = sub binary64 one_f (fold with_probability one_f (map (alone contig p s) (piles_left words lengths))); original = zero_f }) (evidence_of (mean_of s words))
unfolding any_non_ref
set_of_scores contig p words lengths s r e h =
    let a = accepted_is p words lengths s (set_state_of contig p words lengths s) r e in
    sym a.1
    ∙ several_left contig p words lengths s a.0.whole h
    ∙ ap (λ (q : Float). state contig p (record { probability = sub binary64 one_f q; original = zero_f }) (evidence_of (mean_of s words))) (by_scores contig p s one_f (piles words lengths))
