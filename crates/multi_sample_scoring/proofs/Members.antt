-- Each member's skipped words and likelihoods are those that it has alone: the proof of specs/Members.antt. Assumes nothing.
use Rattle.std.specs.Prelude.{◌≡◌, refl, Bool, true, false, cond, List, [], ◌∷◌, map, ℕ, zero, suc, ◌+◌, ◌≤◌, ◌<◌, eqb, length, get_or, take, drop, Float}
use Rattle.std.specs.List.{fold}
use Rattle.std.proofs.Common.{ap, ◌∙◌, not-suc-le-zero, arith, ne_eqb, length-drop, length-take-le, drop-drop}
use Rattle.std.proofs.lemmas.List.{take-map, drop-map}
use Rattle.lists.specs.Without.{without, fold-without}
use Rattle.genotype_likelihoods.specs.declared.HaplotypeCallerActivityScoringParams.{HaplotypeCallerActivityScoringParams}
use Rattle.genotype_likelihoods.specs.Observation.{skipped}
use Rattle.genotype_likelihoods.proofs.Skipped.{likelihoods-without}
use Rattle.activity_scoring.specs.declared.RunningMean.{RunningMean}
use Rattle.activity_scoring.specs.Mean.{with_word, none}
use Rattle.activity_scoring.specs.Score.{rounded_of}
use Rattle.multi_sample_scoring.specs.Sets.{piles, total, piles_left, likelihoods_of, with_words, stratified_mean}
use Rattle.multi_sample_scoring.specs.Passed.{with_length, count_left}
use Rattle.multi_sample_scoring.specs.Members.{start_of, pile_at, Member}

within_run : (lengths : List ℕ) (i : ℕ) → start_of lengths i + get_or lengths i 0 ≤ total lengths
unfolding total
within_run [] zero = omega arith
within_run [] (suc i) = omega arith
within_run (n ∷ lengths) zero = omega arith
within_run (n ∷ lengths) (suc i) = omega (arith, within_run lengths i)

pile_at_lem : (words lengths : List ℕ) (i : ℕ) → i < length lengths → get_or (piles words lengths) i [] ≡ pile_at words lengths i
unfolding piles total
pile_at_lem words [] i h = absurd (not-suc-le-zero h)
pile_at_lem words (n ∷ lengths) zero h = refl
pile_at_lem words (n ∷ lengths) (suc i) h = pile_at_lem (drop n words) lengths i (omega arith) ∙ ap (take (get_or lengths i 0)) (drop-drop (total (take i lengths)) n words)

-- how many lengths are not 0, one length more
pub count_more : (k : ℕ) (lengths : List ℕ) → fold with_length k lengths ≡ k + count_left lengths
count_more k [] = omega arith
count_more k (n ∷ lengths) = go (eqb n 0) (λ j. count_more j lengths)
  where
    go : (b : Bool) → ((j : ℕ) → fold with_length j lengths ≡ j + count_left lengths) → fold with_length (cond b k (k + 1)) lengths ≡ k + fold with_length (cond b 0 (0 + 1)) lengths
    go true rest = rest k
    go false rest = omega (arith, rest (k + 1), rest 1)

likelihoods-at : (s : HaplotypeCallerActivityScoringParams) (words lengths : List ℕ) (i : ℕ) → total lengths ≤ length words → i < length lengths → 0 < get_or lengths i 0
    → get_or (likelihoods_of s (piles_left words lengths)) (count_left (take i lengths)) [] ≡ rounded_of (get_or (piles words lengths) i []) s
unfolding piles total without
likelihoods-at s words [] i few h some = absurd (not-suc-le-zero h)
likelihoods-at s words (n ∷ lengths) zero few h some =
    rw (length-take-le n words (omega arith), ne_eqb n 0 (λ e. absurd (omega (arith, e))))
likelihoods-at s words (n ∷ lengths) (suc i) few h some =
    rw (length-take-le n words (omega arith)) (go (eqb n 0) (likelihoods-at s (drop n words) lengths i (omega (arith, length-drop n words)) (omega arith) some))
  where
    go : (b : Bool) → get_or (likelihoods_of s (piles_left (drop n words) lengths)) (count_left (take i lengths)) [] ≡ rounded_of (get_or (piles (drop n words) lengths) i []) s
        → get_or (likelihoods_of s (cond b (piles_left (drop n words) lengths) (take n words ∷ piles_left (drop n words) lengths))) (fold with_length (cond b 0 (0 + 1)) (take i lengths)) []
        ≡ rounded_of (get_or (piles (drop n words) lengths) i []) s
    go true e = e
    go false e =
        let next : fold with_length (0 + 1) (take i lengths) ≡ suc (count_left (take i lengths)) = omega (arith, count_more (0 + 1) (take i lengths)) in
        rw next e

-- every member of every set whose lengths add up to its run
pub member : (s : HaplotypeCallerActivityScoringParams) (words lengths : List ℕ) → total lengths ≡ length words → (i : ℕ) → i < length lengths → Member s words lengths i
member s words lengths e i h = record {
  within = omega (arith, e, within_run lengths i);
  pile = pile_at_lem words lengths i h;
  skips = ap (take (get_or lengths i 0)) (drop-map (skipped s) (start_of lengths i) words) ∙ take-map (skipped s) (get_or lengths i 0) (drop (start_of lengths i) words);
  likelihoods = λ some. likelihoods-at s words lengths i (omega (arith, e)) h some ∙ ap (λ (pile : List ℕ). rounded_of pile s) (pile_at_lem words lengths i h);
}

-- ---- what is skipped settles nothing in the set, but that its pile is not empty

pub likelihoods_of-counted : (s : HaplotypeCallerActivityScoringParams) (ps : List (List ℕ)) → likelihoods_of s (map (without (skipped s)) ps) ≡ likelihoods_of s ps
likelihoods_of-counted s [] = refl
likelihoods_of-counted s (pile ∷ ps) = rw (likelihoods-without s (s.sample_ploidy.0 + 1) pile) (ap (λ (l : List (List Float)). rounded_of pile s ∷ l) (likelihoods_of-counted s ps))

counted-from : (s : HaplotypeCallerActivityScoringParams) (r : RunningMean) (ps : List (List ℕ)) → fold (with_words s) r (map (without (skipped s)) ps) ≡ fold (with_words s) r ps
unfolding with_word
counted-from s r [] = refl
counted-from s r (pile ∷ ps) =
    ap (λ (q : RunningMean). fold (with_words s) q (map (without (skipped s)) ps)) (fold-without (skipped s) (with_word s) r pile (λ q w e. rw e))
    ∙ counted-from s (with_words s r pile) ps

pub mean_of-counted : (s : HaplotypeCallerActivityScoringParams) (ps : List (List ℕ)) → stratified_mean s (map (without (skipped s)) ps) ≡ stratified_mean s ps
unfolding stratified_mean
mean_of-counted s ps = ap (λ (r : RunningMean). r.mean) (counted-from s none ps)
