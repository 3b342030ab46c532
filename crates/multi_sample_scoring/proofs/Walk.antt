-- One turn and the end of the loops over a set's lengths and piles, and that passing over the empty piles on the way is leaving them out before.
-- Assumes nothing.
use mathlib.Core.Path.{◌≡◌, refl, sym}
use Rattle.std.specs.List.{fold, sum_by}
use mathlib.Core.Bool.{Bool, true, false, cond, not}
use mathlib.Core.List.{List, [], ◌∷◌, map}
use Prim.Native.Nat.{ℕ, ◌+◌, ◌≤◌, ◌<◌}
use native.Mathlib.Numerals.{add-one}
use native.Mathlib.Omega.{arith}
use lib.Dec.{eqb}
use lib.ListN.{length, get_or, take, drop, drop_of_length-le}
use lib.Seq.{drop-cons}
use lib.Ieee.{Float}
use Rattle.std.proofs.lemmas.List.Recursion.{is_sum_by}
use Rattle.lists.specs.Folds.{fold-same}
use Rattle.lists.specs.Without.{without}
use Rattle.genotype_likelihoods.specs.declared.HaplotypeCallerActivityScoringParams.{HaplotypeCallerActivityScoringParams}
use Rattle.activity_scoring.specs.Tables.{from_rounded_by, rounded_by}
use Rattle.multi_sample_scoring.specs.Sets.{piles, total, is_empty, with_sample}
use Rattle.multi_sample_scoring.specs.Passed.{with_length, count_left, with_pile}

-- the lengths that are not 0
pub counted_left : (lengths : List ℕ) → sum_by (λ n. cond (not (eqb n 0)) 1 0) lengths ≡ count_left lengths
counted_left lengths = fold-same (λ k n. k + cond (not (eqb n 0)) 1 0) with_length 0 lengths (λ k n. go k (eqb n 0))
  where
    go : (k : ℕ) (b : Bool) → k + cond (not b) 1 0 ≡ cond b k (k + 1)
    go k true = omega arith
    go k false = refl

pub total-turn : (lengths : List ℕ) (i : ℕ) → i < length lengths → total (drop i lengths) ≡ get_or lengths i 0 + total (drop (i + 1) lengths)
unfolding total
total-turn lengths i h = rw (add-one, drop-cons lengths i 0 h)

-- std's sum
pub summed : (lengths : List ℕ) → sum_by (λ n. n) lengths ≡ total lengths
unfolding total
summed lengths = sym (is_sum_by total (λ n. n) refl (λ x xs. refl) lengths)

-- what is left of the run begins with the pile that is next
pub piles-turn : {S : Type 0} (f : S → List ℕ → S) (q : S) (rest lengths : List ℕ) (i : ℕ) → i < length lengths
    → fold f (f q (take (get_or lengths i 0) rest)) (piles (drop (get_or lengths i 0) rest) (drop (i + 1) lengths)) ≡ fold f q (piles rest (drop i lengths))
unfolding piles
piles-turn f q rest lengths i h = rw (add-one, drop-cons lengths i 0 h)

pub piles_end : {S : Type 0} (f : S → List ℕ → S) (q : S) (words lengths : List ℕ) (i : ℕ) → length lengths ≤ i → fold f q (piles words (drop i lengths)) ≡ q
unfolding piles
piles_end f q words lengths i h = rw (drop_of_length-le lengths {i = i} h)

-- passed over on the way, or left out before
pub walk_is : (table priors : List Float) (s : HaplotypeCallerActivityScoringParams) (q : Float) (ps : List (List ℕ))
    → fold (with_pile table priors s) q ps ≡ fold (with_sample (from_rounded_by priors s)) q (map (λ (pile : List ℕ). rounded_by table pile s) (without is_empty ps))
unfolding without with_pile
walk_is table priors s q [] = refl
walk_is table priors s q (p ∷ ps) = go (is_empty p) (λ r. walk_is table priors s r ps)
  where
    go : (b : Bool) → ((r : Float) → fold (with_pile table priors s) r ps ≡ fold (with_sample (from_rounded_by priors s)) r (map (λ (pile : List ℕ). rounded_by table pile s) (without is_empty ps)))
        → fold (with_pile table priors s) (cond b q (with_sample (from_rounded_by priors s) q (rounded_by table p s))) ps
        ≡ fold (with_sample (from_rounded_by priors s)) q (map (λ (pile : List ℕ). rounded_by table pile s) (cond b (without is_empty ps) (p ∷ without is_empty ps)))
    go true rest = rest q
    go false rest = rest (with_sample (from_rounded_by priors s) q (rounded_by table p s))
