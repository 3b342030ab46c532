-- The cut: of all the cells that qualify from index min − 1 to max − 1 it is a smallest one, and of those the highest. So the walk of the definition says what
-- document 01 says: "The smallest wins, the higher index on ties". For cells of any content. Assumes nothing.
use mathlib.Core.Path.{◌≡◌, refl, sym, subst, ◌∙◌}
use mathlib.Core.Bool.{Bool, true, false, cond, ◌&&◌, ◌||◌, true≢false}
use mathlib.Core.List.{List}
use mathlib.Core.Logic.{◌⊎◌, inl, inr}
use Prim.Native.Nat.{ℕ, zero, suc, ◌+◌, ◌-◌, ◌≤◌, ◌<◌}
use native.Mathlib.Nat.{eq-or-lt_of_le}
use native.Mathlib.Omega.{arith}
use lib.Dec.{T, leb, ltb, eqb}
use lib.ListN.{length}
use borrow.Author.Tests.{leb-true, le-leb, ne_eqb}
use lib.Ieee.{Float, le, lt}
use Rattle.lists.specs.Loops.{down}
use Rattle.lists.specs.Tests.{and_left, and_right}
use Rattle.double_ranges.specs.Order.{Number, at_most_refl, at_most_of_lt, at_most_of_le, at_most_of_not_lt, at_most_not_lt, number_below, lt-at_most}
use Rattle.activity_profile.specs.Loci.{cell}
use Rattle.activity_profile.specs.Pop.{qualifies, beats, replaces, better, best_cut_site}

module _ (xs : List Float) (least most : ℕ) where
  -- a size that the cut may choose: its last cell, at index k − 1, qualifies
  pub record MayCut (k : ℕ) : Type 0 where
    pub from_least : least ≤ k
    pub to_most : k ≤ most
    pub qualified : qualifies xs (k - 1) ≡ true

  abbrev last : ℕ → Float
  last k = cell xs (k - 1)

  -- of the sizes above j, n is one whose last cell is as small as any, and of equals the highest
  pub record SmallestAbove (j n : ℕ) : Type 0 where
    pub above : j < n
    pub chosen : MayCut n
    pub smallest : (k : ℕ) → j < k → MayCut k → lt (last k) (last n) ≡ false
    pub highest : (k : ℕ) → n < k → MayCut k → lt (last n) (last k) ≡ true

  -- or there is none
  pub record NoneAbove (j n : ℕ) : Type 0 where
    pub none : n ≡ 0
    pub no_cut : (k : ℕ) → j < k → MayCut k → ⊥

  abbrev pub BestAbove : ℕ → ℕ → Type 0
  BestAbove j n = NoneAbove j n ⊎ SmallestAbove j n

  -- a cell that qualifies is a number
  number : (k : ℕ) → MayCut k → Number (last k)
  unfolding qualifies
  number k c =
      let inside = ltb 0 (k - 1) && ltb (k - 1 + 1) (length xs) in
      let right = and_right inside (le (last k) (cell xs (k - 1 + 1))) (and_left (inside && le (last k) (cell xs (k - 1 + 1))) (lt (last k) (cell xs (k - 1 - 1))) c.qualified) in
      number_below (last k) (cell xs (k - 1 + 1)) (at_most_of_le (last k) (cell xs (k - 1 + 1)) (subst T (sym right) tt))

  not_below_itself : (k : ℕ) → MayCut k → lt (last k) (last k) ≡ false
  not_below_itself k c = at_most_not_lt (last k) (last k) (at_most_refl (last k) (number k c))

  -- one that is below the smallest is below them all
  below_all : (j n k : ℕ) (x : Float) → SmallestAbove j n → lt x (last n) ≡ true → j < k → MayCut k → lt x (last k) ≡ true
  below_all j n k x s h l c = lt-at_most x (last n) (last k) h (at_most_of_not_lt (last k) (last n) (number k c) (number n s.chosen) (s.smallest k l c))

  back : (x y : Float) → lt x y ≡ true → lt y x ≡ false
  back x y h = at_most_not_lt y x (at_most_of_lt x y h)

  -- a size above j is the next one or above that
  next_or_above : (j k : ℕ) → j < k → (suc j ≡ k) ⊎ (suc j < k)
  next_or_above j k l = eq-or-lt_of_le l

  -- size suc j takes the place of the best above it
  taken : (j b : ℕ) → MayCut (suc j) → ((k : ℕ) → suc j < k → MayCut k → lt (last (suc j)) (last k) ≡ true) → SmallestAbove j (suc j)
  taken j b c low = record {
    above = omega arith;
    chosen = c;
    smallest = λ k l m. small k m (next_or_above j k l);
    highest = low;
  }
    where
      small : (k : ℕ) → MayCut k → (suc j ≡ k) ⊎ (suc j < k) → lt (last k) (last (suc j)) ≡ false
      small k m (inl e) = subst (λ (i : ℕ). lt (last i) (last (suc j)) ≡ false) e (not_below_itself (suc j) c)
      small k m (inr l) = back (last (suc j)) (last k) (low k l m)

  -- or the best above it stays
  stays : (j b : ℕ) → SmallestAbove (suc j) b → (MayCut (suc j) → lt (last (suc j)) (last b) ≡ false) → SmallestAbove j b
  stays j b s n = record {
    above = omega (arith, s.above);
    chosen = s.chosen;
    smallest = λ k l m. small k m (next_or_above j k l);
    highest = s.highest;
  }
    where
      small : (k : ℕ) → MayCut k → (suc j ≡ k) ⊎ (suc j < k) → lt (last k) (last b) ≡ false
      small k m (inl e) = subst (λ (i : ℕ). lt (last i) (last b) ≡ false) e (n (subst MayCut (sym e) m))
      small k m (inr l) = s.smallest k l m

  still_none : (j b : ℕ) → NoneAbove (suc j) b → (MayCut (suc j) → ⊥) → NoneAbove j b
  still_none j b s n = record { none = s.none; no_cut = λ k l m. no k m (next_or_above j k l) }
    where
      no : (k : ℕ) → MayCut k → (suc j ≡ k) ⊎ (suc j < k) → ⊥
      no k m (inl e) = n (subst MayCut (sym e) m)
      no k m (inr l) = s.no_cut k l m

  -- size suc j, after all those above it
  step : (j b : ℕ) → suc j ≤ most → BestAbove (suc j) b → BestAbove j (better xs least (suc j) b)
  unfolding better replaces beats
  step j b h best = go (leb least (suc j)) (qualifies xs (suc j - 1)) refl refl best
    where
      may : leb least (suc j) ≡ true → qualifies xs (suc j - 1) ≡ true → MayCut (suc j)
      may a q = record { from_least = leb-true least (suc j) a; to_most = h; qualified = q }

      cannot_least : leb least (suc j) ≡ false → MayCut (suc j) → ⊥
      cannot_least e c = true≢false (sym (le-leb least (suc j) c.from_least) ∙ e)

      cannot_qualify : qualifies xs (suc j - 1) ≡ false → MayCut (suc j) → ⊥
      cannot_qualify e c = true≢false (sym c.qualified ∙ e)

      -- it may not be chosen
      unmoved : (MayCut (suc j) → ⊥) → BestAbove (suc j) b → BestAbove j b
      unmoved n (inl s) = inl (still_none j b s n)
      unmoved n (inr s) = inr (stays j b s (λ c. absurd (n c)))

      -- it may, and is if it is below the best so far
      tried : MayCut (suc j) → (l : Bool) → lt (last (suc j)) (last b) ≡ l → BestAbove (suc j) b → BestAbove j (cond (eqb b 0 || l) (suc j) b)
      tried c l e (inl s) = rw s.none (inr (taken j b c (λ k g m. absurd (s.no_cut k g m))))
      tried c true e (inr s) = rw (ne_eqb b 0 (λ z. absurd (omega (arith, z, s.above)))) (inr (taken j b c (λ k g m. below_all (suc j) b k (last (suc j)) s e g m)))
      tried c false e (inr s) = rw (ne_eqb b 0 (λ z. absurd (omega (arith, z, s.above)))) (inr (stays j b s (λ m. e)))

      and_false : (a : Bool) → (a && false) ≡ false
      and_false true = refl
      and_false false = refl

      and_true : (a : Bool) → (a && true) ≡ a
      and_true true = refl
      and_true false = refl

      go : (a q : Bool) → leb least (suc j) ≡ a → qualifies xs (suc j - 1) ≡ q → BestAbove (suc j) b → BestAbove j (cond (a && ((eqb b 0 || lt (last (suc j)) (last b)) && q)) (suc j) b)
      go false q ea eq best = unmoved (cannot_least ea) best
      go true false ea eq best = rw (and_false (eqb b 0 || lt (last (suc j)) (last b))) (unmoved (cannot_qualify eq) best)
      go true true ea eq best = rw (and_true (eqb b 0 || lt (last (suc j)) (last b))) (tried (may ea eq) (lt (last (suc j)) (last b)) refl best)

  walk : (k b : ℕ) → k ≤ most → BestAbove k b → BestAbove 0 (down (better xs least) k b)
  unfolding down
  walk zero b h best = best
  walk (suc k) b h best = walk k (better xs least (suc k) b) (omega (arith, h)) (step k b h best)

  -- What `best_cut_site` answers: 0 where no cell from index min − 1 to max − 1 qualifies, else the size up to a smallest one, the highest of those.
  pub cut_smallest : BestAbove 0 (best_cut_site xs least most)
  unfolding best_cut_site
  cut_smallest = walk most 0 (omega arith) (inl (record { none = refl; no_cut = λ k l c. omega (arith, l, c.to_most) }))
