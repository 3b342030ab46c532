-- A rule of every element of a list, by one computed test. Assumes nothing.
use Rattle.std.specs.Prelude.{◌≡◌, Bool, true, ◌&&◌, length, get_or}
use Rattle.std.proofs.Common.{◌∙◌, zero-add, add-suc, suc-add, le_of_suc-le-suc, not-suc-le-zero}
use Rattle.std.proofs.Math.Path.{subst, sym}
use mathlib.Core.List.{List, [], ◌∷◌, ◌++◌}
use Prim.Native.Nat.{ℕ, zero, suc, ◌+◌, ◌<◌}
use Rattle.std.proofs.Math.Nat.{add-zero}
use Rattle.lists.specs.Tests.{and_left, and_right, and_both}

module _ {A : Type 0} where
  -- the test passes at each element and its place, counted from i
  unfoldable pub every : (ℕ → A → Bool) → ℕ → List A → Bool
  every f i [] = true
  every f i (x ∷ l) = f i x && every f (suc i) l

  from : (f : ℕ → A → Bool) (l : List A) (i : ℕ) → every f i l ≡ true → (k : ℕ) (d : A) → k < length l → f (i + k) (get_or l k d) ≡ true
  unfolding every
  from f [] i e k d h = absurd (not-suc-le-zero h)
  from f (x ∷ l) i e zero d h = rw add-zero (and_left (f i x) (every f (suc i) l) e)
  from f (x ∷ l) i e (suc k) d h =
      subst (λ (m : ℕ). f m (get_or l k d) ≡ true) (suc-add i k ∙ sym (add-suc i k))
      (from f l (suc i) (and_right (f i x) (every f (suc i) l) e) k d (le_of_suc-le-suc h))

  pub every-at : (f : ℕ → A → Bool) (l : List A) → every f 0 l ≡ true → (k : ℕ) (d : A) → k < length l → f k (get_or l k d) ≡ true
  every-at f l e k d h = subst (λ (m : ℕ). f m (get_or l k d) ≡ true) (zero-add k) (from f l 0 e k d h)

  -- a list in two parts, each tested by itself
  pub every_append : (f : ℕ → A → Bool) (l m : List A) (i : ℕ) → every f i l ≡ true → every f (i + length l) m ≡ true → every f i (l ++ m) ≡ true
  unfolding every
  every_append f [] m i p q = rw add-zero at q
  every_append f (x ∷ l) m i p q =
      and_both (f i x) (every f (suc i) (l ++ m)) (and_left (f i x) (every f (suc i) l) p)
      (every_append f l m (suc i) (and_right (f i x) (every f (suc i) l) p)
      (subst (λ (k : ℕ). every f k m ≡ true) (add-suc i (length l) ∙ sym (suc-add i (length l))) q))
