-- Folds: one turn more; and a fold whose every turn rewrites each element of a list by a rule of its own, which element by element is a fold too.
-- Assumes nothing.
use Rattle.std.specs.Prelude.{◌≡◌, length, get_or, take, replicate}
use Rattle.std.specs.List.{fold}
use Rattle.std.proofs.Math.Path.{refl, ap}
use Rattle.std.proofs.Common.{◌∙◌, not-suc-le-zero, le_of_suc-le-suc, add-one}
use mathlib.Core.List.{List, [], ◌∷◌}
use Prim.Native.Nat.{ℕ, zero, suc, ◌+◌, ◌<◌}
use Rattle.lists.specs.Each.{each, up_to, tabulate}

module _ {S A : Type 0} where
  fold_suc : (f : S → A → S) (s : S) (l : List A) (i : ℕ) (d : A) → i < length l → fold f s (take (suc i) l) ≡ f (fold f s (take i l)) (get_or l i d)
  fold_suc f s [] i d h = absurd (not-suc-le-zero h)
  fold_suc f s (x ∷ l) zero d h = refl
  fold_suc f s (x ∷ l) (suc i) d h = fold_suc f (f s x) l i d (le_of_suc-le-suc h)

  -- one turn of a loop that has read the first i elements
  pub fold_more : (f : S → A → S) (s : S) (l : List A) (i : ℕ) (d : A) → i < length l → fold f s (take (i + 1) l) ≡ f (fold f s (take i l)) (get_or l i d)
  fold_more f s l i d h = rw add-one (fold_suc f s l i d h)

module _ {A : Type 0} where
  -- a rule that leaves every element as it is
  each-kept : (l : List A) → l ≡ each (λ k x. x) l
  unfolding each up_to
  each-kept [] = refl
  each-kept (x ∷ l) = ap (λ (t : List A). x ∷ t) (each-kept l)

  -- one rule after another
  each_twice : (f g : ℕ → A → A) (l : List A) → each g (each f l) ≡ each (λ k x. g k (f k x)) l
  unfolding each up_to
  each_twice f g [] = refl
  each_twice f g (x ∷ l) = ap (λ (t : List A). g 0 (f 0 x) ∷ t) (each_twice (λ k. f (suc k)) (λ k. g (suc k)) l)

  pub fold-each : {W : Type 0} (f : ℕ → A → W → A) (l : List A) (words : List W)
      → fold (λ (m : List A) (w : W). each (λ k x. f k x w) m) l words ≡ each (λ k x. fold (f k) x words) l
  fold-each f l [] = each-kept l
  fold-each f l (w ∷ words) = fold-each f (each (λ k x. f k x w) l) words ∙ each_twice (λ k x. f k x w) (λ k x. fold (f k) x words) l

  -- from one value everywhere
  pub each-replicate : (f : ℕ → A → A) (n : ℕ) (a : A) → each f (replicate n a) ≡ tabulate (λ k. f k a) n
  unfolding each up_to tabulate
  each-replicate f zero a = refl
  each-replicate f (suc n) a = ap (λ (t : List A). f 0 a ∷ t) (each-replicate (λ k. f (suc k)) n a)

  -- a rule that makes b of a wherever it stands
  pub each_alike : (f : ℕ → A → A) (n : ℕ) (a b : A) → ((k : ℕ) → f k a ≡ b) → each f (replicate n a) ≡ replicate n b
  unfolding each up_to
  each_alike f zero a b h = refl
  each_alike f (suc n) a b h = rw (h 0) (ap (λ (t : List A). b ∷ t) (each_alike (λ k. f (suc k)) n a b (λ k. h (suc k))))

  pub each-tabulate : (f : ℕ → A → A) (g : ℕ → A) (n : ℕ) → each f (tabulate g n) ≡ tabulate (λ k. f k (g k)) n
  unfolding each up_to tabulate
  each-tabulate f g zero = refl
  each-tabulate f g (suc n) = ap (λ (t : List A). f 0 (g 0) ∷ t) (each-tabulate (λ k. f (suc k)) (λ k. g (suc k)) n)

  -- two steps that agree
  pub fold-same : {W : Type 0} (f g : A → W → A) (a : A) (words : List W) → ((x : A) (w : W) → f x w ≡ g x w) → fold f a words ≡ fold g a words
  fold-same f g a [] h = refl
  fold-same f g a (w ∷ words) h = rw (h a w) (fold-same f g (g a w) words h)
