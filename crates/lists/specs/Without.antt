-- A list without those of its elements that pass a test, and folds that such elements leave as they are. Assumes nothing.
use Rattle.std.specs.Prelude.{◌≡◌, Bool, cond, ◌&&◌, get_or}
use Rattle.std.specs.List.{fold}
use Rattle.std.proofs.Math.Path.{refl}
use Rattle.std.proofs.Common.{sym, ◌∙◌, true≢false}
use Rattle.std.proofs.Math.Bool.{true, false}
use mathlib.Core.List.{List, [], ◌∷◌}
use Prim.Native.Nat.{ℕ, suc, ◌≤◌, ◌<◌}
use native.Mathlib.Omega.{arith}
use Rattle.std.proofs.Math.ListN.{length}

module _ {A : Type 0} where
  unfoldable pub without : (A → Bool) → List A → List A
  without p [] = []
  without p (x ∷ l) = let r = without p l in cond (p x) r (x ∷ r)

  pub length_without : (p : A → Bool) (l : List A) → length (without p l) ≤ length l
  unfolding without
  length_without p [] = omega arith
  length_without p (x ∷ l) = go (p x) (length_without p l)
    where
      go : (b : Bool) → length (without p l) ≤ length l → length (cond b (without p l) (x ∷ without p l)) ≤ suc (length l)
      go true h = omega arith
      go false h = omega arith

  -- of a list of such elements nothing is left
  pub without_all : (p : A → Bool) (l : List A) (d : A) → ((i : ℕ) → i < length l → p (get_or l i d) ≡ true) → without p l ≡ []
  unfolding without
  without_all p [] d h = refl
  without_all p (x ∷ l) d h = rw (h 0 (omega arith)) (without_all p l d (λ i k. h (suc i) (omega arith)))

  module _ {S : Type 0} where
    -- a fold that such elements leave as it is
    pub fold-without : (p : A → Bool) (f : S → A → S) (s : S) (l : List A) → ((r : S) (x : A) → p x ≡ true → f r x ≡ r) → fold f s (without p l) ≡ fold f s l
    unfolding without
    fold-without p f s [] h = refl
    fold-without p f s (x ∷ l) h = go (p x) refl (λ r. fold-without p f r l h)
      where
        go : (b : Bool) → p x ≡ b → ((r : S) → fold f r (without p l) ≡ fold f r l) → fold f s (cond b (without p l) (x ∷ without p l)) ≡ fold f (f s x) l
        go true e rest = rw (h s x e) (rest s)
        go false e rest = rest (f s x)

  -- whether every element passes a test, as a fold
  abbrev pub and_also : (A → Bool) → Bool → A → Bool
  and_also q b x = b && q x

  pub none_passes : (q : A → Bool) (l : List A) → fold (and_also q) false l ≡ false
  none_passes q [] = refl
  none_passes q (x ∷ l) = none_passes q l

  -- then so do those that are left
  pub all_without : (p q : A → Bool) (l : List A) → fold (and_also q) true l ≡ true → fold (and_also q) true (without p l) ≡ true
  unfolding without
  all_without p q [] e = refl
  all_without p q (x ∷ l) e = go (p x) (q x) refl e (all_without p q l)
    where
      go : (b c : Bool) → q x ≡ c → fold (and_also q) c l ≡ true → (fold (and_also q) true l ≡ true → fold (and_also q) true (without p l) ≡ true)
          → fold (and_also q) true (cond b (without p l) (x ∷ without p l)) ≡ true
      go true true h e rest = rest e
      go false true h e rest = rw (h, fold) (rest e)
      go b false h e rest = absurd (true≢false (sym e ∙ none_passes q l))

  -- that every element passes, element by element
  pub all_pass : (q : A → Bool) (l : List A) (d : A) → ((i : ℕ) → i < length l → q (get_or l i d) ≡ true) → fold (and_also q) true l ≡ true
  all_pass q [] d h = refl
  all_pass q (x ∷ l) d h = rw (h 0 (omega arith), fold) (all_pass q l d (λ i k. h (suc i) (omega arith)))
