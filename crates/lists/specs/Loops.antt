-- Loops as definitions, each with the law of one turn and the law of the end.
-- Assumes nothing.
use Rattle.std.specs.Prelude.{◌≡◌, Bool, get_or, drop}
use Rattle.std.specs.List.{fold}
use Rattle.std.proofs.Math.Path.{refl}
use Rattle.std.proofs.Common.{◌∙◌, not-suc-le-zero, le_of_suc-le-suc, drop_of_length-le}
use Rattle.std.proofs.Math.Bool.{true, false, cond}
use mathlib.Core.List.{List, [], ◌∷◌}
use Prim.Native.Nat.{ℕ, zero, suc, ◌+◌, ◌-◌, ◌<◌, ◌≤◌}
use Rattle.std.proofs.Math.Nat.{add-zero}
use native.Mathlib.Omega.{arith}
use Rattle.std.proofs.Math.Numerals.{sub-one, add-one}
use Rattle.std.proofs.Math.ListN.{length}
use Rattle.std.proofs.Math.Seq.{drop-cons}

module _ {S : Type 0} where
  -- f k, f (k - 1) .. f 1 from s: a loop that counts k down to 0
  unfoldable pub down : (ℕ → S → S) → ℕ → S → S
  down f zero s = s
  down f (suc k) s = down f k (f (suc k) s)

  pub down_turn : (f : ℕ → S → S) (k : ℕ) (s : S) → 0 < k → down f (k - 1) (f k s) ≡ down f k s
  unfolding down
  down_turn f zero s h = absurd (not-suc-le-zero h)
  down_turn f (suc k) s h = rw sub-one

  pub down_end : (f : ℕ → S → S) (k : ℕ) (s : S) → k ≤ 0 → down f k s ≡ s
  unfolding down
  down_end f zero s h = refl
  down_end f (suc k) s h = absurd (not-suc-le-zero h)

  -- f until the test passes, at most n times: a loop with a budget
  unfoldable pub until : (S → Bool) → (S → S) → ℕ → S → S
  until p f zero s = s
  until p f (suc n) s = let r = until p f n (f s) in cond (p s) s r

  pub until_stop : (p : S → Bool) (f : S → S) (n : ℕ) (s : S) → p s ≡ true → until p f n s ≡ s
  unfolding until
  until_stop p f zero s h = refl
  until_stop p f (suc n) s h = rw h

  pub until-turn : (p : S → Bool) (f : S → S) (n : ℕ) (s : S) → 0 < n → p s ≡ false → until p f (n - 1) (f s) ≡ until p f n s
  unfolding until
  until-turn p f zero s h e = absurd (not-suc-le-zero h)
  until-turn p f (suc n) s h e = rw (sub-one, e)

  pub until_end : (p : S → Bool) (f : S → S) (n : ℕ) (s : S) → n ≤ 0 → until p f n s ≡ s
  unfolding until
  until_end p f zero s h = refl
  until_end p f (suc n) s h = absurd (not-suc-le-zero h)

  -- f i, f (i + 1) .. n times from s: a loop that counts i up, with n turns left
  unfoldable pub along : (ℕ → S → S) → ℕ → ℕ → S → S
  along f i zero s = s
  along f i (suc n) s = along f (suc i) n (f i s)

  pub along-turn : (f : ℕ → S → S) (i n : ℕ) (s : S) → i < n → along f (i + 1) (n - (i + 1)) (f i s) ≡ along f i (n - i) s
  unfolding along
  along-turn f i n s h =
      let e : n - i ≡ suc (n - (i + 1)) = omega arith in
      rw (e, add-one) (along_suc f i (n - suc i) s)
    where
      along_suc : (f : ℕ → S → S) (i k : ℕ) (s : S) → along f (suc i) k (f i s) ≡ along f i (suc k) s
      along_suc f i k s = refl

  -- k turns at once
  pub along_turns : (f : ℕ → S → S) (i k n : ℕ) (s : S) → i + k ≤ n → along f (i + k) (n - (i + k)) (along f i k s) ≡ along f i (n - i) s
  unfolding along
  along_turns f i zero n s h = rw add-zero
  along_turns f i (suc k) n s h =
      let e : i + suc k ≡ suc i + k = omega arith in
      rw e (along_turns f (suc i) k n (f i s) (omega arith) ∙ rw (← add-one i) (along-turn f i n s (omega arith)))

  pub along_end : (f : ℕ → S → S) (i n : ℕ) (s : S) → n ≤ i → along f i (n - i) s ≡ s
  unfolding along
  along_end f i n s h = let e : n - i ≡ 0 = omega arith in rw e

  -- left to right over a list: `fold` of std
  module _ {A : Type 0} where
    -- one turn of a loop that reads l[i]: what is left is drop i l
    pub fold-turn : (f : S → A → S) (s : S) (l : List A) (i : ℕ) (d : A) → i < length l → fold f (f s (get_or l i d)) (drop (i + 1) l) ≡ fold f s (drop i l)
    fold-turn f s l i d h = rw (add-one, drop-cons l i d h)

    pub fold_end : (f : S → A → S) (s : S) (l : List A) (i : ℕ) → length l ≤ i → fold f s (drop i l) ≡ s
    fold_end f s [] zero h = refl
    fold_end f s [] (suc i) h = refl
    fold_end f s (x ∷ l) zero h = absurd (not-suc-le-zero h)
    fold_end f s (x ∷ l) (suc i) h = fold_end f s l i (le_of_suc-le-suc h)

module _ {A : Type 0} where
  -- the index of the first element that passes the test, or the length
  unfoldable pub first_at : (A → Bool) → List A → ℕ
  first_at p [] = 0
  first_at p (x ∷ l) = let r = suc (first_at p l) in cond (p x) 0 r

  pub first_at_stop : (p : A → Bool) (l : List A) (i : ℕ) (d : A) → i < length l → p (get_or l i d) ≡ true → i + first_at p (drop i l) ≡ i
  unfolding first_at
  first_at_stop p l i d h e = rw (drop-cons l i d h, e, add-zero)

  pub first_at-turn : (p : A → Bool) (l : List A) (i : ℕ) (d : A) → i < length l → p (get_or l i d) ≡ false → (i + 1) + first_at p (drop (i + 1) l) ≡ i + first_at p (drop i l)
  unfolding first_at
  first_at-turn p l i d h e = rw (add-one, drop-cons l i d h, e) (omega arith)

  pub first_at_end : (p : A → Bool) (l : List A) (i : ℕ) → length l ≤ i → i + first_at p (drop i l) ≡ i
  unfolding first_at
  first_at_end p l i h = rw (drop_of_length-le l h, add-zero)

  pub first_at-le : (p : A → Bool) (l : List A) → first_at p l ≤ length l
  unfolding first_at
  first_at-le p [] = omega arith
  first_at-le p (x ∷ l) = go (p x) (first_at-le p l)
    where
      go : (c : Bool) → first_at p l ≤ length l → cond c 0 (suc (first_at p l)) ≤ suc (length l)
      go true h = omega arith
      go false h = omega arith

  -- what stands before the first does not pass
  pub first_at_before : (p : A → Bool) (l : List A) (i : ℕ) (d : A) → i < first_at p l → p (get_or l i d) ≡ false
  unfolding first_at
  first_at_before p [] i d h = absurd (not-suc-le-zero h)
  first_at_before p (x ∷ l) zero d h = go (p x) h
    where
      go : (c : Bool) → 0 < cond c 0 (suc (first_at p l)) → c ≡ false
      go true k = absurd (omega arith)
      go false k = refl
  first_at_before p (x ∷ l) (suc i) d h = first_at_before p l i d (go (p x) h)
    where
      go : (c : Bool) → suc i < cond c 0 (suc (first_at p l)) → i < first_at p l
      go true k = absurd (omega arith)
      go false k = omega arith

  pub first_at_some : (p : A → Bool) (l : List A) (d : A) → 1 ≤ length l → p (get_or l 0 d) ≡ false → 1 ≤ first_at p l
  unfolding first_at
  first_at_some p [] d h e = h
  first_at_some p (x ∷ l) d h e = rw e (omega arith)
