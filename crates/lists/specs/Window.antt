-- A part of a list rewritten, said by index.
use Rattle.std.specs.Prelude.{◌≡◌, refl, ◌⊎◌, Bool, true, false, cond, List, [], ◌∷◌, ◌++◌, ℕ, zero, suc, ◌+◌, ◌-◌, ◌<◌, ◌≤◌, ltb, length, get_or, take, drop}
use Rattle.std.proofs.Common.{sym, ap, ◌∙◌, ⊎_elim, inl, inr, not-suc-le-zero, le_of_suc-le-suc, add-sub_of_le, arith, lt-ltb, le-ltb, ltb-true, ltb-false, length-append, length-take, length-drop, ext_get_or, length-take-le, get_or-take, get_or-drop}
use Rattle.std.proofs.Math.Nat.{sub-zero, suc-sub-suc}
use Rattle.std.proofs.Math.ListN.{get_or-append}
use Rattle.lists.specs.Each.{each, get_or-each, length-each}

pub split : (b : Bool) → (b ≡ true) ⊎ (b ≡ false)
split true = inl refl
split false = inr refl

pub lt_or_le : (m n : ℕ) → (m < n) ⊎ (n ≤ m)
lt_or_le m n = ⊎_elim (λ e. inl (ltb-true m n e)) (λ e. inr (ltb-false m n e)) (split (ltb m n))

-- f from element lo up to hi, counted from lo; the others as they are
abbrev pub within : {A : Type 0} → ℕ → ℕ → (ℕ → A → A) → ℕ → A → A
within lo hi f k x = cond (ltb k lo) x (cond (ltb k hi) (f (k - lo) x) x)

module _ {A : Type 0} where
  pub get_or-append_right : (xs ys : List A) (k : ℕ) (d : A) → length xs ≤ k → get_or (xs ++ ys) k d ≡ get_or ys (k - length xs) d
  get_or-append_right [] ys k d h = rw sub-zero
  get_or-append_right (x ∷ xs) ys zero d h = absurd (not-suc-le-zero h)
  get_or-append_right (x ∷ xs) ys (suc k) d h = rw suc-sub-suc (get_or-append_right xs ys k d (le_of_suc-le-suc h))

  -- index k lies before the part, in it, or after it
  module _ (f : ℕ → A → A) (l : List A) (lo hi : ℕ) (d : A) (h₁ : lo ≤ hi) (h₂ : hi ≤ length l) where
    front : length (take lo l) ≡ lo
    front = length-take-le lo l (omega arith)

    middle : length (each f (take (hi - lo) (drop lo l))) ≡ hi - lo
    middle = length-each f _ ∙ length-take-le (hi - lo) (drop lo l) (simp length-drop (omega arith))

    abbrev pasted : List A
    pasted = take lo l ++ (each f (take (hi - lo) (drop lo l)) ++ drop (hi - lo) (drop lo l))

    before : (k : ℕ) → k < lo → get_or pasted k d ≡ get_or l k d
    before k h = get_or-append (take lo l) _ d k (rw front h) ∙ get_or-take lo l k d h

    past_front : (k : ℕ) → lo ≤ k → get_or pasted k d ≡ get_or (each f (take (hi - lo) (drop lo l)) ++ drop (hi - lo) (drop lo l)) (k - lo) d
    past_front k h = get_or-append_right (take lo l) _ k d (rw front h) ∙ rw front

    inside : (k : ℕ) → lo ≤ k → k < hi → get_or pasted k d ≡ f (k - lo) (get_or l k d)
    inside k h h' =
        let below : k - lo < hi - lo = omega arith in
        past_front k h
        ∙ get_or-append (each f (take (hi - lo) (drop lo l))) _ d (k - lo) (rw middle below)
        ∙ get_or-each f (take (hi - lo) (drop lo l)) (k - lo) d (rw (length-take-le (hi - lo) (drop lo l) (simp length-drop (omega arith))) below)
        ∙ ap (f (k - lo)) (get_or-take (hi - lo) (drop lo l) (k - lo) d below ∙ get_or-drop lo l (k - lo) d ∙ rw (add-sub_of_le h))

    after : (k : ℕ) → hi ≤ k → get_or pasted k d ≡ get_or l k d
    after k h =
        let e : lo + ((hi - lo) + (k - lo - (hi - lo))) ≡ k = omega arith in
        past_front k (omega arith)
        ∙ get_or-append_right (each f (take (hi - lo) (drop lo l))) _ (k - lo) d (rw middle (omega arith))
        ∙ rw middle (get_or-drop (hi - lo) (drop lo l) _ d ∙ get_or-drop lo l _ d ∙ rw e)

    at : (k : ℕ) → k < length l → get_or pasted k d ≡ get_or (each (within lo hi f) l) k d
    at k h =
        ⊎_elim
        (λ h₃. before k h₃ ∙ sym (get_or-each (within lo hi f) l k d h ∙ rw (lt-ltb k lo h₃)))
        (λ h₃. ⊎_elim
        (λ h₄. inside k h₃ h₄ ∙ sym (get_or-each (within lo hi f) l k d h ∙ rw (le-ltb k lo h₃, lt-ltb k hi h₄)))
        (λ h₄. after k h₄ ∙ sym (get_or-each (within lo hi f) l k d h ∙ rw (le-ltb k lo h₃, le-ltb k hi h₄)))
        (lt_or_le k hi))
        (lt_or_le k lo)

    same : length pasted ≡ length l
    same = simp (length-append, length-each, length-take, length-drop) (omega arith)

    pub each_window : take lo l ++ (each f (take (hi - lo) (drop lo l)) ++ drop (hi - lo) (drop lo l)) ≡ each (within lo hi f) l
    each_window = ext_get_or d _ _ (same ∙ sym (length-each _ l)) (λ k h. at k (rw same at h))
