-- A number in its columns: the digits are written over blanks, so that what is left of the blanks stands in front. Assumes nothing.
use mathlib.Core.Path.{◌≡◌, refl, sym, ap, ◌∙◌}
use mathlib.Core.Bool.{Bool, true, false, cond}
use mathlib.Core.List.{List, [], ◌∷◌, ◌++◌, append_assoc}
use Prim.Native.Nat.{ℕ, zero, suc, ◌+◌, ◌-◌, ◌/◌, ◌%◌, ◌^◌, ◌≤◌, ◌<◌}
use native.Mathlib.Omega.{arith}
use borrow.Author.Tests.{ltb-false}
use native.Mathlib.Numerals.{sub-one}
use lib.Dec.{ltb}
use lib.ListN.{length, take, drop, set, replicate, replicate-append-replicate}
use Rattle.std.proofs.lemmas.List.{take-take, take-replicate}
use Rattle.region_text.specs.Text.{blank, line_feed, digit, digits_onto, decimal, flag}
use Rattle.region_sheet.specs.Row.{right_aligned, position_columns, flag_columns, row_text}

-- ---- the digits of a number

-- they stand before the text, whatever it is
digits_before : (k n : ℕ) (s t : List ℕ) → digits_onto k n (s ++ t) ≡ digits_onto k n s ++ t
unfolding digits_onto
digits_before zero n s t = refl
digits_before (suc k) n s t = go (ltb n 10) (digits_before k (n / 10) (digit (n % 10) ∷ s) t)
  where
    go : (b : Bool) → digits_onto k (n / 10) (digit (n % 10) ∷ (s ++ t)) ≡ digits_onto k (n / 10) (digit (n % 10) ∷ s) ++ t
        → cond b (digit n ∷ (s ++ t)) (digits_onto k (n / 10) (digit (n % 10) ∷ (s ++ t))) ≡ cond b (digit n ∷ s) (digits_onto k (n / 10) (digit (n % 10) ∷ s)) ++ t
    go true e = refl
    go false e = e

pub decimal_before : (n : ℕ) (t : List ℕ) → decimal n t ≡ decimal n [] ++ t
unfolding decimal
decimal_before n t = digits_before 20 n [] t

-- a digit fewer
pub ten_less : (j n : ℕ) → 10 ≤ n → n < 10 ^ j → (2 ≤ j) × (n / 10 < 10 ^ (j - 1))
ten_less zero n h k = absurd (omega (arith, k))
ten_less (suc zero) n h k = absurd (omega (arith, k))
ten_less (suc (suc i)) n h k = (omega arith, rw sub-one (omega (arith, k)))

digits_few : (k j n : ℕ) (t : List ℕ) → 1 ≤ j → n < 10 ^ j → length (digits_onto k n t) ≤ j + length t
unfolding digits_onto
digits_few zero j n t l h = omega arith
digits_few (suc k) j n t l h = go (ltb n 10) refl (λ i. digits_few k i (n / 10) (digit (n % 10) ∷ t))
  where
    go : (b : Bool) → ltb n 10 ≡ b → ((i : ℕ) → 1 ≤ i → n / 10 < 10 ^ i → length (digits_onto k (n / 10) (digit (n % 10) ∷ t)) ≤ i + suc (length t))
        → length (cond b (digit n ∷ t) (digits_onto k (n / 10) (digit (n % 10) ∷ t))) ≤ j + length t
    go true e f = omega (arith, l)
    go false e f =
        let fewer = ten_less j n (ltb-false n 10 e) h in
        omega (arith, f (j - 1) (omega (arith, fewer.0)) fewer.1, fewer.0)

-- ten columns hold every 32-bit number
pub decimal_few : (n : ℕ) → n < 2 ^ 32 → length (decimal n []) ≤ position_columns
unfolding decimal
decimal_few n h = omega (arith, digits_few 20 position_columns n [] (omega arith) (omega (arith, h)))

-- ---- a number in its columns

-- digits that end where the columns do, over blanks, are the number right-aligned
pub aligned : (from n : ℕ) (row : List ℕ) → length (decimal n []) ≤ position_columns → take (from + position_columns) row ≡ replicate (from + position_columns) blank
    → take (from + position_columns - length (decimal n [])) row ++ (decimal n [] ++ drop (from + position_columns) row)
    ≡ replicate from blank ++ (right_aligned position_columns n ++ drop (from + position_columns) row)
aligned from n row few e =
    let digits = decimal n [] in
    let end = from + position_columns in
    let blanks = position_columns - length digits in
    let first : end - length digits ≡ from + blanks = omega (arith, few) in
    let front : take (end - length digits) row ≡ replicate from blank ++ replicate blanks blank =
    sym (take-take (end - length digits) end row (omega arith))
    ∙ ap (take (end - length digits)) e
    ∙ take-replicate (end - length digits) end blank (omega arith)
    ∙ ap (λ k. replicate k blank) first
    ∙ sym (replicate-append-replicate from blanks blank)
    in
    ap (λ (l : List ℕ). l ++ (digits ++ drop end row)) front
    ∙ append_assoc (replicate from blank) (replicate blanks blank) (digits ++ drop end row)
    ∙ ap (λ (l : List ℕ). replicate from blank ++ l) (sym (append_assoc (replicate blanks blank) digits (drop end row)))

-- ---- the row, from its end to its front

pub flag_column : (active : Bool) → right_aligned flag_columns (flag active) ≡ digit (flag active) ∷ []
unfolding decimal digits_onto
flag_column true = refl
flag_column false = refl

pub row_is : (start end : ℕ) (active : Bool) (low high f : ℕ) (row₁ row₂ row₃ row₄ : List ℕ) → f ≡ digit (flag active)
    → row₁ ≡ replicate 35 blank ++ (right_aligned position_columns high ++ line_feed ∷ [])
    → row₂ ≡ replicate 24 blank ++ (right_aligned position_columns low ++ drop 34 row₁)
    → row₃ ≡ replicate 11 blank ++ (right_aligned position_columns end ++ drop 21 (set row₂ 22 f))
    → row₄ ≡ right_aligned position_columns start ++ drop 10 row₃
    → row₄ ≡ row_text start end active low high
unfolding row_text
row_is start end active low high f row₁ row₂ row₃ row₄ e₀ e₁ e₂ e₃ e₄ = rw (e₄, e₃, e₂, e₁, e₀, flag_column active)
