-- A row of 32-bit numbers has 45 characters and a line feed, and each number, read back from its columns, is the number. Assumes nothing.
use mathlib.Core.Path.{◌≡◌, refl, sym, ap, ◌∙◌}
use Rattle.std.specs.List.{fold}
use mathlib.Core.Bool.{Bool, true, false, cond}
use mathlib.Core.Logic.{◌⊎◌, inl, inr}
use mathlib.Core.List.{List, [], ◌∷◌, ◌++◌}
use Prim.Native.Nat.{ℕ, zero, suc, ◌+◌, ◌-◌, ◌/◌, ◌%◌, ◌^◌, ◌≤◌, ◌<◌}
use native.Mathlib.Omega.{arith}
use borrow.Author.Tests.{ltb-true}
use lib.Dec.{ltb}
use lib.ListN.{length, get_or, take, drop, replicate, length-append, length-replicate}
use lib.Seq.{take_at, take-append-add, drop_at, drop-append-add, drop-drop, get_or_at, get_or-drop}
use Rattle.activity_profile.specs.declared.ActivityProfileRegion.{ActivityProfileRegion}
use Rattle.region_text.specs.Text.{blank, line_feed, digit, digits_onto, decimal, flag}
use Rattle.region_text.proofs.Decimal.{read, decimal-read}
use Rattle.region_sheet.specs.Row.{right_aligned, position_columns, flag_columns, column_onto, row_text, region_row, Fits}
use Rattle.region_sheet.proofs.Columns.{decimal_few, flag_column}

-- ---- what a reader finds in a row

-- a byte, and the bytes of a position's columns
abbrev pub byte_at : List ℕ → ℕ → ℕ
byte_at row i = get_or row i 0

abbrev pub columns_at : List ℕ → ℕ → List ℕ
columns_at row i = take position_columns (drop i row)

-- read as a number, where a blank in front is nothing
abbrev pub number : List ℕ → ℕ
number bytes = fold read 0 bytes

-- the five numbers in their columns, a blank between any two, and the line feed
pub record Read (r : ActivityProfileRegion) (row : List ℕ) : Type 0 where
  pub start : number (columns_at row 0) ≡ r.start
  pub end : number (columns_at row 11) ≡ r.end
  pub flag_byte : byte_at row 22 ≡ digit (flag r.is_active)
  pub low : number (columns_at row 24) ≡ r.padded_start
  pub high : number (columns_at row 35) ≡ r.padded_end
  pub blanks : (byte_at row 10 ≡ blank) × (byte_at row 21 ≡ blank) × (byte_at row 23 ≡ blank) × (byte_at row 34 ≡ blank)
  pub last : drop 45 row ≡ line_feed ∷ []

-- a blank or a digit
abbrev pub Plain : ℕ → Type 0
Plain b = (b ≡ blank) ⊎ ((digit 0 ≤ b) × (b ≤ digit 9))

abbrev pub AllPlain : List ℕ → Type 0
AllPlain [] = Unit {0}
AllPlain (b ∷ bs) = Plain b × AllPlain bs

-- ---- a number's columns

-- ten columns hold every 32-bit number
column_length : (n : ℕ) → n < 2 ^ 32 → length (right_aligned position_columns n) ≡ position_columns
column_length n h =
    let digits = decimal n [] in
    length-append (replicate (position_columns - length digits) blank) digits
    ∙ omega (arith, length-replicate (position_columns - length digits) blank, decimal_few n h)

-- blanks in front read as nothing
blanks_read : (j : ℕ) (t : List ℕ) → fold read 0 (replicate j blank ++ t) ≡ fold read 0 t
blanks_read zero t = refl
blanks_read (suc j) t = blanks_read j t

column_read : (columns n : ℕ) → n < 2 ^ 32 → fold read 0 (right_aligned columns n) ≡ n
column_read columns n h = blanks_read (columns - length (decimal n [])) (decimal n []) ∙ decimal-read n (omega (arith, h))

-- ---- columns in a row

module _ (columns n then : ℕ) (t : List ℕ) (long : length (right_aligned columns n) ≡ columns) where
  pub in_column : take columns (column_onto columns n then t) ≡ right_aligned columns n
  in_column = take_at (right_aligned columns n) (then ∷ t) columns long

  pub behind_column : byte_at (column_onto columns n then t) columns ≡ then
  behind_column = get_or_at (right_aligned columns n) then t 0 columns long

  pub after_column : drop (columns + 1) (column_onto columns n then t) ≡ t
  after_column = ap (λ k. drop (k + 1) (column_onto columns n then t)) (sym long) ∙ drop-append-add (right_aligned columns n) (then ∷ t) 1

  pub column_long : length (column_onto columns n then t) ≡ columns + 1 + length t
  column_long = length-append (right_aligned columns n) (then ∷ t) ∙ omega (arith, long)

-- ---- a row

-- the parts of a row from each column on
module _ (r : ActivityProfileRegion) (fits : Fits r) where
  abbrev fifth : List ℕ
  fifth = column_onto position_columns r.padded_end line_feed []

  abbrev fourth : List ℕ
  fourth = column_onto position_columns r.padded_start blank fifth

  abbrev third : List ℕ
  third = column_onto flag_columns (flag r.is_active) blank fourth

  abbrev second : List ℕ
  second = column_onto position_columns r.end blank third

  flag_long : length (right_aligned flag_columns (flag r.is_active)) ≡ flag_columns
  flag_long = ap length (flag_column r.is_active)

  pub row_length_lem : length (region_row r) ≡ 46
  unfolding row_text
  row_length_lem =
      let e₅ = column_long position_columns r.padded_end line_feed [] (column_length r.padded_end fits.high) in
      let e₄ = column_long position_columns r.padded_start blank fifth (column_length r.padded_start fits.low) in
      let e₃ = column_long flag_columns (flag r.is_active) blank fourth flag_long in
      let e₂ = column_long position_columns r.end blank third (column_length r.end fits.end) in
      let e₁ = column_long position_columns r.start blank second (column_length r.start fits.start) in
      omega (arith, e₁, e₂, e₃, e₄, e₅)

  -- Every row has 45 characters and a line feed; its numbers, read back from their columns, are the region's.
  pub row_read : Read r (region_row r)
  unfolding row_text
  row_read =
      let row = region_row r in
      let long₁ = column_length r.start fits.start in
      let long₂ = column_length r.end fits.end in
      let long₄ = column_length r.padded_start fits.low in
      let long₅ = column_length r.padded_end fits.high in
      let at₂ : drop 11 row ≡ second = after_column position_columns r.start blank second long₁ in
      let at₃ : drop 22 row ≡ third = sym (drop-drop 11 11 row) ∙ ap (drop 11) at₂ ∙ after_column position_columns r.end blank third long₂ in
      let at₄ : drop 24 row ≡ fourth = sym (drop-drop 2 22 row) ∙ ap (drop 2) at₃ ∙ after_column flag_columns (flag r.is_active) blank fourth flag_long in
      let at₅ : drop 35 row ≡ fifth = sym (drop-drop 11 24 row) ∙ ap (drop 11) at₄ ∙ after_column position_columns r.padded_start blank fifth long₄ in
      let column : (n then : ℕ) (t : List ℕ) → n < 2 ^ 32 → number (take position_columns (column_onto position_columns n then t)) ≡ n = λ n then t h. ap number (in_column position_columns n then t (column_length n h)) ∙ column_read position_columns n h in
      let part : (i j : ℕ) (t : List ℕ) → drop i row ≡ t → byte_at row (i + j) ≡ byte_at t j = λ i j t e. sym (get_or-drop i row j 0) ∙ ap (λ (l : List ℕ). byte_at l j) e in
      record {
        start = column r.start blank second fits.start;
        end = ap (λ (l : List ℕ). number (take position_columns l)) at₂ ∙ column r.end blank third fits.end;
        flag_byte = part 22 0 third at₃ ∙ ap (λ (l : List ℕ). byte_at (l ++ blank ∷ fourth) 0) (flag_column r.is_active);
        low = ap (λ (l : List ℕ). number (take position_columns l)) at₄ ∙ column r.padded_start blank fifth fits.low;
        high = ap (λ (l : List ℕ). number (take position_columns l)) at₅ ∙ column r.padded_end line_feed [] fits.high;
        blanks = (
          behind_column position_columns r.start blank second long₁,
          part 11 10 second at₂ ∙ behind_column position_columns r.end blank third long₂,
          part 22 1 third at₃ ∙ behind_column flag_columns (flag r.is_active) blank fourth flag_long,
          part 24 10 fourth at₄ ∙ behind_column position_columns r.padded_start blank fifth long₄,
        );
        last = sym (drop-drop 10 35 row) ∙ ap (drop 10) at₅ ∙ drop_at (right_aligned position_columns r.padded_end) (line_feed ∷ []) position_columns long₅;
      }

-- ---- no other characters

all_plain : (xs ys : List ℕ) → AllPlain xs → AllPlain ys → AllPlain (xs ++ ys)
all_plain [] ys f g = g
all_plain (x ∷ xs) ys f g = (f.0, all_plain xs ys f.1 g)

blanks_plain : (j : ℕ) → AllPlain (replicate j blank)
blanks_plain zero = tt
blanks_plain (suc j) = (inl refl, blanks_plain j)

digits_plain : (k n : ℕ) (t : List ℕ) → n < 10 ^ k → AllPlain t → AllPlain (digits_onto k n t)
unfolding digits_onto
digits_plain zero n t h f = f
digits_plain (suc k) n t h f = go (ltb n 10) refl (digits_plain k (n / 10) (digit (n % 10) ∷ t))
  where
    go : (b : Bool) → ltb n 10 ≡ b → (n / 10 < 10 ^ k → AllPlain (digit (n % 10) ∷ t) → AllPlain (digits_onto k (n / 10) (digit (n % 10) ∷ t)))
        → AllPlain (cond b (digit n ∷ t) (digits_onto k (n / 10) (digit (n % 10) ∷ t)))
    go true e g = (inr (omega arith, omega (arith, ltb-true n 10 e)), f)
    go false e g = g (omega (arith, h)) (inr (omega arith, omega arith), f)

number_plain : (columns n : ℕ) → n < 2 ^ 64 → AllPlain (right_aligned columns n)
unfolding decimal
number_plain columns n h =
    all_plain (replicate (columns - length (decimal n [])) blank) (decimal n []) (blanks_plain (columns - length (decimal n []))) (digits_plain 20 n [] (omega (arith, h)) tt)

-- the first bytes of a row: these columns, the blank, and so many of what stands behind
column_plain : (columns n m : ℕ) (t : List ℕ) → n < 2 ^ 32 → length (right_aligned columns n) ≡ columns → AllPlain (take m t) → AllPlain (take (columns + suc m) (column_onto columns n blank t))
column_plain columns n m t h long f =
    let e : take (columns + suc m) (column_onto columns n blank t) ≡ column_onto columns n blank (take m t) =
    ap (λ k. take (k + suc m) (column_onto columns n blank t)) (sym long) ∙ take-append-add (right_aligned columns n) (blank ∷ t) (suc m)
    in
    rw e (all_plain (right_aligned columns n) (blank ∷ take m t) (number_plain columns n (omega (arith, h))) (inl refl, f))

-- The 45 characters are blanks and digits: a form feed stands behind a row and never within it.
pub row_plain : (r : ActivityProfileRegion) → Fits r → AllPlain (take 45 (region_row r))
unfolding row_text
row_plain r fits =
    let low = column_length r.padded_start fits.low in
    let high = column_length r.padded_end fits.high in
    let fifth-plain : AllPlain (take 10 (fifth r fits)) = rw (in_column position_columns r.padded_end line_feed [] high) (number_plain position_columns r.padded_end (omega (arith, fits.high))) in
    let fourth-plain = column_plain position_columns r.padded_start 10 (fifth r fits) fits.low low fifth-plain in
    let third-plain = column_plain flag_columns (flag r.is_active) 21 (fourth r fits) (flag_small r.is_active) (flag_long r fits) fourth-plain in
    let second_plain = column_plain position_columns r.end 23 (third r fits) fits.end (column_length r.end fits.end) third-plain in
    column_plain position_columns r.start 34 (second r fits) fits.start (column_length r.start fits.start) second_plain
  where
    flag_small : (b : Bool) → flag b < 2 ^ 32
    flag_small true = omega arith
    flag_small false = omega arith
