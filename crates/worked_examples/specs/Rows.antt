-- A table of worked examples: what a definition gives, and what documents 01 and 02 say. One test over the whole table gives every row.
-- Assumes nothing.
use Rattle.std.specs.Prelude.{◌≡◌, refl, Bool, true, false, ◌&&◌, List, [], ◌∷◌, ℕ, zero, suc, ◌<◌, eqb, length}
use Rattle.std.proofs.Common.{not-suc-le-zero, le_of_suc-le-suc, eqb-true}
use Rattle.lists.specs.Tests.{and_left, and_right}

pub record Row : Type 0 where
  -- the number of the example: 1 of P1, 200 + n of document 02's Un
  pub number : ℕ
  pub given : List ℕ
  pub wanted : List ℕ

unfoldable pub same : List ℕ → List ℕ → Bool
same [] [] = true
same [] (y ∷ ys) = false
same (x ∷ xs) [] = false
same (x ∷ xs) (y ∷ ys) = eqb x y && same xs ys

same_is : (xs ys : List ℕ) → same xs ys ≡ true → xs ≡ ys
unfolding same
same_is [] [] e = refl
same_is [] (y ∷ ys) e = cc
same_is (x ∷ xs) [] e = cc
same_is (x ∷ xs) (y ∷ ys) e =
    let a = eqb-true x y (and_left (eqb x y) (same xs ys) e) in
    let b = same_is xs ys (and_right (eqb x y) (same xs ys) e) in
    rw (a, b)

unfoldable pub all_right : List Row → Bool
all_right [] = true
all_right (r ∷ rs) = same r.given r.wanted && all_right rs

-- row i of a table
abbrev pub none : Row
none = record { number = 0; given = []; wanted = [] }

unfoldable pub row_at : List Row → ℕ → Row
row_at [] i = none
row_at (r ∷ rs) zero = r
row_at (r ∷ rs) (suc i) = row_at rs i

pub each_row : (rows : List Row) → all_right rows ≡ true → (i : ℕ) → i < length rows → (row_at rows i).given ≡ (row_at rows i).wanted
unfolding all_right row_at
each_row [] e i h = absurd (not-suc-le-zero h)
each_row (r ∷ rs) e zero h = same_is r.given r.wanted (and_left (same r.given r.wanted) (all_right rs) e)
each_row (r ∷ rs) e (suc i) h = each_row rs (and_right (same r.given r.wanted) (all_right rs) e) i (le_of_suc-le-suc h)
