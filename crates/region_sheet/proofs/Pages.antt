-- The pages of a sheet: a writer who knows only how many rows stand on the open page writes the sheet; each page is 60 rows and a form feed, the last one shorter; each row stands
-- where the rows before it end; and the number of bytes is a formula of the number of regions. Assumes nothing.
use mathlib.Core.Path.{◌≡◌, refl, sym, ap, ◌∙◌}
use mathlib.Core.Bool.{Bool, true, false}
use mathlib.Core.List.{List, [], ◌∷◌, ◌++◌, append_assoc}
use Prim.Native.Nat.{ℕ, zero, suc, ◌+◌, ◌-◌, ◌*◌, ◌/◌, ◌%◌, ◌≤◌, ◌<◌}
use native.Mathlib.Omega.{arith}
use borrow.Author.Tests.{lt-ltb, le-ltb, ltb-true, ltb-false, eqb-true, eqb-false, ne_eqb}
use lib.Dec.{ltb, eqb}
use lib.ListN.{length, take, drop, length-append}
use lib.Seq.{drop_at}
use Rattle.activity_profile.specs.declared.ActivityProfileRegion.{ActivityProfileRegion}
use Rattle.region_sheet.specs.Row.{region_row, AllFit}
use Rattle.region_sheet.specs.Pages.{form_feed, page_rows, feed_where, ends_page, rows_from, sheet_text, rows_after, behind_row, page_end, pages_from}
use Rattle.region_sheet.proofs.Rows.{row_length_lem}

-- ---- the two ways to a page's end

-- a row that is not the 60th of its page, and one that is
within_page : (k : ℕ) → k + 1 < page_rows → rows_after k ≡ k + 1
within_page k h = rw (lt-ltb (k + 1) page_rows h)

page_done : (k : ℕ) → page_rows ≤ k + 1 → rows_after k ≡ 0
page_done k h = rw (le-ltb (k + 1) page_rows h)

open_page : (k : ℕ) → k + 1 < page_rows → behind_row k ≡ []
open_page k h = rw (within_page k h, ne_eqb (k + 1) 0 (λ e. omega arith))

full_page : (k : ℕ) → page_rows ≤ k + 1 → behind_row k ≡ form_feed ∷ []
full_page k h = rw (page_done k h)

-- ---- as a writer takes them

rows_pages : (i : ℕ) (r : ActivityProfileRegion) (rs : List ActivityProfileRegion) → rows_from i (r ∷ rs) ≡ pages_from (i % page_rows) (r ∷ rs)
unfolding rows_from pages_from
rows_pages i r [] = ap (λ (t : List ℕ). region_row r ++ t) (go (ltb (i % page_rows + 1) page_rows) refl)
  where
    go : (b : Bool) → ltb (i % page_rows + 1) page_rows ≡ b → form_feed ∷ [] ≡ behind_row (i % page_rows) ++ page_end (rows_after (i % page_rows))
    go true e = let h = ltb-true (i % page_rows + 1) page_rows e in rw (open_page (i % page_rows) h, within_page (i % page_rows) h, ne_eqb (i % page_rows + 1) 0 (λ e. omega arith))
    go false e = let h = ltb-false (i % page_rows + 1) page_rows e in rw (full_page (i % page_rows) h, page_done (i % page_rows) h)
rows_pages i r (x ∷ rs) = ap (λ (t : List ℕ). region_row r ++ t) (go (ltb (i % page_rows + 1) page_rows) refl (rows_pages (i + 1) x rs))
  where
    go : (b : Bool) → ltb (i % page_rows + 1) page_rows ≡ b → rows_from (i + 1) (x ∷ rs) ≡ pages_from ((i + 1) % page_rows) (x ∷ rs)
        → feed_where (eqb ((i + 1) % page_rows) 0) ++ rows_from (i + 1) (x ∷ rs) ≡ behind_row (i % page_rows) ++ pages_from (rows_after (i % page_rows)) (x ∷ rs)
    go true e f =
        let h = ltb-true (i % page_rows + 1) page_rows e in
        let next : (i + 1) % page_rows ≡ i % page_rows + 1 = omega (arith, h) in
        rw (open_page (i % page_rows) h, within_page (i % page_rows) h, f, next, ne_eqb (i % page_rows + 1) 0 (λ e. omega arith))
    go false e f =
        let h = ltb-false (i % page_rows + 1) page_rows e in
        let next : (i + 1) % page_rows ≡ 0 = omega (arith, h) in
        rw (full_page (i % page_rows) h, page_done (i % page_rows) h, f, next)

-- From an empty page on, a writer's pages are the sheet.
pub sheet_pages : (rs : List ActivityProfileRegion) → sheet_text rs ≡ pages_from 0 rs
unfolding sheet_text rows_from pages_from
sheet_pages [] = refl
sheet_pages (r ∷ rs) = rows_pages 0 r rs

-- ---- page by page

-- rows without a form feed
unfoldable pub rows : List ActivityProfileRegion → List ℕ
rows [] = []
rows (r ∷ rs) = region_row r ++ rows rs

-- a page that is open, up to its form feed, and the pages behind it
page_first : (k : ℕ) (rs : List ActivityProfileRegion) → k < page_rows → 0 < k + length rs → pages_from k rs ≡ rows (take (page_rows - k) rs) ++ form_feed ∷ pages_from 0 (drop (page_rows - k) rs)
unfolding pages_from rows
page_first k [] h some = go (page_rows - k)
  where
    go : (m : ℕ) → page_end k ≡ rows (take m []) ++ form_feed ∷ pages_from 0 (drop m [])
    go zero = rw (ne_eqb k 0 (λ e. omega arith))
    go (suc m) = rw (ne_eqb k 0 (λ e. omega arith))
page_first k (r ∷ rs) h some = go (ltb (k + 1) page_rows) refl (page_first (k + 1) rs)
  where
    left : page_rows - k ≡ suc (page_rows - (k + 1))
    left = omega (arith, h)

    go : (b : Bool) → ltb (k + 1) page_rows ≡ b
        → (k + 1 < page_rows → 0 < k + 1 + length rs → pages_from (k + 1) rs ≡ rows (take (page_rows - (k + 1)) rs) ++ form_feed ∷ pages_from 0 (drop (page_rows - (k + 1)) rs))
        → region_row r ++ (behind_row k ++ pages_from (rows_after k) rs) ≡ rows (take (page_rows - k) (r ∷ rs)) ++ form_feed ∷ pages_from 0 (drop (page_rows - k) (r ∷ rs))
    go true e f =
        let h = ltb-true (k + 1) page_rows e in
        rw (left, open_page k h, within_page k h, f h (omega arith))
        (sym (append_assoc (region_row r) (rows (take (page_rows - (k + 1)) rs)) (form_feed ∷ pages_from 0 (drop (page_rows - (k + 1)) rs))))
    go false e f =
        let h = ltb-false (k + 1) page_rows e in
        let last : page_rows - (k + 1) ≡ 0 = omega (arith, h) in
        rw (left, last, full_page k h, page_done k h) (sym (append_assoc (region_row r) [] (form_feed ∷ pages_from 0 rs)))

-- "A page has 60 rows and then a form feed; the last page may be shorter and has the form feed too": so of the first page of every sheet that is not empty, and behind it stands the
-- sheet of the other regions.
pub sheet_by_pages : (rs : List ActivityProfileRegion) → 0 < length rs → sheet_text rs ≡ rows (take page_rows rs) ++ form_feed ∷ sheet_text (drop page_rows rs)
sheet_by_pages rs some =
    sheet_pages rs
    ∙ page_first 0 rs (omega arith) (omega (arith, some))
    ∙ ap (λ (t : List ℕ). rows (take page_rows rs) ++ form_feed ∷ t) (sym (sheet_pages (drop page_rows rs)))

-- ---- how many bytes

page_bytes : (k : ℕ) (rs : List ActivityProfileRegion) → k < page_rows → AllFit rs → length (pages_from k rs) ≡ 46 * length rs + (k + length rs + 59) / 60
unfolding pages_from
page_bytes k [] h fit = go (eqb k 0) refl
  where
    go : (b : Bool) → eqb k 0 ≡ b → length (page_end k) ≡ 46 * 0 + (k + 0 + 59) / 60
    go true e = rw e (omega (arith, eqb-true k 0 e))
    go false e = rw e (omega (arith, eqb-false k 0 e, h))
page_bytes k (r ∷ rs) h fit = go (ltb (k + 1) page_rows) refl (λ j small. page_bytes j rs small fit.1)
  where
    go : (b : Bool) → ltb (k + 1) page_rows ≡ b → ((j : ℕ) → j < page_rows → length (pages_from j rs) ≡ 46 * length rs + (j + length rs + 59) / 60)
        → length (region_row r ++ (behind_row k ++ pages_from (rows_after k) rs)) ≡ 46 * suc (length rs) + (k + suc (length rs) + 59) / 60
    go true e f =
        let h = ltb-true (k + 1) page_rows e in
        length-append (region_row r) (behind_row k ++ pages_from (rows_after k) rs) ∙ rw (open_page k h, within_page k h) (omega (arith, row_length_lem r fit.0, f (k + 1) h))
    go false e f =
        let full = ltb-false (k + 1) page_rows e in
        length-append (region_row r) (behind_row k ++ pages_from (rows_after k) rs) ∙ rw (full_page k full, page_done k full) (omega (arith, row_length_lem r fit.0, f 0 (omega arith), h, full))

-- "The number of bytes written .. is a formula of the number of regions": 46 n and n / 60, rounded up, for every n.
pub sheet_bytes : (rs : List ActivityProfileRegion) → AllFit rs → length (sheet_text rs) ≡ 46 * length rs + (length rs + 59) / 60
sheet_bytes rs fit = ap length (sheet_pages rs) ∙ page_bytes 0 rs (omega arith) fit ∙ omega arith

-- ---- row by row

-- the rows before a row, with their form feeds: none of them is the last
unfoldable front : ℕ → List ActivityProfileRegion → List ℕ
front i [] = []
front i (r ∷ rs) = region_row r ++ (feed_where (eqb ((i + 1) % page_rows) 0) ++ front (i + 1) rs)

not_last : (i : ℕ) (xs : List ActivityProfileRegion) (r : ActivityProfileRegion) (rs : List ActivityProfileRegion) → ends_page i (xs ++ r ∷ rs) ≡ eqb ((i + 1) % page_rows) 0
not_last i [] r rs = refl
not_last i (x ∷ xs) r rs = refl

front-first : (i : ℕ) (xs : List ActivityProfileRegion) (r : ActivityProfileRegion) (rs : List ActivityProfileRegion) → rows_from i (xs ++ r ∷ rs) ≡ front i xs ++ rows_from (i + length xs) (r ∷ rs)
unfolding rows_from front
front-first i [] r rs = ap (λ j. rows_from j (r ∷ rs)) (omega arith)
front-first i (x ∷ xs) r rs =
    let feed = feed_where (eqb ((i + 1) % page_rows) 0) in
    let behind = rows_from (i + suc (length xs)) (r ∷ rs) in
    let rest : rows_from (i + 1) (xs ++ r ∷ rs) ≡ front (i + 1) xs ++ behind = front-first (i + 1) xs r rs ∙ ap (λ j. front (i + 1) xs ++ rows_from j (r ∷ rs)) (omega arith) in
    rw (not_last i xs r rs, rest) (ap (λ (t : List ℕ). region_row x ++ t) (sym (append_assoc feed (front (i + 1) xs) behind)) ∙ sym (append_assoc (region_row x) (feed ++ front (i + 1) xs) behind))

front_bytes : (i : ℕ) (xs : List ActivityProfileRegion) → AllFit xs → length (front i xs) + i / 60 ≡ 46 * length xs + (i + length xs) / 60
unfolding front
front_bytes i [] fit = omega arith
front_bytes i (x ∷ xs) fit = go (eqb ((i + 1) % page_rows) 0) refl (front_bytes (i + 1) xs fit.1)
  where
    go : (b : Bool) → eqb ((i + 1) % page_rows) 0 ≡ b → length (front (i + 1) xs) + (i + 1) / 60 ≡ 46 * length xs + (i + 1 + length xs) / 60
        → length (region_row x ++ (feed_where (eqb ((i + 1) % page_rows) 0) ++ front (i + 1) xs)) + i / 60 ≡ 46 * suc (length xs) + (i + suc (length xs)) / 60
    go true e f =
        let long = length-append (region_row x) (feed_where true ++ front (i + 1) xs) in
        rw e (omega (arith, long, row_length_lem x fit.0, f, eqb-true ((i + 1) % page_rows) 0 e))
    go false e f =
        let long = length-append (region_row x) (feed_where false ++ front (i + 1) xs) in
        rw e (omega (arith, long, row_length_lem x fit.0, f, eqb-false ((i + 1) % page_rows) 0 e))

-- Row n, counted from 0, stands 46 n + n / 60 bytes from the front; behind it the form feed, where it ends a page, and the rows that follow.
pub row_at : (xs : List ActivityProfileRegion) (r : ActivityProfileRegion) (rs : List ActivityProfileRegion) → AllFit xs → let n = length xs in
    drop (46 * n + n / 60) (sheet_text (xs ++ r ∷ rs)) ≡ region_row r ++ (feed_where (ends_page n rs) ++ rows_from (n + 1) rs)
unfolding sheet_text rows_from
row_at xs r rs fit =
    let n = length xs in
    let long : length (front 0 xs) ≡ 46 * n + n / 60 = omega (arith, front_bytes 0 xs fit) in
    ap (drop (46 * n + n / 60)) (front-first 0 xs r rs)
    ∙ drop_at (front 0 xs) (rows_from (0 + n) (r ∷ rs)) (46 * n + n / 60) long
    ∙ ap (λ j. rows_from j (r ∷ rs)) (omega arith)
