-- 02, U1: the pages of a sheet.
use Rattle.std.specs.Prelude.{Bool, true, cond, not, List, [], ◌∷◌, ◌++◌, ℕ, ◌+◌, ◌%◌, ltb, eqb}
use Rattle.activity_profile.specs.declared.ActivityProfileRegion.{ActivityProfileRegion}
use Rattle.region_sheet.specs.Row.{region_row}

abbrev pub form_feed : ℕ
form_feed = 12

-- "A page has 60 rows"
abbrev pub page_rows : ℕ
page_rows = 60

abbrev pub feed_where : Bool → List ℕ
feed_where b = cond b (form_feed ∷ []) []

-- "60 rows and then a form feed; the last page may be shorter and has the form feed too": whether a form feed stands behind row i, counted from 0, with the rows
-- of these regions still to come
abbrev pub ends_page : ℕ → List ActivityProfileRegion → Bool
ends_page i [] = true
ends_page i (r ∷ rs) = eqb ((i + 1) % page_rows) 0

-- the rows of these regions, the first of them being row i
unfoldable pub rows_from : ℕ → List ActivityProfileRegion → List ℕ
rows_from i [] = []
rows_from i (r ∷ rs) = region_row r ++ (feed_where (ends_page i rs) ++ rows_from (i + 1) rs)

-- "An empty list writes nothing"
unfoldable pub sheet_text : List ActivityProfileRegion → List ℕ
sheet_text rs = rows_from 0 rs

-- ---- as a writer takes them, who does not know which row is the last: k rows stand on the page that is open

-- after a row more; 0 where that was the 60th, and the page is done
abbrev pub rows_after : ℕ → ℕ
rows_after k = cond (ltb (k + 1) page_rows) (k + 1) 0

-- what stands behind the row, and what the end of the list adds: a page with no rows is none
abbrev pub behind_row : ℕ → List ℕ
behind_row k = feed_where (eqb (rows_after k) 0)

abbrev pub page_end : ℕ → List ℕ
page_end k = feed_where (not (eqb k 0))

unfoldable pub pages_from : ℕ → List ActivityProfileRegion → List ℕ
pages_from k [] = page_end k
pages_from k (r ∷ rs) = region_row r ++ (behind_row k ++ pages_from (rows_after k) rs)
