-- 02, U1: the row of a region, in ASCII.
use Rattle.std.specs.Prelude.{Bool, List, [], ◌∷◌, ◌++◌, ℕ, ◌-◌, ◌^◌, ◌<◌, length, replicate}
use Rattle.activity_profile.specs.declared.ActivityProfileRegion.{ActivityProfileRegion}
use Rattle.region_text.specs.Text.{blank, line_feed, decimal, flag}

-- "right-aligned in .. columns": n in decimal, and blanks in front
abbrev pub right_aligned : ℕ → ℕ → List ℕ
right_aligned columns n = replicate (columns - length (decimal n [])) blank ++ decimal n []

-- the columns of a position, and of a flag
abbrev pub position_columns : ℕ
position_columns = 10

abbrev pub flag_columns : ℕ
flag_columns = 1

-- a number in its columns, and the byte behind them, before the text t
abbrev pub column_onto : ℕ → ℕ → ℕ → List ℕ → List ℕ
column_onto columns n then t = right_aligned columns n ++ then ∷ t

-- "Each row has start, end, flag, padded start and padded end, right-aligned in 10, 10, 1, 10 and 10 columns, with one blank between. A row is exactly 45
-- characters and a line feed"
unfoldable pub row_text : ℕ → ℕ → Bool → ℕ → ℕ → List ℕ
row_text start end active low high =
    column_onto position_columns start blank
    (column_onto position_columns end blank
    (column_onto flag_columns (flag active) blank
    (column_onto position_columns low blank
    (column_onto position_columns high line_feed []))))

abbrev pub region_row : ActivityProfileRegion → List ℕ
region_row r = row_text r.start r.end r.is_active r.padded_start r.padded_end

-- "Its positions are 32-bit"
pub record Fits (r : ActivityProfileRegion) : Type 0 where
  pub start : r.start < 2 ^ 32
  pub end : r.end < 2 ^ 32
  pub low : r.padded_start < 2 ^ 32
  pub high : r.padded_end < 2 ^ 32

abbrev pub AllFit : List ActivityProfileRegion → Type 0
AllFit [] = Unit {0}
AllFit (r ∷ rs) = Fits r × AllFit rs
