-- Every row of the table of worked examples is right.
use Rattle.std.specs.Prelude.{◌≡◌, ℕ, ◌<◌, length}
use Rattle.worked_examples.specs.Rows.{row_at, each_row}
use Rattle.worked_examples.specs.Table.{table, table_right}

-- every row
pub row_right : (i : ℕ) → i < length table → (row_at table i).given ≡ (row_at table i).wanted
row_right i h = each_row table table_right i h
