-- `place_of` meets its contract: four entries from i on are in the row.
use Rattle.std.proofs.Common.{arith}
use Rattle.contribution_table.proofs.Places.{in_row, row_small}
use Rattle.contribution_table.proofs.rows.place_of.Goals as goal

pub overflow_mul-result : goal.overflow_mul-result
overflow_mul-result c =
    let a = c.args in
    let small = row_small c.row_of-above.result a.row c.row_of-above.ensures.1 c.requires.1 in
    record { fits = omega (arith, small) }

pub overflow_add-result : goal.overflow_add-result
overflow_add-result c =
    let a = c.args in
    let small = row_small c.row_of-above.result a.row c.row_of-above.ensures.1 c.requires.1 in
    record { fits = omega (arith, small) }

pub returns : goal.returns
returns c = (rw c.row_of-above.ensures.0, in_row _ _ _ c.row_of-above.ensures.1 c.requires.2)
