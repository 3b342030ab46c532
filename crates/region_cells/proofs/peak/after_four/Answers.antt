-- `after_four` meets its contract: where none of the four is above the leader, it stays.
use mathlib.Core.Path.{sym}
use native.Mathlib.Omega.{arith}
use Rattle.region_cells.proofs.Fours.{none-leads}
use Rattle.region_cells.proofs.peak.after_four.Goals as goal

pub returns : goal.returns
returns c =
    let a = c.args in
    (sym (none-leads a.cells.now a.i a.leader c.if-above.false), omega arith)
