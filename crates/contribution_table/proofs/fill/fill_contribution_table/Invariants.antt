-- `fill_contribution_table` meets its contract: the cells before j are filled.
use Rattle.std.proofs.Common.{◌≡◌}
use Rattle.contribution_table.specs.Table.{tabled}
use Rattle.lists.specs.Each.{up_to}
use Rattle.contribution_table.proofs.fill.fill_contribution_table.Given as goal

abbrev pub invariant-loop-j : goal.invariant-loop-j
invariant-loop-j l = l.x-items ≡ up_to (tabled l.params) l.j l.initial.x-items
