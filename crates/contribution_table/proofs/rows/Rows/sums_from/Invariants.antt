-- `sums_from` meets its contract: the sums of the words so far.
use Rattle.std.proofs.Common.{◌≡◌, ◌≤◌, take}
use Rattle.std.specs.List.{fold}
use Rattle.contribution_table.specs.Sums.{all_taken, no_sums}
use Rattle.contribution_table.proofs.rows.Rows.sums_from.Given as goal

abbrev pub invariant-loop-w : goal.invariant-loop-w
invariant-loop-w l = record {
  few : l.sums.count ≤ l.w-index;
  so_far : l.sums ≡ fold (all_taken l.self.entries.now l.self.params l.i) no_sums (take l.w-index l.pile);
}
