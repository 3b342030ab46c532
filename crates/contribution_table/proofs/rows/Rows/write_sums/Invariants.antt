-- `write_sums` meets its contract: the genotypes before i are written, and within four the sums are at hand.
use Rattle.std.proofs.Common.{◌≡◌, ◌*◌, ◌/◌, ◌%◌, ◌<◌}
use Rattle.std.specs.List.{fold}
use Rattle.contribution_table.specs.Sums.{sums_from}
use Rattle.contribution_table.specs.Table.{sum_at}
use Rattle.genotype_likelihoods.specs.Likelihoods.{counted}
use Rattle.lists.specs.Each.{fixed, up_to}
use Rattle.contribution_table.proofs.rows.Rows.write_sums.Given as goal

abbrev pub invariant-loop-i : goal.invariant-loop-i
invariant-loop-i l = record {
  written : l.gl ≡ up_to (fixed (sum_at l.self.entries.now l.self.params l.pile)) l.i l.initial.gl;
  at_hand : 0 < l.i % 4 → l.sums ≡ sums_from l.self.entries.now l.self.params l.pile (l.i / 4 * 4);
  count : 0 < l.i → l.sums.count ≡ fold (counted l.self.params) 0 l.pile;
}
