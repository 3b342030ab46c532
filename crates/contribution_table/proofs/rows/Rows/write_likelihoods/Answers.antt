-- `write_likelihoods` meets its contract: the sums, less the share of the words counted.
use Rattle.std.proofs.Common.{length, ◌∙◌}
use Rattle.contribution_table.proofs.Places.{sums_less_share}
use Rattle.contribution_table.proofs.rows.Rows.write_likelihoods.Goals as goal

pub returns : goal.returns
returns c =
    let taken = c in
    let near = taken in
    let write = near in
    let a = write.args in
    let rows = a.self.now in
    let k = write.write_sums-read_count.result in
    taken.subtract.ensures
    ∙ rw (near.nearest_u64_to_f64.ensures, rows.of_ploidy, write.write_sums-read_count.ensures.gl_after)
    (sums_less_share rows.entries.now rows.params a.pile.now (length a.gl.now) k write.write_sums-read_count.ensures.value)
