-- `sums_from` meets its contract: the sums of the words so far.
use Rattle.std.proofs.Common.{get_or, sym, arith}
use Rattle.contribution_table.specs.Sums.{all_taken, no_sums}
use Rattle.genotype_likelihoods.specs.Lengths.{counted-le}
use Rattle.lists.specs.Folds.{fold_more}
use Rattle.contribution_table.proofs.rows.Rows.sums_from.Goals as goal

pub with_word-sums-requires : goal.with_word-sums-requires
with_word-sums-requires c = (omega (arith, c.loop-w.invariant.few), c.requires)

pub loop-w-preserved : goal.loop-w-preserved
loop-w-preserved c =
    let at = c.loop-w in
    let a = c.args in
    let rows = a.self.now in
    let w = get_or a.pile.now at.w-index 0 in
    let before = at.invariant in
    record {
      few = rw c.with_word-sums.ensures (omega (arith, counted-le rows.params at.sums.count w, before.few));
      so_far = rw (c.with_word-sums.ensures, before.so_far) (sym (fold_more (all_taken rows.entries.now rows.params a.i) no_sums a.pile.now at.w-index 0 (omega arith)));
    }
