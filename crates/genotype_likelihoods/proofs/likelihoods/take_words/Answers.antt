-- `take_words` meets its contract: a fold for the entries and one for the count.
use Rattle.std.proofs.Common.{get_or, sym, ◌∙◌, arith}
use Rattle.genotype_likelihoods.specs.Lengths.{counted-le, length_taken}
use Rattle.genotype_likelihoods.specs.Likelihoods.{counted, taken}
use Rattle.lists.specs.Folds.{fold_more}
use Rattle.genotype_likelihoods.proofs.likelihoods.take_words.Goals as goal

pub loop-w-preserved : goal.loop-w-preserved
loop-w-preserved c =
    let a = c.args in
    let at = c.loop-w in
    let w = get_or a.pile.now at.w-index 0 in
    let e = c.take_word-n.ensures in
    let before = at.invariant in
    record {
      few = rw e.value (omega (arith, counted-le a.params at.n w));
      same_length = rw e.gl_after (length_taken a.params at.gl w ∙ before.same_length);
      count = rw (e.value, before.count) (sym (fold_more (counted a.params) 0 a.pile.now at.w-index 0 (omega arith)));
      entries = rw (e.gl_after, before.entries) (sym (fold_more (taken a.params) a.gl.now a.pile.now at.w-index 0 (omega arith)));
    }
