-- `calculate_multi_sample_any_non_ref_posterior` meets its contract: the piles from here on, begun with the product so far.
use Rattle.std.proofs.Common.{ap, sym, ◌∙◌, arith}
use lib.Ieee.{binary64, sub}
use Rattle.doubles.specs.Constants.{one_f}
use Rattle.multi_sample_scoring.specs.Passed.{with_pile}
use Rattle.multi_sample_scoring.specs.Sets.{any_non_ref, piles}
use Rattle.multi_sample_scoring.proofs.Walk.{piles_end, piles-turn, total-turn, walk_is}
use Rattle.multi_sample_scoring.proofs.score.calculate_multi_sample_any_non_ref_posterior.Goals as goal

pub split_at-requires : goal.split_at-requires
split_at-requires c =
    let at = c.loop-n in
    omega (arith, total-turn c.args.set.lengths.now at.n-index (omega arith), at.invariant.whole)

pub loop-n-preserved : goal.loop-n-preserved
loop-n-preserved c =
    let a = c.args in
    let at = c.loop-n in
    let lengths = a.set.lengths.now in
    let piles = c.split_at.ensures in
    let step = with_pile a.tables.contributions.now a.tables.priors.now a.params in
    record {
      whole = omega (arith, total-turn lengths at.n-index (omega arith), at.invariant.whole, piles.back_len);
      product = rw (c.with_pile-inactive_prob.ensures, piles.front, piles.back) (piles-turn step at.inactive_prob at.rest.now lengths at.n-index (omega arith) ∙ at.invariant.product);
    }

pub returns : goal.returns
unfolding any_non_ref
returns c =
    let at = c.loop-n in
    let a = c.args in
    let step = with_pile a.tables.contributions.now a.tables.priors.now a.params in
    ap (sub binary64 one_f)
    (sym (piles_end step at.inactive_prob at.rest.now a.set.lengths.now at.n-index c.loop-n-test.false)
    ∙ at.invariant.product
    ∙ walk_is a.tables.contributions.now a.tables.priors.now a.params one_f (piles a.set.words.now a.set.lengths.now))
