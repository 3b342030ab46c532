-- `round_all` meets its contract: the entries before this one are rounded.
use Rattle.std.proofs.Common.{sym, ◌∙◌, arith}
use lib.Ieee.{nan}
use Rattle.genotype_posterior.specs.Phred.{round_trip}
use Rattle.lists.specs.Each.{up_to_all, up_to-turn, up_to_zero}
use Rattle.genotype_posterior.proofs.phred.round_all.Goals as goal

pub loop-x-init : goal.loop-x-init
loop-x-init c = sym (up_to_zero _ _)

pub loop-x-preserved : goal.loop-x-preserved
loop-x-preserved c =
    let a = c.args in
    rw c.round_one.ensures (up_to-turn (round_trip a.top) _ _ _ nan c.loop-x.invariant (omega arith))

pub returns : goal.returns
returns c = c.loop-x.invariant ∙ up_to_all (round_trip _) _ _ (omega arith)
