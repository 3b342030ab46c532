-- `gain` meets its contract: the entries before this one have the observation.
use Rattle.std.proofs.Common.{sym, ◌∙◌, arith}
use lib.Ieee.{nan}
use Rattle.genotype_likelihoods.specs.Likelihoods.{gained}
use Rattle.lists.specs.Each.{up_to_all, up_to-turn, up_to_zero}
use Rattle.genotype_likelihoods.proofs.likelihoods.gain.Goals as goal

pub loop-i-init : goal.loop-i-init
loop-i-init c = sym (up_to_zero _ _)

pub loop-i-preserved : goal.loop-i-preserved
loop-i-preserved c =
    let a = c.args in
    rw c.genotype_contribution.ensures (up_to-turn (gained a.qual a.is_alt a.weight a.ploidy.0) _ _ _ nan c.loop-i.invariant (omega arith))

pub returns : goal.returns
returns c = c.loop-i.invariant ∙ up_to_all (gained _ _ _ _) _ _ (omega arith)
