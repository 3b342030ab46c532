-- `subtract` meets its contract: the entries before this one have it taken off.
use Rattle.std.proofs.Common.{sym, ◌∙◌, arith}
use lib.Ieee.{nan}
use Rattle.genotype_likelihoods.specs.Likelihoods.{less}
use Rattle.lists.specs.Each.{up_to_all, up_to-turn, up_to_zero}
use Rattle.genotype_likelihoods.proofs.likelihoods.subtract.Goals as goal

pub loop-x-init : goal.loop-x-init
loop-x-init c = sym (up_to_zero _ _)

pub loop-x-preserved : goal.loop-x-preserved
loop-x-preserved c = up_to-turn (less _) _ _ _ nan c.loop-x.invariant (omega arith)

pub returns : goal.returns
returns c = c.loop-x.invariant ∙ up_to_all (less _) _ _ (omega arith)
