-- `add_priors` meets its contract: the entries before this one have their prior.
use Rattle.std.proofs.Common.{sym, ◌∙◌, arith}
use lib.Ieee.{nan}
use Rattle.genotype_posterior.specs.Priors.{with_prior}
use Rattle.lists.specs.Each.{up_to_all, up_to-turn, up_to_zero}
use Rattle.genotype_posterior.proofs.posterior.add_priors.Goals as goal

pub loop-i-init : goal.loop-i-init
loop-i-init c = sym (up_to_zero _ _)

pub loop-i-preserved : goal.loop-i-preserved
loop-i-preserved c = up_to-turn (with_prior c.args.priors.now) _ _ _ nan c.loop-i.invariant (omega arith)

pub returns : goal.returns
returns c = c.loop-i.invariant ∙ up_to_all (with_prior c.args.priors.now) _ _ (omega arith)
