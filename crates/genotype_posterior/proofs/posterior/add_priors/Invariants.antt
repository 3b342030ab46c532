-- `add_priors` meets its contract: the entries before this one have their prior.
use Rattle.std.proofs.Common.{◌≡◌}
use Rattle.genotype_posterior.specs.Priors.{with_prior}
use Rattle.lists.specs.Each.{up_to}
use Rattle.genotype_posterior.proofs.posterior.add_priors.Given as goal

abbrev pub invariant-loop-i : goal.invariant-loop-i
invariant-loop-i l = l.gl ≡ up_to (with_prior l.priors) l.i l.initial.gl
