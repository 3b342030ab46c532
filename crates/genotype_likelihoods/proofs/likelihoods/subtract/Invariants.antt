-- `subtract` meets its contract: the entries before this one have it taken off.
use Rattle.std.proofs.Common.{◌≡◌}
use Rattle.genotype_likelihoods.specs.Likelihoods.{less}
use Rattle.lists.specs.Each.{up_to}
use Rattle.genotype_likelihoods.proofs.likelihoods.subtract.Given as goal

abbrev pub invariant-loop-x : goal.invariant-loop-x
invariant-loop-x l = l.gl ≡ up_to (less l.denom) l.x-index l.initial.gl
