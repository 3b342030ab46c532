-- `gain` meets its contract: the entries before this one have the observation.
use Rattle.std.proofs.Common.{◌≡◌}
use Rattle.genotype_likelihoods.specs.Likelihoods.{gained}
use Rattle.lists.specs.Each.{up_to}
use Rattle.genotype_likelihoods.proofs.likelihoods.gain.Given as goal

abbrev pub invariant-loop-i : goal.invariant-loop-i
invariant-loop-i l = l.gl ≡ up_to (gained l.qual l.is_alt l.weight l.ploidy.0) l.i l.initial.gl
