-- `round_all` meets its contract: the entries before this one are rounded.
use Rattle.std.proofs.Common.{◌≡◌}
use Rattle.genotype_posterior.specs.Phred.{round_trip}
use Rattle.lists.specs.Each.{up_to}
use Rattle.genotype_posterior.proofs.phred.round_all.Given as goal

abbrev pub invariant-loop-x : goal.invariant-loop-x
invariant-loop-x l = l.gl ≡ up_to (round_trip l.top) l.x-index l.initial.gl
