-- What is left of the 18 turns, done from here, gives the whole series.
use mathlib.Core.Path.{◌≡◌}
use Rattle.doubles.specs.Constants.{one_f}
use Rattle.elementary.specs.Exp.{exp_term}
use Rattle.lists.specs.Loops.{down}
use Rattle.elementary.proofs.exponential.series.Given as goal

abbrev pub invariant-loop-k : goal.invariant-loop-k
invariant-loop-k l = down (exp_term l.t) l.k l.s ≡ down (exp_term l.t) 18 one_f
