-- What is left of the ten turns, done from here, gives the tenth square.
use mathlib.Core.Path.{◌≡◌}
use Rattle.std.proofs.Common.{◌-◌}
use Rattle.elementary.specs.Exp.{square}
use Rattle.lists.specs.Loops.{down}
use Rattle.elementary.proofs.exponential.squared.Given as goal

abbrev pub invariant-loop : goal.invariant-loop
invariant-loop l = down square (10 - l.counter) l.s ≡ down square 10 l.x
