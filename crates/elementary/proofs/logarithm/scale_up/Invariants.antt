-- What is left of the turns, done from here, comes to the end of the doublings.
use mathlib.Core.Path.{◌≡◌}
use Rattle.std.proofs.Common.{◌-◌}
use Rattle.elementary.specs.Ln.{double, from1}
use Rattle.lists.specs.Loops.{until}
use Rattle.elementary.proofs.logarithm.scale_up.Given as goal

abbrev pub invariant-loop-doublings : goal.invariant-loop-doublings
invariant-loop-doublings l = until from1 double (1074 - l.doublings) (record { m = l.m; halvings = l.halvings; doublings = l.doublings }) ≡ until from1 double 1074 l.fn.s
