-- What is left of the turns, done from here, comes to `halved y`.
use mathlib.Core.Path.{◌≡◌}
use Rattle.std.proofs.Common.{◌-◌}
use Rattle.elementary.specs.Ln.{below2, halve, halved}
use Rattle.lists.specs.Loops.{until}
use Rattle.elementary.proofs.logarithm.scale_down.Given as goal

abbrev pub invariant-loop-halvings : goal.invariant-loop-halvings
invariant-loop-halvings l = until below2 halve (1074 - l.halvings) (record { m = l.m; halvings = l.halvings; doublings = 0 }) ≡ halved l.y
