-- What is left of the turns, done from here, comes to `shifted`.
use mathlib.Core.Path.{◌≡◌}
use Rattle.std.proofs.Common.{◌-◌}
use Rattle.elementary.specs.LnGamma.{from16, shift, shifted}
use Rattle.lists.specs.Loops.{until}
use Rattle.elementary.proofs.gamma.shift.Given as goal

abbrev pub invariant-loop : goal.invariant-loop
invariant-loop l = until from16 shift (16 - l.counter) (record { x = l.x; c = l.c }) ≡ shifted l.from
