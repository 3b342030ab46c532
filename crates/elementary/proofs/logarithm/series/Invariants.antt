-- What is left of the 17 turns, done from here, gives the whole series.
use mathlib.Core.Path.{◌≡◌}
use Rattle.elementary.specs.Ln.{first, ln_term}
use Rattle.lists.specs.Loops.{down}
use Rattle.elementary.proofs.logarithm.series.Given as goal

abbrev pub invariant-loop-i : goal.invariant-loop-i
invariant-loop-i l = down (ln_term l.u) l.i l.s ≡ down (ln_term l.u) 17 first
