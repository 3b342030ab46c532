-- `powers_of` meets its contract: the powers from here on, added to the sum so far, are the whole sum.
use Prim.Native.Nat.{◌-◌}
use mathlib.Core.Path.{◌≡◌}
use lib.ListN.{length}
use Rattle.lists.specs.Loops.{along}
use Rattle.log10_sums.specs.Sums.{power, powers}
use Rattle.log10_sums.proofs.sums.powers_of.Given as goal

abbrev pub invariant-loop-i : goal.invariant-loop-i
invariant-loop-i l = along (power l.values l.m l.top) l.i (length l.values - l.i) l.s ≡ powers l.values l.m l.top

abbrev pub decreases-loop-i : goal.decreases-loop-i
decreases-loop-i l = length l.values - l.i
