-- `max_element_index` meets its contract: the largest of those from here on, begun with the largest so far, is the largest of all.
use Prim.Native.Nat.{◌-◌, ◌<◌, ◌≤◌}
use mathlib.Core.Path.{◌≡◌}
use lib.ListN.{length}
use Rattle.lists.specs.Loops.{along}
use Rattle.log10_sums.specs.Sums.{larger, max_element_index}
use Rattle.log10_sums.proofs.sums.max_element_index.Given as goal

abbrev pub invariant-loop-i : goal.invariant-loop-i
invariant-loop-i l = (l.m < l.i) × (l.m ≤ length l.values - 1) × (along (larger l.values) l.i (length l.values - l.i) l.m ≡ max_element_index l.values)

abbrev pub decreases-loop-i : goal.decreases-loop-i
decreases-loop-i l = length l.values - l.i
