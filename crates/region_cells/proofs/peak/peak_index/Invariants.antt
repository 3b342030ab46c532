-- `peak_index` meets its contract: what is left of the walk, done from here with the leader so far, is the whole walk.
use Prim.Native.Nat.{◌+◌, ◌-◌, ◌*◌, ◌<◌}
use mathlib.Core.Path.{◌≡◌}
use lib.ListN.{length}
use Rattle.activity_profile.specs.Peak.{leads, peak_index}
use Rattle.lists.specs.Loops.{along}
use Rattle.region_cells.proofs.peak.peak_index.Given as goal

abbrev pub invariant-loop-k : goal.invariant-loop-k
invariant-loop-k l = (l.leader < 4 * l.k + 1) × (along (leads l.cells) (4 * l.k + 1) (length l.cells - (4 * l.k + 1)) l.leader ≡ peak_index l.cells)
