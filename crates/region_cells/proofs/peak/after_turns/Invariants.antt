-- `after_turns` meets its contract: what is left of the walk, done from here with the leader so far, is all of it.
use Prim.Native.Nat.{◌-◌, ◌<◌, ◌≤◌, max}
use mathlib.Core.Path.{◌≡◌}
use Rattle.activity_profile.specs.Peak.{leads}
use Rattle.lists.specs.Loops.{along}
use Rattle.region_cells.proofs.peak.after_turns.Given as goal

abbrev pub invariant-loop-i : goal.invariant-loop-i
invariant-loop-i l = (l.leader < l.i) × (l.i ≤ max l.from l.to) × (along (leads l.cells) l.i (l.to - l.i) l.leader ≡ along (leads l.cells) l.from (l.to - l.from) l.first)
