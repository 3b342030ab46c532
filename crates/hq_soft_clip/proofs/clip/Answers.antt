-- `clip` meets its contract: it counts in the part of the qualities that the clip has.
use Prim.Native.Nat.{◌+◌, ◌-◌}
use mathlib.Core.Path.{◌≡◌}
use native.Mathlib.Omega.{arith}
use Rattle.hq_soft_clip.proofs.Walks.{high_le}
use Rattle.hq_soft_clip.proofs.clip.Goals as goal

pub overflow_add-result : goal.overflow_add-result
overflow_add-result c =
    let start = c in
    omega (arith, c.count_high.ensures, high_le start.args.qualities.now start.args.w.at (start.args.end - start.args.w.at), start.requires)

pub returns : goal.returns
returns c =
    let start = c in
    let place : start.args.w.at + (start.args.end - start.args.w.at) ≡ start.args.end = omega (arith, start.requires) in
    rw (place, c.count_high.ensures)
