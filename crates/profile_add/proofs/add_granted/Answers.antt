-- `add_granted` meets its contract: the window is lent on, and its cells are those of the definition.
use Prim.Native.Nat.{◌+◌, ◌-◌, ◌≤◌}
use mathlib.Core.Path.{◌≡◌}
use Rattle.activity_profile.specs.Window.{off}
use native.Mathlib.Omega.{arith}
use Rattle.std.proofs.lemmas.List.{take_all}
use lib.ListN.{drop, length, length-take, length-drop, take}
use Rattle.activity_profile.proofs.Windows.{Reached, reached_is, window_fits, window_is}
use Rattle.activity_profile.specs.Add.{add_cells_by}
use Rattle.profile_add.proofs.add_granted.Goals as goal
use Rattle.profile_add.proofs.add_granted.Goals.{Start, After-window_of-w}

-- where the window lies
reach : (c : Start) → Reached c.args.p c.args.s (length c.args.cells.now) (length c.args.kernel.now)
reach c = reached_is _ _ _ _ c.requires

-- the window lies in the cells, and its entries in the kernel
lies : (c : After-window_of-w) → let w = c.window_of-w.result in (w.lo ≤ w.hi) × (w.hi ≤ length c.args.cells.now) × (w.off + (w.hi - w.lo) ≤ length c.args.kernel.now)
lies c =
    let w = c.window_of-w.ensures in
    let a = c.args in
    let r = reached_is a.p _ _ a.s c.requires in
    (omega (arith, w, r.first, r.low, r.high), omega (arith, w, r.room), simp (w.0, w.1, w.2) (window_fits a.p a.kernel.now a.s _ _ r _ (omega arith)))

pub super_states-m-requires : goal.super_states-m-requires
super_states-m-requires c = (reach (goal.at.super_states-m-requires c).Start).asked

pub window_of-w-requires : goal.window_of-w-requires
window_of-w-requires c = let r = reach (goal.at.window_of-w-requires c).Start in (r.first, r.low, r.near, r.high)

pub added_profile-requires : goal.added_profile-requires
added_profile-requires c = (reach (goal.at.added_profile-requires c).Start).count

pub offset_bounds-cells-w : goal.offset_bounds-cells-w
offset_bounds-cells-w c = omega (arith, lies (goal.at.offset_bounds-cells-w c).After-window_of-w)

pub slice_bounds-spread-count : goal.slice_bounds-spread-count
slice_bounds-spread-count c = omega (arith, lies (goal.at.slice_bounds-spread-count c).After-window_of-w)

pub slice_bounds-spread-start : goal.slice_bounds-spread-start
slice_bounds-spread-start c = omega (arith, lies (goal.at.slice_bounds-spread-start c).After-window_of-w)

pub slice_bounds-spread-end : goal.slice_bounds-spread-end
slice_bounds-spread-end c = omega (arith, lies (goal.at.slice_bounds-spread-end c).After-window_of-w)

pub offset_bounds-kernel-w : goal.offset_bounds-kernel-w
offset_bounds-kernel-w c = omega (arith, lies (goal.at.offset_bounds-kernel-w c).After-window_of-w)

pub slice_bounds-spread-count-2 : goal.slice_bounds-spread-count-2
slice_bounds-spread-count-2 c = omega (arith, lies (goal.at.slice_bounds-spread-count-2 c).After-window_of-w)

pub slice_bounds-spread-start-2 : goal.slice_bounds-spread-start-2
slice_bounds-spread-start-2 c = omega (arith, lies (goal.at.slice_bounds-spread-start-2 c).After-window_of-w)

pub spread-requires : goal.spread-requires
spread-requires c = simp (length-take, length-drop) (omega (arith, lies (goal.at.spread-requires c).After-window_of-w))

pub returns-clause-cells_after : goal.returns-clause-cells_after
unfolding add_cells_by
returns-clause-cells_after c =
    let w = c.window_of-w.ensures in
    let a = c.args in
    let r = reached_is a.p _ _ a.s c.requires in
    let k = a.kernel.now in
    let whole : take (length k - off a.p a.s) (drop (off a.p a.s) k) ≡ drop (off a.p a.s) k = take_all _ _ (simp length-drop (omega arith)) in
    simp (c.spread.ensures, w.0, w.1, w.2, w.3, c.super_states-m.ensures, whole) (window_is a.p k a.s _ _ r a.cells.now r.room)
