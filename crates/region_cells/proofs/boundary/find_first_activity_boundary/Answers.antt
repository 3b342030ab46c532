-- `find_first_activity_boundary` meets its contract: behind the fours that are on one side, the rest is searched.
use Prim.Native.Nat.{◌+◌, ◌≤◌}
use mathlib.Core.Path.{◌∙◌, ◌≡◌, ap}
use native.Mathlib.Omega.{arith}
use lib.ListN.{drop, length, length-drop, length-take, take}
use Rattle.std.proofs.lemmas.List.{take_all, take_min}
use Rattle.activity_profile.specs.Pop.{other_side}
use Rattle.lists.specs.Loops.{first_at, first_at-le}
use Rattle.region_cells.proofs.Fours.{first_at-prefix}
use Rattle.region_cells.proofs.boundary.find_first_activity_boundary.Goals as goal
use Rattle.region_cells.proofs.boundary.find_first_activity_boundary.Goals.{After-run}

-- with the rest, the first of all that are kept
size-is : (c : After-run) → let a = c.args in
    c.fours-from.result + c.run.result ≡ first_at (other_side a.threshold a.active) (take a.most a.states.now)
size-is c =
    let a = c.args in
    let side = other_side a.threshold a.active in
    let kept = take c.min.result a.states.now in
    let rest : c.run.result ≡ first_at side (drop c.fours-from.result kept) =
    c.run.ensures ∙ first_at-prefix side _ ∙ ap (first_at side) (take_all _ _ (simp length-drop (omega arith))) in
    rw rest (c.fours-from.ensures.1 ∙ rw c.min.ensures (ap (first_at side) (take_min a.most a.states.now)))

-- which is no more than the count
size-fits : (c : After-run) → c.fours-from.result + c.run.result ≤ length c.args.states.now
size-fits c =
    let a = c.args in
    omega (arith, size-is c, first_at-le (other_side a.threshold a.active) (take a.most a.states.now), length-take a.most a.states.now)

pub overflow_add-result : goal.overflow_add-result
overflow_add-result c = omega (arith, size-fits c)

pub returns : goal.returns
returns c = (size-is (goal.at.returns c).After-run, size-fits (goal.at.returns c).After-run)
