-- `peak_index` meets its contract: what is left of the walk, done from here with the leader so far, is the whole walk.
use Prim.Native.Nat.{◌+◌, ◌*◌, ◌/◌}
use mathlib.Core.Path.{◌∙◌, ◌≡◌, refl}
use native.Mathlib.Omega.{arith}
use Rattle.activity_profile.specs.Peak.{leads, peak_index}
use Rattle.lists.specs.Loops.{along_turns}
use Rattle.region_cells.proofs.peak.peak_index.Goals as goal

pub loop-k-init : goal.loop-k-init
unfolding peak_index
loop-k-init c = (omega arith, refl)

pub loop-k-preserved : goal.loop-k-preserved
loop-k-preserved c =
    let a = c.args in
    let k = c.loop-k.k in
    let e : 4 * (k + 1) + 1 ≡ 4 * k + 1 + 4 = omega arith in
    (omega arith, rw (e, c.after_four-leader.ensures.0) (along_turns (leads a.cells.now) (4 * k + 1) 4 _ c.loop-k.leader (omega arith) ∙ c.loop-k.invariant.1))

pub returns : goal.returns
returns c =
    let done : c.loop-k.k ≡ c.saturating_sub-fours.result / 4 = omega arith in
    c.after_turns.ensures.0 ∙ rw (← done) c.loop-k.invariant.1
