-- `squared` meets its contract: what is left of the ten turns, done from here, gives the tenth square.
use mathlib.Core.Path.{◌∙◌, ◌≡◌, sym}
use Rattle.std.proofs.Common.{◌+◌, ◌-◌, arith}
use Rattle.elementary.specs.Exp.{square}
use Rattle.lists.specs.Loops.{down_end, down_turn}
use Rattle.elementary.proofs.exponential.squared.Goals as goal

pub loop-preserved : goal.loop-preserved
loop-preserved c =
    let e : 10 - (c.loop.counter + 1) ≡ 10 - c.loop.counter - 1 = omega arith in
    rw e (down_turn square _ _ (omega arith) ∙ c.loop.invariant)

pub returns : goal.returns
returns c = sym (down_end square _ _ (omega arith)) ∙ c.loop.invariant
