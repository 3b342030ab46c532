-- `shift` meets its contract: what is left of the turns, done from here, comes to `shifted`.
use mathlib.Core.Path.{◌∙◌, ◌≡◌, refl, sym}
use Rattle.std.proofs.Common.{not, ap, ◌+◌, ◌-◌, arith}
use Rattle.elementary.specs.LnGamma.{from16, shift, shifted}
use Rattle.lists.specs.Loops.{until_end, until_stop, until-turn}
use Rattle.elementary.proofs.gamma.shift.Goals as goal

pub loop-init : goal.loop-init
unfolding shifted
loop-init c = refl

pub returns-then-not-x : goal.returns-then-not-x
returns-then-not-x c = sym (until_stop from16 shift _ _ (ap not c.if-not-x.true)) ∙ c.loop.invariant

pub loop-preserved : goal.loop-preserved
loop-preserved c =
    let e : 16 - (c.loop.counter + 1) ≡ 16 - c.loop.counter - 1 = omega arith in
    rw (e, c.ln-c.ensures) (until-turn from16 shift _ _ (omega arith) (ap not c.if-not-x.false) ∙ c.loop.invariant)

pub returns : goal.returns
returns c = sym (until_end from16 shift _ _ (omega arith)) ∙ c.loop.invariant
