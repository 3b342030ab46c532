-- `scale_up` meets its contract: what is left of the turns, done from here, comes to the end of the doublings.
use mathlib.Core.Path.{◌∙◌, ◌≡◌, sym}
use Rattle.std.proofs.Common.{not, ap, ◌+◌, ◌-◌, arith}
use Rattle.elementary.specs.Ln.{double, from1}
use Rattle.lists.specs.Loops.{until_end, until_stop, until-turn}
use Rattle.elementary.proofs.logarithm.scale_up.Goals as goal

pub loop-doublings-init : goal.loop-doublings-init
loop-doublings-init c = rw (← c.requires)

pub returns-then-not-m : goal.returns-then-not-m
returns-then-not-m c = sym (until_stop from1 double _ _ (ap not c.if-not-m.true)) ∙ c.loop-doublings.invariant

pub loop-doublings-preserved : goal.loop-doublings-preserved
loop-doublings-preserved c =
    let e : 1074 - (c.loop-doublings.doublings + 1) ≡ 1074 - c.loop-doublings.doublings - 1 = omega arith in
    rw e (until-turn from1 double _ _ (omega arith) (ap not c.if-not-m.false) ∙ c.loop-doublings.invariant)

pub returns : goal.returns
returns c =
    let e : c.loop-doublings.doublings ≡ 1074 = omega arith in
    sym (until_end from1 double _ _ (omega arith)) ∙ rw e at c.loop-doublings.invariant
