-- `scale_down` meets its contract: what is left of the turns, done from here, comes to `halved y`.
use mathlib.Core.Path.{◌∙◌, ◌≡◌, refl, sym}
use Rattle.std.proofs.Common.{◌+◌, ◌-◌, arith}
use Rattle.elementary.specs.Ln.{below2, halve, halved}
use Rattle.lists.specs.Loops.{until_end, until_stop, until-turn}
use Rattle.elementary.proofs.logarithm.scale_down.Goals as goal

pub loop-halvings-init : goal.loop-halvings-init
unfolding halved
loop-halvings-init c = refl

pub returns-then-m : goal.returns-then-m
returns-then-m c = (sym (until_stop below2 halve _ _ c.if-m.true) ∙ c.loop-halvings.invariant, omega arith, refl)

pub loop-halvings-preserved : goal.loop-halvings-preserved
loop-halvings-preserved c =
    let e : 1074 - (c.loop-halvings.halvings + 1) ≡ 1074 - c.loop-halvings.halvings - 1 = omega arith in
    rw e (until-turn below2 halve _ _ (omega arith) c.if-m.false ∙ c.loop-halvings.invariant)

pub returns : goal.returns
returns c =
    let e : c.loop-halvings.halvings ≡ 1074 = omega arith in
    (sym (until_end below2 halve _ _ (omega arith)) ∙ rw e at c.loop-halvings.invariant, omega arith, refl)
