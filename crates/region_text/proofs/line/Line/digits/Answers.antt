-- `digits` meets its contract: what is left of the number, written before what is there, is the same text at each turn.
use Rattle.std.proofs.Common.{◌≡◌, ◌-◌, ◌+◌, ◌∙◌, refl, sym, arith}
use Rattle.region_text.specs.Text.{decimal}
use Rattle.region_text.proofs.Writing.{both, digits_end, digits_last, digits-turn, said}
use Rattle.region_text.proofs.line.Line.digits.Goals as goal

pub loop-init : goal.loop-init
unfolding decimal
loop-init c = record { wrote = (refl, record { text = refl; front = refl; same = refl; low = omega arith; few = omega arith }); left = refl }

pub returns-then-rest-lt10 : goal.returns-then-rest-lt10
returns-then-rest-lt10 c =
    let inv = c.loop.invariant in
    let wrote = both _ _ _ _ _ _ _ _ _ _ inv.wrote.1 c.byte.ensures.1 in
    (c.byte.ensures.0 ∙ inv.wrote.0, said _ _ _ _ _ _ _ _ (omega arith) (wrote.text ∙ sym (digits_last (20 - c.loop.counter) _ _ (omega arith) c.if-rest-lt10.true) ∙ inv.left) wrote)

pub loop-preserved : goal.loop-preserved
loop-preserved c =
    let inv = c.loop.invariant in
    let k = c.loop.counter in
    let wrote = both _ _ _ _ _ _ _ _ _ _ inv.wrote.1 c.byte-in-loop.ensures.1 in
    let left : 20 - (k + 1) ≡ 20 - k - 1 = omega arith in
    record {
      wrote = (c.byte-in-loop.ensures.0 ∙ inv.wrote.0, said _ _ _ _ _ _ _ _ (omega arith) refl wrote);
      left = rw (wrote.text, left) (digits-turn (20 - k) _ _ (omega arith) c.if-rest-lt10.false ∙ inv.left);
    }

pub returns : goal.returns
returns c =
    let inv = c.loop.invariant in
    (inv.wrote.0, said _ _ _ _ _ _ _ _ (omega arith) (sym (digits_end (20 - c.loop.counter) _ _ (omega arith)) ∙ inv.left) inv.wrote.1)
