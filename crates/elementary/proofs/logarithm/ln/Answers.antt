-- `ln` meets its contract: each of its four answers is the definition's under the tests that led there.
use lib.Ieee.{neg, of_bits}
use Rattle.elementary.specs.Ln.{ln_of, scaled}
use Rattle.elementary.proofs.logarithm.ln.Goals as goal

pub returns-then-y-2 : goal.returns-then-y-2
unfolding ln_of scaled of_bits
returns-then-y-2 c =
    simp (c.if-y.true, c.if-y-2.true, c.ln_scaled.ensures, c.scale_up.ensures, c.scale_down.ensures.0)

pub returns-then-y : goal.returns-then-y
unfolding ln_of of_bits
returns-then-y c = simp (c.if-y.true, c.if-y-2.false)

pub returns-then-y-3 : goal.returns-then-y-3
unfolding ln_of neg of_bits
returns-then-y-3 c = simp (c.if-y.false, c.if-y-3.true)

pub returns : goal.returns
unfolding ln_of of_bits
returns c = simp (c.if-y.false, c.if-y-3.false)
