-- `ln_gamma` meets its contract: each of its four answers is the definition's under the tests that led there.
use lib.Ieee.{of_bits}
use Rattle.elementary.specs.LnGamma.{ln_gamma_of}
use Rattle.elementary.proofs.gamma.ln_gamma.Goals as goal

pub returns-then-x-2 : goal.returns-then-x-2
unfolding ln_gamma_of of_bits
returns-then-x-2 c = simp (c.if-x.true, c.if-x-2.true, c.stirling_at.ensures, c.shift.ensures)

pub returns-then-x : goal.returns-then-x
unfolding ln_gamma_of of_bits
returns-then-x c = simp (c.if-x.true, c.if-x-2.false)

pub returns-then-x-3 : goal.returns-then-x-3
unfolding ln_gamma_of of_bits
returns-then-x-3 c = simp (c.if-x.false, c.if-x-3.true)

pub returns : goal.returns
unfolding ln_gamma_of of_bits
returns c = simp (c.if-x.false, c.if-x-3.false)
