-- `powers_of` meets its contract: the powers from here on, added to the sum so far, are the whole sum.
use mathlib.Core.Path.{◌∙◌, ◌≡◌, sym}
use native.Mathlib.Omega.{arith}
use lib.ListN.{length}
use Rattle.lists.specs.Loops.{along_end, along-turn}
use Rattle.log10_sums.specs.Sums.{power}
use Rattle.log10_sums.proofs.sums.powers_of.Goals as goal

pub loop-i-preserved : goal.loop-i-preserved
unfolding power
loop-i-preserved c =
    let at = c in
    let a = at.args in
    let xs = a.values.now in
    let e : c.with_power-s.result ≡ power xs a.m a.top at.loop-i.i at.loop-i.s = c.with_power-s.ensures in
    rw e (along-turn (power xs a.m a.top) at.loop-i.i (length xs) at.loop-i.s (omega arith) ∙ at.loop-i.invariant)

pub returns : goal.returns
returns c = sym (along_end (power _ _ _) _ _ _ c.loop-i-test.false) ∙ c.loop-i.invariant
