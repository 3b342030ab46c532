-- `series` meets its contract: what is left of the 18 turns, done from here, gives the whole series.
use mathlib.Core.Path.{◌∙◌, sym}
use Rattle.std.proofs.Common.{arith}
use Rattle.elementary.specs.Exp.{exp_term}
use Rattle.lists.specs.Loops.{down_end, down_turn}
use Rattle.elementary.proofs.exponential.series.Goals as goal

pub loop-k-preserved : goal.loop-k-preserved
loop-k-preserved c = rw c.from.ensures (down_turn (exp_term _) _ _ c.loop-k-test.true ∙ c.loop-k.invariant)

pub returns : goal.returns
returns c = sym (down_end _ _ _ (omega arith)) ∙ c.loop-k.invariant
