-- `series` meets its contract: what is left of the 17 turns, done from here, gives the whole series.
use mathlib.Core.Path.{◌∙◌, sym}
use Rattle.std.proofs.Common.{arith}
use Rattle.elementary.specs.Ln.{ln_term}
use Rattle.lists.specs.Loops.{down_end, down_turn}
use Rattle.elementary.proofs.logarithm.series.Goals as goal

pub loop-i-preserved : goal.loop-i-preserved
loop-i-preserved c = rw c.from.ensures (down_turn (ln_term _) _ _ c.loop-i-test.true ∙ c.loop-i.invariant)

pub returns : goal.returns
returns c = sym (down_end _ _ _ (omega arith)) ∙ c.loop-i.invariant
