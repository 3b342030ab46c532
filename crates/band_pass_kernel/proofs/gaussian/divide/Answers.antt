-- `divide` meets its contract: the entries before the index are divided, the others are as they were.
use Rattle.std.proofs.Common.{sym, ◌∙◌, arith}
use lib.Ieee.{nan}
use Rattle.band_pass_kernel.specs.Kernel.{over}
use Rattle.lists.specs.Each.{up_to_all, up_to-turn, up_to_zero}
use Rattle.band_pass_kernel.proofs.gaussian.divide.Goals as goal

pub loop-entry-init : goal.loop-entry-init
loop-entry-init c = sym (up_to_zero (over _) _)

pub loop-entry-preserved : goal.loop-entry-preserved
loop-entry-preserved c = up_to-turn (over _) _ _ _ nan c.loop-entry.invariant (omega arith)

pub returns : goal.returns
returns c = c.loop-entry.invariant ∙ up_to_all (over _) _ _ (omega arith)
