-- `divide` meets its contract: the entries before the index are divided, the others are as they were.
use Rattle.std.proofs.Common.{◌≡◌}
use Rattle.band_pass_kernel.specs.Kernel.{over}
use Rattle.lists.specs.Each.{up_to}
use Rattle.band_pass_kernel.proofs.gaussian.divide.Given as goal

abbrev pub invariant-loop-entry : goal.invariant-loop-entry
invariant-loop-entry l = l.kernel ≡ up_to (over l.sum) l.entry-index l.initial.kernel
