-- `copy_kernel` meets its contract: the entries before i are the kernel's, and the others as they were.
use Rattle.std.proofs.Common.{◌≡◌}
use lib.Seq.{paste}
use Rattle.band_pass_kernel.proofs.resolve.copy_kernel.Given as goal

abbrev pub invariant-loop-i : goal.invariant-loop-i
invariant-loop-i l = l.entry-items ≡ paste l.initial.entry-items 0 l.kernel l.i
