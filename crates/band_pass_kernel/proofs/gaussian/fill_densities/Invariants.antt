-- `fill_densities` meets its contract: the entries before i hold the density, the others are as they were.
use Rattle.std.proofs.Common.{◌≡◌}
use Rattle.band_pass_kernel.specs.Kernel.{density}
use Rattle.lists.specs.Each.{fixed, up_to}
use Rattle.band_pass_kernel.proofs.gaussian.fill_densities.Given as goal

abbrev pub invariant-loop-i : goal.invariant-loop-i
invariant-loop-i l = l.kernel ≡ up_to (fixed (density l.filter_size l.sigma)) l.i l.initial.kernel
