-- `fill_densities` meets its contract: the entries before i hold the density, the others are as they were.
use Rattle.std.proofs.Common.{sym, ◌∙◌, arith}
use lib.Ieee.{nan}
use Rattle.band_pass_kernel.specs.Kernel.{densities, density}
use Rattle.lists.specs.Each.{each-fixed, fixed, up_to_all, up_to_put, up_to_zero}
use Rattle.band_pass_kernel.proofs.gaussian.fill_densities.Goals as goal

pub loop-i-init : goal.loop-i-init
loop-i-init c = sym (up_to_zero (fixed (density _ _)) _)

pub loop-i-preserved : goal.loop-i-preserved
loop-i-preserved c =
    let a = c.args in
    up_to_put (fixed (density a.filter_size a.sigma)) _ _ _ nan _ c.loop-i.invariant (omega arith) (simp (c.normal_distribution.ensures, c.from.ensures, c.nearest_usize_to_f64-at.ensures))

pub returns : goal.returns
unfolding densities
returns c =
    let a = c.args in
    c.loop-i.invariant ∙ up_to_all (fixed (density a.filter_size a.sigma)) _ _ (omega arith) ∙ each-fixed (density a.filter_size a.sigma) _
