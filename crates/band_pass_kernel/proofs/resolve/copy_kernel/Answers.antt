-- `copy_kernel` meets its contract: the entries before i are the kernel's, and the others as they were.
use Rattle.std.proofs.Common.{◌<◌, length, take, add-one, zero-add, arith}
use Rattle.std.proofs.lemmas.List.{length-take-le}
use lib.Ieee.{nan}
use lib.Seq.{paste-suc}
use Rattle.band_pass_kernel.proofs.resolve.copy_kernel.Goals as goal

pub loop-i-preserved : goal.loop-i-preserved
loop-i-preserved c =
    let a = c.args in
    let n = length a.kernel.now in
    let wide = length-take-le n a.to.now c.if-to-kernel.false in
    let below : c.loop-i.i < n = omega (arith, wide, c.loop-i-test.true) in
    let turn = paste-suc (take n a.to.now) 0 a.kernel.now c.loop-i.i nan (omega (arith, wide, below)) below in
    simp (c.loop-i.invariant, add-one, zero-add) (simp zero-add at turn)
