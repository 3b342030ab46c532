-- `region_picker_kernel` meets its contract: the kernel is copied where all three slices have room for it.
use mathlib.Core.Bool.{false}
use mathlib.Core.Path.{◌∙◌, ◌≡◌, refl}
use Rattle.region_picker.proofs.Kernels.{kernel_copied}
use Rattle.region_picker.specs.Part.{short_for}
use Rattle.region_picker.proofs.profile.region_picker_kernel.Goals as goal

pub returns : goal.returns
returns c =
    let a = c.args in
    let whole = kernel_copied a.filter_size a.max_filter_size a.kernel.now a.full.now a.narrow.now c.if-kernel-n.false in
    let long : short_for a.filter_size a.kernel.now a.full.now a.narrow.now ≡ false = c.if-kernel-n.false in
    record { number = rw long refl; written = rw long (c.copy_kernel.ensures.to_after ∙ rw c.normalized_kernel.ensures whole) }
