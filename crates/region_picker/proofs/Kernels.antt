-- A kernel that has room where it stands and where it is copied to is copied whole. Assumes nothing.
use mathlib.Core.Path.{◌≡◌}
use mathlib.Core.Bool.{Bool, true, false, cond, ◌||◌}
use mathlib.Core.List.{List}
use Prim.Native.Nat.{ℕ, ◌≤◌}
use lib.Dec.{eqb, ltb}
use lib.ListN.{length}
use lib.Seq.{length-take-le}
use lib.Ieee.{Float}
use borrow.Author.Tests.{ltb-false, le-ltb}
use Rattle.lists.specs.Tests.{or_left, or_right}
use Rattle.band_pass_kernel.specs.Kernel.{band}
use Rattle.band_pass_kernel.specs.Resolve.{written_to, copied}
use Rattle.region_picker.specs.Part.{kernel_of, short_for}

pub kernel_copied : (f widest : ℕ) (kernel full narrow : List Float) → short_for f kernel full narrow ≡ false
    → copied (kernel_of f widest full narrow) kernel ≡ written_to kernel (band f) (kernel_of f widest full narrow)
unfolding copied
kernel_copied f widest kernel full narrow e =
    let rest = or_right (ltb (length kernel) (band f)) (ltb (length full) (band f) || ltb (length narrow) (band f)) e in
    let room = ltb-false (length kernel) (band f) (or_left (ltb (length kernel) (band f)) _ e) in
    let in-full = ltb-false (length full) (band f) (or_left (ltb (length full) (band f)) _ rest) in
    let in-narrow = ltb-false (length narrow) (band f) (or_right (ltb (length full) (band f)) _ rest) in
    let whole : length (kernel_of f widest full narrow) ≡ band f = length-take-le (band f) (cond (eqb f widest) full narrow) (either (eqb f widest) in-full in-narrow) in
    rw (whole, le-ltb (length kernel) (band f) room)
  where
    either : (b : Bool) → band f ≤ length full → band f ≤ length narrow → band f ≤ length (cond b full narrow)
    either true g h = g
    either false g h = h
