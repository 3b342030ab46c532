-- The size and the sign of the doubles that definitions name. Assumes nothing.
use Rattle.std.specs.Prelude.{refl}
use Rattle.std.proofs.Common.{lit≤}
use Rattle.std.specs.Float.Ieee.{of_bits}
use Rattle.doubles.specs.Constants.{zero_f, half_f, one_f, two_f, ten_f}
use Rattle.doubles.specs.Shift.{AtLeast}
use Rattle.double_ranges.specs.Sign.{Plus}
use Rattle.double_ranges.specs.Size.{Size}

pub zero_size_lem : Size 0 zero_f
unfolding of_bits
zero_size_lem = lit≤ tt

pub zero_plus : Plus zero_f
unfolding of_bits
zero_plus = refl

pub half_size : Size 0 half_f
unfolding of_bits
half_size = lit≤ tt

pub one_size : Size 0 one_f
unfolding of_bits
one_size = lit≤ tt

pub one_plus : Plus one_f
unfolding of_bits
one_plus = refl

pub one_at_least : AtLeast 1 one_f
unfolding of_bits
one_at_least = (refl, lit≤ tt)

pub two_size : Size 1 two_f
unfolding of_bits
two_size = lit≤ tt

pub two_plus : Plus two_f
unfolding of_bits
two_plus = refl

pub ten_at_least : AtLeast 1 ten_f
unfolding of_bits
ten_at_least = (refl, lit≤ tt)
