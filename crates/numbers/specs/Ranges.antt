-- 01, Ranges: both ends of a range are inside; a NaN is inside none.
use Rattle.std.specs.Prelude.{ℕ, Bool, ◌&&◌, nat_le, Float}
use Rattle.std.specs.Float.Ieee.{le}

abbrev pub between : ℕ → ℕ → ℕ → Bool
between low n high = nat_le low n && nat_le n high

abbrev pub within : Float → Float → Float → Bool
within low x high = le low x && le x high
