-- The zero with a sign.
use Rattle.std.specs.Prelude.{Float}
use Rattle.std.specs.Float.Ieee.{neg}
use Rattle.doubles.specs.Constants.{zero_f}

-- what 0.0 is rounded to: 0 / −10
abbrev pub minus_zero : Float
minus_zero = neg zero_f
