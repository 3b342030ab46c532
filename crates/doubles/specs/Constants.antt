-- Doubles that definitions name, by their bit patterns.
use Rattle.std.specs.Prelude.{Float}
use Rattle.std.specs.Float.{binary64}
use Rattle.std.specs.Float.Ieee.{of_bits}

abbrev pub zero_f : Float
zero_f = of_bits binary64 0

abbrev pub half_f : Float
half_f = of_bits binary64 0x3fe0_0000_0000_0000

abbrev pub one_f : Float
one_f = of_bits binary64 0x3ff0_0000_0000_0000

abbrev pub two_f : Float
two_f = of_bits binary64 0x4000_0000_0000_0000

abbrev pub ten_f : Float
ten_f = of_bits binary64 0x4024_0000_0000_0000

abbrev pub sixteen_f : Float
sixteen_f = of_bits binary64 0x4030_0000_0000_0000
