-- What ln may be handed.
use Rattle.std.specs.Prelude.{false, T, Float}
use Rattle.std.specs.Float.{inf}
use Rattle.std.specs.Float.Ieee.{lt}
use Rattle.doubles.specs.Constants.{zero_f}

-- finite and above 0, as a program tests it
abbrev pub Argument : Float → Type 0
Argument x = T (lt zero_f x) × T (lt x (inf false))
