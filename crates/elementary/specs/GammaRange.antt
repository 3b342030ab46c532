-- Where the shift of ln_gamma stands: what its law says of every turn.
use Rattle.std.specs.Prelude.{ℕ, ◌+◌, T}
use Rattle.std.specs.Float.{binary64}
use Rattle.std.specs.Float.Ieee.{lt, fits}
use Rattle.doubles.specs.Constants.{zero_f}
use Rattle.double_ranges.specs.Size.{Size}
use Rattle.elementary.specs.declared.Shifted.{Shifted}

-- after i turns
pub record Turned (i : ℕ) (s : Shifted) : Type 0 where
  pub fit : T (fits binary64 s.x)
  pub above : T (lt zero_f s.x)
  pub x_size : Size (40 + i) s.x
  pub c_size : Size (90 + i) s.c
