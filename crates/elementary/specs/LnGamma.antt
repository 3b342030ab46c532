-- 01, Elementary functions: ln_gamma. Each step is one double operation.
use Rattle.std.specs.Prelude.{Bool, false, cond, not, ℕ, Float}
use Rattle.std.specs.Float.{nan, inf, binary64}
use Rattle.std.specs.Float.Ieee.{of_bits, add, sub, mul, div, lt, eq}
use Rattle.lists.specs.Loops.{until}
use Rattle.doubles.specs.Constants.{zero_f, half_f, one_f, sixteen_f}
use Rattle.elementary.specs.declared.Shifted.{Shifted}
use Rattle.elementary.specs.Ln.{ln_of}

abbrev pub unshifted : Float → Shifted
unshifted x = record { x = x; c = zero_f }

-- "add ln x to c and 1 to x"
abbrev pub shift : Shifted → Shifted
shift s = record { x = add binary64 s.x one_f; c = add binary64 s.c (ln_of s.x) }

abbrev pub from16 : Shifted → Bool
from16 s = not (lt s.x sixteen_f)

-- as many turns as any x above 0 needs: `proofs/Scaling.antt` shows that the loop is not cut short
abbrev pub max_shifts : ℕ
max_shifts = 16

-- "c = 0, while x < 16 .."
unfoldable pub shifted : Float → Shifted
shifted x = until from16 shift max_shifts (unshifted x)

-- "a = 1/1260 − v/1680, b = 1/360 − v × a, d = 1/12 − v × b"
unfoldable pub correction : Float → Float
correction v =
    let a = sub binary64 (div binary64 one_f (of_bits binary64 0x4093_b000_0000_0000)) (div binary64 v (of_bits binary64 0x409a_4000_0000_0000)) in
    let b = sub binary64 (div binary64 one_f (of_bits binary64 0x4076_8000_0000_0000)) (mul binary64 v a) in
    sub binary64 (div binary64 one_f (of_bits binary64 0x4028_0000_0000_0000)) (mul binary64 v b)

-- "r = 1/x, v = r × r, .. ((((x − 0.5) × ln x − x) + 0.91893853320467274178) + r × d) − c"
unfoldable pub stirling : Shifted → Float
stirling s =
    let r = div binary64 one_f s.x in
    let d = correction (mul binary64 r r) in
    sub binary64
    (add binary64
    (add binary64 (sub binary64 (mul binary64 (sub binary64 s.x half_f) (ln_of s.x)) s.x) (of_bits binary64 0x3fed_67f1_c864_beb5))
    (mul binary64 r d))
    s.c

-- Above 0 and finite, 01's steps. 01 gives ln_gamma no value elsewhere: here 0 and the infinity have the infinity, and what is below 0
-- and NaN have NaN.
unfoldable pub ln_gamma_of : Float → Float
ln_gamma_of x = cond (lt zero_f x) (cond (lt x (inf false)) (stirling (shifted x)) (inf false)) (cond (eq x zero_f) (inf false) nan)
