-- 01, Elementary functions: ln and log10. Each step is one double operation.
use Rattle.std.specs.Prelude.{Bool, true, false, cond, not, ℕ, ◌+◌, ◌-◌, ◌*◌, pos, Float}
use Rattle.std.specs.Float.{nan, inf, binary64}
use Rattle.std.specs.Float.Ieee.{of_bits, of_int, add, sub, mul, div, lt, eq}
use Rattle.lists.specs.Loops.{down, until}
use Rattle.doubles.specs.Constants.{zero_f, half_f, one_f, two_f}
use Rattle.elementary.specs.declared.Scaled.{Scaled}

-- y as it is, before it is scaled
abbrev pub unscaled : Float → Scaled
unscaled y = record { m = y; halvings = 0; doublings = 0 }

abbrev pub halve : Scaled → Scaled
halve s = record { m = mul binary64 s.m half_f; halvings = s.halvings + 1; doublings = s.doublings }

abbrev pub below2 : Scaled → Bool
below2 s = lt s.m two_f

abbrev pub double : Scaled → Scaled
double s = record { m = mul binary64 s.m two_f; halvings = s.halvings; doublings = s.doublings + 1 }

abbrev pub from1 : Scaled → Bool
from1 s = not (lt s.m one_f)

-- as many halvings or doublings as any finite double needs: `proofs/Scaling.antt` shows that no loop is cut short
abbrev pub max_scalings : ℕ
max_scalings = 1074

unfoldable pub halved : Float → Scaled
halved y = until below2 halve max_scalings (unscaled y)

-- "scale m by 2 into 1 ≤ m < 2"
unfoldable pub scaled : Float → Scaled
scaled y = until from1 double max_scalings (halved y)

-- "z = (m − 1)/(m + 1)"
abbrev pub ratio : Float → Float
ratio m = div binary64 (sub binary64 m one_f) (add binary64 m one_f)

-- "1/35"
abbrev pub first : Float
first = div binary64 one_f (of_bits binary64 0x4041_8000_0000_0000)

-- "1/j + u × s", at j = 2 i − 1
abbrev pub ln_term : Float → ℕ → Float → Float
ln_term u i s = add binary64 (div binary64 one_f (of_int binary64 (pos (2 * i - 1)))) (mul binary64 u s)

-- "for j = 33, 31 .. 1 s = 1/j + u × s": i is 17, 16 .. 1
abbrev pub ln_series : Float → Float
ln_series u = down (ln_term u) 17 first

-- "k counting halvings less doublings"
abbrev pub exponent : Scaled → Float
exponent c = sub binary64 (of_int binary64 (pos c.halvings)) (of_int binary64 (pos c.doublings))

-- "u = z × z, s = .. ; result k × 0.6931471805599453 + 2 × (z × s)"
unfoldable pub ln_scaled : Scaled → Float
ln_scaled c =
    add binary64
    (mul binary64 (exponent c) (of_bits binary64 0x3fe6_2e42_fefa_39ef))
    (mul binary64 two_f (mul binary64 (ratio c.m) (ln_series (mul binary64 (ratio c.m) (ratio c.m)))))

-- Above 0 and finite, 01's steps; "ln 0 is minus infinity". 01 gives ln no value elsewhere: here the infinity has itself, and what is
-- below 0 and NaN have NaN.
unfoldable pub ln_of : Float → Float
ln_of y = cond (lt zero_f y) (cond (lt y (inf false)) (ln_scaled (scaled y)) (inf false)) (cond (eq y zero_f) (inf true) nan)

-- 0.4342944819032518, the log10 of e
abbrev pub log10_e : Float
log10_e = of_bits binary64 0x3fdb_cb7b_1526_e50e

-- "log10 is ln × 0.4342944819032518"
unfoldable pub log10_of : Float → Float
log10_of x = mul binary64 (ln_of x) log10_e
