-- 01, Scoring: "PL rounding (floor of value + 0.5, capped at 2,147,483,647)"; the rest is the Rust's
-- genotype_log10_likelihoods_after_java_genotype_pl_roundtrip.
use Rattle.std.specs.Prelude.{ℕ, true, cond, ◌||◌, List, pos, from_bits, Float}
use Rattle.std.specs.List.{fold}
use Rattle.std.specs.Float.{binary64, inf}
use Rattle.std.specs.Float.Ieee.{of_int, to_unsigned, add, sub, mul, div, neg, lt, ne}
use Rattle.lists.specs.Each.{each}
use Rattle.doubles.specs.Constants.{half_f, ten_f}

-- Rust's f64::max and f64::min: of a NaN and a number, the number
unfoldable pub max_f : Float → Float → Float
max_f a b = cond (ne a a || lt a b) b a

unfoldable pub min_f : Float → Float → Float
min_f a b = cond (ne a a || lt b a) b a

-- 2147483647.0
abbrev pub cap : Float
cap = from_bits binary64 0x41df_ffff_ffc0_0000

-- the largest, from minus infinity on
abbrev pub adjust : List Float → Float
adjust gl = fold max_f (inf true) gl

-- the value capped, plus 0.5, without its fraction: from 0 to 2147483647. A value is never below 0 (`scaled_not_below`), so that is its floor
unfoldable pub pl_of : Float → ℕ
pl_of value = to_unsigned 31 (add binary64 (min_f value cap) half_f)

-- −10 × (likelihood − largest)
abbrev pub scaled : Float → Float → Float
scaled top g = mul binary64 (neg ten_f) (sub binary64 g top)

-- the PL / −10; a rule for the entries of a list
abbrev pub round_trip : Float → ℕ → Float → Float
round_trip top i g = div binary64 (of_int binary64 (pos (pl_of (scaled top g)))) (neg ten_f)

unfoldable pub pl_round_trip : List Float → List Float
pl_round_trip gl = each (round_trip (adjust gl)) gl
