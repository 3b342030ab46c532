-- 01, Elementary functions: exp and 10 to x. Each step is one double operation.
use Rattle.std.specs.Prelude.{cond, ℕ, pos, Float}
use Rattle.std.specs.Float.{binary64}
use Rattle.std.specs.Float.Ieee.{of_bits, of_int, add, mul, div, neg, lt}
use Rattle.lists.specs.Loops.{down}
use Rattle.doubles.specs.Constants.{zero_f, one_f}

-- -700
abbrev pub lowest : Float
lowest = neg (of_bits binary64 0x4085_e000_0000_0000)

-- x/1024
abbrev pub reduced : Float → Float
reduced x = div binary64 x (of_bits binary64 0x4090_0000_0000_0000)

-- "1 + (t × s)/k"
abbrev pub exp_term : Float → ℕ → Float → Float
exp_term t k s = add binary64 one_f (div binary64 (mul binary64 t s) (of_int binary64 (pos k)))

-- "s × s"
abbrev pub square : ℕ → Float → Float
square n s = mul binary64 s s

-- "exp: below −700 is 0.0; else t = x/1024, s = 1, for k = 18 down to 1 s = 1 + (t × s)/k, then s × s ten times"
unfoldable pub exp_of : Float → Float
exp_of x = cond (lt x lowest) zero_f (down square 10 (down (exp_term (reduced x)) 18 one_f))

-- "10 to x is exp(x × 2.302585092994046)"
unfoldable pub ten_to_of : Float → Float
ten_to_of x = exp_of (mul binary64 x (of_bits binary64 0x4002_6bb1_bbb5_5516))
