-- 01, Scoring: "The 80,001-entry Jacobian table may be worked out entry by entry"; the rest is the Rust's approximate_log10_sum_log10_pair.
use Rattle.std.specs.Prelude.{true, cond, ℕ, min, pos, Float}
use Rattle.std.specs.Float.{binary64, inf}
use Rattle.std.specs.Float.Ieee.{of_bits, of_int, to_unsigned, add, sub, mul, neg, lt, eq}
use Rattle.doubles.specs.Constants.{zero_f, half_f, one_f}
use Rattle.elementary.specs.Exp.{ten_to_of}
use Rattle.elementary.specs.Ln.{log10_of}

-- the Rust's fast_round_java, with its `as usize`
unfoldable pub fast_round_java : Float → ℕ
fast_round_java d = cond (lt zero_f d) (to_unsigned 64 (add binary64 d half_f)) (to_unsigned 64 (sub binary64 d half_f))

-- entry k: log10 of 1 + 10 to (−k × 0.0001)
unfoldable pub jacobian_entry : ℕ → Float
jacobian_entry k = log10_of (add binary64 one_f (ten_to_of (mul binary64 (neg (of_int binary64 (pos k))) (of_bits binary64 0x3f1a_36e2_eb1c_432d))))

-- the entry at difference × 10000, rounded; the last is entry 80000
unfoldable pub jacobian : Float → Float
jacobian diff = jacobian_entry (min (fast_round_java (mul binary64 diff (of_bits binary64 0x40c3_8800_0000_0000))) 80000)

-- a is not the larger: minus infinity leaves b, and so does a difference that is not below 8
unfoldable pub sum_ordered : Float → Float → Float
sum_ordered a b =
    cond (eq a (inf true)) b
    (cond (lt (sub binary64 b a) (of_bits binary64 0x4020_0000_0000_0000)) (add binary64 b (jacobian (sub binary64 b a))) b)

-- the smaller first
unfoldable pub approximate_log10_sum_log10_pair : Float → Float → Float
approximate_log10_sum_log10_pair a b = sum_ordered (cond (lt b a) b a) (cond (lt b a) a b)
