-- Slices of an answer as arrays. A place or a pattern past 64 bits starts again at 0, and past the last word there are zeros.
use Rattle.std.specs.Prelude.{ℕ, ◌+◌, ◌%◌, ◌^◌, List, from_bits, slice_index, Float}
use Rattle.std.specs.Float.{binary64}

-- word at + i as a double
unfoldable pub double_at : List ℕ → ℕ → ℕ → Float
double_at words at i = from_bits binary64 (slice_index words ((at + i) % 2 ^ 64))

-- the double whose bits are first + i
unfoldable pub pattern_at : ℕ → ℕ → Float
pattern_at first i = from_bits binary64 ((first + i) % 2 ^ 64)
