-- 02, U7: "For each entry, read as a whole number over a power of two, its tenth power times 10 to the i lies within 1 part in 2 to the 30 of one,
-- compared in whole numbers." Assumes nothing.
use Rattle.std.specs.Prelude.{Bool, false, ◌&&◌, ℕ, ◌+◌, ◌-◌, ◌*◌, ◌/◌, ◌%◌, ◌^◌, ◌≤◌, leb, eqb, Float}
use Rattle.std.specs.Float.{binary64}
use Rattle.std.specs.Float.Ieee.{of_bits}
use Rattle.std.specs.Float.Ieee.Exact.{HasValue}
use Rattle.std.specs.Float.Ieee.Positive.{num, den, positive}

-- how far two whole numbers are apart
abbrev pub apart : ℕ → ℕ → ℕ
apart a b = (a - b) + (b - a)

-- the rule, of the double x as the entry of quality i: x is whole / 2 to the halvings, and (whole / 2 to the halvings) to the 10th × 10 to the i is one, to
-- within 1 part in 2 to the 30
pub record NearTenthPower (i : ℕ) (x : Float) : Type 0 where
  pub whole : ℕ
  pub halvings : ℕ
  pub exact : HasValue x false whole (2 ^ halvings)
  pub near : apart (whole ^ 10 * 10 ^ i) (2 ^ (10 * halvings)) * 2 ^ 30 ≤ 2 ^ (10 * halvings)

-- ---- one test over the table, which proofs/TenthPower works out

-- the 53 digits of a pattern, the leading one with them, and the power of two below them
abbrev pub digits : ℕ → ℕ
digits b = 2 ^ 52 + b % 2 ^ 52

abbrev pub places : ℕ → ℕ
places b = 1075 - b / 2 ^ 52

-- x is a / c and above 0
unfoldable pub is_value : Float → ℕ → ℕ → Bool
is_value x a c = positive x && eqb (num x * c) (a * den x)

unfoldable pub is_near : ℕ → ℕ → ℕ → Bool
is_near i m k = let one = 2 ^ (10 * k) in leb (apart (m ^ 10 * 10 ^ i) one * 2 ^ 30) one

unfoldable pub test : ℕ → ℕ → Bool
test i b = is_value (of_bits binary64 b) (digits b) (2 ^ places b) && is_near i (digits b) (places b)
