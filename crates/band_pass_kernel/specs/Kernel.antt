-- 01, Kernel. Each step is one double operation.
use Rattle.std.specs.Prelude.{ℕ, zero, suc, ◌+◌, ◌-◌, ◌*◌, ◌/◌, cond, List, length, pos, from_bits, slice_index_or, Float}
use Rattle.std.specs.List.{fold}
use Rattle.std.specs.Float.{nan, binary64}
use Rattle.std.specs.Float.Ieee.{of_int, add, sub, mul, div, neg, le}
use Rattle.lists.specs.Each.{each, tabulate}
use Rattle.doubles.specs.Constants.{zero_f, two_f}
use Rattle.elementary.specs.Exp.{exp_of}

-- 2.5066282746310002
abbrev pub root_two_pi : Float
root_two_pi = from_bits binary64 0x4004_0d93_1ff6_2705

-- "exp(−(i − F)²/(2 × sd × sd)) / (sd × 2.5066282746310002)"
unfoldable pub normal_distribution : Float → Float → Float → Float
normal_distribution mean sd x =
    div binary64
    (exp_of (div binary64 (neg (mul binary64 (sub binary64 x mean) (sub binary64 x mean))) (mul binary64 (mul binary64 two_f sd) sd)))
    (mul binary64 sd root_two_pi)

-- entry i before it is normalised, the mean being F
abbrev pub density : ℕ → Float → ℕ → Float
density f sd i = normal_distribution (of_int binary64 (pos f)) sd (of_int binary64 (pos i))

unfoldable pub densities : ℕ → Float → ℕ → List Float
densities f sd n = tabulate (density f sd) n

-- "their left-to-right sum"
abbrev pub plus : Float → Float → Float
plus sum x = add binary64 sum x

unfoldable pub total : List Float → Float
total l = fold plus zero_f l

abbrev pub over : Float → ℕ → Float → Float
over sum i x = div binary64 x sum

-- "Entries .., each divided by their left-to-right sum": the first n of them
unfoldable pub gaussian : ℕ → Float → ℕ → List Float
gaussian f sd n = each (over (total (densities f sd n))) (densities f sd n)

-- 2F + 1
abbrev pub band : ℕ → ℕ
band f = 2 * f + 1

-- the kernel of filter size F
abbrev pub gaussian_kernel : ℕ → Float → List Float
gaussian_kernel f sd = gaussian f sd (band f)

-- The entries left of place i met, walking left, before one that is not at least `least`.
unfoldable pub kept_left : Float → List Float → ℕ → ℕ
kept_left least kernel zero = 0
kept_left least kernel (suc i) = let more = suc (kept_left least kernel i) in cond (le least (slice_index_or kernel i nan)) more 0

-- "the number of entries left of the middle met before one below 0.00001"
unfoldable pub adaptive_filter_size_of : List Float → Float → ℕ
adaptive_filter_size_of kernel least = kept_left least kernel ((length kernel - 1) / 2)
