-- 01, Scoring: the Rust's max_element_index and log10_sum_log10.
use Rattle.std.specs.Prelude.{true, cond, ◌||◌, List, ℕ, ◌-◌, eqb, length, get_or, Float}
use Rattle.std.specs.Float.{binary64, inf, nan}
use Rattle.std.specs.Float.Ieee.{add, sub, lt, eq, ne}
use Rattle.lists.specs.Loops.{along}
use Rattle.doubles.specs.Constants.{zero_f, one_f}
use Rattle.elementary.specs.Exp.{ten_to_of}
use Rattle.elementary.specs.Ln.{log10_of}

-- i, where value i is above value m
unfoldable pub larger : List Float → ℕ → ℕ → ℕ
larger xs i m = cond (lt (get_or xs m nan) (get_or xs i nan)) i m

-- from value 0, each of the others in order
unfoldable pub max_element_index : List Float → ℕ
max_element_index xs = along (larger xs) 1 (length xs - 1) 0

-- 10 to (value i − top), unless i is m or value i is minus infinity
unfoldable pub power : List Float → ℕ → Float → ℕ → Float → Float
power xs m top i s = cond (eqb i m || eq (get_or xs i nan) (inf true)) s (add binary64 s (ten_to_of (sub binary64 (get_or xs i nan) top)))

abbrev pub powers : List Float → ℕ → Float → Float
powers xs m top = along (power xs m top) 0 (length xs) one_f

unfoldable pub log_or_zero : Float → Float
log_or_zero s = cond (ne s one_f) (log10_of s) zero_f

unfoldable pub sum_from : List Float → ℕ → Float → Float
sum_from xs m top = cond (eq top (inf true)) top (add binary64 top (log_or_zero (powers xs m top)))

unfoldable pub log10_sum_log10 : List Float → Float
log10_sum_log10 xs =
    cond (eqb (length xs) 0) (inf true)
    (cond (eqb (length xs) 1) (get_or xs 0 nan)
    (sum_from xs (max_element_index xs) (get_or xs (max_element_index xs) nan)))
