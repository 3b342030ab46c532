-- The index of the largest value is one of the values'. Assumes nothing.
use mathlib.Core.Bool.{Bool, true, false, cond}
use mathlib.Core.List.{List}
use Prim.Native.Nat.{ℕ, ◌<◌}
use lib.ListN.{get_or}
use lib.Ieee.{Float, lt, nan}
use Rattle.log10_sums.specs.Sums.{larger}

pub larger-lt : (xs : List Float) (i m n : ℕ) → i < n → m < n → larger xs i m < n
unfolding larger
larger-lt xs i m n h k = go (lt (get_or xs m nan) (get_or xs i nan))
  where
    go : (b : Bool) → cond b i m < n
    go true = h
    go false = k
