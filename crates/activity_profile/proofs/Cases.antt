-- Definitions by cases, said by the tests that the code makes. Assumes nothing.
use mathlib.Core.Path.{◌≡◌, refl}
use mathlib.Core.Bool.{true, false}
use mathlib.Core.List.{List}
use Prim.Native.Nat.{ℕ, zero, suc, ◌-◌, ◌≤◌, ◌<◌}
use native.Mathlib.Omega.{arith}
use borrow.Author.Tests.{le-leb, lt-leb}
use lib.Ieee.{Float}
use Rattle.lists.specs.Loops.{down}
use Rattle.activity_profile.specs.Pop.{beats, replaces, better}

-- a turn of the scan at a size from `least` on, and the sizes below it
pub better_takes : (xs : List Float) (least k best : ℕ) → least ≤ k → beats xs (k - 1) best ≡ true → better xs least k best ≡ k
unfolding better replaces
better_takes xs least k best h e = rw (le-leb least k h, e)

pub better_keeps : (xs : List Float) (least k best : ℕ) → least ≤ k → beats xs (k - 1) best ≡ false → better xs least k best ≡ best
unfolding better replaces
better_keeps xs least k best h e = rw (le-leb least k h, e)

pub better_below : (xs : List Float) (least k best : ℕ) → k < least → down (better xs least) k best ≡ best
unfolding down better replaces
better_below xs least zero best h = refl
better_below xs least (suc k) best h = rw (lt-leb least (suc k) h) (better_below xs least k best (omega arith))
