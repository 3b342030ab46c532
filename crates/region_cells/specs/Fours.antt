-- Terms of the code alone: four cells are looked at by one test.
use Rattle.std.specs.Prelude.{Bool, ◌||◌, List, ℕ, ◌+◌, Float}
use Rattle.std.specs.Float.Ieee.{lt}
use Rattle.activity_profile.specs.Loci.{cell}
use Rattle.activity_profile.specs.Pop.{other_side}

-- whether the test passes at one of i to i + 3
abbrev pub one_of_four : (ℕ → Bool) → ℕ → Bool
one_of_four test i = ((test i || test (i + 1)) || test (i + 2)) || test (i + 3)

-- cell i is on the other side
abbrev pub other_at : Float → Bool → List Float → ℕ → Bool
other_at threshold active cells i = other_side threshold active (cell cells i)

-- cell i is strictly above the leader
abbrev pub above_at : List Float → ℕ → ℕ → Bool
above_at cells leader i = lt (cell cells leader) (cell cells i)
