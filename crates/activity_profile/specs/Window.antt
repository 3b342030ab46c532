-- The stretch of the cells that an add writes, counted from its own first cell, as the code lends it on.
use Rattle.std.specs.Prelude.{cond, List, ℕ, ◌+◌, ◌-◌, ltb, Float}
use Rattle.std.specs.Float.{binary64}
use Rattle.std.specs.Float.Ieee.{add}
use Rattle.activity_profile.specs.declared.BandPassActivityProfile.{BandPassActivityProfile}
use Rattle.activity_profile.specs.declared.ActivityProfileState.{ActivityProfileState}
use Rattle.activity_profile.specs.Add.{at, times, weight, first_locus, lowest, highest}

-- cell j of the window, which is x, and whose entry of the kernel, lent from the window's front on, is j too: one addition among the first
-- `held`, else the next new cell
unfoldable pub receiving : List Float → ActivityProfileState → ℕ → ℕ → ℕ → Float → Float
receiving kernel s m held j x =
    let w = times m (weight kernel s j) in
    cond (ltb j held) (add binary64 x w) w

-- the window in the cells, the kernel's entry at its front, and how many of its cells are held
abbrev pub lo : BandPassActivityProfile → ActivityProfileState → ℕ
lo p s = lowest p s - first_locus p s

abbrev pub hi : BandPassActivityProfile → ActivityProfileState → ℕ
hi p s = highest p s - first_locus p s + 1

abbrev pub off : BandPassActivityProfile → ActivityProfileState → ℕ
off p s = first_locus p s + lo p s + p.filter_size - at s

abbrev pub held : BandPassActivityProfile → ActivityProfileState → ℕ
held p s = p.count - lo p s
