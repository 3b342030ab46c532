-- The words at the front that are observations are those before the first that is none; and how their count goes on from place i. Assumes nothing.
use Rattle.std.specs.Prelude.{◌≡◌, Bool, cond, not, false, true, ℕ, suc, ◌+◌, ◌<◌, ◌≤◌, List, [], ◌∷◌, length, get_or, drop}
use Rattle.std.specs.List.{prefix_len}
use Rattle.std.proofs.Common.{ap, arith, refl}
use Rattle.lists.specs.Loops.{first_at, first_at_end, first_at_stop, first_at-turn}
use Rattle.pileup_words.specs.Words.{is_observation}
use Rattle.region_program.specs.Run.{is_other}

pub run_first : (l : List ℕ) → prefix_len is_observation l ≡ first_at is_other l
unfolding first_at
run_first [] = refl
run_first (w ∷ l) = go (is_observation w) (run_first l)
  where
    go : (b : Bool) → prefix_len is_observation l ≡ first_at is_other l → cond b (1 + prefix_len is_observation l) 0 ≡ cond (not b) 0 (suc (first_at is_other l))
    go true e = omega arith
    go false e = refl

module _ (l : List ℕ) (i : ℕ) where
  pub stops : i < length l → is_observation (get_or l i 0) ≡ false → first_at is_other (drop i l) ≡ 0
  stops h e = omega (arith, first_at_stop is_other l i 0 h (ap not e))

  pub goes_on : i < length l → is_observation (get_or l i 0) ≡ true → first_at is_other (drop i l) ≡ suc (first_at is_other (drop (i + 1) l))
  goes_on h e = omega (arith, first_at-turn is_other l i 0 h (ap not e))

  pub ends : length l ≤ i → first_at is_other (drop i l) ≡ 0
  ends h = omega (arith, first_at_end is_other l i h)

pub ruleset front = (stops, goes_on, ends)
