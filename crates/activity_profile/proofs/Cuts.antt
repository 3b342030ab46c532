-- What a pop that answers a region was handed, and how its size lies in the cells. Assumes nothing.
use Prim.Native.Nat.{ℕ, ◌+◌, ◌≤◌, ◌<◌, min}
use mathlib.Core.Path.{◌≡◌}
use mathlib.Core.Bool.{Bool, true, false}
use mathlib.Core.List.{List}
use native.Mathlib.Omega.{arith}
use lib.Dec.{eqb}
use lib.ListN.{length, take, length-take}
use lib.Ieee.{Float}
use borrow.Author.Tests.{eqb-false}
use Rattle.activity_profile.specs.declared.BandPassActivityProfile.{BandPassActivityProfile}
use Rattle.activity_profile.specs.Verdict.{granted}
use Rattle.activity_profile.specs.Profile.{D}
use Rattle.activity_profile.specs.Pop.{ready, pop_verdict, turn, kept, pop_size}
use Rattle.lists.specs.Tests.{or_left}
use Rattle.activity_profile.proofs.Verdicts.{this_not, nor_later}
use Rattle.activity_profile.proofs.Facts.{Asked, ready_is}
use Rattle.activity_profile.proofs.Sizes.{Sized, size_is}

kept_some : (p : BandPassActivityProfile) (n : ℕ) (forced : Bool) → p.count ≤ n → 0 < p.count → (1 ≤ kept p forced) × (kept p forced ≤ p.count)
unfolding kept
kept_some p n true l h = omega arith
kept_some p n false l h = omega arith

least_is : (p : BandPassActivityProfile) (n least most : ℕ) → pop_verdict p n least most ≡ granted → 1 ≤ least
unfolding pop_verdict
least_is p n least most e =
    let z : eqb least 0 ≡ false = search (this_not, nor_later, or_left) in
    omega (arith, eqb-false least 0 z)

module _ (p : BandPassActivityProfile) (cells : List Float) (least most : ℕ) (forced : Bool) where
  -- all that a pop which answers a region tells of its size
  pub record Cut : Type 0 where
    pub asked : Asked p (length cells) most
    pub floor : 1 ≤ least
    pub enough : forced ≡ false → most + D p ≤ p.count
    pub sized : Sized p.active_prob_threshold (take (kept p forced) cells) most (pop_size p cells least most forced)
    pub kept_low : 1 ≤ kept p forced
    pub kept_high : kept p forced ≤ p.count
    pub within : pop_size p cells least most forced ≤ kept p forced

  pub cut_is : pop_verdict p (length cells) least most ≡ granted → turn p most forced ≡ ready → Cut
  unfolding pop_size
  cut_is e t =
      let a = ready_is p (length cells) least most forced e t in
      let k = kept_some p (length cells) forced a.asked.whole.cells a.asked.some in
      let z = size_is p.active_prob_threshold (take (kept p forced) cells) least most a.asked.size (rw length-take (omega (arith, a.asked.whole.cells))) in
      let l : pop_size p cells least most forced ≤ min (kept p forced) (length cells) = rw (← length-take) z.held in
      record { asked = a.asked; floor = least_is p (length cells) least most e; kept_low = k.0; enough = a.enough; sized = z; kept_high = k.1; within = omega arith }
