-- How many cells a pop leaves, and that no call changes how many are lent. Assumes nothing.
use mathlib.Core.Path.{◌≡◌, refl, sym, ap, ◌∙◌}
use mathlib.Core.Bool.{Bool}
use mathlib.Core.List.{List}
use Prim.Native.Nat.{ℕ, zero, suc, ◌-◌, ◌≤◌, ◌<◌}
use native.Mathlib.Omega.{arith}
use lib.ListN.{length}
use lib.Ieee.{Float}
use Rattle.lists.specs.Each.{length-each}
use Rattle.genome.specs.Refusals.{Outcome, refused, answered}
use Rattle.activity_profile.specs.declared.BandPassActivityProfile.{BandPassActivityProfile}
use Rattle.activity_profile.specs.declared.ActivityProfileRegion.{ActivityProfileRegion}
use Rattle.activity_profile.specs.declared.ActivityProfileState.{ActivityProfileState}
use Rattle.activity_profile.specs.Verdict.{Verdict, refusal, granted}
use Rattle.activity_profile.specs.Add.{add_verdict, added_cell, add_cells_by, add_cells}
use Rattle.activity_profile.specs.Pop.{region_pop, Turn, empty, held, ready, pop_verdict, turn, kept, pop_size, rest, moved_cell, pop_answer_by, pop_cells_by, pop_answer, pop_cells}
use Rattle.activity_profile.proofs.Cuts.{cut_is}
use Rattle.region_program.specs.Program.{score_cells}

-- ---- one pop

rest_count : (p : BandPassActivityProfile) (size left : ℕ) → (rest p size left).count ≡ left
unfolding rest
rest_count p size zero = refl
rest_count p size (suc n) = refl

-- a pop that answers a region leaves fewer cells than it found, and those are not more than are lent
module _ (p : BandPassActivityProfile) (cells : List Float) (extension least most : ℕ) (forced : Bool) (r : ActivityProfileRegion) (q : BandPassActivityProfile) where
  pub fewer : pop_answer p cells extension least most forced ≡ region_pop r q → (q.count < p.count) × (p.count ≤ length cells)
  unfolding pop_answer pop_answer_by
  fewer e = go (pop_verdict p (length cells) least most) refl (turn p most forced) refl e
    where
      go : (v : Verdict) → pop_verdict p (length cells) least most ≡ v → (t : Turn) → turn p most forced ≡ t → pop_answer_by v t p cells extension least most forced ≡ region_pop r q → (q.count < p.count) × (p.count ≤ length cells)
      go (refusal n) g t h f = absurd (let z : ◌≡◌ {A = ℕ} 0 1 = cc in omega arith)
      go granted g empty h f = absurd (let z : ◌≡◌ {A = ℕ} 0 1 = cc in omega arith)
      go granted g held h f = absurd (let z : ◌≡◌ {A = ℕ} 0 1 = cc in omega arith)
      go granted g ready h f =
          let cut = cut_is p cells least most forced g h in
          let size = pop_size p cells least most forced in
          let left : rest p size (kept p forced - size) ≡ q = cc in
          let n : kept p forced - size ≡ q.count = sym (rest_count p size (kept p forced - size)) ∙ ap (λ (x : BandPassActivityProfile). x.count) left in
          omega (arith, n, cut.sized.some, cut.kept_high, cut.within, cut.kept_low, cut.asked.whole.cells)

-- ---- no call changes how many cells there are

pub length_pop : (p : BandPassActivityProfile) (cells : List Float) (least most : ℕ) (forced : Bool) → length (pop_cells p cells least most forced) ≡ length cells
unfolding pop_cells pop_cells_by
length_pop p cells least most forced = go (pop_verdict p (length cells) least most) (turn p most forced)
  where
    go : (v : Verdict) (t : Turn) → length (pop_cells_by v t p cells least most forced) ≡ length cells
    go (refusal n) t = refl
    go granted empty = refl
    go granted held = refl
    go granted ready = length-each (moved_cell cells (pop_size p cells least most forced) (kept p forced - pop_size p cells least most forced) p.count) cells

pub length_score : (p : BandPassActivityProfile) (cells kernel : List Float) (score : Outcome ActivityProfileState) → length (score_cells p cells kernel score) ≡ length cells
unfolding score_cells add_cells add_cells_by
length_score p cells kernel (refused n) = refl
length_score p cells kernel (answered x) = go (add_verdict p (length cells) (length kernel) x)
  where
    go : (v : Verdict) → length (add_cells_by v p cells kernel x) ≡ length cells
    go (refusal n) = refl
    go granted = length-each (added_cell p kernel x) cells
