-- An add and a pop keep the record's filter size, and so the kernel is the same after them. Assumes nothing.
use mathlib.Core.Path.{◌≡◌, refl, sym, ap, ◌∙◌}
use mathlib.Core.Bool.{Bool}
use mathlib.Core.List.{List}
use Prim.Native.Nat.{ℕ, zero, suc, ◌-◌}
use native.Mathlib.Omega.{arith}
use lib.ListN.{length}
use lib.Ieee.{Float}
use Rattle.genome.specs.Refusals.{Outcome, refused, answered}
use Rattle.activity_profile.specs.declared.BandPassActivityProfile.{BandPassActivityProfile}
use Rattle.activity_profile.specs.declared.ActivityProfileState.{ActivityProfileState}
use Rattle.activity_profile.specs.Verdict.{Verdict, refusal, granted}
use Rattle.activity_profile.specs.Add.{AddAnswer, refused_add, accepted_add, add_verdict, add_answer_by, add_cells_by, added_profile, add_answer, add_cells}
use Rattle.activity_profile.specs.Pop.{PopAnswer, refused_pop, Turn, empty, held, ready, pop_verdict, turn, kept, pop_size, rest, pop_answer_by, pop_cells_by, pop_answer, pop_cells}
use Rattle.activity_profile.specs.Run.{after_add, after_pop}
use Rattle.region_program.specs.Program.{added_outcome, score_added, score_cells}

add_keeps : (p : BandPassActivityProfile) (cells kernel : List Float) (s : ActivityProfileState) → (after_add (add_answer p cells kernel s)).filter_size ≡ p.filter_size
unfolding add_answer add_answer_by added_profile
add_keeps p cells kernel s = go (add_verdict p (length cells) (length kernel) s)
  where
    go : (v : Verdict) → (after_add (add_answer_by v p s)).filter_size ≡ p.filter_size
    go (refusal n) = refl
    go granted = refl

rest_keeps : (p : BandPassActivityProfile) (size left : ℕ) → (rest p size left).filter_size ≡ p.filter_size
unfolding rest
rest_keeps p size zero = refl
rest_keeps p size (suc n) = refl

pop_keeps : (p : BandPassActivityProfile) (cells : List Float) (extension least most : ℕ) (forced : Bool) → (after_pop (pop_answer p cells extension least most forced)).filter_size ≡ p.filter_size
unfolding pop_answer pop_answer_by
pop_keeps p cells extension least most forced = go (pop_verdict p (length cells) least most) (turn p most forced)
  where
    go : (v : Verdict) (t : Turn) → (after_pop (pop_answer_by v t p cells extension least most forced)).filter_size ≡ p.filter_size
    go (refusal n) t = refl
    go granted empty = refl
    go granted held = refl
    go granted ready = rest_keeps p (pop_size p cells least most forced) (kept p forced - pop_size p cells least most forced)

-- of an answer that is known
pub filter_added : (p : BandPassActivityProfile) (cells kernel : List Float) (s : ActivityProfileState) (a : AddAnswer) → add_answer p cells kernel s ≡ a → (after_add a).filter_size ≡ p.filter_size
filter_added p cells kernel s a e = ap (λ (x : AddAnswer). (after_add x).filter_size) (sym e) ∙ add_keeps p cells kernel s

pub filter-popped : (p : BandPassActivityProfile) (cells : List Float) (extension least most : ℕ) (forced : Bool) (a : PopAnswer) → pop_answer p cells extension least most forced ≡ a
    → (after_pop a).filter_size ≡ p.filter_size
filter-popped p cells extension least most forced a e = ap (λ (x : PopAnswer). (after_pop x).filter_size) (sym e) ∙ pop_keeps p cells extension least most forced

-- ---- a refusal leaves the cells as they were

pop_refused : (v : Verdict) (t : Turn) (p : BandPassActivityProfile) (cells : List Float) (extension least most : ℕ) (forced : Bool) (n : ℕ) (q : BandPassActivityProfile)
    → pop_answer_by v t p cells extension least most forced ≡ refused_pop n q → pop_cells_by v t p cells least most forced ≡ cells
unfolding pop_answer_by pop_cells_by
pop_refused (refusal k) t p cells extension least most forced n q e = refl
pop_refused granted empty p cells extension least most forced n q e = refl
pop_refused granted held p cells extension least most forced n q e = refl
pop_refused granted ready p cells extension least most forced n q e = absurd (let z : ◌≡◌ {A = ℕ} 0 1 = cc in omega arith)

pub cells_popped : (p : BandPassActivityProfile) (cells : List Float) (extension least most : ℕ) (forced : Bool) (n : ℕ) (q : BandPassActivityProfile)
    → pop_answer p cells extension least most forced ≡ refused_pop n q → pop_cells p cells least most forced ≡ cells
unfolding pop_answer pop_cells
cells_popped p cells extension least most forced n q e = pop_refused (pop_verdict p (length cells) least most) (turn p most forced) p cells extension least most forced n q e

add_refused : (v : Verdict) (p : BandPassActivityProfile) (cells kernel : List Float) (s : ActivityProfileState) (n : ℕ) → added_outcome (add_answer_by v p s) ≡ refused n → add_cells_by v p cells kernel s ≡ cells
unfolding add_answer_by add_cells_by
add_refused (refusal k) p cells kernel s n e = refl
add_refused granted p cells kernel s n e = absurd (let z : ◌≡◌ {A = ℕ} 0 1 = cc in omega arith)

pub cells_scored : (p : BandPassActivityProfile) (cells kernel : List Float) (score : Outcome ActivityProfileState) (n : ℕ) → score_added p cells kernel score ≡ refused n → score_cells p cells kernel score ≡ cells
unfolding score_added score_cells add_answer add_cells
cells_scored p cells kernel (refused k) n e = refl
cells_scored p cells kernel (answered x) n e = add_refused (add_verdict p (length cells) (length kernel) x) p cells kernel x n e

-- the record that a scored pile leaves has the filter size that it had
pub filter_scored : (p : BandPassActivityProfile) (cells kernel : List Float) (score : Outcome ActivityProfileState) (q : BandPassActivityProfile) → score_added p cells kernel score ≡ answered q
    → q.filter_size ≡ p.filter_size
unfolding score_added
filter_scored p cells kernel (refused k) q e = absurd (let z : ◌≡◌ {A = ℕ} 0 1 = cc in omega arith)
filter_scored p cells kernel (answered x) q e = go (add_answer p cells kernel x) refl e
  where
    go : (a : AddAnswer) → add_answer p cells kernel x ≡ a → added_outcome a ≡ answered q → q.filter_size ≡ p.filter_size
    go (refused_add n r) f g = absurd (let z : ◌≡◌ {A = ℕ} 0 1 = cc in omega arith)
    go (accepted_add r) f g = let s : r ≡ q = cc in ap (λ (y : BandPassActivityProfile). y.filter_size) (sym s) ∙ filter_added p cells kernel x (accepted_add r) f
