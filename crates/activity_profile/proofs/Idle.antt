-- Where a maker stands before an add, who pops after every add until "held" or "empty": fewer than max + D cells are in use. Assumes nothing.
use mathlib.Core.Path.{◌≡◌, refl}
use mathlib.Core.Bool.{Bool, true, false}
use mathlib.Core.List.{List}
use Prim.Native.Nat.{ℕ, zero, suc, ◌+◌, ◌-◌, ◌<◌, ◌≤◌}
use native.Mathlib.Omega.{arith}
use lib.ListN.{length}
use lib.Ieee.{Float}
use Rattle.activity_profile.specs.declared.BandPassActivityProfile.{BandPassActivityProfile}
use Rattle.activity_profile.specs.Verdict.{Verdict, refusal, granted}
use Rattle.activity_profile.specs.Profile.{D}
use Rattle.activity_profile.specs.Pop.{Turn, empty, held, ready, pop_verdict, turn, kept, pop_size, rest, held_pop, pop_answer_by, pop_answer}
use Rattle.activity_profile.specs.Run.{Call, Pop, Lent, after_pop, step, after}
use Rattle.activity_profile.specs.Maker.{pop_of, UntilHeld, at_held, at_empty, past_region}
use Rattle.activity_profile.proofs.Facts.{held_is}
use Rattle.activity_profile.proofs.Draining.{empty_holds_none}
use Rattle.activity_profile.proofs.Settings.{Same, step_same}

-- ---- one pop

pub rest_count : (p : BandPassActivityProfile) (size left : ℕ) → (rest p size left).count ≡ left
unfolding rest
rest_count p size zero = refl
rest_count p size (suc n) = refl

kept_few : (p : BandPassActivityProfile) (forced : Bool) → kept p forced ≤ p.count
unfolding kept
kept_few p true = omega arith
kept_few p false = omega arith

-- no pop, whatever its sizes, leaves more cells in use
popped_few : (l : Lent) (extension least most : ℕ) (forced : Bool) → (step l (Pop extension least most forced)).profile.count ≤ l.profile.count
unfolding step pop_answer pop_answer_by
popped_few l extension least most forced = go (pop_verdict l.profile (length l.cells) least most) (turn l.profile most forced)
  where
    go : (a : Verdict) (t : Turn) → (after_pop (pop_answer_by a t l.profile l.cells extension least most forced)).count ≤ l.profile.count
    go (refusal n) t = omega arith
    go granted empty = omega arith
    go granted held = omega arith
    go granted ready =
        let size = pop_size l.profile l.cells least most forced in
        omega (arith, rest_count l.profile size (kept l.profile forced - size), kept_few l.profile forced)

-- "held" is answered of fewer than max + D cells
held_few : (p : BandPassActivityProfile) (cells : List Float) (extension least most : ℕ) (q : BandPassActivityProfile)
    → pop_answer p cells extension least most false ≡ held_pop q → p.count < most + D p
unfolding pop_answer pop_answer_by
held_few p cells extension least most q = go (pop_verdict p (length cells) least most) (turn p most false) refl refl
  where
    go : (a : Verdict) (t : Turn) → pop_verdict p (length cells) least most ≡ a → turn p most false ≡ t → pop_answer_by a t p cells extension least most false ≡ held_pop q
        → p.count < most + D p
    go (refusal n) t e f g = absurd (let z : ◌≡◌ {A = ℕ} 0 1 = cc in omega arith)
    go granted empty e f g = absurd (let z : ◌≡◌ {A = ℕ} 0 1 = cc in omega arith)
    go granted ready e f g = absurd (let z : ◌≡◌ {A = ℕ} 0 1 = cc in omega arith)
    go granted held e f g = (held_is p (length cells) least most false e f).few

-- ---- before every add

pub record Idle (made : BandPassActivityProfile) (n most : ℕ) (l : Lent) : Type 0 where
  pub same : Same made n l
  pub few : l.profile.count < most + D made

module _ (made : BandPassActivityProfile) (n most : ℕ) (some : 1 ≤ most) where
  -- any pop keeps it so
  pub pop_idle : (l : Lent) (extension least max : ℕ) (forced : Bool) → Idle made n most l → Idle made n most (step l (Pop extension least max forced))
  pop_idle l extension least max forced i = record {
    same = step_same made n l (Pop extension least max forced) i.same;
    few = omega (arith, i.few, popped_few l extension least max forced);
  }

  -- and pops until "held" or "empty" make it so
  pub popped_idle : {l : Lent} {pops : List Call} → UntilHeld most l pops → Same made n l → Idle made n most (after l pops)
  unfolding after
  popped_idle (at_held l z q e) s =
      let few = held_few l.profile l.cells z.extension z.least _ q e in
      pop_idle l z.extension z.least most false (record { same = s; few = omega (arith, few, s.settings.distance, s.settings.filter) })
  popped_idle (at_empty l z q e) s =
      let none = empty_holds_none l.profile l.cells z.extension z.least most false q e in
      pop_idle l z.extension z.least most false (record { same = s; few = omega (arith, none) })
  popped_idle (past_region l z r q pops e later) s = popped_idle later (step_same made n l (pop_of most z) s)
