-- A pop answers "empty" only of a record that holds nothing, and a forced pop of one that holds loci always answers a region: so forced pops
-- get every locus out, in at most as many pops as loci wait. Assumes nothing.
use mathlib.Core.Path.{◌≡◌, refl, sym, ap, ◌∙◌}
use mathlib.Core.Bool.{Bool, true}
use mathlib.Core.List.{List, [], ◌∷◌, ◌++◌, append-nil, append_assoc}
use Prim.Native.Nat.{ℕ, zero, suc, ◌+◌, ◌-◌, ◌≤◌, ◌<◌}
use native.Mathlib.Omega.{arith}
use borrow.Author.Tests.{ne_eqb, eqb-true}
use lib.Dec.{eqb}
use lib.ListN.{length, length-append, replicate}
use lib.Ieee.{Float}
use Rattle.genome.specs.Refusals.{answered}
use Rattle.band_pass_kernel.specs.declared.BandPassActivityProfileParams.{BandPassActivityProfileParams}
use Rattle.activity_profile.specs.declared.BandPassActivityProfile.{BandPassActivityProfile}
use Rattle.activity_profile.specs.declared.ActivityProfileRegion.{ActivityProfileRegion}
use Rattle.activity_profile.specs.Making.{making}
use Rattle.activity_profile.specs.Verdict.{Verdict, refusal, granted}
use Rattle.activity_profile.specs.Profile.{waiting}
use Rattle.activity_profile.specs.Pop.{Turn, empty, held, ready, pop_verdict, too_few, turn, kept, pop_size, region_of, rest, empty_pop, region_pop, pop_answer_by, pop_answer}
use Rattle.activity_profile.specs.Run.{Call, Pop, Lent, step, accepted_by, popped_by, after, accepted_in, popped_in}
use Rattle.activity_profile.proofs.Fresh.{fresh_is}
use Rattle.activity_profile.proofs.Verdicts.{empty_none}
use Rattle.activity_profile.proofs.Facts.{Whole}
use Rattle.activity_profile.proofs.Loci.{length-loci}
use Rattle.activity_profile.proofs.Steps.{waiting_none, waiting_some}
use Rattle.activity_profile.proofs.Demand3.{Inv, step_keeps, region_is, run_inv}
use Rattle.activity_profile.proofs.Unbroken.{whole_not, step-whole, run_whole, fresh_whole}

-- ---- one forced pop

module _ (extension least most : ℕ) (h : 1 ≤ least) (k : 1 ≤ most) where
  pub granted_is : (p : BandPassActivityProfile) (n : ℕ) → Whole p n → pop_verdict p n least most ≡ granted
  unfolding pop_verdict
  granted_is p n w = rw (whole_not p n w, ne_eqb least 0 (λ q. omega arith), ne_eqb most 0 (λ q. omega arith))

  ready_forced : (p : BandPassActivityProfile) → 0 < p.count → turn p most true ≡ ready
  unfolding turn
  ready_forced p c = rw (ne_eqb p.count 0 (λ q. omega arith))

  region_forced : (p : BandPassActivityProfile) (cells : List Float) → Whole p (length cells) → 0 < p.count
      → let size = pop_size p cells least most true in
      pop_answer p cells extension least most true ≡ region_pop (region_of p cells size extension) (rest p size (kept p true - size))
  unfolding pop_answer pop_answer_by
  region_forced p cells w c = rw (granted_is p (length cells) w, ready_forced p c)

  -- it pops at least one locus
  popped_some : (made : BandPassActivityProfile) (l : Lent) (accepted gone : List ℕ) → 1 ≤ made.max_prob_propagation_distance → Inv made l.profile accepted gone
      → Whole l.profile (length l.cells) → 0 < l.profile.count → 1 ≤ length (popped_by l (Pop extension least most true))
  unfolding popped_by
  popped_some made l accepted gone d v w c =
      let e = region_forced l.profile l.cells w c in
      rw e (region_is made l extension least most true accepted gone d v _ _ e).some

  -- ---- as many forced pops as loci wait

  abbrev forced_pop : Call
  forced_pop = Pop extension least most true

  -- what is popped, and what waits after it, waited before
  fewer : (made : BandPassActivityProfile) (l : Lent) (accepted gone : List ℕ) → 1 ≤ made.max_prob_propagation_distance → Inv made l.profile accepted gone
      → length (popped_by l forced_pop) + length (waiting (step l forced_pop).profile) ≡ length (waiting l.profile)
  unfolding accepted_by
  fewer made l accepted gone d v =
      let a : length gone + length (waiting l.profile) ≡ length accepted = sym (length-append gone (waiting l.profile)) ∙ ap length v.whole in
      let w = (step_keeps made l forced_pop accepted gone d v).whole in
      let b : length gone + length (popped_by l forced_pop) + length (waiting (step l forced_pop).profile) ≡ length accepted = simp (length-append, append-nil) at (ap length w) in
      omega arith

  drained : (made : BandPassActivityProfile) (n : ℕ) (l : Lent) (accepted gone : List ℕ) → 1 ≤ made.max_prob_propagation_distance → Inv made l.profile accepted gone
      → Whole l.profile (length l.cells) → length (waiting l.profile) ≤ n → (after l (replicate n forced_pop)).profile.count ≡ 0
  unfolding after
  drained made zero l accepted gone d v w few = go l.profile.count refl
    where
      go : (c : ℕ) → l.profile.count ≡ c → c ≡ 0
      go zero e = refl
      go (suc c) e =
          let some : 0 < l.profile.count = omega arith in
          absurd (omega (arith, v.ahead some, few, ap length (waiting_some l.profile some), length-loci l.profile.region_start l.profile.last_input_pos))
  drained made (suc n) l accepted gone d v w few =
      drained made n (step l forced_pop) (accepted ++ accepted_by l forced_pop) (gone ++ popped_by l forced_pop) d (step_keeps made l forced_pop accepted gone d v) (step-whole l forced_pop w) (go l.profile.count refl)
    where
      go : (c : ℕ) → l.profile.count ≡ c → length (waiting (step l forced_pop).profile) ≤ n
      go zero e = omega (arith, fewer made l accepted gone d v, ap length (waiting_none l.profile e))
      go (suc c) e = let some : 0 < l.profile.count = omega arith in omega (arith, few, fewer made l accepted gone d v, popped_some made l accepted gone d v w some)

-- ---- lists of calls, one after the other

after-append : (l : Lent) (xs ys : List Call) → after l (xs ++ ys) ≡ after (after l xs) ys
unfolding after
after-append l [] ys = refl
after-append l (c ∷ xs) ys = after-append (step l c) xs ys

accepted-append : (l : Lent) (xs ys : List Call) → accepted_in l (xs ++ ys) ≡ accepted_in l xs ++ accepted_in (after l xs) ys
unfolding after accepted_in
accepted-append l [] ys = refl
accepted-append l (c ∷ xs) ys = rw (accepted-append (step l c) xs ys) (sym (append_assoc (accepted_by l c) (accepted_in (step l c) xs) (accepted_in (after (step l c) xs) ys)))

pops_accept_none : (n extension least most : ℕ) (l : Lent) → accepted_in l (replicate n (Pop extension least most true)) ≡ []
unfolding accepted_in accepted_by
pops_accept_none zero extension least most l = refl
pops_accept_none (suc n) extension least most l = pops_accept_none n extension least most (step l (Pop extension least most true))

-- ---- "empty"

-- A pop answers "empty" only of a record that holds nothing, whatever the record and the cells.
pub empty_holds_none : (p : BandPassActivityProfile) (cells : List Float) (extension least most : ℕ) (forced : Bool) (q : BandPassActivityProfile)
    → pop_answer p cells extension least most forced ≡ empty_pop q → p.count ≡ 0
unfolding pop_answer pop_answer_by turn
empty_holds_none p cells extension least most forced q = go (pop_verdict p (length cells) least most) (turn p most forced) refl
  where
    go : (a : Verdict) (t : Turn) → turn p most forced ≡ t → pop_answer_by a t p cells extension least most forced ≡ empty_pop q → p.count ≡ 0
    go (refusal n) t f g = absurd (let z : ◌≡◌ {A = ℕ} 0 1 = cc in omega arith)
    go granted empty f g = eqb-true p.count 0 (empty_none (eqb p.count 0) (too_few p most forced) f)
    go granted held f g = absurd (let z : ◌≡◌ {A = ℕ} 0 1 = cc in omega arith)
    go granted ready f g = absurd (let z : ◌≡◌ {A = ℕ} 0 1 = cc in omega arith)

-- ---- from a making

-- A forced pop of a profile that holds anything answers a region, distance 0 too.
pub forced_region : (contig len : ℕ) (s : BandPassActivityProfileParams) (n m : ℕ) (p : BandPassActivityProfile) → making contig len s n m ≡ answered p
    → (cells : List Float) (calls : List Call) (extension least most : ℕ) → 1 ≤ least → 1 ≤ most
    → let l : Lent = after (record { profile = p; cells = cells }) calls in
    0 < l.profile.count → (r : ActivityProfileRegion) × ((q : BandPassActivityProfile) × (pop_answer l.profile l.cells extension least most true ≡ region_pop r q))
forced_region contig len s n m p e cells calls extension least most h k some =
    let fresh : Lent = record { profile = p; cells = cells } in
    let l : Lent = after fresh calls in
    let w = run_whole fresh calls (fresh_whole contig len s n m p e (length cells)) in
    (_, (_, region_forced extension least most h k l.profile l.cells w some))

-- After any list of calls, as many forced pops as loci wait leave none: every accepted locus has been handed out.
pub all_out : (contig len : ℕ) (s : BandPassActivityProfileParams) (n m : ℕ) (p : BandPassActivityProfile) → making contig len s n m ≡ answered p
    → 1 ≤ s.max_prob_propagation_distance → (cells : List Float) (calls : List Call) (extension least most : ℕ) → 1 ≤ least → 1 ≤ most
    → let fresh : Lent = record { profile = p; cells = cells } in
    let pops = replicate (length (waiting (after fresh calls).profile)) (Pop extension least most true) in
    (popped_in fresh (calls ++ pops) ≡ accepted_in fresh calls) × ((after fresh (calls ++ pops)).profile.count ≡ 0)
all_out contig len s n m p e d cells calls extension least most h k =
    let f = fresh_is contig len s n m p e in
    let far : 1 ≤ p.max_prob_propagation_distance = omega (arith, f.same_distance) in
    let fresh : Lent = record { profile = p; cells = cells } in
    let l : Lent = after fresh calls in
    let count = length (waiting l.profile) in
    let pops = replicate count (Pop extension least most true) in
    let w = run_whole fresh calls (fresh_whole contig len s n m p e (length cells)) in
    let none : (after fresh (calls ++ pops)).profile.count ≡ 0 =
    ap (λ (z : Lent). z.profile.count) (after-append fresh calls pops)
    ∙ drained extension least most h k p count l (accepted_in fresh calls) (popped_in fresh calls) far (run_inv p f.no_cells far cells calls) w (omega arith) in
    let whole = (run_inv p f.no_cells far cells (calls ++ pops)).whole in
    let all : popped_in fresh (calls ++ pops) ≡ accepted_in fresh (calls ++ pops) = sym (append-nil (popped_in fresh (calls ++ pops))) ∙ (rw (waiting_none (after fresh (calls ++ pops)).profile none) at whole) in
    (all ∙ accepted-append fresh calls pops ∙ ap (λ (z : List ℕ). accepted_in fresh calls ++ z) (pops_accept_none count extension least most l) ∙ append-nil (accepted_in fresh calls), none)
