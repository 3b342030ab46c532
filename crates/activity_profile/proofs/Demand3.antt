-- Demand 3: nobody who feeds a profile can lose a locus, see it twice or have it held without limit. Assumes nothing.
use Prim.Native.Nat.{ℕ, ◌+◌, ◌-◌, ◌≤◌, ◌<◌}
use mathlib.Core.Path.{◌≡◌, refl, ◌∙◌}
use mathlib.Core.Bool.{Bool}
use mathlib.Core.List.{List, [], ◌∷◌, ◌++◌, append-nil, append_assoc}
use native.Mathlib.Omega.{arith}
use lib.ListN.{length, drop}
use lib.Ieee.{nan}
use lib.Seq.{get_or-take, drop-append_seam}
use lib.Ieee.{Float}
use Rattle.activity_profile.specs.declared.BandPassActivityProfile.{BandPassActivityProfile}
use Rattle.activity_profile.specs.declared.ActivityProfileState.{ActivityProfileState}
use Rattle.activity_profile.specs.declared.ActivityProfileRegion.{ActivityProfileRegion}
use Rattle.genome.specs.Refusals.{answered}
use Rattle.band_pass_kernel.specs.declared.BandPassActivityProfileParams.{BandPassActivityProfileParams}
use Rattle.activity_profile.specs.Making.{making}
use Rattle.activity_profile.specs.Loci.{cell}
use Rattle.activity_profile.specs.Verdict.{Verdict, refusal, granted}
use Rattle.activity_profile.specs.Profile.{waiting}
use Rattle.activity_profile.specs.Add.{add_verdict, added_profile, add_answer_by, add_answer}
use Rattle.activity_profile.specs.Pop.{Turn, empty, held, ready, pop_verdict, turn, kept, above, pop_size, region_with, region_of, held_pop, region_pop, pop_answer_by, pop_answer}
use Rattle.activity_profile.specs.Run.{Call, Add, Pop, last_of, Lent, after_add, after_pop, step, locus_of, loci_of, accepted_by, popped_by, after, accepted_in, popped_in, Sound, Faithful}
use Rattle.activity_profile.proofs.Loci.{length-loci, last_of-loci}
use Rattle.activity_profile.proofs.Fresh.{fresh_is}
use Rattle.activity_profile.proofs.Facts.{held_is}
use Rattle.activity_profile.proofs.Steps.{waiting_none, waiting_some, add_joins, rest-waiting, rest_ahead, rest-settings, cut_reach}
use Rattle.activity_profile.proofs.Cuts.{cut_is}

-- ---- the invariant, between any two calls

pub record Inv (made p : BandPassActivityProfile) (accepted gone : List ℕ) : Type 0 where
  pub distance : p.max_prob_propagation_distance ≡ made.max_prob_propagation_distance
  pub filter : p.filter_size ≡ made.filter_size
  pub threshold : p.active_prob_threshold ≡ made.active_prob_threshold
  -- region start does not pass last input: distance 0 would break this
  pub ahead : 0 < p.count → p.region_start ≤ p.last_input_pos
  pub whole : gone ++ waiting p ≡ accepted

-- a call that accepts nothing and pops nothing
same : (made p : BandPassActivityProfile) (accepted gone : List ℕ) → Inv made p accepted gone → Inv made p (accepted ++ []) (gone ++ [])
same made p accepted gone v = rw (append-nil accepted, append-nil gone) v

add_keeps : (made p : BandPassActivityProfile) (cells k : List Float) (s : ActivityProfileState) (accepted gone : List ℕ) → Inv made p accepted gone
    → Inv made (after_add (add_answer p cells k s)) (accepted ++ locus_of (add_answer p cells k s) s) (gone ++ [])
unfolding add_answer add_answer_by added_profile
add_keeps made p cells k s accepted gone v = go (add_verdict p (length cells) (length k) s) refl
  where
    go : (a : Verdict) → add_verdict p (length cells) (length k) s ≡ a
        → Inv made (after_add (add_answer_by a p s)) (accepted ++ locus_of (add_answer_by a p s) s) (gone ++ [])
    go (refusal n) e = same made p accepted gone v
    go granted e =
        let j = add_joins p (length cells) (length k) s e in
        record {
          distance = v.distance;
          filter = v.filter;
          threshold = v.threshold;
          ahead = λ h. j.ahead;
          whole = rw (append-nil, j.waits, ← append_assoc, v.whole);
        }

pop_keeps : (made p : BandPassActivityProfile) (cells : List Float) (x least most : ℕ) (forced : Bool) (accepted gone : List ℕ) → 1 ≤ made.max_prob_propagation_distance
    → Inv made p accepted gone
    → Inv made (after_pop (pop_answer p cells x least most forced)) (accepted ++ []) (gone ++ loci_of (pop_answer p cells x least most forced))
unfolding pop_answer pop_answer_by region_of region_with
pop_keeps made p cells x least most forced accepted gone d v = go (pop_verdict p (length cells) least most) (turn p most forced) refl refl
  where
    go : (a : Verdict) (t : Turn) → pop_verdict p (length cells) least most ≡ a → turn p most forced ≡ t
        → Inv made (after_pop (pop_answer_by a t p cells x least most forced)) (accepted ++ []) (gone ++ loci_of (pop_answer_by a t p cells x least most forced))
    go (refusal n) t e f = same made p accepted gone v
    go granted empty e f = same made p accepted gone v
    go granted held e f = same made p accepted gone v
    go granted ready e f =
        let size = pop_size p cells least most forced in
        let left = kept p forced - size in
        let c = cut_is p cells least most forced e f in
        let some = c.asked.some in
        let r = cut_reach p cells least most forced c (omega (arith, v.distance)) (v.ahead some) in
        let k = rest-settings p size left in
        record {
          distance = k.0 ∙ v.distance;
          filter = k.1 ∙ v.filter;
          threshold = k.2 ∙ v.threshold;
          ahead = rest_ahead p size left r;
          whole = rw (append-nil, append_assoc, ← (rest-waiting p size left some c.sized.some r)) v.whole;
        }

pub step_keeps : (made : BandPassActivityProfile) (l : Lent) (c : Call) (accepted gone : List ℕ) → 1 ≤ made.max_prob_propagation_distance → Inv made l.profile accepted gone
    → Inv made (step l c).profile (accepted ++ accepted_by l c) (gone ++ popped_by l c)
unfolding step accepted_by popped_by
step_keeps made l (Add s k) accepted gone d v = add_keeps made l.profile l.cells k s accepted gone v
step_keeps made l (Pop x least most forced) accepted gone d v = pop_keeps made l.profile l.cells x least most forced accepted gone d v

run_keeps : (made : BandPassActivityProfile) (l : Lent) (cs : List Call) (accepted gone : List ℕ) → 1 ≤ made.max_prob_propagation_distance → Inv made l.profile accepted gone
    → Inv made (after l cs).profile (accepted ++ accepted_in l cs) (gone ++ popped_in l cs)
unfolding after accepted_in popped_in
run_keeps made l [] accepted gone d v = same made l.profile accepted gone v
run_keeps made l (c ∷ cs) accepted gone d v =
    rw (← (append_assoc accepted (accepted_by l c) (accepted_in (step l c) cs)), ← (append_assoc gone (popped_by l c) (popped_in (step l c) cs)))
    (run_keeps made (step l c) cs (accepted ++ accepted_by l c) (gone ++ popped_by l c) d (step_keeps made l c accepted gone d v))

fresh_inv : (p : BandPassActivityProfile) → p.count ≡ 0 → Inv p p [] []
fresh_inv p none = record {
  distance = refl;
  filter = refl;
  threshold = refl;
  ahead = λ h. absurd (omega arith);
  whole = waiting_none p none;
}

-- ---- what a pop answers

accepted-last : (made p : BandPassActivityProfile) (accepted gone : List ℕ) → Inv made p accepted gone → 0 < p.count → 1 ≤ p.last_input_pos → last_of accepted ≡ p.last_input_pos
accepted-last made p accepted gone v h k = rw (← v.whole, waiting_some p h) (last_of-loci gone p.region_start p.last_input_pos (v.ahead h) k)

region_sound : (made : BandPassActivityProfile) (l : Lent) (x least most : ℕ) (forced : Bool) (accepted gone : List ℕ) → 1 ≤ made.max_prob_propagation_distance
    → Inv made l.profile accepted gone → pop_verdict l.profile (length l.cells) least most ≡ granted → turn l.profile most forced ≡ ready
    → Sound made.active_prob_threshold l accepted most (region_of l.profile l.cells (pop_size l.profile l.cells least most forced) x)
unfolding region_of region_with
region_sound made l x least most forced accepted gone d v e t =
    let p = l.profile in
    let cells = l.cells in
    let size = pop_size p cells least most forced in
    let c = cut_is p cells least most forced e t in
    let z = c.sized in
    let some = c.asked.some in
    let r = cut_reach p cells least most forced c (omega (arith, v.distance)) (v.ahead some) in
    record {
      some = rw length-loci (omega (arith, z.some));
      few = rw length-loci (omega (arith, z.some, z.few));
      one_side = λ q h₁ h₂.
          let i = q - p.region_start in
          let s : i < size = omega (arith, z.some) in
          let s₀ : 0 < kept p forced = omega (arith, z.some, c.within) in
          let sᵢ : i < kept p forced = omega (arith, c.within, s) in
          let f : above p.active_prob_threshold (cell cells i) ≡ above p.active_prob_threshold (cell cells 0) =
          rw (get_or-take (kept p forced) cells i nan sᵢ, get_or-take (kept p forced) cells 0 nan s₀) at (z.one_side i s) in
          rw (← v.threshold) f;
      in_time = rw (accepted-last made p accepted gone v some c.asked.placed.last_low) (omega (arith, r.inside, z.some));
    }

pub region_is : (made : BandPassActivityProfile) (l : Lent) (x least most : ℕ) (forced : Bool) (accepted gone : List ℕ) → 1 ≤ made.max_prob_propagation_distance
    → Inv made l.profile accepted gone → (r : ActivityProfileRegion) (q : BandPassActivityProfile) → pop_answer l.profile l.cells x least most forced ≡ region_pop r q
    → Sound made.active_prob_threshold l accepted most r
unfolding pop_answer pop_answer_by
region_is made l x least most forced accepted gone d v r q = go (pop_verdict l.profile (length l.cells) least most) (turn l.profile most forced) refl refl
  where
    go : (a : Verdict) (t : Turn) → pop_verdict l.profile (length l.cells) least most ≡ a → turn l.profile most forced ≡ t
        → pop_answer_by a t l.profile l.cells x least most forced ≡ region_pop r q → Sound made.active_prob_threshold l accepted most r
    go (refusal n) t e f g = absurd (let z : ◌≡◌ {A = ℕ} 0 1 = cc in omega arith)
    go granted empty e f g = absurd (let z : ◌≡◌ {A = ℕ} 0 1 = cc in omega arith)
    go granted held e f g = absurd (let z : ◌≡◌ {A = ℕ} 0 1 = cc in omega arith)
    go granted ready e f g =
        let h : region_of l.profile l.cells (pop_size l.profile l.cells least most forced) x ≡ r = cc in
        rw h at (region_sound made l x least most forced accepted gone d v e f)

held_bound : (made : BandPassActivityProfile) (l : Lent) (x least most : ℕ) (forced : Bool) (accepted gone : List ℕ)
    → Inv made l.profile accepted gone → (q : BandPassActivityProfile) → pop_answer l.profile l.cells x least most forced ≡ held_pop q
    → length (drop (length gone) accepted) < most + made.max_prob_propagation_distance + made.filter_size
unfolding pop_answer pop_answer_by
held_bound made l x least most forced accepted gone v q = go (pop_verdict l.profile (length l.cells) least most) (turn l.profile most forced) refl refl
  where
    go : (a : Verdict) (t : Turn) → pop_verdict l.profile (length l.cells) least most ≡ a → turn l.profile most forced ≡ t
        → pop_answer_by a t l.profile l.cells x least most forced ≡ held_pop q
        → length (drop (length gone) accepted) < most + made.max_prob_propagation_distance + made.filter_size
    go (refusal n) t e f g = absurd (let z : ◌≡◌ {A = ℕ} 0 1 = cc in omega arith)
    go granted empty e f g = absurd (let z : ◌≡◌ {A = ℕ} 0 1 = cc in omega arith)
    go granted ready e f g = absurd (let z : ◌≡◌ {A = ℕ} 0 1 = cc in omega arith)
    go granted held e f g =
        let a = held_is l.profile (length l.cells) least most forced e f in
        rw (← v.whole, drop-append_seam, waiting_some l.profile a.asked.some, length-loci) (omega (arith, v.distance, v.filter))

-- ---- demand 3

-- from any record that holds nothing
pub run_inv : (p : BandPassActivityProfile) → p.count ≡ 0 → 1 ≤ p.max_prob_propagation_distance → (cells : List Float) (calls : List Call)
    → let fresh : Lent = record { profile = p; cells = cells } in Inv p (after fresh calls).profile (accepted_in fresh calls) (popped_in fresh calls)
run_inv p none d cells calls = run_keeps p (record { profile = p; cells = cells }) calls [] [] d (fresh_inv p none)

-- For every making that is not refused with a propagation distance of at least 1, every length and content of the lent cells, and every list
-- of calls.
pub demand_3 : (contig len : ℕ) (s : BandPassActivityProfileParams) (n m : ℕ) (p : BandPassActivityProfile) → making contig len s n m ≡ answered p
    → 1 ≤ s.max_prob_propagation_distance → (cells : List Float) (calls : List Call) → Faithful p cells calls
demand_3 contig len s n m p e d cells calls =
    let f = fresh_is contig len s n m p e in
    let fresh : Lent = record { profile = p; cells = cells } in
    let far : 1 ≤ p.max_prob_propagation_distance = omega (arith, f.same_distance) in
    let inv : (cs : List Call) → Inv p (after fresh cs).profile (accepted_in fresh cs) (popped_in fresh cs) = run_inv p f.no_cells far cells in
    record {
      every-locus = (inv calls).whole;
      each-region = λ before _ x least most forced _ r q g.
          region_is p (after fresh before) x least most forced (accepted_in fresh before) (popped_in fresh before) far (inv before) r q g;
      each-held = λ before _ x least most forced _ q g.
          held_bound p (after fresh before) x least most forced (accepted_in fresh before) (popped_in fresh before) (inv before) q g;
    }
