-- What a granted call does to the loci that wait. Assumes nothing.
use Prim.Native.Nat.{ℕ, zero, suc, ◌+◌, ◌-◌, ◌≤◌, ◌<◌}
use mathlib.Core.Path.{◌≡◌, refl}
use mathlib.Core.Bool.{Bool, true, false}
use mathlib.Core.List.{List, [], ◌∷◌, ◌++◌}
use native.Mathlib.Omega.{arith}
use lib.Dec.{eqb}
use lib.ListN.{length}
use lib.Ieee.{Float}
use borrow.Author.Tests.{eqb-true, eqb-false, eq-eqb, ne_eqb}
use Rattle.activity_profile.specs.declared.BandPassActivityProfile.{BandPassActivityProfile}
use Rattle.activity_profile.specs.declared.ActivityProfileState.{ActivityProfileState}
use Rattle.activity_profile.specs.Loci.{loci}
use Rattle.activity_profile.specs.Verdict.{granted}
use Rattle.activity_profile.specs.Profile.{waiting}
use Rattle.activity_profile.specs.Add.{at, first_locus, needed, add_verdict, added_profile}
use Rattle.activity_profile.specs.Pop.{kept, pop_size, rest}
use Rattle.activity_profile.proofs.Loci.{loci_one, loci-none, loci_snoc, loci_split}
use Rattle.activity_profile.proofs.Facts.{Accepted, accepted_is, Readied}
use Rattle.activity_profile.proofs.Cuts.{Cut}

-- ---- what waits

pub waiting_none : (p : BandPassActivityProfile) → p.count ≡ 0 → waiting p ≡ []
unfolding waiting
waiting_none p h = rw (eq-eqb p.count 0 h)

pub waiting_some : (p : BandPassActivityProfile) → 0 < p.count → waiting p ≡ loci p.region_start p.last_input_pos
unfolding waiting
waiting_some p h = rw (ne_eqb p.count 0 (λ e. omega arith))

-- ---- an add that is accepted: one more locus waits

pub record Joined (p : BandPassActivityProfile) (s : ActivityProfileState) : Type 0 where
  pub ahead : first_locus p s ≤ at s
  pub waits : waiting (added_profile p s) ≡ waiting p ++ at s ∷ []

pub add_joins : (p : BandPassActivityProfile) (n k : ℕ) (s : ActivityProfileState) → add_verdict p n k s ≡ granted → Joined p s
unfolding added_profile first_locus needed
add_joins p n k s e = go (eqb p.count 0) refl
  where
    a : Accepted p n s
    a = accepted_is p n k s e

    new : waiting (added_profile p s) ≡ loci (first_locus p s) (at s)
    new = waiting_some (added_profile p s) (omega arith)

    go : (b : Bool) → eqb p.count 0 ≡ b → Joined p s
    go true q = record {
      ahead = rw q (omega arith);
      waits = rw (new, q, waiting_none p (eqb-true p.count 0 q)) (loci_one (at s));
    }
    go false q =
        let c = eqb-false p.count 0 q in
        let h : 0 < p.count = omega arith in
        let l = a.whole.some h in
        record {
          ahead = rw q (omega (arith, a.next h));
          waits = rw (new, q, waiting_some p h, a.next h) (loci_snoc p.region_start p.last_input_pos (omega arith));
        }

-- ---- a pop that answers a region: its loci wait no more

-- how far the region reaches, with `left` cells behind it
pub record Reach (p : BandPassActivityProfile) (size left : ℕ) : Type 0 where
  pub inside : p.region_start + size ≤ suc p.last_input_pos
  pub some_left : 0 < left → p.region_start + size ≤ p.last_input_pos
  pub none_left : left ≡ 0 → p.last_input_pos < p.region_start + size

reach : (p : BandPassActivityProfile) (n most size : ℕ) (forced : Bool) → 1 ≤ p.max_prob_propagation_distance → Readied p n most forced → p.region_start ≤ p.last_input_pos
    → 1 ≤ size → size ≤ most → size ≤ kept p forced → Reach p size (kept p forced - size)
unfolding kept
reach p n most size true d a h s₁ s₂ s₃ = omega arith
reach p n most size false d a h s₁ s₂ s₃ = omega (arith, a.enough refl)

pub rest-waiting : (p : BandPassActivityProfile) (size left : ℕ) → 0 < p.count → 1 ≤ size → Reach p size left
    → waiting p ≡ loci p.region_start (p.region_start + size - 1) ++ waiting (rest p size left)
unfolding rest
rest-waiting p size zero h s r =
    rw (waiting_some p h, waiting_none (rest p size 0) refl, ← (loci-none (p.region_start + size) p.last_input_pos (r.none_left refl)))
    (loci_split p.region_start p.last_input_pos size s r.inside)
rest-waiting p size (suc m) h s r =
    rw (waiting_some p h, waiting_some (rest p size (suc m)) (omega arith)) (loci_split p.region_start p.last_input_pos size s r.inside)

pub rest_ahead : (p : BandPassActivityProfile) (size left : ℕ) → Reach p size left → 0 < (rest p size left).count → (rest p size left).region_start ≤ (rest p size left).last_input_pos
unfolding rest
rest_ahead p size zero r h = omega arith
rest_ahead p size (suc m) r h = r.some_left h

pub rest-settings : (p : BandPassActivityProfile) (size left : ℕ) →
    ((rest p size left).max_prob_propagation_distance ≡ p.max_prob_propagation_distance) × ((rest p size left).filter_size ≡ p.filter_size) × ((rest p size left).active_prob_threshold ≡ p.active_prob_threshold)
unfolding rest
rest-settings p size zero = (refl, refl, refl)
rest-settings p size (suc m) = (refl, refl, refl)

module _ (p : BandPassActivityProfile) (cells : List Float) (least most : ℕ) (forced : Bool) where
  pub cut_reach : Cut p cells least most forced → 1 ≤ p.max_prob_propagation_distance → p.region_start ≤ p.last_input_pos → Reach p (pop_size p cells least most forced) (kept p forced - pop_size p cells least most forced)
  cut_reach c d h =
      reach p (length cells) most (pop_size p cells least most forced) forced d (record { asked = c.asked; enough = c.enough }) h
      c.sized.some c.sized.few c.within
