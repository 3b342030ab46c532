-- What a call that is granted was handed, as facts on numbers. Assumes nothing.
use Prim.Native.Nat.{ℕ, suc, ◌+◌, ◌-◌, ◌≤◌, ◌<◌}
use mathlib.Core.Path.{◌≡◌}
use mathlib.Core.Bool.{Bool, true, false}
use native.Mathlib.Omega.{arith}
use lib.Dec.{eqb}
use borrow.Author.Tests.{ltb-true, ltb-false, leb-true, eqb-true, eqb-false, not-false, lt-ltb, eq-eqb}
use Rattle.activity_profile.specs.declared.BandPassActivityProfile.{BandPassActivityProfile}
use Rattle.activity_profile.specs.declared.ActivityProfileState.{ActivityProfileState}
use Rattle.activity_profile.specs.Verdict.{granted}
use Rattle.band_pass_kernel.specs.Resolve.{max_filter}
use Rattle.activity_profile.specs.Profile.{D, settings_in_range, vacant, placed, broken}
use Rattle.activity_profile.specs.Add.{at, needed, add_verdict}
use Rattle.activity_profile.specs.Pop.{held, ready, pop_verdict, turn}
use Rattle.lists.specs.Tests.{or_left, or_right, and_left, and_right, but}
use Rattle.activity_profile.proofs.Verdicts.{this_not, nor_later, ready_some, ready_enough, held_some, held_few}

-- ---- a record that is not broken

pub record Placed (p : BandPassActivityProfile) : Type 0 where
  pub start_low : 1 ≤ p.region_start
  pub start_high : p.region_start ≤ p.last_input_pos + 1
  pub last_low : 1 ≤ p.last_input_pos
  pub last_high : p.last_input_pos ≤ p.region_start + p.count - 1
  pub end_on : p.region_start + p.count - 1 ≤ p.contig_len
  pub end_near : p.region_start + p.count - 1 ≤ p.last_input_pos + p.filter_size

pub record Whole (p : BandPassActivityProfile) (n : ℕ) : Type 0 where
  pub settings : settings_in_range p ≡ true
  pub filter : p.filter_size ≤ max_filter
  pub cells : p.count ≤ n
  pub none : p.count ≡ 0 → (p.region_start ≡ 0) × (p.last_input_pos ≡ 0)
  pub some : 0 < p.count → Placed p

pub whole_is : (p : BandPassActivityProfile) (n : ℕ) → broken p n ≡ false → Whole p n
unfolding broken placed
whole_is p n e = record {
  settings = search (not-false, or_left);
  filter = search (ltb-false, or_left, or_right);
  cells = search (ltb-false, or_left, or_right);
  none = λ h. let v : vacant p ≡ true = search (but, eq-eqb, or_left, or_right) in search (eqb-true, and_left, and_right);
  some = λ h. let v : placed p ≡ true = search (but, lt-ltb, or_left, or_right) in search (leb-true, and_left, and_right);
}

-- ---- an add that is accepted

pub record Accepted (p : BandPassActivityProfile) (n : ℕ) (s : ActivityProfileState) : Type 0 where
  pub whole : Whole p n
  pub low : 1 ≤ at s
  pub high : at s ≤ p.contig_len
  pub next : 0 < p.count → at s ≡ suc p.last_input_pos
  pub room : needed p s ≤ n

pub accepted_is : (p : BandPassActivityProfile) (n k : ℕ) (s : ActivityProfileState) → add_verdict p n k s ≡ granted → Accepted p n s
unfolding add_verdict
accepted_is p n k s e = record {
  whole = search (whole_is, this_not, or_left);
  low = let z : eqb (at s) 0 ≡ false = search (this_not, nor_later, or_left) in omega (arith, eqb-false (at s) 0 z);
  high = search (ltb-false, this_not, nor_later, or_right);
  next = λ h. let q : eqb (at s) (p.last_input_pos + 1) ≡ true = search (but, lt-ltb, this_not, nor_later) in omega (arith, eqb-true (at s) (p.last_input_pos + 1) q);
  room = search (ltb-false, this_not, nor_later);
}

-- ---- a pop that answers "held" or a region

pub record Asked (p : BandPassActivityProfile) (n most : ℕ) : Type 0 where
  pub whole : Whole p n
  pub size : 1 ≤ most
  pub some : 0 < p.count
  pub placed : Placed p

asked_is : (p : BandPassActivityProfile) (n least most : ℕ) → pop_verdict p n least most ≡ granted → eqb p.count 0 ≡ false → Asked p n most
unfolding pop_verdict
asked_is p n least most e c =
    let w : Whole p n = search (whole_is, this_not) in
    let z : eqb most 0 ≡ false = search (this_not, nor_later, or_right) in
    let s : 0 < p.count = omega (arith, eqb-false p.count 0 c) in
    record { whole = w; size = omega (arith, eqb-false most 0 z); some = s; placed = w.some s }

-- a region: unforced, there are max + D cells
pub record Readied (p : BandPassActivityProfile) (n most : ℕ) (forced : Bool) : Type 0 where
  pub asked : Asked p n most
  pub enough : forced ≡ false → most + D p ≤ p.count

pub ready_is : (p : BandPassActivityProfile) (n least most : ℕ) (forced : Bool) → pop_verdict p n least most ≡ granted → turn p most forced ≡ ready → Readied p n most forced
unfolding turn
ready_is p n least most forced e t = record {
  asked = search (asked_is, ready_some);
  enough = λ u. search (ltb-false, ready_enough);
}

pub record HeldBack (p : BandPassActivityProfile) (n most : ℕ) : Type 0 where
  pub asked : Asked p n most
  pub few : p.count < most + D p

pub held_is : (p : BandPassActivityProfile) (n least most : ℕ) (forced : Bool) → pop_verdict p n least most ≡ granted → turn p most forced ≡ held → HeldBack p n most
unfolding turn
held_is p n least most forced e t = record {
  asked = search (asked_is, held_some);
  few = search (ltb-true, held_few);
}
