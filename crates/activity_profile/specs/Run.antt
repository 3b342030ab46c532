-- A list of calls on one profile, and what it is to lose no locus, see none twice and hold none without limit: the terms of demand 3, as
-- 01, 'Tightness of the contracts' 3, fixes them.
use Rattle.std.specs.Prelude.{◌≡◌, Bool, List, [], ◌∷◌, ◌++◌, ℕ, ◌+◌, ◌-◌, ◌≤◌, ◌<◌, length, drop, Float}
use Rattle.activity_profile.specs.declared.BandPassActivityProfile.{BandPassActivityProfile}
use Rattle.activity_profile.specs.declared.ActivityProfileState.{ActivityProfileState}
use Rattle.activity_profile.specs.declared.ActivityProfileRegion.{ActivityProfileRegion}
use Rattle.activity_profile.specs.Loci.{loci, cell}
use Rattle.activity_profile.specs.Profile.{waiting}
use Rattle.activity_profile.specs.Add.{at, AddAnswer, refused_add, accepted_add, add_answer, add_cells}
use Rattle.activity_profile.specs.Pop.{above, PopAnswer, refused_pop, empty_pop, held_pop, region_pop, pop_answer, pop_cells}

-- "every list of adds, unforced pops and forced pops": "An add's state and kernel and a pop's sizes and extension may be anything"
pub data Call : Type 0 where
  -- a state and a kernel
  Add : ActivityProfileState → List Float → Call
  -- extension, min and max region size, forced
  Pop : ℕ → ℕ → ℕ → Bool → Call

-- what a call is handed: the record, and the lent cells
pub record Lent : Type 0 where
  pub profile : BandPassActivityProfile
  pub cells : List Float

-- ---- one call

-- the record that an answer hands back
abbrev pub after_add : AddAnswer → BandPassActivityProfile
after_add (refused_add n p) = p
after_add (accepted_add p) = p

abbrev pub after_pop : PopAnswer → BandPassActivityProfile
after_pop (refused_pop n p) = p
after_pop (empty_pop p) = p
after_pop (held_pop p) = p
after_pop (region_pop r p) = p

-- "Each call gets the record and the cells as the call before left them, and nobody else writes them"
unfoldable pub step : Lent → Call → Lent
step l (Add s kernel) = record {
  profile = after_add (add_answer l.profile l.cells kernel s);
  cells = add_cells l.profile l.cells kernel s;
}
step l (Pop extension least most forced) = record {
  profile = after_pop (pop_answer l.profile l.cells extension least most forced);
  cells = pop_cells l.profile l.cells least most forced;
}

-- "An add is accepted where no refusal applies to what it was handed; its locus is its position"
abbrev pub locus_of : AddAnswer → ActivityProfileState → List ℕ
locus_of (refused_add n p) s = []
locus_of (accepted_add p) s = at s ∷ []

-- "A region's loci run from its start to its end, padding aside"
abbrev pub loci_of : PopAnswer → List ℕ
loci_of (refused_pop n p) = []
loci_of (empty_pop p) = []
loci_of (held_pop p) = []
loci_of (region_pop r p) = loci r.start r.end

unfoldable pub accepted_by : Lent → Call → List ℕ
accepted_by l (Add s kernel) = locus_of (add_answer l.profile l.cells kernel s) s
accepted_by l (Pop extension least most forced) = []

unfoldable pub popped_by : Lent → Call → List ℕ
popped_by l (Add s kernel) = []
popped_by l (Pop extension least most forced) = loci_of (pop_answer l.profile l.cells extension least most forced)

-- ---- a list of calls

unfoldable pub after : Lent → List Call → Lent
after l [] = l
after l (c ∷ cs) = after (step l c) cs

-- the loci of the accepted adds in order, once for each add
unfoldable pub accepted_in : Lent → List Call → List ℕ
accepted_in l [] = []
accepted_in l (c ∷ cs) = accepted_by l c ++ accepted_in (step l c) cs

-- the loci of the regions popped, in order
unfoldable pub popped_in : Lent → List Call → List ℕ
popped_in l [] = []
popped_in l (c ∷ cs) = popped_by l c ++ popped_in (step l c) cs

-- the last of a list of loci; 0, which is no locus, where there is none
abbrev pub last_of : List ℕ → ℕ
last_of [] = 0
last_of (x ∷ []) = x
last_of (x ∷ y ∷ ys) = last_of (y ∷ ys)

-- ---- what demand 3 says

-- "Each region popped has 1 to its pop's max_region_size loci, all on one side of the threshold, and ends no later than the last locus
-- accepted before that pop": t is the threshold, `lent` what the pop was handed, `accepted` the loci accepted before it, `most` its max
pub record Sound (t : Float) (lent : Lent) (accepted : List ℕ) (most : ℕ) (r : ActivityProfileRegion) : Type 0 where
  pub some : 1 ≤ length (loci r.start r.end)
  pub few : length (loci r.start r.end) ≤ most
  -- "A locus is on one side where its cell, as lent to the pop returning its region, is strictly above the threshold, else on the other":
  -- "cell i is the activity at region start + i". The side is the one that the region names
  pub one_side : (q : ℕ) → r.start ≤ q → q ≤ r.end → above t (cell lent.cells (q - lent.profile.region_start)) ≡ r.is_active
  pub in_time : r.end ≤ last_of accepted

-- of all the calls on the fresh profile p with the cells that are lent
pub record Faithful (p : BandPassActivityProfile) (cells : List Float) (calls : List Call) : Type 0 where
  -- "After the list, the loci of the regions popped, in order, followed by those from region start to last input, are exactly the loci of the
  -- accepted adds in order, once for each add"
  pub every-locus :
      let fresh : Lent = record { profile = p; cells = cells } in
      popped_in fresh calls ++ waiting (after fresh calls).profile ≡ accepted_in fresh calls
  -- each region popped, by a pop of the list with the calls `before` in front of it
  pub each-region :
      let fresh : Lent = record { profile = p; cells = cells } in
      (before rest : List Call) (extension least most : ℕ) (forced : Bool) → calls ≡ before ++ Pop extension least most forced ∷ rest →
      let lent = after fresh before in
      (r : ActivityProfileRegion) (q : BandPassActivityProfile) → pop_answer lent.profile lent.cells extension least most forced ≡ region_pop r q →
      Sound p.active_prob_threshold lent (accepted_in fresh before) most r
  -- "Whenever a pop answers "held", fewer than its max_region_size + propagation distance + filter size accepted loci are waiting":
  -- "Waiting are the accepted loci so far after the first k, k being the number of loci popped so far"
  pub each-held :
      let fresh : Lent = record { profile = p; cells = cells } in
      (before rest : List Call) (extension least most : ℕ) (forced : Bool) → calls ≡ before ++ Pop extension least most forced ∷ rest →
      let lent = after fresh before in
      (q : BandPassActivityProfile) → pop_answer lent.profile lent.cells extension least most forced ≡ held_pop q →
      length (drop (length (popped_in fresh before)) (accepted_in fresh before)) < most + p.max_prob_propagation_distance + p.filter_size
