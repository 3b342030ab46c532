-- A record that is not broken stays so over every call, and the cells keep their number. Assumes nothing.
use Prim.Native.Nat.{ℕ, zero, suc, ◌+◌, ◌-◌, ◌≤◌, ◌<◌, min}
use mathlib.Core.Path.{◌≡◌, refl}
use mathlib.Core.Bool.{Bool, true, false, cond}
use mathlib.Core.List.{List, [], ◌∷◌}
use native.Mathlib.Omega.{arith}
use lib.Dec.{eqb}
use lib.ListN.{length}
use lib.Ieee.{Float}
use borrow.Author.Tests.{eqb-true, eqb-false, lt-ltb, le-ltb, le-leb, ne_eqb}
use Rattle.activity_profile.specs.declared.BandPassActivityProfile.{BandPassActivityProfile}
use Rattle.activity_profile.specs.declared.ActivityProfileState.{ActivityProfileState}
use Rattle.activity_profile.specs.Verdict.{Verdict, refusal, granted}
use Rattle.band_pass_kernel.specs.Resolve.{max_filter}
use Rattle.activity_profile.specs.Profile.{D, settings_in_range, placed, broken}
use Rattle.activity_profile.specs.Add.{at, spreads, first_locus, highest, needed, add_verdict, added_profile, add_answer_by, add_answer, add_cells_by, add_cells}
use Rattle.activity_profile.specs.Pop.{Turn, empty, held, ready, pop_verdict, turn, kept, pop_size, rest, pop_answer_by, pop_answer, pop_cells_by, pop_cells}
use Rattle.activity_profile.specs.Run.{Call, Add, Pop, Lent, after_add, after_pop, step, after}
use Rattle.lists.specs.Each.{length-each}
use Rattle.lists.specs.Tests.{and_left, and_right}
use Rattle.genome.specs.Refusals.{answered}
use Rattle.genome.specs.Ranges.{is_probability}
use Rattle.band_pass_kernel.specs.declared.BandPassActivityProfileParams.{BandPassActivityProfileParams}
use Rattle.band_pass_kernel.specs.Resolve.{in_range, is_distance}
use Rattle.activity_profile.specs.Making.{making}
use Rattle.activity_profile.proofs.Fresh.{fresh_is}
use Rattle.activity_profile.proofs.Facts.{Placed, Whole, Accepted, accepted_is}
use Rattle.activity_profile.proofs.Cuts.{Cut, cut_is}

pub whole_not : (p : BandPassActivityProfile) (n : ℕ) → Whole p n → broken p n ≡ false
unfolding broken placed
whole_not p n w = go p.count refl
  where
    go : (k : ℕ) → p.count ≡ k → broken p n ≡ false
    go zero e =
        let v = w.none e in
        rw (w.settings, le-ltb max_filter p.filter_size w.filter, le-ltb n p.count w.cells, e, v.0, v.1)
    go (suc k) e =
        let z : 0 < p.count = omega arith in
        let s = w.some z in
        rw (
          w.settings,
          le-ltb max_filter p.filter_size w.filter,
          le-ltb n p.count w.cells,
          ne_eqb p.count 0 (λ q. omega arith),
          lt-ltb 0 p.count z,
          le-leb 1 p.region_start s.start_low,
          le-leb p.region_start (p.last_input_pos + 1) s.start_high,
          le-leb 1 p.last_input_pos s.last_low,
          le-leb p.last_input_pos (p.region_start + p.count - 1) s.last_high,
          le-leb (p.region_start + p.count - 1) p.contig_len s.end_on,
          le-leb (p.region_start + p.count - 1) (p.last_input_pos + p.filter_size) s.end_near,
        )

-- ---- an add that is accepted

-- the window, as numbers
pub record First (p : BandPassActivityProfile) (s : ActivityProfileState) (first : ℕ) : Type 0 where
  pub low : 1 ≤ first
  pub high : first ≤ at s
  pub old_on : first + p.count ≤ suc p.contig_len
  pub old_near : first + p.count ≤ suc (at s + p.filter_size)

pub first_is : (p : BandPassActivityProfile) (n : ℕ) (s : ActivityProfileState) → Accepted p n s → First p s (first_locus p s)
unfolding first_locus
first_is p n s a = go (eqb p.count 0) refl
  where
    go : (b : Bool) → eqb p.count 0 ≡ b → First p s (cond b (at s) p.region_start)
    go true g = let h = eqb-true p.count 0 g in omega arith
    go false g =
        let c = eqb-false p.count 0 g in
        let h : 0 < p.count = omega arith in
        let l = a.whole.some h in
        let q = a.next h in
        omega arith

pub record High (p : BandPassActivityProfile) (s : ActivityProfileState) (high : ℕ) : Type 0 where
  pub at_high : at s ≤ high
  pub high_on : high ≤ p.contig_len
  pub high_near : high ≤ at s + p.filter_size

pub high_is : (p : BandPassActivityProfile) (n : ℕ) (s : ActivityProfileState) → Accepted p n s → High p s (highest p s)
unfolding highest
high_is p n s a = go (spreads s)
  where
    go : (b : Bool) → High p s (cond b (min p.contig_len (at s + p.filter_size)) (at s))
    go true = omega (arith, a.high)
    go false = omega (arith, a.high)

add-whole : (p : BandPassActivityProfile) (n k : ℕ) (s : ActivityProfileState) → add_verdict p n k s ≡ granted → Whole (added_profile p s) n
unfolding added_profile needed settings_in_range
add-whole p n k s e =
    let a = accepted_is p n k s e in
    let f = first_is p n s a in
    let w = high_is p n s a in
    record {
      settings = a.whole.settings;
      filter = a.whole.filter;
      cells = a.room;
      none = λ h. omega arith;
      some = λ h. omega arith;
    }

-- ---- a pop that answers a region

rest-whole : (p : BandPassActivityProfile) (n size left : ℕ) → Whole p n → left ≤ n → (0 < left → Placed (rest p size left)) → Whole (rest p size left) n
unfolding rest settings_in_range
rest-whole p n size zero w l h = record { settings = w.settings; filter = w.filter; cells = l; none = λ q. (refl, refl); some = λ q. absurd (omega arith) }
rest-whole p n size (suc m) w l h = record { settings = w.settings; filter = w.filter; cells = l; none = λ q. absurd (omega arith); some = h }

rest-placed : (p : BandPassActivityProfile) (most size : ℕ) (forced : Bool) → Placed p → 0 < p.count
    → (forced ≡ false → most + D p ≤ p.count) → size ≤ most → size ≤ kept p forced
    → (left : ℕ) → left ≡ kept p forced - size → 0 < left → Placed (rest p size left)
unfolding kept rest
rest-placed p most size true a c u s₁ s₂ zero q h = absurd (omega arith)
rest-placed p most size true a c u s₁ s₂ (suc m) q h = omega arith
rest-placed p most size false a c u s₁ s₂ zero q h = absurd (omega arith)
rest-placed p most size false a c u s₁ s₂ (suc m) q h = omega (arith, u refl)

pop_whole : (p : BandPassActivityProfile) (cells : List Float) (least most : ℕ) (forced : Bool) → Cut p cells least most forced
    → Whole (rest p (pop_size p cells least most forced) (kept p forced - pop_size p cells least most forced)) (length cells)
pop_whole p cells least most forced c =
    let size = pop_size p cells least most forced in
    rest-whole p (length cells) size (kept p forced - size) c.asked.whole (omega (arith, c.kept_high, c.asked.whole.cells))
    (rest-placed p most size forced c.asked.placed c.asked.some c.enough c.sized.few c.within (kept p forced - size) refl)

-- ---- a list of calls

pub step-whole : (l : Lent) (c : Call) → Whole l.profile (length l.cells) → Whole (step l c).profile (length (step l c).cells)
unfolding step add_answer add_answer_by add_cells add_cells_by pop_answer pop_answer_by pop_cells pop_cells_by
step-whole l (Add s k) w = go (add_verdict l.profile (length l.cells) (length k) s) refl
  where
    go : (a : Verdict) → add_verdict l.profile (length l.cells) (length k) s ≡ a
        → Whole (after_add (add_answer_by a l.profile s)) (length (add_cells_by a l.profile l.cells k s))
    go (refusal n) e = w
    go granted e = rw length-each (add-whole l.profile (length l.cells) (length k) s e)
step-whole l (Pop x least most forced) w = go (pop_verdict l.profile (length l.cells) least most) (turn l.profile most forced) refl refl
  where
    go : (a : Verdict) (t : Turn) → pop_verdict l.profile (length l.cells) least most ≡ a → turn l.profile most forced ≡ t
        → Whole (after_pop (pop_answer_by a t l.profile l.cells x least most forced)) (length (pop_cells_by a t l.profile l.cells least most forced))
    go (refusal n) t e f = w
    go granted empty e f = w
    go granted held e f = w
    go granted ready e f =
        let c = cut_is l.profile l.cells least most forced e f in
        rw length-each (pop_whole l.profile l.cells least most forced c)

pub run_whole : (l : Lent) (cs : List Call) → Whole l.profile (length l.cells) → Whole (after l cs).profile (length (after l cs).cells)
unfolding after
run_whole l [] w = w
run_whole l (c ∷ cs) w = run_whole (step l c) cs (step-whole l c w)

-- ---- from a making

pub fresh_whole : (contig len : ℕ) (s : BandPassActivityProfileParams) (n m : ℕ) (p : BandPassActivityProfile) → making contig len s n m ≡ answered p → (k : ℕ) → Whole p k
unfolding settings_in_range in_range
fresh_whole contig len s n m p e k =
    let f = fresh_is contig len s n m p e in
    let d : is_distance s.max_prob_propagation_distance ≡ true = search (and_left, and_right, f.in_range_lem) in
    let t : is_probability s.active_prob_threshold ≡ true = search (and_left, and_right, f.in_range_lem) in
    record {
      settings = rw (f.same_length, f.same_distance, f.same_threshold, f.on_contig, d, t);
      filter = f.filter_up_to_500;
      cells = omega (arith, f.no_cells);
      none = λ h. (f.no_start, f.no_last);
      some = λ h. absurd (omega (arith, f.no_cells));
    }

-- From a making that is not refused, distance 0 too, no list of calls ever comes to a broken record.
pub never_broken : (contig len : ℕ) (s : BandPassActivityProfileParams) (n m : ℕ) (p : BandPassActivityProfile) → making contig len s n m ≡ answered p
    → (cells : List Float) (calls : List Call) → let l : Lent = after (record { profile = p; cells = cells }) calls in broken l.profile (length l.cells) ≡ false
never_broken contig len s n m p e cells calls =
    let l : Lent = record { profile = p; cells = cells } in
    whole_not _ _ (run_whole l calls (fresh_whole contig len s n m p e (length cells)))

-- So no pop with sizes of at least 1 is refused.
pub never_refused : (contig len : ℕ) (s : BandPassActivityProfileParams) (n m : ℕ) (p : BandPassActivityProfile) → making contig len s n m ≡ answered p
    → (cells : List Float) (calls : List Call) (least most : ℕ) → 1 ≤ least → 1 ≤ most
    → let l : Lent = after (record { profile = p; cells = cells }) calls in pop_verdict l.profile (length l.cells) least most ≡ granted
unfolding pop_verdict
never_refused contig len s n m p e cells calls least most h k =
    rw (never_broken contig len s n m p e cells calls, ne_eqb least 0 (λ q. omega arith), ne_eqb most 0 (λ q. omega arith))
