-- 02, U5: with as many cells as `cells_needed` says, no add of a maker who pops after every add until "held" or "empty" is refused 10: fewer than max + D cells
-- are in use before it, and it reaches F further. Assumes nothing.
use mathlib.Core.Path.{◌≡◌, refl, ◌∙◌, subst}
use mathlib.Core.Bool.{Bool, true, false, cond, not}
use mathlib.Core.List.{List, [], ◌∷◌, ◌++◌}
use Prim.{⊥, Unit}
use Prim.Native.Nat.{ℕ, suc, ◌+◌, ◌*◌, ◌<◌, ◌≤◌, min}
use native.Mathlib.Omega.{arith}
use borrow.Author.Tests.{eqb-true, eqb-false, ne_eqb, ltb-true, ltb-false, lt-ltb, le-leb}
use lib.Dec.{eqb, ltb}
use lib.ListN.{length}
use lib.Ieee.{Float}
use Rattle.lists.specs.Tests.{or_left, or_right, and_left, and_right, but}
use Rattle.genome.specs.Refusals.{refused, answered, cells_refusal}
use Rattle.band_pass_kernel.specs.Kernel.{band}
use Rattle.band_pass_kernel.specs.Resolve.{is_distance, max_filter, in_range}
use Rattle.band_pass_kernel.specs.declared.BandPassActivityProfileParams.{BandPassActivityProfileParams}
use Rattle.activity_profile.specs.declared.BandPassActivityProfile.{BandPassActivityProfile}
use Rattle.activity_profile.specs.declared.ActivityProfileState.{ActivityProfileState}
use Rattle.activity_profile.specs.Verdict.{Verdict, refusal, granted}
use Rattle.activity_profile.specs.Making.{making}
use Rattle.activity_profile.specs.Profile.{D, broken}
use Rattle.activity_profile.specs.Add.{at, first_locus, needed, broken_add, other_contig, off_contig, no_activity, not_next, add_verdict, refused_add, add_answer_by, add_answer}
use Rattle.activity_profile.specs.Run.{Call, Add, Pop, Lent, step, after}
use Rattle.activity_profile.specs.Cells.{sizes_in_range, cells_for, cells_needed}
use Rattle.activity_profile.specs.Maker.{UntilHeld, at_held, at_empty, past_region, Fed, none, last, more, refused_add_lem, besides, NeverLacksCells, Enough}
use Rattle.activity_profile.proofs.Facts.{whole_is, Accepted}
use Rattle.activity_profile.proofs.Fresh.{fresh_is}
use Rattle.activity_profile.proofs.Unbroken.{first_is, high_is}
use Rattle.activity_profile.proofs.Settings.{step_same, run_same, fresh_same}
use Rattle.activity_profile.proofs.Idle.{Idle, pop_idle, popped_idle}

-- ---- what `cells_needed` answers

pub record Answered (most distance filter len n : ℕ) : Type 0 where
  pub some : 1 ≤ most
  pub is : n ≡ cells_for most distance filter len

pub answered_is : (most distance filter len n : ℕ) → cells_needed most distance filter len ≡ answered n → Answered most distance filter len n
unfolding cells_needed
answered_is most distance filter len n e = go (not (sizes_in_range distance filter len)) (eqb most 0) refl e
  where
    go : (a b : Bool) → eqb most 0 ≡ b → cond a (refused 1) (cond b (refused 11) (answered (cells_for most distance filter len))) ≡ answered n → Answered most distance filter len n
    go true b q h = absurd (let z : ◌≡◌ {A = ℕ} 0 1 = cc in omega arith)
    go false true q h = absurd (let z : ◌≡◌ {A = ℕ} 0 1 = cc in omega arith)
    go false false q h = record { some = omega (arith, eqb-false most 0 q); is = cc }

-- ---- an add that is refused 10 passed every other test

record Passed (b₅ b₆ b₇ b₈ b₉ b₁₀ : Bool) : Type 0 where
  not_5 : b₅ ≡ false
  not_7 : b₇ ≡ false
  not_9 : b₉ ≡ false
  but_10 : b₁₀ ≡ true

passed : (b₅ b₆ b₇ b₈ b₉ b₁₀ : Bool)
    → cond b₅ (refusal 5) (cond b₆ (refusal 6) (cond b₇ (refusal 7) (cond b₈ (refusal 8) (cond b₉ (refusal 9) (cond b₁₀ (refusal 10) granted))))) ≡ refusal 10
    → Passed b₅ b₆ b₇ b₈ b₉ b₁₀
passed true b₆ b₇ b₈ b₉ b₁₀ e = absurd (let z : ◌≡◌ {A = ℕ} 5 10 = cc in omega arith)
passed false true b₇ b₈ b₉ b₁₀ e = absurd (let z : ◌≡◌ {A = ℕ} 6 10 = cc in omega arith)
passed false false true b₈ b₉ b₁₀ e = absurd (let z : ◌≡◌ {A = ℕ} 7 10 = cc in omega arith)
passed false false false true b₉ b₁₀ e = absurd (let z : ◌≡◌ {A = ℕ} 8 10 = cc in omega arith)
passed false false false false true b₁₀ e = absurd (let z : ◌≡◌ {A = ℕ} 9 10 = cc in omega arith)
passed false false false false false true e = record { not_5 = refl; not_7 = refl; not_9 = refl; but_10 = refl }
passed false false false false false false e = absurd (let z : ◌≡◌ {A = ℕ} 0 1 = cc in omega arith)

-- all that an accepted add has, but for the room: with the cells that it asks for it would be accepted
asks : (p : BandPassActivityProfile) (n k : ℕ) (s : ActivityProfileState) → add_verdict p n k s ≡ refusal 10 → (n < needed p s) × Accepted p (n + needed p s) s
unfolding add_verdict
asks p n k s e =
    let t = passed (broken_add p n k) (other_contig p s) (off_contig p s) (no_activity s) (not_next p s) (ltb n (needed p s)) e in
    let w = whole_is p n (or_left (broken p n) (not (eqb k (band p.filter_size))) t.not_5) in (
      ltb-true n (needed p s) t.but_10,
      record {
        whole = record { settings = w.settings; filter = w.filter; cells = omega (arith, w.cells); none = w.none; some = w.some };
        low = omega (arith, eqb-false (at s) 0 (or_left (eqb (at s) 0) (ltb p.contig_len (at s)) t.not_7));
        high = ltb-false p.contig_len (at s) (or_right (eqb (at s) 0) (ltb p.contig_len (at s)) t.not_7);
        next = λ h. omega (arith, eqb-true (at s) (p.last_input_pos + 1) (but (ltb 0 p.count) (eqb (at s) (p.last_input_pos + 1)) t.not_9 (lt-ltb 0 p.count h)));
        room = omega arith;
      },
    )

-- ---- how many cells an add asks for

close : (p : BandPassActivityProfile) (n : ℕ) (s : ActivityProfileState) → Accepted p n s → at s ≤ first_locus p s + p.count
unfolding first_locus
close p n s a = go (eqb p.count 0) refl
  where
    go : (b : Bool) → eqb p.count 0 ≡ b → at s ≤ cond b (at s) p.region_start + p.count
    go true q = omega arith
    go false q =
        let h : 0 < p.count = omega (arith, eqb-false p.count 0 q) in
        let l = a.whole.some h in
        omega (arith, a.next h)

asks_few : (p : BandPassActivityProfile) (n most : ℕ) (s : ActivityProfileState) → Accepted p n s → 1 ≤ most → p.count < most + D p
    → needed p s ≤ min p.contig_len (most + p.max_prob_propagation_distance + 2 * p.filter_size)
unfolding needed
asks_few p n most s a h f =
    let u = first_is p n s a in
    let v = high_is p n s a in
    let c = close p n s a in
    omega arith

-- ---- the law

refused_is : (p : BandPassActivityProfile) (cells k : List Float) (s : ActivityProfileState) (m : ℕ) (q : BandPassActivityProfile) → add_answer p cells k s ≡ refused_add m q
    → add_verdict p (length cells) (length k) s ≡ refusal m
unfolding add_answer add_answer_by
refused_is p cells k s m q = go (add_verdict p (length cells) (length k) s) refl
  where
    go : (a : Verdict) → add_verdict p (length cells) (length k) s ≡ a → add_answer_by a p s ≡ refused_add m q → add_verdict p (length cells) (length k) s ≡ refusal m
    go (refusal i) e g = e ∙ (let h : i ≡ m = cc in rw h)
    go granted e g = absurd (let z : ◌≡◌ {A = ℕ} 0 1 = cc in omega arith)

refused_count : (l : Lent) (s : ActivityProfileState) (k : List Float) (m : ℕ) (q : BandPassActivityProfile) → add_answer l.profile l.cells k s ≡ refused_add m q
    → (step l (Add s k)).profile.count ≡ l.profile.count
unfolding step add_answer add_answer_by
refused_count l s k m q e = rw (refused_is l.profile l.cells k s m q e)

-- what it takes to be refused 10 is not there
never_10 : (made : BandPassActivityProfile) (n most : ℕ) → 1 ≤ most → cells_for most made.max_prob_propagation_distance made.filter_size made.contig_len ≤ n
    → (l : Lent) → Idle made n most l → (s : ActivityProfileState) (kernel : List Float) (q : BandPassActivityProfile) → add_answer l.profile l.cells kernel s ≡ refused_add cells_refusal q → ⊥
never_10 made n most some room l idle s kernel q g =
    let x = asks l.profile (length l.cells) (length kernel) s (refused_is l.profile l.cells kernel s cells_refusal q g) in
    let t = idle.same.settings in
    let few : l.profile.count < most + D l.profile = omega (arith, idle.few, t.distance, t.filter) in
    let y = asks_few l.profile (length l.cells + needed l.profile s) most s x.1 some few in
    omega (arith, x.0, y, t.len, t.distance, t.filter, idle.same.cells)

-- ---- a list of calls

-- the same as `NeverLacksCells`, call by call
abbrev NoneFull : Lent → List Call → Type 0
NoneFull l [] = Unit {0}
NoneFull l (Add s kernel ∷ calls) =
    ((q : BandPassActivityProfile) → add_answer l.profile l.cells kernel s ≡ refused_add cells_refusal q → ⊥) × NoneFull (step l (Add s kernel)) calls
NoneFull l (Pop extension least most forced ∷ calls) = NoneFull (step l (Pop extension least most forced)) calls

none_full : (l : Lent) (before rest : List Call) (s : ActivityProfileState) (kernel : List Float) → NoneFull l (before ++ Add s kernel ∷ rest)
    → let lent = after l before in (q : BandPassActivityProfile) → add_answer lent.profile lent.cells kernel s ≡ refused_add cells_refusal q → ⊥
unfolding after
none_full l [] rest s kernel h = h.0
none_full l (Add t k ∷ before) rest s kernel h = none_full (step l (Add t k)) before rest s kernel h.1
none_full l (Pop x least most forced ∷ before) rest s kernel h = none_full (step l (Pop x least most forced)) before rest s kernel h

-- pops are refused no add
past_pops : (most : ℕ) {l : Lent} {pops : List Call} → UntilHeld most l pops → (calls : List Call) → NoneFull (after l pops) calls → NoneFull l (pops ++ calls)
unfolding after
past_pops most (at_held l z q e) calls h = h
past_pops most (at_empty l z q e) calls h = h
past_pops most (past_region l z r q pops e later) calls h = past_pops most later calls h

fed_never : (made : BandPassActivityProfile) (n most : ℕ) → 1 ≤ most → cells_for most made.max_prob_propagation_distance made.filter_size made.contig_len ≤ n
    → {l : Lent} {calls : List Call} → Fed most l calls → Idle made n most l → NoneFull l calls
unfolding after
fed_never made n most some room (none l) i = tt
fed_never made n most some room (last l s k) i = (never_10 made n most some room l i s k, tt)
fed_never made n most some room (more l s k pops calls u f) i =
    let j = popped_idle made n most some u (step_same made n l (Add s k) i.same) in
    (never_10 made n most some room l i s k, past_pops most u calls (fed_never made n most some room f j))
fed_never made n most some room (refused_add_lem l s k m q calls e f) i =
    let same = step_same made n l (Add s k) i.same in
    (never_10 made n most some room l i s k, fed_never made n most some room f (record { same = same; few = omega (arith, i.few, refused_count l s k m q e) }))
fed_never made n most some room (besides l x least max forced calls f) i = fed_never made n most some room f (pop_idle made n most some l x least max forced i)

-- ---- from a making

-- with the cells for any filter size from the profile's on
for_filter : (contig len : ℕ) (settings : BandPassActivityProfileParams) (i j : ℕ) (p : BandPassActivityProfile) → making contig len settings i j ≡ answered p
    → (f : ℕ) → p.filter_size ≤ f → (most n : ℕ) → cells_needed most settings.max_prob_propagation_distance f len ≡ answered n → Enough p most n
for_filter contig len settings i j p e f wide most n c cells room calls fed before rest s kernel split =
    let made = fresh_is contig len settings i j p e in
    let a = answered_is most settings.max_prob_propagation_distance f len n c in
    let fresh : Lent = record { profile = p; cells = cells } in
    let start : Idle p (length cells) most fresh = record { same = fresh_same contig len settings i j p e cells; few = omega (arith, made.no_cells, a.some) } in
    let wanted : cells_for most p.max_prob_propagation_distance p.filter_size p.contig_len ≤ length cells =
    omega (arith, a.is, made.same_length, made.same_distance) in
    none_full fresh before rest s kernel (subst (NoneFull fresh) split (fed_never p (length cells) most a.some wanted fed start))

-- "With that many cells refusal 10 never occurs for such a maker, from a fresh profile, for every list of loci."
pub enough : (contig len : ℕ) (settings : BandPassActivityProfileParams) (i j : ℕ) (p : BandPassActivityProfile) → making contig len settings i j ≡ answered p
    → (most n : ℕ) → cells_needed most settings.max_prob_propagation_distance p.filter_size len ≡ answered n → Enough p most n
enough contig len settings i j p e = for_filter contig len settings i j p e p.filter_size (omega arith)

-- The same of max filter, which a maker knows before the making.
pub enough_by_max_filter : (contig len : ℕ) (settings : BandPassActivityProfileParams) (i j : ℕ) (p : BandPassActivityProfile) → making contig len settings i j ≡ answered p
    → (most n : ℕ) → cells_needed most settings.max_prob_propagation_distance settings.max_filter_size len ≡ answered n → Enough p most n
enough_by_max_filter contig len settings i j p e =
    for_filter contig len settings i j p e settings.max_filter_size (fresh_is contig len settings i j p e).filter_up_to_max

-- With as many cells as the contig has loci, refusal 10 never occurs to anyone, for every list of calls.
pub enough_for_all : (contig len : ℕ) (settings : BandPassActivityProfileParams) (i j : ℕ) (p : BandPassActivityProfile) → making contig len settings i j ≡ answered p
    → (cells : List Float) → len ≤ length cells → (calls : List Call) → NeverLacksCells (record { profile = p; cells = cells }) calls
enough_for_all contig len settings i j p e cells room calls before rest s kernel split =
    let fresh : Lent = record { profile = p; cells = cells } in
    let l = after fresh before in
    let same = run_same p (length cells) fresh before (fresh_same contig len settings i j p e cells) in
    let most = suc l.profile.count in
    never_10 p (length cells) most (omega arith) (omega (arith, (fresh_is contig len settings i j p e).same_length)) l (record { same = same; few = omega arith }) s kernel

-- Settings that a making takes are refused for a zero max alone.
pub made_answered : (contig len : ℕ) (settings : BandPassActivityProfileParams) (i j : ℕ) (p : BandPassActivityProfile) → making contig len settings i j ≡ answered p
    → (most : ℕ) → 1 ≤ most → let distance = settings.max_prob_propagation_distance in
    cells_needed most distance p.filter_size len ≡ answered (cells_for most distance p.filter_size len)
unfolding cells_needed in_range
made_answered contig len settings i j p e most some =
    let f = fresh_is contig len settings i j p e in
    let d : is_distance settings.max_prob_propagation_distance ≡ true = search (and_left, and_right, f.in_range_lem) in
    rw (d, le-leb 0 p.filter_size (omega arith), le-leb p.filter_size max_filter f.filter_up_to_500, f.on_contig, ne_eqb most 0 (λ q. omega arith))
