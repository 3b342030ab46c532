-- 02, U5: with one cell fewer than `cells_needed` says, a list of adds whose last is refused 10. Zeros need a cell each and are held up to max + D, and 1.0 at
-- that locus reaches F further. Assumes nothing.
use mathlib.Core.Path.{◌≡◌, refl, sym, ap, ◌∙◌}
use mathlib.Core.Bool.{Bool, true, false, cond, ◌&&◌}
use mathlib.Core.List.{List, [], ◌∷◌}
use Prim.Native.Nat.{ℕ, zero, suc, ◌+◌, ◌-◌, ◌<◌, ◌≤◌, min, max}
use native.Mathlib.Omega.{arith}
use borrow.Author.Tests.{eq-eqb, ne_eqb, eqb-true, eqb-false, lt-ltb, le-ltb, leb-true}
use lib.Dec.{eqb, ltb, leb}
use lib.ListN.{length}
use lib.Ieee.{Float, of_bits, le, lt}
use Rattle.lists.specs.Tests.{and_left}
use Rattle.doubles.specs.Constants.{zero_f, one_f}
use Rattle.genome.specs.Refusals.{answered, not_next_refusal, cells_refusal}
use Rattle.genome.specs.Ranges.{is_probability, max_position}
use Rattle.band_pass_kernel.specs.Kernel.{band}
use Rattle.band_pass_kernel.specs.declared.BandPassActivityProfileParams.{BandPassActivityProfileParams}
use Rattle.activity_profile.specs.declared.BandPassActivityProfile.{BandPassActivityProfile}
use Rattle.activity_profile.specs.declared.ActivityProfileState.{ActivityProfileState}
use Rattle.activity_profile.specs.Verdict.{refusal, granted}
use Rattle.activity_profile.specs.Making.{making}
use Rattle.activity_profile.specs.Loci.{from}
use Rattle.activity_profile.specs.Profile.{D}
use Rattle.activity_profile.specs.Add.{at, first_locus, highest, needed, add_verdict, added_profile, refused_add, add_answer_by, add_answer}
use Rattle.activity_profile.specs.Pop.{pop_verdict, turn, held_pop, pop_answer_by, pop_answer}
use Rattle.activity_profile.specs.Run.{Add, Lent, step, after, accepted_by, accepted_in}
use Rattle.activity_profile.specs.Cells.{cells_needed}
use Rattle.activity_profile.specs.Maker.{Sizes, pop_of, at_held, Fed, none, more, plain_at, zeros_from, one_locus, TooFew}
use Rattle.activity_profile.proofs.Facts.{Whole}
use Rattle.activity_profile.proofs.Fresh.{fresh_is}
use Rattle.activity_profile.proofs.Unbroken.{whole_not}
use Rattle.activity_profile.proofs.Settings.{Same, step_same, fresh_same}
use Rattle.activity_profile.proofs.Enough.{answered_is}

-- ---- an add that only the cells can refuse

verdict_is : (p : BandPassActivityProfile) (n k : ℕ) (s : ActivityProfileState) → Whole p n → k ≡ band p.filter_size → s.contig ≡ p.contig → 1 ≤ at s → at s ≤ p.contig_len
    → is_probability s.active_prob ≡ true → at s ≡ p.last_input_pos + 1 → add_verdict p n k s ≡ cond (ltb n (needed p s)) (refusal cells_refusal) granted
unfolding add_verdict
verdict_is p n k s w ek ec low high unit next =
    rw (
      whole_not p n w,
      eq-eqb k (band p.filter_size) ek,
      eq-eqb s.contig p.contig ec,
      ne_eqb (at s) 0 (λ q. omega arith),
      le-ltb p.contig_len (at s) high,
      unit,
      eq-eqb (at s) (p.last_input_pos + 1) next,
    )
    (go (ltb 0 p.count) (ltb n (needed p s)))
  where
    go : (b c : Bool) → cond (b && false) (refusal not_next_refusal) (cond c (refusal cells_refusal) granted) ≡ cond c (refusal cells_refusal) granted
    go true c = refl
    go false c = refl

zero_unit : is_probability zero_f ≡ true
unfolding le of_bits
zero_unit = refl

one_unit : is_probability one_f ≡ true
unfolding le of_bits
one_unit = refl

zero_highest : (p : BandPassActivityProfile) (contig q : ℕ) → highest p (plain_at contig q zero_f) ≡ q
unfolding highest lt of_bits
zero_highest p contig q = refl

one_highest : (p : BandPassActivityProfile) (contig q : ℕ) → highest p (plain_at contig q one_f) ≡ min p.contig_len (q + p.filter_size)
unfolding highest lt of_bits
one_highest p contig q = refl

-- ---- after j zeros from locus 1 on

record Zeros (made : BandPassActivityProfile) (n j : ℕ) (l : Lent) : Type 0 where
  same : Same made n l
  count : l.profile.count ≡ j
  last : l.profile.last_input_pos ≡ j
  start : 0 < j → l.profile.region_start ≡ 1

first_one : (made : BandPassActivityProfile) (n j : ℕ) (l : Lent) → Zeros made n j l → (s : ActivityProfileState) → at s ≡ suc j → first_locus l.profile s ≡ 1
unfolding first_locus
first_one made n j l h s e = go (eqb l.profile.count 0) refl
  where
    go : (b : Bool) → eqb l.profile.count 0 ≡ b → cond b (at s) l.profile.region_start ≡ 1
    go true q = omega (arith, h.count, eqb-true l.profile.count 0 q)
    go false q = h.start (omega (arith, h.count, eqb-false l.profile.count 0 q))

module _ (made : BandPassActivityProfile) (n most : ℕ) (kernel : List Float) (z : Sizes) (some : 1 ≤ most) (ek : length kernel ≡ band made.filter_size) where
  abbrev zero_at : ℕ → ActivityProfileState
  zero_at q = plain_at made.contig q zero_f

  abbrev one_at : ℕ → ActivityProfileState
  one_at q = plain_at made.contig q one_f

  -- the next locus is refused for its cells alone
  next_verdict : (j : ℕ) (l : Lent) → Zeros made n j l → suc j ≤ made.contig_len → (x : Float) → is_probability x ≡ true → let s = plain_at made.contig (suc j) x in
      add_verdict l.profile (length l.cells) (length kernel) s ≡ cond (ltb (length l.cells) (needed l.profile s)) (refusal cells_refusal) granted
  next_verdict j l h on x unit =
      let t = h.same.settings in
      verdict_is l.profile (length l.cells) (length kernel) (plain_at made.contig (suc j) x) h.same.whole (ek ∙ sym (ap band t.filter)) (sym t.contig)
      (omega arith) (omega (arith, t.len)) unit (omega (arith, h.last))

  next-needed : (j : ℕ) (l : Lent) → Zeros made n j l → (x : Float) → let s = plain_at made.contig (suc j) x in needed l.profile s ≡ max j (highest l.profile s - 1 + 1)
  unfolding needed
  next-needed j l h x = rw (first_one made n j l h (plain_at made.contig (suc j) x) refl, h.count)

  -- a zero more is accepted
  zero_needed : (j : ℕ) (l : Lent) → Zeros made n j l → needed l.profile (zero_at (suc j)) ≡ suc j
  zero_needed j l h = omega (arith, next-needed j l h zero_f, zero_highest l.profile made.contig (suc j))

  zero_granted : (j : ℕ) (l : Lent) → Zeros made n j l → suc j ≤ made.contig_len → suc j ≤ n
      → add_verdict l.profile (length l.cells) (length kernel) (zero_at (suc j)) ≡ granted
  zero_granted j l h on room =
      let r : ltb (length l.cells) (needed l.profile (zero_at (suc j))) ≡ false =
      le-ltb (length l.cells) (needed l.profile (zero_at (suc j))) (omega (arith, h.same.cells, zero_needed j l h)) in
      next_verdict j l h on zero_f zero_unit ∙ rw r

  zero_added : (j : ℕ) (l : Lent) → Zeros made n j l → suc j ≤ made.contig_len → suc j ≤ n → Zeros made n (suc j) (step l (Add (zero_at (suc j)) kernel))
  unfolding step add_answer add_answer_by added_profile
  zero_added j l h on room =
      let v = zero_granted j l h on room in
      record {
        same = step_same made n l (Add (zero_at (suc j)) kernel) h.same;
        count = rw v (zero_needed j l h);
        last = rw v;
        start = λ _. rw v (first_one made n j l h (zero_at (suc j)) refl);
      }

  zero_accepted : (j : ℕ) (l : Lent) → Zeros made n j l → suc j ≤ made.contig_len → suc j ≤ n → accepted_by l (Add (zero_at (suc j)) kernel) ≡ from (suc j) 1
  unfolding accepted_by add_answer add_answer_by
  zero_accepted j l h on room = rw (zero_granted j l h on room)

  -- and held
  held_pop_lem : (j : ℕ) (l : Lent) → Zeros made n (suc j) l → suc j < most + D made → pop_answer l.profile l.cells z.extension z.least most false ≡ held_pop l.profile
  unfolding pop_answer pop_answer_by pop_verdict turn
  held_pop_lem j l h few =
      let t = h.same.settings in
      rw (
        whole_not l.profile (length l.cells) h.same.whole,
        ne_eqb z.least 0 (λ q. omega (arith, z.floor)),
        ne_eqb most 0 (λ q. omega arith),
        ne_eqb l.profile.count 0 (λ q. omega (arith, h.count)),
        lt-ltb l.profile.count (most + D l.profile) (omega (arith, h.count, t.distance, t.filter)),
      )

  zero_popped : (j : ℕ) (l : Lent) → Zeros made n (suc j) l → suc j < most + D made → Zeros made n (suc j) (step l (pop_of most z))
  unfolding step
  zero_popped j l h few =
      let e = held_pop_lem j l h few in
      record {
        same = step_same made n l (pop_of most z) h.same;
        count = rw e h.count;
        last = rw e h.last;
        start = λ a. rw e (h.start a);
      }

  -- m zeros more, up to locus t
  record Fits (l : Lent) (j m t : ℕ) : Type 0 where
    fed : Fed most l (zeros_from made.contig kernel most z (suc j) m)
    accepted : accepted_in l (zeros_from made.contig kernel most z (suc j) m) ≡ from (suc j) m
    zeros : Zeros made n t (after l (zeros_from made.contig kernel most z (suc j) m))

  zeros_fit : (m j t : ℕ) (l : Lent) → j + m ≡ t → Zeros made n j l → t < most + D made → t ≤ n → t ≤ made.contig_len → Fits l j m t
  unfolding after accepted_in accepted_by
  zeros_fit zero j t l e h few room on = record { fed = none l; accepted = refl; zeros = (let q : j ≡ t = omega arith in rw (← q) h) }
  zeros_fit (suc m) j t l e h few room on =
      let s = zero_at (suc j) in
      let a = step l (Add s kernel) in
      let ha = zero_added j l h (omega arith) (omega arith) in
      let below : suc j < most + D made = omega arith in
      let r = zeros_fit m (suc j) t (step a (pop_of most z)) (omega arith) (zero_popped j a ha below) few room on in
      record {
        fed = more l s kernel (pop_of most z ∷ []) (zeros_from made.contig kernel most z (suc (suc j)) m) (at_held a z a.profile (held_pop_lem j a ha below)) r.fed;
        accepted = rw (zero_accepted j l h (omega arith) (omega arith), r.accepted);
        zeros = r.zeros;
      }

  -- 1.0 behind them is refused
  one_refused : (j : ℕ) (l : Lent) → Zeros made n j l → suc j ≤ made.contig_len → n < min made.contig_len (suc j + made.filter_size)
      → add_answer l.profile l.cells kernel (one_at (suc j)) ≡ refused_add cells_refusal l.profile
  unfolding add_answer add_answer_by
  one_refused j l h on full =
      let u = h.same.settings in
      let c = next-needed j l h one_f in
      let r : ltb (length l.cells) (needed l.profile (one_at (suc j))) ≡ true =
      lt-ltb (length l.cells) (needed l.profile (one_at (suc j))) (omega (arith, c, h.same.cells, one_highest l.profile made.contig (suc j), u.len, u.filter)) in
      let v : add_verdict l.profile (length l.cells) (length kernel) (one_at (suc j)) ≡ refusal cells_refusal = next_verdict j l h on one_f one_unit ∙ rw r in
      rw v

  one_fewer_at : (cells : List Float) → let fresh : Lent = record { profile = made; cells = cells } in
      (k : ℕ) → 1 ≤ k → Zeros made n 0 fresh → k ≤ most + D made → k ≤ suc n → k ≤ made.contig_len → n < min made.contig_len (k + made.filter_size)
      → TooFew made cells kernel most k z
  one_fewer_at cells zero low h few room on full = absurd (omega arith)
  one_fewer_at cells (suc j) low h few room on full =
      let e : suc j - 1 ≡ j = omega arith in
      let fresh : Lent = record { profile = made; cells = cells } in
      let r = zeros_fit j 0 j fresh (omega arith) h (omega arith) (omega arith) (omega arith) in
      record {
        fed = rw e r.fed;
        accepted = rw e r.accepted;
        full = rw e (one_refused j (after fresh (zeros_from made.contig kernel most z 1 j)) r.zeros on full);
      }

-- ---- from a making

-- With any number of cells below the one that is answered, such a list: 1.0 at the locus for one cell fewer, or at the first for which no cell is left.
pub fewer : (contig len : ℕ) (settings : BandPassActivityProfileParams) (i j : ℕ) (p : BandPassActivityProfile) → making contig len settings i j ≡ answered p
    → (most n : ℕ) → cells_needed most settings.max_prob_propagation_distance p.filter_size len ≡ answered n → (cells : List Float) → length cells < n
    → (kernel : List Float) → length kernel ≡ band p.filter_size → (z : Sizes)
    → TooFew p cells kernel most (min (suc (length cells)) (one_locus most settings.max_prob_propagation_distance p.filter_size len)) z
fewer contig len settings i j p e most n c cells below kernel ek z =
    let f = fresh_is contig len settings i j p e in
    let asked = answered_is most settings.max_prob_propagation_distance p.filter_size len n c in
    let k = one_locus most settings.max_prob_propagation_distance p.filter_size len in
    let on : 1 ≤ len = leb-true 1 len (and_left (leb 1 len) (leb len max_position) f.on_contig) in
    let fresh : Lent = record { profile = p; cells = cells } in
    let start : Zeros p (length cells) 0 fresh = record {
      same = fresh_same contig len settings i j p e cells;
      count = f.no_cells;
      last = f.no_last;
      start = λ h. absurd (omega arith);
    } in
    one_fewer_at p (length cells) most kernel z asked.some ek cells (min (suc (length cells)) k) (omega (arith, asked.some)) start
    (omega (arith, f.same_distance)) (omega arith) (omega (arith, f.same_length)) (omega (arith, asked.is, f.same_length))
