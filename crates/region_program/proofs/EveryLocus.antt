-- Demand 3 of the region program: whatever its events are, what it does to its profile is a list of adds and pops, so that the lines printed and the loci still
-- waiting are the loci that were accepted. Assumes nothing.
use mathlib.Core.Path.{◌≡◌, refl, sym, ap, subst, ◌∙◌}
use mathlib.Core.Bool.{Bool, true, false, cond}
use mathlib.Core.List.{List, [], ◌∷◌, ◌++◌, append-nil}
use Prim.Native.Nat.{ℕ, ◌≤◌}
use lib.Dec.{ltb, eqb}
use lib.Ieee.{Float}
use Rattle.genome.specs.Refusals.{Outcome, refused, answered}
use Rattle.pileup_words.specs.declared.StreamEvent.{StreamEvent}
use Rattle.pileup_words.specs.declared.StreamEvent.TheVariants.{Locus, Observation, Pop, Setting, Remainder, End}
use Rattle.activity_profile.specs.declared.BandPassActivityProfile.{BandPassActivityProfile}
use Rattle.activity_profile.specs.declared.ActivityProfileRegion.{ActivityProfileRegion}
use Rattle.activity_profile.specs.declared.ActivityProfileState.{ActivityProfileState}
use Rattle.activity_profile.specs.Profile.{waiting}
use Rattle.activity_profile.specs.Add.{at, AddAnswer, refused_add, accepted_add, add_answer, add_cells}
use Rattle.activity_profile.specs.Pop.{PopAnswer, refused_pop, empty_pop, held_pop, region_pop, pop_answer, pop_cells}
use Rattle.activity_profile.specs.Run.{Call, Lent, step, after, accepted_by, accepted_in, popped_by, popped_in, Faithful}
use Rattle.activity_profile.specs.Run.{Add as AddCall, Pop as PopCall}
use Rattle.activity_profile.proofs.Demand3.{demand_3}
use Rattle.stream_settings.specs.declared.StreamSettings.{StreamSettings}
use Rattle.stream_settings.specs.Settings.{params_of, with_field}
use Rattle.region_program.specs.Program.{Reading, Place, at_settings, at_loci, in_pile, Answer, goes, again, line, stops, next, moved, carrying, stray, buffer_size}
use Rattle.region_program.specs.Program.{profile_made, made_with, zero_size, set_by, before_loci, pop_made, between_piles, added_outcome, pile_score, score_added, score_cells}
use Rattle.region_program.specs.Program.{ended_with, ended_by, deepened, within_pile, act_at, act}
use Rattle.region_program.specs.Program.{popped_by as pop_answered}
use Rattle.region_program.specs.Stream.{start}
use Rattle.region_program.specs.Reach.{read_at, Reached, nothing_yet, going, adding, printing, lines_loci, OfCalls}
use Rattle.region_program.proofs.Calls.{more, loci_more}
use Rattle.region_program.proofs.Scores.{score_of_lem, past, loci_past, pile_past}

-- ---- where a stream stands

data Trace (cells : List Float) (read : List ℕ) (lines : List ActivityProfileRegion) (s : Reading) : Type 0 where
  before : s.place ≡ at_settings → read ≡ [] → lines ≡ [] → s.cells ≡ cells → Trace cells read lines s
  within : (s.place ≡ at_settings → ⊥) → OfCalls cells read lines s → Trace cells read lines s

-- past the first locus there are calls
calls_of : (cells : List Float) (read : List ℕ) (lines : List ActivityProfileRegion) (s : Reading) → Trace cells read lines s → (s.place ≡ at_settings → ⊥) → OfCalls cells read lines s
calls_of cells read lines s (before e k f g) n = absurd (n e)
calls_of cells read lines s (within m o) n = o

module _ (cells : List Float) (read : List ℕ) (lines : List ActivityProfileRegion) where
  -- what an answer leaves; the locus of a pile that has ended is among those read
  abbrev After : List ℕ → Answer → Type 0
  After more (goes u) = Trace cells read lines u
  After more (again u) = Trace cells (read ++ more) lines u
  After more (line r u) = Trace cells read (lines ++ (r ∷ [])) u
  After more (stops n i u) = Unit {0}

  either : (b : Bool) (x y : Answer) → After [] x → After [] y → After [] (cond b x y)
  either true x y f g = f
  either false x y f g = g

  -- at another place past the first locus, or another index
  elsewhere : (s : Reading) (place : Place) (i : ℕ) → (place ≡ at_settings → ⊥) → OfCalls cells read lines s → Trace cells read lines (moved s place i)
  elsewhere s place i n o = within n (record { made = o.made; by_making = o.by_making; calls = o.calls; left = o.left; accepted = o.accepted; popped = o.popped })

  -- ---- before the first locus

  module _ (s : Reading) (p : s.place ≡ at_settings) (k : read ≡ []) (f : lines ≡ []) (g : s.cells ≡ cells) where
    made_after : (q : ℕ) (o : Outcome BandPassActivityProfile) → profile_made s.settings ≡ o → After [] (made_with q s o)
    unfolding made_with after accepted_in popped_in
    made_after q (refused n) e = tt
    made_after q (answered m) e =
        within (pile_past _ _ _) (record { made = m; by_making = e; calls = []; left = ap (λ (c : List Float). record { profile = m; cells = c }) (sym g); accepted = sym k; popped = ap lines_loci (sym f) })

    set_after : (o : Outcome StreamSettings) → After [] (set_by s o)
    unfolding set_by
    set_after (refused n) = tt
    set_after (answered t) = before p k f g

    before_after : (e : StreamEvent) → After [] (before_loci e s)
    unfolding before_loci
    before_after (Locus q) = made_after q (profile_made s.settings) refl
    before_after (Observation w) = tt
    before_after (Pop value) =
        let done = goes (moved s s.place (next s.index)) in
        either (ltb 1 value) (stray s) _ tt (either (zero_size s.settings) (stops 11 s.index s) done tt (before p k f g))
    before_after (Setting field value) = set_after (with_field s.settings field value)
    before_after Remainder = tt
    before_after End = before p k f g

  -- ---- past it, with no pile open

  pop_after : (forced : Bool) (s : Reading) → (s.place ≡ at_settings → ⊥) → OfCalls cells read lines s → After [] (pop_made forced s)
  unfolding pop_answered step accepted_by popped_by
  pop_after forced s n o = go (pop_answer s.profile s.cells extension least most forced) refl
    where
      extension : ℕ
      extension = s.settings.assembly_region_extension

      least : ℕ
      least = s.settings.min_region_size

      most : ℕ
      most = s.settings.max_region_size

      left_cells : List Float
      left_cells = pop_cells s.profile s.cells least most forced

      call : Call
      call = PopCall extension least most forced

      go : (a : PopAnswer) → pop_answer s.profile s.cells extension least most forced ≡ a → After [] (pop_answered s a left_cells)
      go (refused_pop k q) e = tt
      go (empty_pop q) e = within n (more cells read read lines lines s (carrying s q left_cells s.place (next s.index)) call refl o (rw e) (sym (append-nil read)) (rw e (sym (append-nil (lines_loci lines)))))
      go (held_pop q) e = within n (more cells read read lines lines s (carrying s q left_cells s.place (next s.index)) call refl o (rw e) (sym (append-nil read)) (rw e (sym (append-nil (lines_loci lines)))))
      go (region_pop r q) e = within n (more cells read read lines (lines ++ (r ∷ [])) s (carrying s q left_cells s.place s.index) call refl o (rw e) (sym (append-nil read)) (rw e (loci_more lines r)))

  between-after : (e : StreamEvent) (s : Reading) → (s.place ≡ at_settings → ⊥) → OfCalls cells read lines s → After [] (between_piles e s)
  unfolding between_piles
  between-after (Locus q) s n o = elsewhere s (in_pile q s.index []) (next s.index) (pile_past _ _ _) o
  between-after (Observation w) s n o = tt
  between-after (Pop value) s n o = either (ltb 1 value) (stray s) (pop_made (eqb value 1) s) tt (pop_after (eqb value 1) s n o)
  between-after (Setting field value) s n o = tt
  between-after Remainder s n o = tt
  between-after End s n o = within n o

  -- ---- within a pile

  -- the end of a pile reads its locus
  module _ (p i : ℕ) (words : List ℕ) (s : Reading) (o : OfCalls cells read lines s) where
    added : (x : ActivityProfileState) → at x ≡ p → (a : AddAnswer) → add_answer s.profile s.cells s.kernel x ≡ a
        → After (p ∷ []) (ended_with i s (add_cells s.profile s.cells s.kernel x) (added_outcome a))
    unfolding ended_with step accepted_by popped_by
    added x f (refused_add n q) e = tt
    added x f (accepted_add q) e =
        let c = AddCall x s.kernel in
        let u = carrying s q (add_cells s.profile s.cells s.kernel x) at_loci s.index in
        within loci_past (more cells read (read ++ (p ∷ [])) lines lines s u c refl o (rw e) (rw (e, f)) (sym (append-nil (lines_loci lines))))

    scored : (sc : Outcome ActivityProfileState) → pile_score p words ≡ sc
        → After (p ∷ []) (ended_with i s (score_cells s.profile s.cells s.kernel sc) (score_added s.profile s.cells s.kernel sc))
    unfolding ended_with score_added score_cells
    scored (refused n) e = tt
    scored (answered x) e = added x (score_of_lem p words x e).position (add_answer s.profile s.cells s.kernel x) refl

    ended-after : After (p ∷ []) (ended_by pile_score p i words s)
    unfolding ended_by
    ended-after = scored (pile_score p words) refl

    within-after : (e : StreamEvent) → After (p ∷ []) (within_pile pile_score p i words e s)
    unfolding within_pile
    within-after (Locus q) = ended-after
    within-after (Observation w) = elsewhere s (in_pile p i (deepened words w)) (next s.index) (pile_past _ _ _) o
    within-after (Pop value) = ended-after
    within-after (Setting field value) = tt
    within-after Remainder = ended-after
    within-after End = ended-after

  act-after : (e : StreamEvent) (s : Reading) → Trace cells read lines s → After (read_at s.place) (act e s)
  unfolding act_at
  act-after e s t = go s.place refl
    where
      first : Trace cells read lines s → s.place ≡ at_settings → After [] (before_loci e s)
      first (before p k f g) h = before_after s p k f g e
      first (within n o) h = absurd (n h)

      go : (x : Place) → s.place ≡ x → After (read_at x) (act_at pile_score e s x)
      go at_settings h = first t h
      go at_loci h = let n = past s at_loci h loci_past in between-after e s n (calls_of cells read lines s t n)
      go (in_pile p i words) h = within-after p i words s (calls_of cells read lines s t (past s (in_pile p i words) h (pile_past p i words))) e

traced : (cells : List Float) (read : List ℕ) (lines : List ActivityProfileRegion) (s : Reading) → Reached (start cells) read lines s → Trace cells read lines s
traced cells _ _ _ nothing_yet = before refl refl refl refl
traced cells _ _ _ (going read lines t u e r h) = subst (After cells read lines (read_at t.place)) h (act-after cells read lines e t (traced cells read lines t r))
traced cells _ _ _ (adding read lines t u e r h) = subst (After cells read lines (read_at t.place)) h (act-after cells read lines e t (traced cells read lines t r))
traced cells _ _ _ (printing read lines t u e x r h) = subst (After cells read lines (read_at t.place)) h (act-after cells read lines e t (traced cells read lines t r))

-- ---- demand 3

-- Past the first locus the stream's profile is what a list of adds and pops made of it: the loci read are those that these accepted, and the lines the
-- regions that they popped.
pub of_calls : (cells : List Float) (read : List ℕ) (lines : List ActivityProfileRegion) (s : Reading) → Reached (start cells) read lines s → (s.place ≡ at_settings → ⊥) → OfCalls cells read lines s
of_calls cells read lines s r n = calls_of cells read lines s (traced cells read lines s r) n

-- So demand 3 holds of it, with a propagation distance of at least 1 ..
pub stream_faithful : (cells : List Float) (read : List ℕ) (lines : List ActivityProfileRegion) (s : Reading) (o : OfCalls cells read lines s) → 1 ≤ s.settings.max_prob_propagation_distance
    → Faithful o.made cells o.calls
stream_faithful cells read lines s o d = demand_3 0 s.settings.contig_len (params_of s.settings) buffer_size buffer_size o.made o.by_making d cells o.calls

-- .. and the loci of the lines printed, followed by those that wait, are the loci read, in order, each once.
pub every_locus_printed : (cells : List Float) (read : List ℕ) (lines : List ActivityProfileRegion) (s : Reading) → Reached (start cells) read lines s → (s.place ≡ at_settings → ⊥)
    → 1 ≤ s.settings.max_prob_propagation_distance → lines_loci lines ++ waiting s.profile ≡ read
every_locus_printed cells read lines s r n d =
    let o = of_calls cells read lines s r n in
    let fresh : Lent = record { profile = o.made; cells = cells } in
    ap (λ t. t ++ waiting s.profile) (sym o.popped) ∙ ap (λ (l : Lent). popped_in fresh o.calls ++ waiting l.profile) (sym o.left) ∙ (stream_faithful cells read lines s o d).every-locus ∙ o.accepted
