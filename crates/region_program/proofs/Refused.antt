-- Which refusals a stream can end in: 1, 3, 4, 7, 9, 10 and 11. The buffers always have room for the kernel, its profile is never broken, there is one contig, and
-- a score is always a probability. Assumes nothing.
use mathlib.Core.Path.{◌≡◌, refl, sym, ap, ◌∙◌}
use mathlib.Core.Bool.{Bool, true, false, cond}
use mathlib.Core.List.{List, [], ◌∷◌}
use Prim.Native.Nat.{ℕ, zero, suc}
use borrow.Author.Tests.{eq-eqb}
use lib.Dec.{ltb, eqb}
use lib.ListN.{length}
use lib.Ieee.{Float}
use Rattle.genome.specs.Refusals.{Outcome, refused, answered}
use Rattle.pileup_words.specs.declared.StreamEvent.{StreamEvent}
use Rattle.pileup_words.specs.declared.StreamEvent.TheVariants.{Locus, Observation, Pop, Setting, Remainder, End}
use Rattle.pileup_words.specs.Events.{events_of}
use Rattle.band_pass_kernel.specs.Kernel.{band}
use Rattle.activity_profile.specs.declared.BandPassActivityProfile.{BandPassActivityProfile}
use Rattle.activity_profile.specs.declared.ActivityProfileState.{ActivityProfileState}
use Rattle.activity_profile.specs.Verdict.{Verdict, refusal, granted}
use Rattle.activity_profile.specs.Add.{broken_add, other_contig, no_activity, add_verdict, added_profile, add_answer_by, add_answer, add_cells}
use Rattle.activity_profile.specs.Pop.{PopAnswer, refused_pop, empty_pop, held_pop, region_pop, pop_answer, pop_cells}
use Rattle.activity_profile.specs.Run.{step, after_pop}
use Rattle.activity_profile.specs.Run.{Add as AddCall, Pop as PopCall}
use Rattle.activity_profile.proofs.Facts.{Whole}
use Rattle.activity_profile.proofs.Fresh.{fresh_is, length_kernel}
use Rattle.activity_profile.proofs.Unbroken.{whole_not, step-whole, fresh_whole}
use Rattle.genotype_likelihoods.specs.Settings.{defaults}
use Rattle.activity_scoring.proofs.Probability.{score_never_8}
use Rattle.stream_settings.specs.declared.StreamSettings.{StreamSettings}
use Rattle.stream_settings.specs.Settings.{params_of, with_field}
use Rattle.region_program.specs.Program.{Reading, Place, at_settings, at_loci, in_pile, Answer, goes, again, line, stops, next, moved, carrying, stray, buffer_size}
use Rattle.region_program.specs.Program.{profile_made, made_with, zero_size, set_by, before_loci, pop_made, between_piles, added_outcome, pile_score, score_added, score_cells}
use Rattle.region_program.specs.Program.{ended_with, ended_by, within_pile, act_at, act, Printed, acts, run_events, program}
use Rattle.region_program.specs.Program.{popped_by as pop_answered}
use Rattle.region_program.specs.Stream.{start}
use Rattle.region_program.specs.Reach.{Possible, ClosePossible}
use Rattle.region_program.specs.Reach.{word as word_possible, zero_size as zero_size_possible}
use Rattle.region_program.proofs.Kept.{filter-popped}
use Rattle.region_program.proofs.Scores.{score_of_lem, score_refused, past, loci_past, pile_past}
use Rattle.region_program.proofs.CallRefusals.{add_refused, making_refused, set_refused, pop_refused, pop_contig}

-- ---- what holds past the first locus

record Ready (s : Reading) : Type 0 where
  whole : Whole s.profile (length s.cells)
  contig : s.profile.contig ≡ 0
  kernel : length s.kernel ≡ band s.profile.filter_size

abbrev Sane : Reading → Type 0
Sane s = (s.place ≡ at_settings → ⊥) → Ready s

abbrev After : Answer → Type 0
After (goes u) = Sane u
After (again u) = Sane u
After (line r u) = Sane u
After (stops n i u) = Possible n

either : (b : Bool) (x y : Answer) → After x → After y → After (cond b x y)
either true x y f g = f
either false x y f g = g

-- ---- before the first locus

made_after : (q : ℕ) (s : Reading) (o : Outcome BandPassActivityProfile) → profile_made s.settings ≡ o → After (made_with q s o)
unfolding made_with
made_after q s (refused n) e = making_refused s.settings.contig_len (params_of s.settings) n e
made_after q s (answered p) e = λ n.
    record {
      whole = fresh_whole 0 s.settings.contig_len (params_of s.settings) buffer_size buffer_size p e (length s.cells);
      contig = (fresh_is 0 s.settings.contig_len (params_of s.settings) buffer_size buffer_size p e).same_contig;
      kernel = length_kernel p.filter_size (params_of s.settings).sigma;
    }

set_after : (s : Reading) (field value : ℕ) → s.place ≡ at_settings → (o : Outcome StreamSettings) → with_field s.settings field value ≡ o → After (set_by s o)
unfolding set_by
set_after s field value h (refused n) e = set_refused s.settings field value n e
set_after s field value h (answered t) e = λ n. absurd (n h)

before_after : (e : StreamEvent) (s : Reading) → s.place ≡ at_settings → After (before_loci e s)
unfolding before_loci
before_after (Locus q) s h = made_after q s (profile_made s.settings) refl
before_after (Observation w) s h = word_possible
before_after (Pop value) s h =
    let done = goes (moved s s.place (next s.index)) in
    either (ltb 1 value) (stray s) _ word_possible (either (zero_size s.settings) (stops 11 s.index s) done zero_size_possible (λ n. absurd (n h)))
before_after (Setting field value) s h = set_after s field value h (with_field s.settings field value) refl
before_after Remainder s h = word_possible
before_after End s h = λ n. absurd (n h)

-- ---- past it, with no pile open

pop_after : (forced : Bool) (s : Reading) → Ready s → After (pop_made forced s)
unfolding pop_answered step
pop_after forced s r = go (pop_answer s.profile s.cells extension least most forced) refl
  where
    extension : ℕ
    extension = s.settings.assembly_region_extension

    least : ℕ
    least = s.settings.min_region_size

    most : ℕ
    most = s.settings.max_region_size

    left_cells : List Float
    left_cells = pop_cells s.profile s.cells least most forced

    still : (a : PopAnswer) → pop_answer s.profile s.cells extension least most forced ≡ a → (i : ℕ) → Ready (carrying s (after_pop a) left_cells s.place i)
    still a e i =
        let w = step-whole (record { profile = s.profile; cells = s.cells }) (PopCall extension least most forced) r.whole in
        record {
          whole = rw e at w;
          contig = pop_contig s.profile s.cells extension least most forced a e ∙ r.contig;
          kernel = r.kernel ∙ ap band (sym (filter-popped s.profile s.cells extension least most forced a e));
        }

    go : (a : PopAnswer) → pop_answer s.profile s.cells extension least most forced ≡ a → After (pop_answered s a left_cells)
    go (refused_pop k q) e = pop_refused s.profile s.cells extension least most forced r.whole k q e
    go (empty_pop q) e = λ n. still (empty_pop q) e (next s.index)
    go (held_pop q) e = λ n. still (held_pop q) e (next s.index)
    go (region_pop x q) e = λ n. still (region_pop x q) e s.index

-- at another place or index
elsewhere : (s : Reading) (place : Place) (i : ℕ) → Ready s → Sane (moved s place i)
elsewhere s place i r n = record { whole = r.whole; contig = r.contig; kernel = r.kernel }

between-after : (e : StreamEvent) (s : Reading) → Ready s → After (between_piles e s)
unfolding between_piles
between-after (Locus q) s r = elsewhere s (in_pile q s.index []) (next s.index) r
between-after (Observation w) s r = word_possible
between-after (Pop value) s r = either (ltb 1 value) (stray s) (pop_made (eqb value 1) s) word_possible (pop_after (eqb value 1) s r)
between-after (Setting field value) s r = word_possible
between-after Remainder s r = word_possible
between-after End s r = λ n. r

-- ---- within a pile

module _ (p i : ℕ) (words : List ℕ) (s : Reading) (r : Ready s) where
  added : (x : ActivityProfileState) → x.contig ≡ 0 → no_activity x ≡ false → (v : Verdict) → add_verdict s.profile (length s.cells) (length s.kernel) x ≡ v
      → After (ended_with i s (add_cells s.profile s.cells s.kernel x) (added_outcome (add_answer_by v s.profile x)))
  unfolding ended_with add_answer add_answer_by added_profile step
  added x c a (refusal m) e =
      let b : broken_add s.profile (length s.cells) (length s.kernel) ≡ false = rw (whole_not s.profile (length s.cells) r.whole, eq-eqb (length s.kernel) (band s.profile.filter_size) r.kernel) in
      let o : other_contig s.profile x ≡ false = rw (eq-eqb x.contig s.profile.contig (c ∙ sym r.contig)) in
      add_refused s.profile (length s.cells) (length s.kernel) x b o a m e
  added x c a granted e = λ n.
      let w = step-whole (record { profile = s.profile; cells = s.cells }) (AddCall x s.kernel) r.whole in
      record { whole = rw e at w; contig = r.contig; kernel = r.kernel }

  scored : (sc : Outcome ActivityProfileState) → pile_score p words ≡ sc
      → After (ended_with i s (score_cells s.profile s.cells s.kernel sc) (score_added s.profile s.cells s.kernel sc))
  unfolding ended_with score_added score_cells add_answer
  scored (refused n) e = score_refused p words n e
  scored (answered x) e = added x (score_of_lem p words x e).contig (score_never_8 0 (record { 0 = p }) words defaults x e) (add_verdict s.profile (length s.cells) (length s.kernel) x) refl

  ended-after : After (ended_by pile_score p i words s)
  unfolding ended_by
  ended-after = scored (pile_score p words) refl

  within-after : (e : StreamEvent) → After (within_pile pile_score p i words e s)
  unfolding within_pile
  within-after (Locus q) = ended-after
  within-after (Observation w) = elsewhere s _ _ r
  within-after (Pop value) = ended-after
  within-after (Setting field value) = word_possible
  within-after Remainder = ended-after
  within-after End = ended-after

act-after : (e : StreamEvent) (s : Reading) → Sane s → After (act e s)
unfolding act_at
act-after e s t = go s.place refl
  where
    go : (x : Place) → s.place ≡ x → After (act_at pile_score e s x)
    go at_settings h = before_after e s h
    go at_loci h = between-after e s (t (past s at_loci h loci_past))
    go (in_pile p i words) h = within-after p i words s (t (past s (in_pile p i words) h (pile_past p i words))) e

-- ---- the whole program

acts_close : (n : ℕ) (e : StreamEvent) (rest : Reading → Printed) → ((u : Reading) → Sane u → ClosePossible (rest u).close) → (a : Answer) → After a → ClosePossible (acts n e rest a).close
unfolding acts
acts_close zero e rest f (goes u) t = f u t
acts_close zero e rest f (again u) t = f u t
acts_close zero e rest f (line r u) t = f u t
acts_close zero e rest f (stops n i u) t = t
acts_close (suc n) e rest f (goes u) t = f u t
acts_close (suc n) e rest f (again u) t = acts_close n e rest f (act e u) (act-after e u t)
acts_close (suc n) e rest f (line r u) t = acts_close n e rest f (act e u) (act-after e u t)
acts_close (suc n) e rest f (stops k i u) t = t

run_close : (events : List StreamEvent) (s : Reading) → Sane s → ClosePossible (run_events events s).close
unfolding run_events
run_close [] s t = tt
run_close (e ∷ es) s t = acts_close (suc (length s.cells)) e (run_events es) (λ u v. run_close es u v) (act e s) (act-after e s t)

-- Whatever its words are, a stream ends with its input or at one of these refusals.
pub stream_refusals : (cells : List Float) (words : List ℕ) (remainder : Bool) → ClosePossible (program words remainder (start cells)).close
stream_refusals cells words remainder = run_close (events_of words remainder) (start cells) (λ n. absurd (n refl))
