-- Every line of every stream is a region on a contig, since each comes of a pop. Assumes nothing.
use mathlib.Core.Path.{◌≡◌, refl}
use mathlib.Core.Bool.{Bool, true, false, cond}
use mathlib.Core.List.{List, [], ◌∷◌}
use Prim.Native.Nat.{ℕ, zero, suc}
use lib.Dec.{ltb, eqb}
use lib.ListN.{length}
use lib.Ieee.{Float}
use Rattle.genome.specs.Refusals.{Outcome, refused, answered}
use Rattle.pileup_words.specs.declared.StreamEvent.{StreamEvent}
use Rattle.pileup_words.specs.declared.StreamEvent.TheVariants.{Locus, Observation, Pop, Setting, Remainder, End}
use Rattle.pileup_words.specs.Events.{events_of}
use Rattle.activity_profile.specs.declared.BandPassActivityProfile.{BandPassActivityProfile}
use Rattle.activity_profile.specs.declared.ActivityProfileRegion.{ActivityProfileRegion}
use Rattle.activity_profile.specs.Pop.{PopAnswer, refused_pop, empty_pop, held_pop, region_pop, pop_answer, pop_cells}
use Rattle.activity_profile.proofs.OnContig.{OnContig, region_on_contig}
use Rattle.stream_settings.specs.declared.StreamSettings.{StreamSettings}
use Rattle.stream_settings.specs.Settings.{with_field}
use Rattle.region_program.specs.Program.{Reading, Place, at_settings, at_loci, in_pile, Answer, goes, again, line, stops, next, moved, stray}
use Rattle.region_program.specs.Program.{profile_made, made_with, zero_size, set_by, before_loci, pop_made, between_piles, pile_score}
use Rattle.region_program.specs.Program.{popped_by, ended_with, ended_by, within_pile, act_at, act, Printed, acts, run_events, program}

-- on a contig of some length
abbrev pub OnSome : ActivityProfileRegion → Type 0
OnSome r = (length : ℕ) × OnContig length r

abbrev pub AllOn : List ActivityProfileRegion → Type 0
AllOn [] = Unit {0}
AllOn (r ∷ rs) = OnSome r × AllOn rs

-- a line of this answer
abbrev Lined : Answer → Type 0
Lined (goes u) = Unit {0}
Lined (again u) = Unit {0}
Lined (line r u) = OnSome r
Lined (stops n i u) = Unit {0}

either : (b : Bool) (x y : Answer) → Lined x → Lined y → Lined (cond b x y)
either true x y f g = f
either false x y f g = g

made_lined : (q : ℕ) (s : Reading) (o : Outcome BandPassActivityProfile) → Lined (made_with q s o)
unfolding made_with
made_lined q s (refused n) = tt
made_lined q s (answered p) = tt

set_lined : (s : Reading) (o : Outcome StreamSettings) → Lined (set_by s o)
unfolding set_by
set_lined s (refused n) = tt
set_lined s (answered t) = tt

before_lined : (e : StreamEvent) (s : Reading) → Lined (before_loci e s)
unfolding before_loci
before_lined (Locus q) s = made_lined q s (profile_made s.settings)
before_lined (Observation w) s = tt
before_lined (Pop value) s = either (ltb 1 value) (stray s) _ tt (either (zero_size s.settings) (stops 11 s.index s) (goes (moved s s.place (next s.index))) tt tt)
before_lined (Setting field value) s = set_lined s (with_field s.settings field value)
before_lined Remainder s = tt
before_lined End s = tt

pop_lined : (forced : Bool) (s : Reading) → Lined (pop_made forced s)
unfolding popped_by
pop_lined forced s = go (pop_answer s.profile s.cells extension least most forced) refl
  where
    extension : ℕ
    extension = s.settings.assembly_region_extension

    least : ℕ
    least = s.settings.min_region_size

    most : ℕ
    most = s.settings.max_region_size

    go : (a : PopAnswer) → pop_answer s.profile s.cells extension least most forced ≡ a → Lined (popped_by s a (pop_cells s.profile s.cells least most forced))
    go (refused_pop n q) e = tt
    go (empty_pop q) e = tt
    go (held_pop q) e = tt
    go (region_pop r q) e = (s.profile.contig_len, region_on_contig s.profile s.cells extension least most forced r q e)

between_lined : (e : StreamEvent) (s : Reading) → Lined (between_piles e s)
unfolding between_piles
between_lined (Locus q) s = tt
between_lined (Observation w) s = tt
between_lined (Pop value) s = either (ltb 1 value) (stray s) (pop_made (eqb value 1) s) tt (pop_lined (eqb value 1) s)
between_lined (Setting field value) s = tt
between_lined Remainder s = tt
between_lined End s = tt

ended_lined : (i : ℕ) (s : Reading) (cells : List Float) (o : Outcome BandPassActivityProfile) → Lined (ended_with i s cells o)
unfolding ended_with
ended_lined i s cells (refused n) = tt
ended_lined i s cells (answered p) = tt

pile_lined : (p i : ℕ) (words : List ℕ) (s : Reading) → Lined (ended_by pile_score p i words s)
unfolding ended_by
pile_lined p i words s = ended_lined i s _ _

within_lined : (p i : ℕ) (words : List ℕ) (e : StreamEvent) (s : Reading) → Lined (within_pile pile_score p i words e s)
unfolding within_pile
within_lined p i words (Locus q) s = pile_lined p i words s
within_lined p i words (Observation w) s = tt
within_lined p i words (Pop value) s = pile_lined p i words s
within_lined p i words (Setting field value) s = tt
within_lined p i words Remainder s = pile_lined p i words s
within_lined p i words End s = pile_lined p i words s

act_lined : (e : StreamEvent) (s : Reading) → Lined (act e s)
unfolding act_at
act_lined e s = go s.place
  where
    go : (x : Place) → Lined (act_at pile_score e s x)
    go at_settings = before_lined e s
    go at_loci = between_lined e s
    go (in_pile p i words) = within_lined p i words e s

acts_on : (n : ℕ) (e : StreamEvent) (rest : Reading → Printed) → ((u : Reading) → AllOn (rest u).lines) → (a : Answer) → Lined a → AllOn (acts n e rest a).lines
unfolding acts
acts_on zero e rest f (goes u) l = f u
acts_on zero e rest f (again u) l = f u
acts_on zero e rest f (line r u) l = (l, f u)
acts_on zero e rest f (stops k i u) l = tt
acts_on (suc n) e rest f (goes u) l = f u
acts_on (suc n) e rest f (again u) l = acts_on n e rest f (act e u) (act_lined e u)
acts_on (suc n) e rest f (line r u) l = (l, acts_on n e rest f (act e u) (act_lined e u))
acts_on (suc n) e rest f (stops k i u) l = tt

run_on : (events : List StreamEvent) (s : Reading) → AllOn (run_events events s).lines
unfolding run_events
run_on [] s = tt
run_on (e ∷ es) s = acts_on (suc (length s.cells)) e (run_events es) (run_on es) (act e s) (act_lined e s)

-- Whatever the words are, and wherever the stream stands: each line is a region on a contig, its loci within its padding.
pub lines_on_contig : (words : List ℕ) (remainder : Bool) (s : Reading) → AllOn (program words remainder s).lines
lines_on_contig words remainder s = run_on (events_of words remainder) s
