-- What each answer to an event tells: a pile that has ended leaves none open, a line comes of a pop and leaves fewer cells than that found, and a refusal leaves
-- everything as it was. Assumes nothing.
use mathlib.Core.Path.{◌≡◌, refl, subst}
use mathlib.Core.Bool.{Bool, true, false, cond}
use mathlib.Core.List.{List}
use Prim.Native.Nat.{ℕ, ◌≤◌, ◌<◌}
use native.Mathlib.Omega.{arith}
use lib.Dec.{ltb, eqb}
use lib.ListN.{length}
use Rattle.genome.specs.Refusals.{Outcome, refused, answered}
use Rattle.pileup_words.specs.declared.StreamEvent.{StreamEvent}
use Rattle.pileup_words.specs.declared.StreamEvent.TheVariants.{Locus, Observation, Pop, Setting, Remainder, End}
use Rattle.activity_profile.specs.declared.BandPassActivityProfile.{BandPassActivityProfile}
use Rattle.activity_profile.specs.declared.ActivityProfileRegion.{ActivityProfileRegion}
use Rattle.activity_profile.specs.Pop.{PopAnswer, refused_pop, empty_pop, held_pop, region_pop, pop_answer, pop_cells}
use Rattle.stream_settings.specs.declared.StreamSettings.{StreamSettings}
use Rattle.stream_settings.specs.Settings.{with_field}
use Rattle.region_program.specs.Program.{Reading, Place, at_settings, at_loci, in_pile, Answer, goes, again, line, stops, next, moved, stray, profile_made, made_with}
use Rattle.region_program.specs.Program.{zero_size, set_by, before_loci, popped_by, pop_made, between_piles, Scoring, score_added, score_cells}
use Rattle.region_program.specs.Program.{ended_with, ended_by, within_pile, act_at, act_by}
use Rattle.region_program.proofs.Counts.{fewer, length_pop, length_score}

-- where a pile has ended
pub record PileEnded (s t : Reading) : Type 0 where
  pub same : length t.cells ≡ length s.cells
  pub was : s.place ≡ at_loci → ⊥
  pub none : t.place ≡ at_loci

-- where a line is printed
pub record Popping (s t : Reading) : Type 0 where
  pub fewer_cells : t.profile.count < s.profile.count
  pub room : s.profile.count ≤ length s.cells
  pub same : length t.cells ≡ length s.cells
  pub was : s.place ≡ at_loci
  pub none : t.place ≡ at_loci

abbrev pub Told : Reading → Answer → Type 0
Told s (goes t) = Unit {0}
Told s (again t) = PileEnded s t
Told s (line r t) = Popping s t
Told s (stops n i t) = t ≡ s

-- ---- each place

made_told : (p : ℕ) (s : Reading) (o : Outcome BandPassActivityProfile) → Told s (made_with p s o)
unfolding made_with
made_told p s (refused n) = refl
made_told p s (answered f) = tt

set_told : (s : Reading) (o : Outcome StreamSettings) → Told s (set_by s o)
unfolding set_by
set_told s (refused n) = refl
set_told s (answered t) = tt

-- of two answers of which either may be given
either : (s : Reading) (b : Bool) (x y : Answer) → Told s x → Told s y → Told s (cond b x y)
either s true x y f g = f
either s false x y f g = g

before_told : (e : StreamEvent) (s : Reading) → Told s (before_loci e s)
unfolding before_loci
before_told (Locus p) s = made_told p s (profile_made s.settings)
before_told (Observation w) s = refl
before_told (Pop value) s =
    let done = goes (moved s s.place (next s.index)) in
    either s (ltb 1 value) (stray s) _ refl (either s (zero_size s.settings) (stops 11 s.index s) done refl tt)
before_told (Setting field value) s = set_told s (with_field s.settings field value)
before_told Remainder s = refl
before_told End s = tt

pop_told : (forced : Bool) (s : Reading) → s.place ≡ at_loci → Told s (pop_made forced s)
unfolding popped_by
pop_told forced s e = go (pop_answer s.profile s.cells extension least most forced) refl
  where
    extension : ℕ
    extension = s.settings.assembly_region_extension

    least : ℕ
    least = s.settings.min_region_size

    most : ℕ
    most = s.settings.max_region_size

    go : (a : PopAnswer) → pop_answer s.profile s.cells extension least most forced ≡ a → Told s (popped_by s a (pop_cells s.profile s.cells least most forced))
    go (refused_pop n q) f = refl
    go (empty_pop q) f = tt
    go (held_pop q) f = tt
    go (region_pop r q) f =
        let few = fewer s.profile s.cells extension least most forced r q f in
        record { fewer_cells = few.0; room = few.1; same = length_pop s.profile s.cells least most forced; was = e; none = e }

between_told : (e : StreamEvent) (s : Reading) → s.place ≡ at_loci → Told s (between_piles e s)
unfolding between_piles
between_told (Locus p) s h = tt
between_told (Observation w) s h = refl
between_told (Pop value) s h = either s (ltb 1 value) (stray s) (pop_made (eqb value 1) s) refl (pop_told (eqb value 1) s h)
between_told (Setting field value) s h = refl
between_told Remainder s h = refl
between_told End s h = tt

ended_told : (scoring : Scoring) (p i : ℕ) (words : List ℕ) (s : Reading) → (s.place ≡ at_loci → ⊥) → Told s (ended_by scoring p i words s)
unfolding ended_by ended_with
ended_told scoring p i words s n = go (score_added s.profile s.cells s.kernel (scoring p words))
  where
    go : (o : Outcome BandPassActivityProfile) → Told s (ended_with i s (score_cells s.profile s.cells s.kernel (scoring p words)) o)
    go (refused n) = refl
    go (answered q) = record { same = length_score s.profile s.cells s.kernel (scoring p words); was = n; none = refl }

within_told : (scoring : Scoring) (p i : ℕ) (words : List ℕ) (e : StreamEvent) (s : Reading) → (s.place ≡ at_loci → ⊥) → Told s (within_pile scoring p i words e s)
unfolding within_pile
within_told scoring p i words (Locus q) s n = ended_told scoring p i words s n
within_told scoring p i words (Observation w) s n = tt
within_told scoring p i words (Pop value) s n = ended_told scoring p i words s n
within_told scoring p i words (Setting field value) s n = refl
within_told scoring p i words Remainder s n = ended_told scoring p i words s n
within_told scoring p i words End s n = ended_told scoring p i words s n

-- ---- all of them

told : (scoring : Scoring) (e : StreamEvent) (s : Reading) → Told s (act_by scoring e s)
unfolding act_at
told scoring e s = go s.place refl
  where
    go : (x : Place) → s.place ≡ x → Told s (act_at scoring e s x)
    go at_settings h = before_told e s
    go at_loci h = between_told e s h
    go (in_pile p i words) h = within_told scoring p i words e s (λ f. let z : ◌≡◌ {A = ℕ} 0 1 = cc in absurd (omega arith))

module _ (scoring : Scoring) (e : StreamEvent) (s t : Reading) where
  pub again_ends : act_by scoring e s ≡ again t → PileEnded s t
  again_ends h = subst (Told s) h (told scoring e s)

  pub line_pops : (r : ActivityProfileRegion) → act_by scoring e s ≡ line r t → Popping s t
  line_pops r h = subst (Told s) h (told scoring e s)

  -- A refusal hands back the state that it was given, all of it.
  pub refusal_keeps : (n i : ℕ) → act_by scoring e s ≡ stops n i t → t ≡ s
  refusal_keeps n i h = subst (Told s) h (told scoring e s)
