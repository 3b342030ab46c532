-- A refused step leaves the state and all lent memory as they were. Assumes nothing.
use mathlib.Core.Path.{◌≡◌, refl, sym, ap, ◌∙◌}
use mathlib.Core.List.{List}
use Rattle.std.specs.Prelude.{Err}
use Prim.Native.Nat.{ℕ}
use native.Mathlib.Omega.{arith}
use lib.Ieee.{Float}
use Rattle.genome.specs.Refusals.{Outcome, refused, answered, number_of}
use Rattle.pileup_words.specs.declared.StreamEvent.{StreamEvent}
use Rattle.pileup_words.specs.declared.StreamEvent.TheVariants.{Locus, Observation, Pop, Setting, Remainder, End}
use Rattle.activity_profile.specs.declared.BandPassActivityProfile.{BandPassActivityProfile}
use Rattle.region_program.specs.declared.RegionStream.{RegionStream}
use Rattle.region_program.specs.declared.Phase.{Phase}
use Rattle.region_program.specs.declared.Phase.TheVariants.{Settings, Loci, Pile}
use Rattle.region_program.specs.declared.RefusedStep.{RefusedStep}
use Rattle.region_program.specs.Program.{Reading, stops, profile_made, made_with, before_loci, within_pile, act_at, act_by, Scoring}
use Rattle.region_program.specs.Stream.{place_of, seen, pile_observed, pile_after, kernel_made, kernel_opened, kernel_after, Stepped}
use Rattle.region_program.proofs.Acts.{refusal_keeps}

module _ (scoring : Scoring) (s : RegionStream) (pile : List ℕ) (kernel cells : List Float) (n i : ℕ) (t : Reading) where
  pub pile_kept : (e : StreamEvent) → act_by scoring e (seen s pile kernel cells) ≡ stops n i t → pile_after e s.phase pile ≡ pile
  unfolding pile_after act_at within_pile
  pile_kept (Locus p) h = refl
  pile_kept (Pop value) h = refl
  pile_kept (Setting field value) h = refl
  pile_kept Remainder h = refl
  pile_kept End h = refl
  pile_kept (Observation w) h = go s.phase h
    where
      go : (x : Phase) → act_at scoring (Observation w) (seen s pile kernel cells) (place_of x pile) ≡ stops n i t → pile_observed x w pile ≡ pile
      go Settings f = refl
      go Loci f = refl
      go (Pile o) f = absurd (let z : ◌≡◌ {A = ℕ} 0 1 = cc in omega arith)

  pub kernel_kept : (e : StreamEvent) → act_by scoring e (seen s pile kernel cells) ≡ stops n i t → kernel_after e s.phase s.settings kernel ≡ kernel
  unfolding kernel_after act_at before_loci made_with
  kernel_kept (Observation w) h = refl
  kernel_kept (Pop value) h = refl
  kernel_kept (Setting field value) h = refl
  kernel_kept Remainder h = refl
  kernel_kept End h = refl
  kernel_kept (Locus p) h = go s.phase h
    where
      made : (o : Outcome BandPassActivityProfile) → made_with p (seen s pile kernel cells) o ≡ stops n i t → kernel_made s.settings o kernel ≡ kernel
      made (refused k) f = refl
      made (answered q) f = absurd (let z : ◌≡◌ {A = ℕ} 0 1 = cc in omega arith)

      go : (x : Phase) → act_at scoring (Locus p) (seen s pile kernel cells) (place_of x pile) ≡ stops n i t → kernel_opened x s.settings kernel ≡ kernel
      go Settings f = made (profile_made s.settings) f
      go Loci f = refl
      go (Pile o) f = refl

-- what is left where a step is refused
pub record AsItWas (s t : RegionStream) (pile pile' : List ℕ) (kernel kernel' cells cells' : List Float) : Type 0 where
  pub same-state : t ≡ s
  pub same_pile : pile' ≡ pile
  pub same_kernel : kernel' ≡ kernel
  pub same_cells : cells' ≡ cells

pub refused_as_it_was : (scoring : Scoring) (e : StreamEvent) (s : RegionStream) (r : RefusedStep) (pile pile' : List ℕ) (kernel kernel' cells cells' : List Float)
    → Stepped scoring e s pile pile' kernel kernel' cells cells' (Err r) → AsItWas s r.stream pile pile' kernel kernel' cells cells'
refused_as_it_was scoring e s r pile pile' kernel kernel' cells cells' step =
    let t = r.stream in
    let y = r.why.refusal in
    let i = r.why.index in
    let stopped = sym step.answer in
    let same = refusal_keeps scoring e (seen s pile kernel cells) (seen t pile' kernel' cells') (number_of y) i stopped in
    record {
      same-state = step.ends;
      same_pile = step.pile_left ∙ pile_kept scoring s pile kernel cells (number_of y) i (seen t pile' kernel' cells') e stopped;
      same_kernel = step.kernel_left ∙ kernel_kept scoring s pile kernel cells (number_of y) i (seen t pile' kernel' cells') e stopped;
      same_cells = ap (λ (x : Reading). x.cells) same;
    }
