-- `between_piles` meets its contract, event by event.
use lib.Ieee.{Float}
use Rattle.genome.specs.declared.Refusal.TheVariants.{Word}
use Rattle.pileup_words.specs.declared.StreamEvent.{StreamEvent}
use Rattle.pileup_words.specs.declared.StreamEvent.TheVariants.{Observation, Setting, Remainder, End}
use Rattle.region_program.specs.declared.Phase.TheVariants.{Loci}
use Rattle.region_program.specs.declared.RegionStream.{RegionStream}
use Rattle.region_program.proofs.Steps.{refuses, at-loci, opened_next}
use Rattle.region_program.specs.Program.{Scoring, between_piles}
use Rattle.region_program.specs.Stream.{Stepped, kernel_after, pile_after, refused_with}
use Rattle.std.proofs.Common.{◌≡◌, ◌⊎◌, ℕ, List, sym, refl, inl, inr}
use Rattle.region_stream.proofs.between_piles.Goals as goal

pub returns-in-Locus : goal.returns-in-Locus
returns-in-Locus c = λ scoring pile kernel.
    let a = c.args in
    rw c.in-Locus.is (simp c.opened.ensures (opened_next scoring a.s pile kernel a.cells.now c.requires _))

-- the events that are refused alike
module _ (scoring : Scoring) (s : RegionStream) (p : s.phase ≡ Loci) (pile : List ℕ) (kernel cells : List Float) where
  refused_alike : (e : StreamEvent) → ((word : ℕ) × e ≡ Observation word) ⊎ ((field : ℕ) × (value : ℕ) × e ≡ Setting field value) ⊎ e ≡ Remainder
      → Stepped scoring e s pile pile kernel kernel cells cells (refused_with Word s.index s)
  unfolding between_piles
  refused_alike e (inl (word, h)) = rw h (refuses scoring s pile kernel cells (Observation word) Word s.index (at-loci scoring s pile kernel cells (Observation word) p))
  refused_alike e (inr (inl (field, value, h))) =
      rw h (refuses scoring s pile kernel cells (Setting field value) Word s.index (at-loci scoring s pile kernel cells (Setting field value) p))
  refused_alike e (inr (inr h)) = rw h (refuses scoring s pile kernel cells Remainder Word s.index (at-loci scoring s pile kernel cells Remainder p))

pub returns-in-Observation : goal.returns-in-Observation
returns-in-Observation c = λ scoring pile kernel.
    let a = c.args in
    rw c.refused.ensures (refused_alike scoring a.s c.requires pile kernel a.cells.now a.event c.in-Observation.is)

pub returns-in-Pop : goal.returns-in-Pop
returns-in-Pop c = λ scoring pile kernel. rw c.in-Pop.is (c.pop.ensures scoring pile kernel)

pub returns-in-End : goal.returns-in-End
unfolding between_piles pile_after kernel_after
returns-in-End c = λ scoring pile kernel.
    let a = c.args in
    rw c.in-End.is (record { answer = sym (at-loci scoring a.s pile kernel a.cells.now End c.requires); pile_left = refl; kernel_left = refl; ends = tt })
