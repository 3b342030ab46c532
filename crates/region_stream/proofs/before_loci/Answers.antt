-- `before_loci` meets its contract, event by event.
use lib.Ieee.{Float}
use Rattle.genome.specs.declared.Refusal.TheVariants.{Word}
use Rattle.pileup_words.specs.declared.StreamEvent.{StreamEvent}
use Rattle.pileup_words.specs.declared.StreamEvent.TheVariants.{Observation, Remainder, End}
use Rattle.region_program.specs.declared.Phase.TheVariants.{Settings}
use Rattle.region_program.specs.declared.RegionStream.{RegionStream}
use Rattle.region_program.proofs.Steps.{refuses, at-settings}
use Rattle.region_program.specs.Program.{Scoring, before_loci}
use Rattle.region_program.specs.Stream.{Stepped, kernel_after, pile_after, refused_with}
use Rattle.std.proofs.Common.{◌≡◌, ◌⊎◌, ℕ, List, sym, refl, inl, inr}
use Rattle.region_stream.proofs.before_loci.Goals as goal

pub returns-in-Locus : goal.returns-in-Locus
returns-in-Locus c = λ scoring pile cells. rw c.in-Locus.is (c.open_first.ensures scoring pile cells)

-- the events that are refused alike
module _ (scoring : Scoring) (s : RegionStream) (p : s.phase ≡ Settings) (pile : List ℕ) (kernel cells : List Float) where
  refused_alike : (e : StreamEvent) → ((word : ℕ) × e ≡ Observation word) ⊎ e ≡ Remainder → Stepped scoring e s pile pile kernel kernel cells cells (refused_with Word s.index s)
  unfolding before_loci
  refused_alike e (inl (word, h)) = rw h (refuses scoring s pile kernel cells (Observation word) Word s.index (at-settings scoring s pile kernel cells (Observation word) p))
  refused_alike e (inr h) = rw h (refuses scoring s pile kernel cells Remainder Word s.index (at-settings scoring s pile kernel cells Remainder p))

pub returns-in-Observation : goal.returns-in-Observation
returns-in-Observation c = λ scoring pile cells.
    let a = c.args in
    rw c.refused.ensures (refused_alike scoring a.s c.requires pile a.kernel.now cells a.event c.in-Observation.is)

pub returns-in-Pop : goal.returns-in-Pop
returns-in-Pop c = λ scoring pile cells. rw c.in-Pop.is (c.pop_unmade.ensures scoring pile _ cells)

pub returns-in-Setting : goal.returns-in-Setting
returns-in-Setting c = λ scoring pile cells. rw c.in-Setting.is (c.set_field.ensures scoring pile _ cells)

pub returns-in-End : goal.returns-in-End
unfolding before_loci pile_after kernel_after
returns-in-End c = λ scoring pile cells.
    let a = c.args in
    rw c.in-End.is (record { answer = sym (at-settings scoring a.s pile a.kernel.now cells End c.requires); pile_left = refl; kernel_left = refl; ends = tt })
