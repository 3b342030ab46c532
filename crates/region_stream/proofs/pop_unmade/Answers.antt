-- `pop_unmade` meets its contract: its tests are the refusals, in their order.
use Rattle.genome.specs.declared.Refusal.TheVariants.{Word, ZeroSize}
use Rattle.pileup_words.specs.declared.StreamEvent.TheVariants.{Pop}
use Rattle.region_program.proofs.Steps.{refuses, at-settings, unmade_done}
use Rattle.region_program.specs.Program.{before_loci}
use Rattle.std.proofs.Common.{◌∙◌, arith, le-ltb, lt-ltb}
use Rattle.region_stream.proofs.pop_unmade.Goals as goal

pub returns-then-value-gt1 : goal.returns-then-value-gt1
unfolding before_loci
returns-then-value-gt1 c = λ scoring pile kernel cells.
    let a = c.args in
    simp c.refused.ensures
    (refuses scoring a.s pile kernel cells (Pop a.value) Word _ (at-settings scoring a.s pile kernel cells (Pop a.value) c.requires ∙ rw (lt-ltb 1 a.value (omega arith))))

pub returns-then-settings : goal.returns-then-settings
unfolding before_loci
returns-then-settings c = λ scoring pile kernel cells.
    let a = c.args in
    simp c.refused-then-settings.ensures
    (refuses scoring a.s pile kernel cells (Pop a.value) ZeroSize _
    (at-settings scoring a.s pile kernel cells (Pop a.value) c.requires ∙ rw (le-ltb 1 a.value (omega arith), c.if-settings.true)))

pub returns : goal.returns
returns c = λ scoring pile kernel cells.
    let a = c.args in
    simp c.advanced.ensures (unmade_done scoring a.s pile kernel cells c.requires a.value (le-ltb 1 a.value (omega arith)) c.if-settings.false)
