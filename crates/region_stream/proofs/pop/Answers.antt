-- `pop` meets its contract: the value is looked at first, and each answer of the pop is handed on.
use Rattle.activity_profile.specs.Pop.{pop_answer_of}
use Rattle.genome.specs.declared.Refusal.TheVariants.{Word}
use Rattle.pileup_words.specs.declared.StreamEvent.TheVariants.{Pop}
use Rattle.region_program.proofs.Steps.{refuses, at-loci, pop_line, pop_held, pop_empty, pop_refused}
use Rattle.region_program.specs.Program.{between_piles}
use Rattle.region_stream.proofs.Mapped.{value_was, error_was}
use Rattle.region_stream.specs.Refused.{refused_step}
use Rattle.std.proofs.Common.{sym, ap, ◌∙◌, arith, rules, le-ltb, lt-ltb}
use Rattle.std.proofs.lemmas.Result.{err_from_is_err_and}
use Rattle.region_stream.proofs.pop.Goals as goal

pub returns-then-value-gt1 : goal.returns-then-value-gt1
unfolding between_piles
returns-then-value-gt1 c = λ scoring pile kernel.
    let a = c.args in
    simp c.refused.ensures
    (refuses scoring a.s pile kernel a.cells.now (Pop a.value) Word _
    (at-loci scoring a.s pile kernel a.cells.now (Pop a.value) c.requires ∙ rw (lt-ltb 1 a.value (omega arith))))

pub returns-in_err-popped : goal.returns-in_err-popped
returns-in_err-popped c = λ scoring pile kernel.
    let a = c.args in
    let e = c.try_pop_next_ready_region.ensures in
    let y = err_from_is_err_and c.from_residual.result c.from_residual.ensures.1 in
    let x = error_was (λ call. refused_step call.refusal a.s.index a.s) _ c.try_pop_next_ready_region.result _ c.in_err-popped.ensures.cases (λ call h. search rules) in
    let answer = sym e.result_value ∙ ap pop_answer_of x.1 in
    rw (y.1, y.2, x.2) (simp e.cells_after (pop_refused scoring a.s pile kernel a.cells.now c.requires a.value (le-ltb 1 a.value (omega arith)) _ _ answer))

pub returns-in-Ready : goal.returns-in-Ready
returns-in-Ready c = λ scoring pile kernel.
    let a = c.args in
    let e = c.try_pop_next_ready_region.ensures in
    let was = value_was _ _ c.try_pop_next_ready_region.result _ c.in_ok-popped.ensures.cases (λ call h. h) in
    let answer = rw c.in-Ready.is at (sym e.result_value ∙ ap pop_answer_of was) in
    simp e.cells_after (pop_line scoring a.s pile kernel a.cells.now c.requires a.value (le-ltb 1 a.value (omega arith)) _ _ answer (omega (arith, c.well_formed)))

pub returns-in-Held : goal.returns-in-Held
returns-in-Held c = λ scoring pile kernel.
    let a = c.args in
    let e = c.try_pop_next_ready_region.ensures in
    let was = value_was _ _ c.try_pop_next_ready_region.result _ c.in_ok-popped.ensures.cases (λ call h. h) in
    let answer = rw c.in-Held.is at (sym e.result_value ∙ ap pop_answer_of was) in
    simp (c.advanced.ensures, e.cells_after) (pop_held scoring a.s pile kernel a.cells.now c.requires a.value (le-ltb 1 a.value (omega arith)) _ answer)

pub returns-in-Empty : goal.returns-in-Empty
returns-in-Empty c = λ scoring pile kernel.
    let a = c.args in
    let e = c.try_pop_next_ready_region.ensures in
    let was = value_was _ _ c.try_pop_next_ready_region.result _ c.in_ok-popped.ensures.cases (λ call h. h) in
    let answer = rw c.in-Empty.is at (sym e.result_value ∙ ap pop_answer_of was) in
    simp (c.advanced-in-Empty.ensures, e.cells_after) (pop_empty scoring a.s pile kernel a.cells.now c.requires a.value (le-ltb 1 a.value (omega arith)) _ answer)
