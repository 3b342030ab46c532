-- `finish` meets its contract: the last event is acted on, and where that ends a pile once more.
use Rattle.pileup_words.specs.declared.StreamEvent.{StreamEvent}
use Rattle.region_feed.proofs.Printing.{last_again, last_prints}
use Rattle.region_program.specs.Program.{act_by}
use Rattle.region_program.specs.Stream.{seen}
use Rattle.region_program.specs.Tables.{table_score}
use mathlib.Core.Path.{◌≡◌, ◌∙◌, ap, sym}
use Rattle.region_program.specs.declared.Step.TheVariants.{Next, Line}
use Rattle.std.proofs.Common.{ℕ, Ok, Err, arith}
use Rattle.region_feed.proofs.finish.Goals as goal

pub returns-in-Ok-Next : goal.returns-in-Ok-Next
returns-in-Ok-Next c =
    let a = c.args in
    let scoring = table_score a.tables.now.contributions a.tables.now.priors in
    let before = seen a.s a.memory.now.pile a.memory.now.kernel a.memory.now.cells in
    let answer = rw c.in-Ok-Next.field-0-is at c.in-Ok-Next.ensures.answer ∙ ap (λ (v : StreamEvent). act_by scoring v before) c.last_event-event.ensures in
    last_prints scoring a.remainder before _ _ _ (Ok (Next _)) answer (λ t h. let z : ◌≡◌ {A = ℕ} 0 1 = cc in absurd (omega arith))

pub returns-in-Ok-Line : goal.returns-in-Ok-Line
returns-in-Ok-Line c =
    let a = c.args in
    let scoring = table_score a.tables.now.contributions a.tables.now.priors in
    let before = seen a.s a.memory.now.pile a.memory.now.kernel a.memory.now.cells in
    let answer = rw c.in-Ok-Line.field-0-is at c.in-Ok-Line.ensures.answer ∙ ap (λ (v : StreamEvent). act_by scoring v before) c.last_event-event.ensures in
    last_prints scoring a.remainder before _ _ _ (Ok (Line c.in-Ok-Line.region _)) answer (λ t h. let z : ◌≡◌ {A = ℕ} 0 1 = cc in absurd (omega arith))

pub returns-in-Err : goal.returns-in-Err
returns-in-Err c =
    let a = c.args in
    let scoring = table_score a.tables.now.contributions a.tables.now.priors in
    let before = seen a.s a.memory.now.pile a.memory.now.kernel a.memory.now.cells in
    let answer = c.in-Err.ensures.answer ∙ ap (λ (v : StreamEvent). act_by scoring v before) c.last_event-event.ensures in
    last_prints scoring a.remainder before _ _ _ (Err c.in-Err.refused) answer (λ t h. let z : ◌≡◌ {A = ℕ} 0 1 = cc in absurd (omega arith))

pub returns-in-Ok-Again : goal.returns-in-Ok-Again
returns-in-Ok-Again c =
    let a = c.args in
    let scoring = table_score a.tables.now.contributions a.tables.now.priors in
    let before = seen a.s a.memory.now.pile a.memory.now.kernel a.memory.now.cells in
    let event = c.last_event-event.ensures in
    let left = c.act.new.memory in
    let middle = seen c.in-Ok-Again.t left.pile left.kernel left.cells in
    let first = sym (rw c.in-Ok-Again.field-0-is at c.in-Ok-Again.ensures.answer ∙ ap (λ (v : StreamEvent). act_by scoring v before) event) in
    let answer = c.act-in-Ok-Again.ensures.answer ∙ ap (λ (v : StreamEvent). act_by scoring v middle) event in
    simp c.found_in.ensures (last_again scoring a.remainder middle _ _ _ before c.act-in-Ok-Again.result first answer)
