-- `act_on` meets its contract: a step comes nearer and prints what it answers, and so does the one behind the end of a pile.
use Rattle.region_feed.specs.Feed.{fed_by}
use Rattle.region_feed.proofs.Printing.{again_prints, step_prints}
use Rattle.pileup_words.specs.declared.StreamEvent.{StreamEvent}
use Rattle.region_program.specs.Program.{act_by}
use Rattle.region_program.specs.Tables.{table_score}
use Rattle.region_program.specs.Stream.{seen}
use mathlib.Core.Path.{◌∙◌, ap, sym}
use Rattle.std.proofs.Common.{Ok, Err}
use Rattle.region_feed.proofs.act_on.Goals as goal

pub returns-in-Ok-clause-prints_word : goal.returns-in-Ok-clause-prints_word
returns-in-Ok-clause-prints_word c =
    let a = c.args in
    let scoring = table_score a.tables.now.contributions a.tables.now.priors in
    let before = seen a.s a.memory.now.pile a.memory.now.kernel a.memory.now.cells in
    let answer = c.in-Ok.ensures.answer ∙ ap (λ (v : StreamEvent). act_by scoring v before) c.event_of-event.ensures in
    simp c.fed_by-in-Ok.ensures (step_prints scoring a.word a.at before _ _ _ (Ok c.in-Ok.step) answer)

pub returns-in-Err-clause-prints_word : goal.returns-in-Err-clause-prints_word
returns-in-Err-clause-prints_word c =
    let a = c.args in
    let scoring = table_score a.tables.now.contributions a.tables.now.priors in
    let before = seen a.s a.memory.now.pile a.memory.now.kernel a.memory.now.cells in
    let answer = c.in-Err.ensures.answer ∙ ap (λ (v : StreamEvent). act_by scoring v before) c.event_of-event.ensures in
    simp c.fed_by-in-Err.ensures (step_prints scoring a.word a.at before _ _ _ (Err c.in-Err.refused) answer)

pub returns-in-Ok-Again-clause-prints_word : goal.returns-in-Ok-Again-clause-prints_word
returns-in-Ok-Again-clause-prints_word c =
    let a = c.args in
    let t = c.in-Ok-Again.t in
    let r = c.act-in-Ok-Again.result in
    let scoring = table_score a.tables.now.contributions a.tables.now.priors in
    let event = c.event_of-event.ensures in
    let before = seen a.s a.memory.now.pile a.memory.now.kernel a.memory.now.cells in
    let left = c.act.new.memory in
    let middle = seen t left.pile left.kernel left.cells in
    let first = sym (rw c.in-Ok-Again.field-0-is at c.in-Ok-Again.ensures.answer ∙ ap (λ (v : StreamEvent). act_by scoring v before) event) in
    let second = c.act-in-Ok-Again.ensures.answer ∙ ap (λ (v : StreamEvent). act_by scoring v middle) event in
    simp c.fed_by.ensures (λ words. again_prints scoring a.word before middle _ (fed_by r a.at).found words _ first (step_prints scoring a.word a.at middle _ _ _ r second words))
