-- `advance` meets its contract: the words that were taken are passed, and acting on the one behind them prints what it answers.
use native.Mathlib.Omega.{arith}
use Rattle.region_feed.proofs.Printing.{advanced, taken_only}
use Rattle.region_program.specs.Tables.{table_score}
use Rattle.region_feed.proofs.advance.Goals as goal

pub returns-then-next-words-clause-prints : goal.returns-then-next-words-clause-prints
returns-then-next-words-clause-prints c =
    let a = c.args in
    let o = c.observations-observed.result in
    let taken = c.observations-observed.ensures in
    let r = c.act_on.result in
    let step = c.act_on.ensures in
    let scoring = table_score a.tables.now.contributions a.tables.now.priors in
    let acted = taken.acted scoring a.memory.now.kernel a.memory.now.cells in
    advanced scoring _ _ a.words.now a.at o.taken (omega (arith, taken.few, c.if-at-words.true)) acted _ r c.if-next-words.true step.ends.on step.prints_word

pub returns-then-at-words-clause-prints : goal.returns-then-at-words-clause-prints
returns-then-at-words-clause-prints c =
    let a = c.args in
    let o = c.observations-observed.result in
    let taken = c.observations-observed.ensures in
    let scoring = table_score a.tables.now.contributions a.tables.now.priors in
    let acted = taken.acted scoring a.memory.now.kernel a.memory.now.cells in
    simp c.fed_to.ensures (taken_only scoring _ _ a.words.now a.at o.taken (omega (arith, taken.few, c.if-at-words.true)) acted)
