-- `feed` meets its contract: the text of the steps so far stands at the front, and each step comes nearer to the end of the words.
use Prim.Native.Nat.{◌*◌, ◌+◌, ◌-◌}
use lib.ListN.{length}
use Rattle.region_program.specs.Stream.{acts_left, most_acts, seen}
use Rattle.region_program.specs.Tables.{table_score}
use Rattle.region_run.proofs.Texts.{So}
use Rattle.region_run.proofs.feed.Given as goal

abbrev pub invariant-loop-s : goal.invariant-loop-s
invariant-loop-s l =
    So (table_score l.tables.contributions l.tables.priors) l.initial.s l.s l.words l.text (seen l.initial.s.stream l.initial.memory.pile l.initial.memory.kernel l.initial.memory.cells)
    (seen l.s.stream l.memory.pile l.memory.kernel l.memory.cells)

abbrev pub decreases-loop-s : goal.decreases-loop-s
decreases-loop-s l = (length l.words - l.s.at) * (most_acts + 1) + acts_left l.s.stream
