-- A run that holds what it works on: what it is printed from, and what is left to do.
use Rattle.std.specs.Prelude.{List, ℕ, ◌+◌, ◌*◌, length}
use Rattle.region_program.specs.Program.{Scoring, Reading}
use Rattle.region_program.specs.Stream.{most_acts, acts_left, seen}
use Rattle.region_program.specs.Tables.{table_score}
use Rattle.region_run.specs.declared.RegionRun.{RegionRun}
use Rattle.region_run.specs.declared.running.Running.{Running}

-- the scoring by its tables
abbrev pub scoring_of : Running → Scoring
scoring_of g = table_score g.tables.now.contributions g.tables.now.priors

-- where its stream stands
abbrev pub reading_of : Running → Reading
reading_of g = seen g.run.stream g.memory.pile g.memory.kernel g.memory.cells

-- the run as it goes into a block: at its first word
abbrev pub at_front : RegionRun → RegionRun
at_front r = record { stream = r.stream; form = r.form; at = 0; used = r.used; over = r.over }

-- how much is left to do of a block, with these words of it to come
abbrev pub to_do : RegionRun → List ℕ → ℕ
to_do r words = length words * (most_acts + 1) + acts_left r.stream
