-- `keep_all` meets its contract: the words so far are kept.
use Rattle.std.proofs.Common.{◌≡◌, take}
use Rattle.region_program.specs.Run.{kept_all}
use Rattle.observation_runs.proofs.keep_all.Given as goal

abbrev pub invariant-loop-w : goal.invariant-loop-w
invariant-loop-w l = record { depth = l.n; pile = l.pile } ≡ kept_all l.kept l.initial.pile (take l.w-index l.words)
