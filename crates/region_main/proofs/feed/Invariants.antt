-- `feed` ends: each call leaves less of the block to do.
use Rattle.region_run.specs.Running.{to_do}
use Rattle.region_main.proofs.feed.Given as goal

abbrev pub decreases-loop-rest : goal.decreases-loop-rest
decreases-loop-rest g l = to_do l.running.run l.rest
