-- `word` ends: each call leaves less of the block to do.
use Rattle.region_run.specs.Running.{to_do}
use Rattle.replay_stream.proofs.Replay.word.Given as goal

abbrev pub decreases-loop-rest : goal.decreases-loop-rest
decreases-loop-rest l = to_do l.self.running.run l.rest
