-- `after_turns` meets its contract: what is left of the walk, done from here with the leader so far, is all of it.
use mathlib.Core.Path.{◌∙◌, sym}
use native.Mathlib.Omega.{arith}
use Rattle.activity_profile.specs.Peak.{leads}
use Rattle.lists.specs.Loops.{along_end}
use Rattle.region_cells.proofs.peak.after_turns.Goals as goal

pub returns : goal.returns
returns c = (sym (along_end (leads _) _ _ _ c.loop-i-test.false) ∙ c.loop-i.invariant.2, omega arith)
