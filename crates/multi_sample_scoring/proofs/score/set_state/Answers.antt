-- `set_state` meets its contract: the activity of the set, and the evidence of the run's mean.
use Prim.Native.Nat.{ℕ}
use mathlib.Core.List.{List}
use mathlib.Core.Path.{sym}
use Rattle.activity_scoring.specs.Tables.{from_rounded_by, rounded_by}
use Rattle.multi_sample_scoring.proofs.Piles.{state_is}
use Rattle.multi_sample_scoring.proofs.score.set_state.Goals as goal

pub returns : goal.returns
returns c =
    let mean = c in
    let start = mean in
    let a = start.args in
    simp (c.set_activity-a.ensures, c.evidence_of-evidence.ensures, mean.hq_soft_clip_running_mean_rcm_path-mean.ensures)
    (sym (state_is (λ (pile : List ℕ). rounded_by a.tables.contributions.now pile a.params) (from_rounded_by a.tables.priors.now a.params) a.contig a.pos a.params a.set.words.now a.set.lengths.now a.set.whole))
