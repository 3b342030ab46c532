-- `hq_soft_clip_running_mean_rcm_path` meets its contract: no mean without a clip; else that of the words so far.
use Rattle.std.proofs.Common.{◌≡◌, ◌≤◌, take}
use Rattle.std.specs.List.{fold}
use Rattle.activity_scoring.specs.Mean.{none, with_word}
use Rattle.activity_scoring.proofs.mean.hq_soft_clip_running_mean_rcm_path.Given as goal

abbrev pub invariant-loop-w : goal.invariant-loop-w
invariant-loop-w l = record {
  few : l.r.count ≤ l.w-index;
  so_far : l.r ≡ fold (with_word l.params) none (take l.w-index l.pile);
}
