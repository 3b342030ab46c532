-- `hq_soft_clip_running_mean_rcm_path` meets its contract: no mean without a clip; else that of the words so far.
use Rattle.std.proofs.Common.{get_or, sym, ap, ◌∙◌, arith}
use Rattle.activity_scoring.proofs.Counts.{no_clips, with_word_count}
use Rattle.activity_scoring.specs.Mean.{mean_of, none, with_word}
use Rattle.activity_scoring.specs.declared.RunningMean.{RunningMean}
use Rattle.lists.specs.Folds.{fold_more}
use Rattle.activity_scoring.proofs.mean.hq_soft_clip_running_mean_rcm_path.Goals as goal

pub returns-then-not-has_clips : goal.returns-then-not-has_clips
unfolding mean_of
returns-then-not-has_clips c =
    let at = c in
    let a = at.args in
    sym (ap (λ (q : RunningMean). q.mean) (no_clips a.params none a.pile.now (sym at.has_clips.ensures ∙ c.if-not-has_clips.true)))

pub loop-w-preserved : goal.loop-w-preserved
loop-w-preserved c =
    let at = c.loop-w in
    let a = c.args in
    let w = get_or a.pile.now at.w-index 0 in
    let before = at.invariant in
    record {
      few = rw c.with_word-r.ensures (omega (arith, with_word_count a.params at.r w, before.few));
      so_far = rw (c.with_word-r.ensures, before.so_far) (sym (fold_more (with_word a.params) none a.pile.now at.w-index 0 (omega arith)));
    }
