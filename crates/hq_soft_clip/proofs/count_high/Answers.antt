-- `count_high` meets its contract: the count so far, with what is left of the qualities, comes to the whole count.
use mathlib.Core.Path.{◌∙◌, refl, sym}
use native.Mathlib.Omega.{arith}
use lib.ListN.{get_or}
use borrow.Author.Rules.{rules}
use Rattle.hq_soft_clip.proofs.Walks.{base_le}
use Rattle.hq_soft_clip.specs.SoftClips.{count_high, with_base}
use Rattle.lists.specs.Loops.{fold_end, fold-turn}
use Rattle.hq_soft_clip.proofs.count_high.Goals as goal

pub loop-quality-init : goal.loop-quality-init
unfolding count_high
loop-quality-init c = (search rules, refl)

pub loop-quality-preserved : goal.loop-quality-preserved
loop-quality-preserved c =
    let at = c.loop-quality in (
      simp c.with_base-n.ensures (omega (arith, at.invariant.0, base_le at.n (get_or c.args.qualities.now at.quality-index 0))),
      rw c.with_base-n.ensures (fold-turn with_base _ _ _ 0 c.loop-quality-test.true ∙ at.invariant.1),
    )

pub returns : goal.returns
returns c = sym (fold_end with_base _ c.args.qualities.now c.loop-quality.quality-index (omega arith)) ∙ c.loop-quality.invariant.1
