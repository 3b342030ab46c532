-- `count_high_quality_soft_clip_bases_rcm` meets its contract: the walk so far, which stops where the qualities end, with what is left of the words, comes to the
-- whole count.
use Prim.Native.Nat.{◌+◌}
use mathlib.Core.Path.{◌≡◌, ◌∙◌, ap, refl, sym}
use Rattle.std.specs.Prelude.{Err}
use borrow.Author.Rules.{rules}
use native.Mathlib.Omega.{arith}
use lib.ListN.{drop, get_or}
use Rattle.hq_soft_clip.proofs.Walks.{turn, walked-within}
use Rattle.hq_soft_clip.proofs.Refused.{refused_count}
use Rattle.hq_soft_clip.specs.SoftClips.{after, clip_count, count_of}
use Rattle.lists.specs.Loops.{fold_end}
use Rattle.hq_soft_clip.proofs.count_high_quality_soft_clip_bases_rcm.Goals as goal

pub loop-word-init : goal.loop-word-init
unfolding clip_count
loop-word-init c = (omega arith, omega arith, refl)

pub returns-in_err-w : goal.returns-in_err-w
returns-in_err-w c =
    let a = c.args in
    let at = c.loop-word in
    let e : c.from_residual.result ≡ Err c.in_err-w.field-0.0 = search rules in
    rw e
    (sym (refused_count a.qualities.now (drop (at.word-index + 1) a.cigar.now) _)
    ∙ turn a.qualities.now a.cigar.now at.w at.word-index _ c.loop-word-test.true c.in_err-w.ensures ∙ at.invariant.2)

pub loop-word-preserved : goal.loop-word-preserved
loop-word-preserved c =
    let a = c.args in
    let at = c.loop-word in
    let within = walked-within a.qualities.now at.w (get_or a.cigar.now at.word-index 0) _ at.invariant.0 at.invariant.1 c.in_ok-w.ensures in (
      within.0,
      within.1,
      turn a.qualities.now a.cigar.now at.w at.word-index _ c.loop-word-test.true c.in_ok-w.ensures ∙ at.invariant.2,
    )

pub returns : goal.returns
returns c = sym (ap count_of (fold_end (after c.args.qualities.now) _ c.args.cigar.now c.loop-word.word-index (omega arith))) ∙ c.loop-word.invariant.2
