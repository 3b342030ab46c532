-- `max_element_index` meets its contract: the largest of those from here on, begun with the largest so far, is the largest of all.
use Prim.Native.Nat.{◌+◌}
use mathlib.Core.Path.{◌∙◌, ◌≡◌, refl, sym}
use native.Mathlib.Omega.{arith}
use lib.ListN.{length}
use borrow.Author.Rules.{rules}
use Rattle.lists.specs.Loops.{along_end, along-turn}
use Rattle.log10_sums.proofs.Indices.{larger-lt}
use Rattle.log10_sums.specs.Sums.{larger, max_element_index}
use Rattle.log10_sums.proofs.sums.max_element_index.Goals as goal
use Rattle.log10_sums.proofs.sums.max_element_index.Goals.{then-values-i, else-values-i}

pub loop-i-init : goal.loop-i-init
unfolding max_element_index
loop-i-init c = (search rules, omega arith, refl)

pub loop-i-preserved : goal.loop-i-preserved
unfolding larger
loop-i-preserved c =
    let xs = c.args.values.now in
    let i = c.loop-i.i in
    let m = c.loop-i.m in
    let e : c.if-values-i.m ≡ larger xs i m =
    elim c.if-values-i.branch [ then-values-i w ↦ simp (w.m-is, w.if-values-i.true) | else-values-i w ↦ simp (w.m-is, w.if-values-i.false) ] in (
      rw e (larger-lt xs i m (i + 1) (omega arith) (omega arith)),
      rw e (omega (arith, larger-lt xs i m (length xs) (omega arith) (omega arith))),
      rw e (along-turn (larger xs) i (length xs) m (omega arith) ∙ c.loop-i.invariant.2),
    )

pub returns : goal.returns
returns c = record { value = sym (along_end (larger _) _ _ _ c.loop-i-test.false) ∙ c.loop-i.invariant.2; upper_bound = c.loop-i.invariant.1 }
