-- `walk_word` meets its contract: the arms by themselves, and the clip by where the qualities end.
use Prim.Native.Nat.{◌/◌}
use mathlib.Core.Path.{ap, ◌∙◌}
use native.Mathlib.Omega.{arith}
use Rattle.genome.specs.Refusals.{answered}
use Rattle.hq_soft_clip.specs.declared.Walk.{Walk}
use Rattle.hq_soft_clip.specs.SoftClips.{by_operation}
use Rattle.hq_soft_clip.proofs.Walks.{clip_is}
use Rattle.hq_soft_clip.proofs.walk_word.Goals as goal

pub clip-requires : goal.clip-requires
clip-requires c =
    let start = c in
    let there = ap (λ (z : Walk). z.at) c.pass-past.ensures in
    omega (arith, there, start.requires)

-- S
pub returns-in-4 : goal.returns-in-4
unfolding by_operation
returns-in-4 c =
    let at = c in
    let start = at in
    let there = ap (λ (z : Walk). z.at) at.pass-past.ensures in
    rw at.in-4.is (ap answered (c.clip.ensures ∙ clip_is start.args.qualities.now start.args.here (start.args.word / 16) _ start.requires.1 there))
