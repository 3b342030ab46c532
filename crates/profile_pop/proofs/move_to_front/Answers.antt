-- `move_to_front` meets its contract: the copy and the zeros behind it are document 01's move.
use Rattle.profile_pop.proofs.Moving.{moved}
use lib.Ieee.{nan}
use Rattle.std.proofs.Math.Nat.{sub-zero}
use native.Mathlib.Omega.{arith}
use Rattle.profile_pop.proofs.move_to_front.Goals as goal

pub returns : goal.returns
returns c =
    let a = c.args in
    let at = c.copy_within.ensures.by_index in
    rw (c.fill.ensures.after (λ y e. e)) (moved a.cells.now c.copy_within.new.self a.size a.left a.count c.copy_within.ensures.len (omega arith) (omega arith)
    (λ k h. let there = at.0 k nan (omega arith) (omega arith) in rw sub-zero at there)
    (λ k h. at.2 k nan (omega arith)))
