-- Laws of the table of operations. Assumes nothing.
use Rattle.std.specs.Prelude.{Bool, true, false, cond, List, ℕ, eqb}
use Rattle.genome.specs.Refusals.{Outcome, refused, answered, word_refusal}
use Rattle.hq_soft_clip.specs.declared.Walk.{Walk}
use Rattle.hq_soft_clip.specs.SoftClips.{passed, clipped, by_operation}

-- two walks and one operation: what holds of each kind of arm holds
pub by_arms : (R : Outcome Walk → Outcome Walk → Type 0) (op n : ℕ) (qs qs' : List ℕ) (s s' : Walk)
    → R (answered (passed n s)) (answered (passed n s')) → R (answered s) (answered s') → R (answered (clipped qs n s)) (answered (clipped qs' n s'))
    → R (refused word_refusal) (refused word_refusal) → R (by_operation op qs n s) (by_operation op qs' n s')
unfolding by_operation
by_arms R op n qs qs' s s' pass stay clip refusal =
    or (eqb op 0) pass
    (or (eqb op 1) pass
    (or (eqb op 2) stay
    (or (eqb op 3) stay
    (or (eqb op 4) clip
    (or (eqb op 5) stay
    (or (eqb op 6) stay
    (or (eqb op 7) pass
    (or (eqb op 8) pass refusal))))))))
  where
    or : (b : Bool) {x x' y y' : Outcome Walk} → R x x' → R y y' → R (cond b x y) (cond b x' y')
    or true p q = p
    or false p q = q
