-- What a verdict, or a pop's turn, tells of the tests that it was made of. `search` runs these forwards. Assumes nothing.
use mathlib.Core.Path.{◌≡◌, refl}
use mathlib.Core.Bool.{Bool, true, false, not, ◌&&◌, cond}
use Prim.Native.Nat.{ℕ}
use Rattle.activity_profile.specs.Verdict.{Verdict, refusal, granted}
use Rattle.activity_profile.specs.Pop.{empty, held, ready}

-- ---- of a chain of refusals that grants: this one does not apply, nor a later one
pub this_not : (b : Bool) (n : ℕ) (v : Verdict) → cond b (refusal n) v ≡ granted → b ≡ false
this_not true n v e = cc
this_not false n v e = refl

pub nor_later : (b : Bool) (n : ℕ) (v : Verdict) → cond b (refusal n) v ≡ granted → v ≡ granted
nor_later true n v e = cc
nor_later false n v e = e

-- ---- a pop's turn, c the test for no cells and b the one for too few
pub ready_some : (c b : Bool) → cond c empty (cond b held ready) ≡ ready → c ≡ false
ready_some true b e = cc
ready_some false b e = refl

pub ready_enough : (c f b : Bool) → cond c empty (cond (not f && b) held ready) ≡ ready → f ≡ false → b ≡ false
ready_enough true f b e h = cc
ready_enough false true b e h = cc
ready_enough false false true e h = cc
ready_enough false false false e h = refl

pub held_some : (c b : Bool) → cond c empty (cond b held ready) ≡ held → c ≡ false
held_some true b e = cc
held_some false b e = refl

pub held_few : (c f b : Bool) → cond c empty (cond (not f && b) held ready) ≡ held → b ≡ true
held_few true f b e = cc
held_few false true b e = cc
held_few false false true e = refl
held_few false false false e = cc

pub empty_none : (c b : Bool) → cond c empty (cond b held ready) ≡ empty → c ≡ true
empty_none true b e = refl
empty_none false true e = cc
empty_none false false e = cc
