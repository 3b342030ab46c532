-- `find_best_cut_site` meets its contract: what is left of the scan, done from here with the best so far, is the whole scan.
use Prim.Native.Nat.{ℕ, zero, suc, ◌+◌, ◌-◌}
use mathlib.Core.Path.{◌∙◌, ◌≡◌, ap, refl, sym}
use native.Mathlib.Omega.{arith}
use Rattle.activity_profile.proofs.Cases.{better_below, better_keeps, better_takes}
use Rattle.activity_profile.specs.Pop.{best_cut_site, better, or_most}
use Rattle.lists.specs.Loops.{down, down_turn}
use Rattle.profile_pop.proofs.find_best_cut_site.Goals as goal

pub loop-i-init : goal.loop-i-init
unfolding best_cut_site
loop-i-init c = (omega arith, refl)

pub loop-i-preserved-then-is_better : goal.loop-i-preserved-then-is_better
loop-i-preserved-then-is_better c =
    let a = c.args in
    let k = c.loop-i.i in
    let best = c.loop-i.best in
    let f = better a.states.now a.least in
    let size : k - 1 + 1 ≡ k = omega arith in
    let takes = better_takes a.states.now a.least k best (omega arith) (sym c.is_better.ensures ∙ c.if-is_better.true) in
    (omega arith, rw size (ap (down f (k - 1)) (sym takes) ∙ down_turn f k best (omega arith) ∙ c.loop-i.invariant.1))

pub loop-i-preserved : goal.loop-i-preserved
loop-i-preserved c =
    let a = c.args in
    let k = c.loop-i.i in
    let best = c.loop-i.best in
    let f = better a.states.now a.least in
    let keeps = better_keeps a.states.now a.least k best (omega arith) (sym c.is_better.ensures ∙ c.if-is_better.false) in
    (c.loop-i.invariant.0, ap (down f (k - 1)) (sym keeps) ∙ down_turn f k best (omega arith) ∙ c.loop-i.invariant.1)

-- a size that is none is max, any other is itself
none : (most b : ℕ) → b ≡ 0 → or_most most b ≡ most
unfolding or_most
none most b h = rw h

some : (most b : ℕ) → (b ≡ 0 → ⊥) → or_most most b ≡ b
unfolding or_most
some most zero h = absurd (h refl)
some most (suc n) h = refl

pub returns-then-best-eq0 : goal.returns-then-best-eq0
returns-then-best-eq0 c =
    let a = c.args in
    let b = c.loop-i.best in
    let e : b ≡ best_cut_site a.states.now a.least a.most =
    sym (better_below a.states.now a.least c.loop-i.i b (omega arith)) ∙ c.loop-i.invariant.1 in
    sym (none a.most b c.if-best-eq0.true) ∙ ap (or_most a.most) e

pub returns : goal.returns
returns c =
    let a = c.args in
    let b = c.loop-i.best in
    let e : b ≡ best_cut_site a.states.now a.least a.most =
    sym (better_below a.states.now a.least c.loop-i.i b (omega arith)) ∙ c.loop-i.invariant.1 in
    sym (some a.most b c.if-best-eq0.false) ∙ ap (or_most a.most) e
