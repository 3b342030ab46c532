-- `spread` meets its contract: the held cells have received, and so have those behind them.
use Prim.Native.Nat.{ℕ, ◌+◌, ◌<◌, ◌≤◌, suc}
use borrow.Author.Tests.{lt-ltb, le-ltb}
use lib.Ieee.{Float, nan}
use lib.ListN.{get_or, length}
use Rattle.std.specs.Prelude.{◌++◌}
use mathlib.Core.List.{List, [], ◌∷◌}
use mathlib.Core.Path.{◌∙◌, ◌≡◌, ap, sym}
use native.Mathlib.Omega.{arith}
use Rattle.activity_profile.specs.Window.{receiving}
use Rattle.lists.specs.Each.{each, each_same, get_or-up_to-above, up_to, up_to_all, up_to_put, up_to_zero}
use Rattle.profile_add.proofs.spread.Goals as goal

-- sums at the front of a list
no_more : (k : ℕ) → 0 + k ≡ k
no_more k = omega arith

one_more : (n k : ℕ) → suc n + k ≡ suc (n + k)
one_more n k = omega arith

-- a list written in two parts, the second by the rule from the first's end on
each_joined : (f g : ℕ → Float → Float) (a b : List Float) → ((k : ℕ) (x : Float) → g k x ≡ f (length a + k) x) → (each f a ++ each g b) ≡ each f (a ++ b)
unfolding each up_to
each_joined f g [] b h = each_same g f b (λ k x. h k x ∙ ap (λ (m : ℕ). f m x) (no_more k))
each_joined f g (y ∷ a) b h = ap (λ (t : List Float). f 0 y ∷ t) (each_joined (λ k. f (suc k)) g a b (λ k x. h k x ∙ ap (λ (m : ℕ). f m x) (one_more (length a) k)))

pub loop-j-init : goal.loop-j-init
loop-j-init c = sym (up_to_zero _ _)

pub loop-j-preserved : goal.loop-j-preserved
unfolding receiving
loop-j-preserved c =
    let a = c.args in
    let j = c.loop-j.j in
    let front = c.split_at_mut-front.result.0.now in
    let below : j < a.held = omega (arith, c.split_at_mut-front.ensures.front_len, c.min-n.ensures) in
    let rule = receiving a.kernel.now a.s a.m a.held in
    let x-is : get_or c.loop-j.front j nan ≡ get_or front j nan = ap (λ (t : List Float). get_or t j nan) c.loop-j.invariant ∙ get_or-up_to-above rule j front j nan (omega arith) in
    up_to_put rule j front _ nan _ c.loop-j.invariant (omega arith) (simp (x-is, c.times_of.ensures, c.weight_of.ensures, lt-ltb _ _ below))

pub loop-k-init : goal.loop-k-init
loop-k-init c = sym (up_to_zero _ _)

pub loop-k-preserved : goal.loop-k-preserved
unfolding receiving
loop-k-preserved c =
    let a = c.args in
    let n = c.min-n.result in
    let k = c.loop-k.k in
    let back = c.split_at_mut-front.result.1.now in
    let above : a.held ≤ n + k = omega (arith, c.split_at_mut-front.ensures.back_len, c.min-n.ensures) in
    up_to_put (λ (i : ℕ). receiving a.kernel.now a.s a.m a.held (n + i)) k back _ nan _ c.loop-k.invariant (omega arith) (simp (c.times_of-in-loop-k.ensures, c.weight_of-in-loop-k.ensures, le-ltb _ _ above))

pub returns : goal.returns
returns c =
    let a = c.args in
    let n = c.min-n.result in
    let front = c.split_at_mut-front.result.0.now in
    let back = c.split_at_mut-front.result.1.now in
    let rule = receiving a.kernel.now a.s a.m a.held in
    let behind : ℕ → Float → Float = λ i. rule (n + i) in
    let ends : c.loop-j.front ≡ each rule front = c.loop-j.invariant ∙ up_to_all rule _ _ (omega arith) in
    let ends-behind : c.loop-k.back ≡ each behind back = c.loop-k.invariant ∙ up_to_all behind _ _ (omega arith) in
    rw (ends, ends-behind, c.split_at_mut-front.ensures.value)
    (each_joined rule behind front back (λ k x. ap (λ (m : ℕ). rule (m + k) x) (sym c.split_at_mut-front.ensures.front_len)))
