-- A loop without a budget, and what a loop with a budget (`until`) has to do with it.
-- Assumes nothing.
use Rattle.std.specs.Prelude.{◌≡◌, Bool, not, T}
use Rattle.std.proofs.Math.Path.{refl}
use Rattle.std.proofs.Common.{sym, subst, zero-lt-suc, sub-one}
use Rattle.std.proofs.Math.Bool.{true, false}
use Prim.Native.Nat.{ℕ, zero, suc, zero-le}
use Rattle.lists.specs.Loops.{until, until_stop, until-turn, until_end}

-- from s, f again and again while the test fails, comes to t, where the test passes
pub data While {S : Type 0} (p : S → Bool) (f : S → S) : S → S → Type 0 where
  stop : {s : S} → p s ≡ true → While p f s s
  turn : {s t : S} → p s ≡ false → While p f (f s) t → While p f s t

module _ {S : Type 0} (p : S → Bool) (f : S → S) where
  -- where the test passes in the end, the budget did not cut the loop short
  pub until_while : (n : ℕ) (s : S) → p (until p f n s) ≡ true → While p f s (until p f n s)
  unfolding until
  until_while zero s h = stop h
  until_while (suc n) s h = go (p s) refl (λ k. until_while n (f s) k)
    where
      go : (b : Bool) → p s ≡ b → (p (until p f n (f s)) ≡ true → While p f (f s) (until p f n (f s))) → While p f s (until p f (suc n) s)
      go true e rest = rw e (stop e)
      go false e rest = rw e (turn e (rest (rw e at h)))

  -- P n s is what holds with n turns left: where it forces the test at 0 turns, the loop ends within its budget
  pub until_law : (P : ℕ → S → Type 0) → ((s : S) → P 0 s → T (p s)) → ((n : ℕ) (s : S) → P (suc n) s → T (not (p s)) → P n (f s))
      → (n : ℕ) (s : S) → P n s → T (p (until p f n s)) × ((k : ℕ) × P k (until p f n s))
  until_law P ends next zero s h = subst (λ (r : S). T (p r) × ((k : ℕ) × P k r)) (sym (until_end p f 0 s zero-le)) (ends s h, (0, h))
  until_law P ends next (suc n) s h = go (p s) refl (until_law P ends next n (f s))
    where
      go : (b : Bool) → p s ≡ b → (P n (f s) → T (p (until p f n (f s))) × ((k : ℕ) × P k (until p f n (f s))))
          → T (p (until p f (suc n) s)) × ((k : ℕ) × P k (until p f (suc n) s))
      go true e ih = subst (λ (r : S). T (p r) × ((k : ℕ) × P k r)) (sym (until_stop p f (suc n) s e)) (subst T (sym e) tt, (suc n, h))
      go false e ih =
          subst (λ (r : S). T (p r) × ((k : ℕ) × P k r)) (rw sub-one at (until-turn p f (suc n) s (zero-lt-suc n) e))
          (ih (next n s h (subst (λ (b : Bool). T (not b)) (sym e) tt)))
