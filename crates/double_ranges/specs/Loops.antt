-- What a loop keeps where each turn may enlarge a bound by one step. Assumes nothing.
use Rattle.std.specs.Prelude.{◌≡◌, Bool, cond}
use Rattle.std.proofs.Math.Path.{refl, subst}
use Rattle.std.proofs.Math.Bool.{true, false}
use Prim.Native.Nat.{ℕ, zero, suc, ◌+◌, ◌≤◌, ◌<◌}
use native.Mathlib.Omega.{arith}
use Rattle.lists.specs.Loops.{down, until, along}

module _ {S : Type 0} (P : ℕ → S → Type 0) where
  pub down_grows : (g : ℕ → S → S) (n j : ℕ) → ((k i : ℕ) → k < n → i < j + n → (s : S) → P i s → P (suc i) (g (suc k) s)) → (s : S) → P j s → P (j + n) (down g n s)
  unfolding down
  down_grows g zero j h s p = subst (λ (i : ℕ). P i s) (omega arith) p
  down_grows g (suc n) j h s p =
      subst (λ (i : ℕ). P i (down g n (g (suc n) s))) (omega arith)
      (down_grows g n (suc j) (λ k i l m. h k i (omega arith) (omega arith)) (g (suc n) s) (h n j (omega arith) (omega arith) s p))

  pub until_grows : (t : S → Bool) (f : S → S) (n j : ℕ) → ((i : ℕ) → i < j + n → (s : S) → t s ≡ false → P i s → P (suc i) (f s)) → (s : S) → P j s → (k : ℕ) × (k ≤ j + n) × P k (until t f n s)
  unfolding until
  until_grows t f zero j h s p = (j, omega arith, p)
  until_grows t f (suc n) j h s p = go (t s) refl (λ q. until_grows t f n (suc j) (λ i l. h i (omega arith)) (f s) q)
    where
      go : (b : Bool) → t s ≡ b → (P (suc j) (f s) → (k : ℕ) × (k ≤ suc j + n) × P k (until t f n (f s))) → (k : ℕ) × (k ≤ j + suc n) × P k (cond b s (until t f n (f s)))
      go true e rest = (j, omega arith, p)
      go false e rest = let r = rest (h j (omega arith) s e p) in (r.0, omega (arith, r.1), r.2)

  pub along_grows : (f : ℕ → S → S) (i n j : ℕ) → ((k b : ℕ) → k < i + n → b < j + n → (s : S) → P b s → P (suc b) (f k s)) → (s : S) → P j s → P (j + n) (along f i n s)
  unfolding along
  along_grows f i zero j h s p = subst (λ (b : ℕ). P b s) (omega arith) p
  along_grows f i (suc n) j h s p =
      subst (λ (b : ℕ). P b (along f (suc i) n (f i s))) (omega arith)
      (along_grows f (suc i) n (suc j) (λ k b l m. h k b (omega arith) (omega arith)) (f i s) (h i j (omega arith) (omega arith) s p))

  -- a bound that goes with the index
  pub along_keeps : (f : ℕ → S → S) (i n : ℕ) → ((k : ℕ) → k < i + n → (s : S) → P k s → P (suc k) (f k s)) → (s : S) → P i s → P (i + n) (along f i n s)
  unfolding along
  along_keeps f i zero h s p = subst (λ (b : ℕ). P b s) (omega arith) p
  along_keeps f i (suc n) h s p =
      subst (λ (b : ℕ). P b (along f (suc i) n (f i s))) (omega arith) (along_keeps f (suc i) n (λ k l. h k (omega arith)) (f i s) (h i (omega arith) s p))
