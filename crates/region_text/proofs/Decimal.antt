-- The text of a number is its decimal: read back it is the number, and it has no zero in front. Assumes nothing.
use mathlib.Core.Path.{◌≡◌, refl, ap, ◌∙◌}
use Rattle.std.specs.List.{fold}
use mathlib.Core.Bool.{Bool, true, false, cond}
use mathlib.Core.List.{List, [], ◌∷◌}
use Prim.Native.Nat.{ℕ, zero, suc, ◌+◌, ◌-◌, ◌*◌, ◌/◌, ◌%◌, ◌^◌, ◌<◌}
use native.Mathlib.Omega.{arith}
use borrow.Author.Tests.{ltb-false}
use lib.Dec.{ltb}
use lib.ListN.{get_or}
use Rattle.region_text.specs.Text.{digit_zero, digit, digits_onto, decimal}

-- a number so far, and one digit more
abbrev pub read : ℕ → ℕ → ℕ
read v d = v * 10 + (d - digit_zero)

digits-read : (k n : ℕ) (t : List ℕ) → n < 10 ^ k → fold read 0 (digits_onto k n t) ≡ fold read n t
unfolding digits_onto
digits-read zero n t h = ap (λ v. fold read v t) (omega arith)
digits-read (suc k) n t h = go (ltb n 10) refl (digits-read k (n / 10) (digit (n % 10) ∷ t))
  where
    go : (b : Bool) → ltb n 10 ≡ b → (n / 10 < 10 ^ k → fold read 0 (digits_onto k (n / 10) (digit (n % 10) ∷ t)) ≡ fold read (n / 10) (digit (n % 10) ∷ t))
        → fold read 0 (cond b (digit n ∷ t) (digits_onto k (n / 10) (digit (n % 10) ∷ t))) ≡ fold read n t
    go true e f = ap (λ v. fold read v t) (omega arith)
    go false e f = f (omega (arith, h)) ∙ ap (λ v. fold read v t) (omega arith)

-- every 64-bit number, read back from its text
pub decimal-read : (n : ℕ) → n < 2 ^ 64 → fold read 0 (decimal n []) ≡ n
unfolding decimal
decimal-read n h = digits-read 20 n [] (omega arith)

digits_lead : (k n : ℕ) (t : List ℕ) → 0 < n → n < 10 ^ k → digit_zero < get_or (digits_onto k n t) 0 0
unfolding digits_onto
digits_lead zero n t s h = absurd (omega arith)
digits_lead (suc k) n t s h = go (ltb n 10) refl (digits_lead k (n / 10) (digit (n % 10) ∷ t))
  where
    go : (b : Bool) → ltb n 10 ≡ b → (0 < n / 10 → n / 10 < 10 ^ k → digit_zero < get_or (digits_onto k (n / 10) (digit (n % 10) ∷ t)) 0 0)
        → digit_zero < get_or (cond b (digit n ∷ t) (digits_onto k (n / 10) (digit (n % 10) ∷ t))) 0 0
    go true e f = omega arith
    go false e f = f (omega (arith, ltb-false n 10 e)) (omega (arith, h))

-- no zero in front of a number that is not 0
pub decimal_lead : (n : ℕ) (t : List ℕ) → 0 < n → n < 2 ^ 64 → digit_zero < get_or (decimal n t) 0 0
unfolding decimal
decimal_lead n t s h = digits_lead 20 n t s (omega arith)
