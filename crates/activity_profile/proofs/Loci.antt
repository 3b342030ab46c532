-- Laws of `specs/Loci.antt`. Assumes nothing.
use Prim.Native.Nat.{ℕ, zero, suc, ◌+◌, ◌-◌, ◌≤◌, ◌<◌}
use mathlib.Core.Path.{◌≡◌, refl, ap, ◌∙◌}
use mathlib.Core.List.{List, [], ◌∷◌, ◌++◌, append_assoc}
use native.Mathlib.Nat.{zero-add, suc-add, add-suc, add-zero}
use native.Mathlib.Omega.{arith}
use lib.ListN.{length}
use Rattle.activity_profile.specs.Loci.{from, loci}
use Rattle.activity_profile.specs.Run.{last_of}

pub length_from : (a n : ℕ) → length (from a n) ≡ n
length_from a zero = refl
length_from a (suc n) = ap suc (length_from (suc a) n)

pub from-append : (a m n : ℕ) → from a (m + n) ≡ from a m ++ from (a + m) n
from-append a zero n = rw (zero-add, add-zero)
from-append a (suc m) n = rw (suc-add, add-suc, ← (suc-add a m)) (ap (λ (l : List ℕ). a ∷ l) (from-append (suc a) m n))

pub length-loci : (a b : ℕ) → length (loci a b) ≡ suc b - a
length-loci a b = length_from a (suc b - a)

-- the loci a to b are n of them, and those from a + n on
pub loci_split : (a b n : ℕ) → 1 ≤ n → a + n ≤ suc b → loci a b ≡ loci a (a + n - 1) ++ loci (a + n) b
loci_split a b n h k =
    let e : suc b - a ≡ n + (suc b - (a + n)) = omega arith in
    let f : suc (a + n - 1) - a ≡ n = omega arith in
    rw (e, f) (from-append a n (suc b - (a + n)))

-- one more locus
pub loci_snoc : (a b : ℕ) → a ≤ suc b → loci a (suc b) ≡ loci a b ++ suc b ∷ []
loci_snoc a b h =
    let e : suc (suc b) - a ≡ (suc b - a) + 1 = omega arith in
    let f : a + (suc b - a) ≡ suc b = omega arith in
    rw e (from-append a (suc b - a) 1 ∙ ap (λ (x : ℕ). loci a b ++ x ∷ []) f)

pub loci_one : (a : ℕ) → loci a a ≡ a ∷ []
loci_one a =
    let e : suc a - a ≡ 1 = omega arith in
    rw e

pub loci-none : (a b : ℕ) → b < a → loci a b ≡ []
loci-none a b h =
    let e : suc b - a ≡ 0 = omega arith in
    rw e

pub last_of_snoc : (l : List ℕ) (x : ℕ) → last_of (l ++ x ∷ []) ≡ x
last_of_snoc [] x = refl
last_of_snoc (y ∷ []) x = refl
last_of_snoc (y ∷ z ∷ l) x = last_of_snoc (z ∷ l) x

pub last_of-loci : (l : List ℕ) (a b : ℕ) → a ≤ b → 1 ≤ b → last_of (l ++ loci a b) ≡ b
last_of-loci l a zero h k = omega arith
last_of-loci l a (suc c) h k = rw (loci_snoc a c h, ← append_assoc) (last_of_snoc (l ++ loci a c) (suc c))
