-- The order of doubles of any sign, infinities included. Assumes nothing.
use Rattle.std.specs.Prelude.{◌≡◌, refl, Bool, true, false, ◌&&◌, ◌||◌, ℕ, zero, suc, ◌+◌, ◌*◌, ◌≤◌, ◌<◌, T, ltb, eqb, Float}
use Rattle.std.proofs.Common.{sym, ap, subst, ◌∙◌, true≢false, zero-le, le_trans, le_of_eq, le_of_lt, zero-mul, arith, ltb→lt, eqb→eq, ltb-true, ltb-false, le-ltb}
use Rattle.std.proofs.lemmas.Bool.{false≢true}
use Rattle.std.specs.Float.{nan, inf, fin}
use Rattle.std.specs.Float.Ieee.{up, down, lt, le}
use Rattle.std.specs.Float.Ieee.Fits.{down_pos}
use Rattle.std.specs.Float.Ieee.Positive.{through}

-- x is at most y, and neither is NaN
abbrev pub AtMost : Float → Float → Type 0
AtMost nan y = ⊥
AtMost (inf s) nan = ⊥
AtMost (inf true) (inf t) = Unit
AtMost (inf false) (inf t) = t ≡ false
AtMost (inf true) (fin t n d) = Unit
AtMost (inf false) (fin t n d) = ⊥
AtMost (fin s m e) nan = ⊥
AtMost (fin s m e) (inf t) = t ≡ false
AtMost (fin true m e) (fin true n d) = n * up d * down e ≤ m * up e * down d
AtMost (fin true m e) (fin false n d) = Unit
AtMost (fin false m e) (fin true n d) = (m * up e ≡ 0) × (n * up d ≡ 0)
AtMost (fin false m e) (fin false n d) = m * up e * down d ≤ n * up d * down e

-- a × c is 0, and c is not
none_of : (a c : ℕ) → 0 < c → a * c ≤ 0 → a ≡ 0
none_of zero c h l = refl
none_of (suc a) c h l = absurd (omega arith)

pub at_most_trans : (x y z : Float) → AtMost x y → AtMost y z → AtMost x z
at_most_trans nan y z p q = absurd p
at_most_trans (inf true) nan z p q = absurd p
at_most_trans (inf true) (inf t) nan p q = absurd q
at_most_trans (inf true) (inf t) (inf u) p q = tt
at_most_trans (inf true) (inf t) (fin u k c) p q = tt
at_most_trans (inf true) (fin t n d) nan p q = absurd q
at_most_trans (inf true) (fin t n d) (inf u) p q = tt
at_most_trans (inf true) (fin t n d) (fin u k c) p q = tt
at_most_trans (inf false) nan z p q = absurd p
at_most_trans (inf false) (inf true) z p q = absurd (true≢false p)
at_most_trans (inf false) (inf false) z p q = q
at_most_trans (inf false) (fin t n d) z p q = absurd p
at_most_trans (fin s m e) nan z p q = absurd p
at_most_trans (fin s m e) (inf true) z p q = absurd (true≢false p)
at_most_trans (fin s m e) (inf false) nan p q = absurd q
at_most_trans (fin s m e) (inf false) (inf u) p q = q
at_most_trans (fin s m e) (inf false) (fin u k c) p q = absurd q
at_most_trans (fin s m e) (fin t n d) nan p q = absurd q
at_most_trans (fin s m e) (fin t n d) (inf u) p q = q
at_most_trans (fin true m e) (fin true n d) (fin true k c) p q = through (k * up c) (n * up d) (m * up e) (down c) (down d) (down e) (down_pos d) q p
at_most_trans (fin true m e) (fin t n d) (fin false k c) p q = tt
at_most_trans (fin true m e) (fin false n d) (fin true k c) p q = subst (λ (z : ℕ). z * down e ≤ m * up e * down c) (sym q.1) (subst (λ (z : ℕ). z ≤ m * up e * down c) (sym (zero-mul (down e))) zero-le)
at_most_trans (fin false m e) (fin true n d) (fin true k c) p q = (p.0, none_of (k * up c) (down d) (down_pos d) (le_trans q (le_of_eq (ap (λ (z : ℕ). z * down c) p.1 ∙ zero-mul (down c)))))
at_most_trans (fin false m e) (fin true n d) (fin false k c) p q = subst (λ (z : ℕ). z * down c ≤ k * up c * down e) (sym p.0) (subst (λ (z : ℕ). z ≤ k * up c * down e) (sym (zero-mul (down c))) zero-le)
at_most_trans (fin false m e) (fin false n d) (fin true k c) p q = (none_of (m * up e) (down d) (down_pos d) (le_trans p (le_of_eq (ap (λ (z : ℕ). z * down e) q.0 ∙ zero-mul (down e)))), q.1)
at_most_trans (fin false m e) (fin false n d) (fin false k c) p q = through (m * up e) (n * up d) (k * up c) (down e) (down d) (down c) (down_pos d) p q

-- ---- as a program tests it

abbrev pub Number : Float → Type 0
Number nan = ⊥
Number (inf s) = Unit
Number (fin s m e) = Unit

pub at_most_of_lt : (x y : Float) → lt x y ≡ true → AtMost x y
unfolding lt
at_most_of_lt nan y h = absurd (false≢true h)
at_most_of_lt (inf s) nan h = absurd (false≢true h)
at_most_of_lt (inf true) (inf t) h = tt
at_most_of_lt (inf false) (inf t) h = absurd (false≢true h)
at_most_of_lt (inf true) (fin t n d) h = tt
at_most_of_lt (inf false) (fin t n d) h = absurd (false≢true h)
at_most_of_lt (fin s m e) nan h = absurd (false≢true h)
at_most_of_lt (fin s m e) (inf true) h = absurd (false≢true h)
at_most_of_lt (fin s m e) (inf false) h = refl
at_most_of_lt (fin true m e) (fin true n d) h = le_of_lt (ltb-true (n * up d * down e) (m * up e * down d) h)
at_most_of_lt (fin true m e) (fin false n d) h = tt
at_most_of_lt (fin false m e) (fin true n d) h = absurd (false≢true h)
at_most_of_lt (fin false m e) (fin false n d) h = le_of_lt (ltb-true (m * up e * down d) (n * up d * down e) h)

pub at_most_of_not_lt : (x y : Float) → Number x → Number y → lt x y ≡ false → AtMost y x
unfolding lt
at_most_of_not_lt nan y p q h = absurd p
at_most_of_not_lt (inf s) nan p q h = absurd q
at_most_of_not_lt (inf true) (inf true) p q h = tt
at_most_of_not_lt (inf true) (inf false) p q h = absurd (true≢false h)
at_most_of_not_lt (inf false) (inf true) p q h = tt
at_most_of_not_lt (inf false) (inf false) p q h = refl
at_most_of_not_lt (inf true) (fin t n d) p q h = absurd (true≢false h)
at_most_of_not_lt (inf false) (fin t n d) p q h = refl
at_most_of_not_lt (fin s m e) nan p q h = absurd q
at_most_of_not_lt (fin s m e) (inf true) p q h = tt
at_most_of_not_lt (fin s m e) (inf false) p q h = absurd (true≢false h)
at_most_of_not_lt (fin true m e) (fin true n d) p q h = ltb-false (n * up d * down e) (m * up e * down d) h
at_most_of_not_lt (fin true m e) (fin false n d) p q h =
    let l : m * up e * down d + n * up d * down e ≤ 0 = ltb-false 0 (m * up e * down d + n * up d * down e) h in
    (none_of (n * up d) (down e) (down_pos e) (omega arith), none_of (m * up e) (down d) (down_pos d) (omega arith))
at_most_of_not_lt (fin false m e) (fin true n d) p q h = tt
at_most_of_not_lt (fin false m e) (fin false n d) p q h = ltb-false (m * up e * down d) (n * up d * down e) h

pub at_most_refl : (x : Float) → Number x → AtMost x x
at_most_refl nan p = absurd p
at_most_refl (inf true) p = tt
at_most_refl (inf false) p = refl
at_most_refl (fin true m e) p = le_of_eq refl
at_most_refl (fin false m e) p = le_of_eq refl

pub tested : (a b : ℕ) (y : Bool) → (T y → a ≡ b) → T (ltb a b || (y && true)) → a ≤ b
tested a b y q t = go (ltb a b) y (ltb→lt a b) q t
  where
    go : (x y : Bool) → (T x → a < b) → (T y → a ≡ b) → T (x || (y && true)) → a ≤ b
    go true y p q t = le_of_lt (p tt)
    go false true p q t = le_of_eq (q tt)
    go false false p q t = absurd t

-- ±a <= ±b, as `le` tests it
pub at_most_of_le : (x y : Float) → T (le x y) → AtMost x y
unfolding le
at_most_of_le nan y t = absurd t
at_most_of_le (inf s) nan t = absurd t
at_most_of_le (inf true) (inf t) h = tt
at_most_of_le (inf false) (inf true) h = absurd h
at_most_of_le (inf false) (inf false) h = refl
at_most_of_le (inf true) (fin t n d) h = tt
at_most_of_le (inf false) (fin t n d) h = absurd h
at_most_of_le (fin s m e) nan t = absurd t
at_most_of_le (fin s m e) (inf true) h = absurd h
at_most_of_le (fin s m e) (inf false) h = refl
at_most_of_le (fin true m e) (fin true n d) h = tested (n * up d * down e) (m * up e * down d) (eqb (m * up e * down d) (n * up d * down e)) (λ t. sym (eqb→eq (m * up e * down d) (n * up d * down e) t)) h
at_most_of_le (fin true m e) (fin false n d) h = tt
at_most_of_le (fin false m e) (fin true n d) h =
    go (eqb (m * up e * down d) (n * up d * down e)) (eqb (m * up e * down d) 0) (eqb→eq (m * up e * down d) (n * up d * down e)) (eqb→eq (m * up e * down d) 0) h
  where
    go : (x y : Bool) → (T x → m * up e * down d ≡ n * up d * down e) → (T y → m * up e * down d ≡ 0) → T (false || (x && (false || y))) → (m * up e ≡ 0) × (n * up d ≡ 0)
    go true true p q t = (none_of (m * up e) (down d) (down_pos d) (le_of_eq (q tt)), none_of (n * up d) (down e) (down_pos e) (le_of_eq (sym (p tt) ∙ q tt)))
    go true false p q t = absurd t
    go false y p q t = absurd t
at_most_of_le (fin false m e) (fin false n d) h = tested (m * up e * down d) (n * up d * down e) (eqb (m * up e * down d) (n * up d * down e)) (eqb→eq (m * up e * down d) (n * up d * down e)) h

-- ---- and back

pub at_most_not_lt : (x y : Float) → AtMost y x → lt x y ≡ false
unfolding lt
at_most_not_lt nan y p = refl
at_most_not_lt (inf s) nan p = refl
at_most_not_lt (inf true) (inf true) p = refl
at_most_not_lt (inf true) (inf false) p = absurd (true≢false p)
at_most_not_lt (inf false) (inf t) p = refl
at_most_not_lt (inf true) (fin t n d) p = absurd (true≢false p)
at_most_not_lt (inf false) (fin t n d) p = refl
at_most_not_lt (fin s m e) nan p = refl
at_most_not_lt (fin s m e) (inf true) p = refl
at_most_not_lt (fin s m e) (inf false) p = absurd p
at_most_not_lt (fin true m e) (fin true n d) p = le-ltb (n * up d * down e) (m * up e * down d) p
at_most_not_lt (fin true m e) (fin false n d) p =
    le-ltb 0 (m * up e * down d + n * up d * down e) (omega (arith, ap (λ (z : ℕ). z * down d) p.1 ∙ zero-mul (down d), ap (λ (z : ℕ). z * down e) p.0 ∙ zero-mul (down e)))
at_most_not_lt (fin false m e) (fin true n d) p = refl
at_most_not_lt (fin false m e) (fin false n d) p = le-ltb (m * up e * down d) (n * up d * down e) p

pub number_below : (x y : Float) → AtMost x y → Number x
number_below nan y p = absurd p
number_below (inf s) y p = tt
number_below (fin s m e) y p = tt

pub number-above : (x y : Float) → AtMost x y → Number y
number-above nan y p = absurd p
number-above (inf s) nan p = absurd p
number-above (inf s) (inf t) p = tt
number-above (inf s) (fin t n d) p = tt
number-above (fin s m e) nan p = absurd p
number-above (fin s m e) (inf t) p = tt
number-above (fin s m e) (fin t n d) p = tt

-- below a number that is at most another
pub lt-at_most : (x y z : Float) → lt x y ≡ true → AtMost y z → lt x z ≡ true
lt-at_most x y z h p = go (lt x z) refl
  where
    below : AtMost x y
    below = at_most_of_lt x y h

    go : (b : Bool) → lt x z ≡ b → b ≡ true
    go true e = refl
    go false e = absurd (false≢true (sym (at_most_not_lt x y (at_most_trans y z x p (at_most_of_not_lt x z (number_below x y below) (number-above y z p) e))) ∙ h))

-- what is above another is a number, and so not below itself; and a NaN is below nothing
pub lt_self : (x : Float) → lt x x ≡ false
lt_self x = go (lt x x) refl
  where
    go : (b : Bool) → lt x x ≡ b → b ≡ false
    go true e = sym e ∙ at_most_not_lt x x (at_most_refl x (number-above x x (at_most_of_lt x x e)))
    go false e = refl

-- y is above x, and z is not: y is not at most z
pub not_le_lower : (x y z : Float) → lt x y ≡ true → lt x z ≡ false → le y z ≡ false
not_le_lower x y z h n = go (le y z) refl
  where
    go : (b : Bool) → le y z ≡ b → b ≡ false
    go true e = absurd (true≢false (sym (lt-at_most x y z h (at_most_of_le y z (subst T (sym e) tt))) ∙ n))
    go false e = refl

-- and y is above z, where z is a number
pub above_lower : (x y z : Float) → Number z → lt x y ≡ true → lt x z ≡ false → lt z y ≡ true
above_lower x y z p h n = go (lt z y) refl
  where
    go : (b : Bool) → lt z y ≡ b → b ≡ true
    go true e = refl
    go false e = absurd (true≢false (sym (lt-at_most x y z h (at_most_of_not_lt z y p (number-above x y (at_most_of_lt x y h)) e)) ∙ n))
