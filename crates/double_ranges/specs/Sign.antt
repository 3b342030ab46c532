-- The sign of what is rounded, of differences and of products. Assumes nothing.
use Rattle.std.specs.Prelude.{◌≡◌, Bool, true, cond, ℕ, zero, suc, ◌+◌, ◌-◌, ◌*◌, ◌^◌, ◌≤◌, ◌<◌, ltb, eqb, ℤ, Float}
use Rattle.std.proofs.Math.Path.{refl}
use Rattle.std.proofs.Common.{sym, ap, subst, ◌∙◌, true≢false, zero-mul, mul-pos, mul-zero, arith, pow_pos, ltb-true, ltb-false, le-ltb}
use Rattle.std.proofs.Math.Bool.{false}
use Rattle.std.specs.Float.{nan, inf, fin, Format, binary64}
use Rattle.std.specs.Float.Ieee.{low, emax, prec, up, down, odd, units, round, neg, sum, add, sub, mul, lt, of_bits}
use Rattle.std.specs.Float.Ieee.Fits.{up_pos, down_pos, round_is}
use Rattle.std.specs.Float.Ieee.Exact.{HasValue, round_exact}
use Rattle.std.specs.Float.Ieee.Order.{drop, kept}
use Rattle.doubles.specs.Constants.{zero_f}
use Rattle.double_ranges.specs.Order.{AtMost}

-- ---- `round` with the other sign

odd_neg : (d q k l : ℕ) → odd d true q k l ≡ neg (odd d false q k l)
unfolding odd neg
odd_neg d zero k l = refl
odd_neg d (suc q) k l = refl

units_neg : (f : Format) (q k : ℕ) → units f true q k ≡ neg (units f false q k)
unfolding units
units_neg f q k = go (ltb (q * 2 ^ k) (2 ^ (low f + suc (emax f))))
  where
    go : (b : Bool) → cond b (odd (suc (prec f)) true q k (low f)) (inf true) ≡ neg (cond b (odd (suc (prec f)) false q k (low f)) (inf false))
    go true = odd_neg (suc (prec f)) q k (low f)
    go false = unfold neg in refl

pub round-neg : (f : Format) (n d : ℕ) → round f true n d ≡ neg (round f false n d)
round-neg f n d = round_is f true n d ∙ units_neg f (kept (prec f) (n * 2 ^ low f) d) (drop (prec f) (n * 2 ^ low f) d) ∙ ap neg (sym (round_is f false n d))

-- ---- a sign that is plus: what is not negative, and +0

abbrev pub Plus : Float → Type 0
Plus nan = ⊥
Plus (inf t) = t ≡ false
Plus (fin t m e) = t ≡ false

odd_plus : (d q k l : ℕ) → Plus (odd d false q k l)
unfolding odd
odd_plus d zero k l = refl
odd_plus d (suc q) k l = refl

units_plus : (f : Format) (q k : ℕ) → Plus (units f false q k)
unfolding units
units_plus f q k = go (ltb (q * 2 ^ k) (2 ^ (low f + suc (emax f))))
  where
    go : (b : Bool) → Plus (cond b (odd (suc (prec f)) false q k (low f)) (inf false))
    go true = odd_plus (suc (prec f)) q k (low f)
    go false = refl

pub round-plus : (f : Format) (n d : ℕ) → Plus (round f false n d)
round-plus f n d = subst Plus (sym (round_is f false n d)) (units_plus f (kept (prec f) (n * 2 ^ low f) d) (drop (prec f) (n * 2 ^ low f) d))

pub plus_not_below : (x : Float) → Plus x → lt x zero_f ≡ false
unfolding lt of_bits
plus_not_below nan p = absurd p
plus_not_below (inf true) p = absurd (true≢false p)
plus_not_below (inf false) p = refl
plus_not_below (fin true m e) p = absurd (true≢false p)
plus_not_below (fin false m e) p = le-ltb (m * up e * 1) (0 * down e) (omega (arith, zero-mul (down e)))

-- ---- not above 0, or NaN

abbrev pub Down : Float → Type 0
Down nan = Unit
Down (inf t) = t ≡ true
Down (fin true m e) = Unit
Down (fin false m e) = m ≡ 0

pub down-neg : (x : Float) → Plus x → Down (neg x)
unfolding neg
down-neg nan p = absurd p
down-neg (inf true) p = absurd (true≢false p)
down-neg (inf false) p = refl
down-neg (fin true m e) p = absurd (true≢false p)
down-neg (fin false m e) p = tt

pub round-down : (f : Format) (n d : ℕ) → Down (round f true n d)
round-down f n d = subst Down (sym (round-neg f n d)) (down-neg (round f false n d) (round-plus f n d))

pub round_zero : (f : Format) (s : Bool) (d : ℕ) → 0 < d → HasValue (round f s 0 d) s 0 d
round_zero f s d D = round_exact f s 0 d 0 0 D (pow_pos (prec f)) (pow_pos (low f + suc (emax f))) (zero-mul (2 ^ low f) ∙ sym (zero-mul d))

pub down_zero : (x : Float) (s : Bool) (d : ℕ) → 0 < d → HasValue x s 0 d → Down x
down_zero nan s d D v = tt
down_zero (inf t) s d D v = absurd v
down_zero (fin true m e) s d D v = tt
down_zero (fin false zero e) s d D v = refl
down_zero (fin false (suc m) e) s d D v = absurd (omega (arith, v.1, mul-pos (mul-pos {m = suc m} (omega arith) (up_pos e)) D))

-- a difference of finite values, the first at most the second, as `sub` works it out
down-less : (f : Format) (a b c : ℕ) → 0 < c → b ≤ a → Down (cond (ltb a b) (round f false (b - a) c) (round f (ltb b a) (a - b) c))
down-less f a b c C h = go (ltb a b) (ltb b a) (ltb-true a b) (ltb-false b a)
  where
    go : (x y : Bool) → (x ≡ true → a < b) → (y ≡ false → a ≤ b) → Down (cond x (round f false (b - a) c) (round f y (a - b) c))
    go true y p q = absurd (omega (arith, p refl))
    go false true p q = round-down f (a - b) c
    go false false p q =
        let e : a - b ≡ 0 = omega (arith, q refl) in
        subst (λ (n : ℕ). Down (round f false n c)) (sym e) (down_zero (round f false 0 c) false c C (round_zero f false c C))

down_more : (f : Format) (a b c : ℕ) → 0 < c → a ≤ b → Down (cond (ltb a b) (round f true (b - a) c) (round f false (a - b) c))
down_more f a b c C h = go (ltb a b) (ltb-false a b)
  where
    go : (x : Bool) → (x ≡ false → b ≤ a) → Down (cond x (round f true (b - a) c) (round f false (a - b) c))
    go true q = round-down f (b - a) c
    go false q =
        let e : a - b ≡ 0 = omega arith in
        subst (λ (n : ℕ). Down (round f false n c)) (sym e) (down_zero (round f false 0 c) false c C (round_zero f false c C))

-- x - y where x is at most y
pub sub-down : (f : Format) (x y : Float) → AtMost x y → Down (sub f x y)
unfolding sub add neg sum
sub-down f nan y p = absurd p
sub-down f (inf s) nan p = absurd p
sub-down f (inf true) (inf true) p = tt
sub-down f (inf true) (inf false) p = refl
sub-down f (inf false) (inf true) p = absurd (true≢false p)
sub-down f (inf false) (inf false) p = tt
sub-down f (inf true) (fin t n d) p = refl
sub-down f (inf false) (fin t n d) p = absurd p
sub-down f (fin s m e) nan p = absurd p
sub-down f (fin s m e) (inf true) p = absurd (true≢false p)
sub-down f (fin s m e) (inf false) p = refl
sub-down f (fin true m e) (fin true n d) p = down-less f (m * up e * down d) (n * up d * down e) (down e * down d) (mul-pos (down_pos e) (down_pos d)) p
sub-down f (fin true m e) (fin false n d) p = round-down f (m * up e * down d + n * up d * down e) (down e * down d)
sub-down f (fin false m e) (fin true n d) p =
    let h : m * up e * down d + n * up d * down e ≡ 0 = rw (p.0, p.1) (omega (arith, zero-mul (down d), zero-mul (down e))) in
    subst (λ (n : ℕ). Down (round f false n (down e * down d))) (sym h)
    (down_zero (round f false 0 (down e * down d)) false (down e * down d) (mul-pos (down_pos e) (down_pos d)) (round_zero f false (down e * down d) (mul-pos (down_pos e) (down_pos d))))
sub-down f (fin false m e) (fin false n d) p = down_more f (m * up e * down d) (n * up d * down e) (down e * down d) (mul-pos (down_pos e) (down_pos d)) p

-- a negative number times what is not above 0
zero_not_below : (x : Float) (s : Bool) (d : ℕ) → 0 < d → HasValue x s 0 d → lt x zero_f ≡ false
unfolding lt of_bits
zero_not_below nan s d D v = refl
zero_not_below (inf t) s d D v = absurd v
zero_not_below (fin false m e) s d D v = plus_not_below (fin false m e) refl
zero_not_below (fin true (suc m) e) s d D v = absurd (omega (arith, v.1, mul-pos (mul-pos {m = suc m} (omega arith) (up_pos e)) D))
zero_not_below (fin true zero e) s d D v = le-ltb 0 (0 * up e * 1 + 0 * down e) (omega (arith, zero-mul (up e), zero-mul (down e)))

pub mul-down : (k : ℕ) (c : ℤ) (x : Float) → Down x → lt (mul binary64 (fin true k c) x) zero_f ≡ false
unfolding mul
mul-down k c nan p = unfold lt in refl
mul-down k c (inf false) p = absurd (true≢false (sym p))
mul-down k c (inf true) p = go (eqb k 0)
  where
    go : (b : Bool) → lt (cond b nan (inf false)) zero_f ≡ false
    go true = unfold lt in refl
    go false = plus_not_below (inf false) refl
mul-down k c (fin true n d) p = plus_not_below (round binary64 false (k * up c * (n * up d)) (down c * down d)) (round-plus binary64 (k * up c * (n * up d)) (down c * down d))
mul-down k c (fin false n d) p =
    let e : k * up c * (n * up d) ≡ 0 = rw (p, zero-mul, mul-zero) refl in
    subst (λ (z : ℕ). lt (round binary64 true z (down c * down d)) zero_f ≡ false) (sym e)
    (zero_not_below (round binary64 true 0 (down c * down d)) true (down c * down d) (mul-pos (down_pos c) (down_pos d)) (round_zero binary64 true (down c * down d) (mul-pos (down_pos c) (down_pos d))))
