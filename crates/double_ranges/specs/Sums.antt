-- Sums, and products with a constant: how they lie to what they were made of. Assumes nothing.
use Rattle.std.specs.Prelude.{◌≡◌, refl, Bool, not, ◌&&◌, ◌||◌, cond, ℕ, zero, suc, ◌+◌, ◌-◌, ◌*◌, ◌^◌, ◌≤◌, ◌<◌, T, ltb, eqb, ℤ, Float}
use Rattle.std.proofs.Common.{sym, ap, ◌∙◌, true≢false, zero-le, le_trans, le_of_eq, le_refl, le_of_mul-le-mul_right, zero-lt-suc, zero-mul, mul-pos, mul-le-mul_right, arith, lt→ltb, pow_pos, ltb-false, eq-eqb}
use Rattle.std.proofs.Math.Path.{subst}
use Rattle.std.proofs.Math.Bool.{true, false}
use Rattle.std.specs.Float.Ieee.{nan, binary64, low, emax, unlike, up, down, round, neg, add, sum, mul, div, le, of_bits, fits}
use Rattle.std.specs.Float.{inf, fin}
use Rattle.std.specs.Float.Ieee.Fits.{up_pos, down_pos, neg-fits, and_i}
use Rattle.std.specs.Float.Ieee.Exact.{HasValue, round_exact}
use Rattle.std.specs.Float.Ieee.Back.{round_whole}
use Rattle.std.specs.Float.Ieee.Order.{round_mono, le_of_values}
use Rattle.doubles.specs.Constants.{zero_f}
use Rattle.doubles.specs.Scale.{units_of}
use Rattle.doubles.specs.Shift.{AtLeast}
use Rattle.double_ranges.specs.Order.{AtMost, at_most_of_le, at_most_trans}
use Rattle.double_ranges.specs.Sign.{Plus, round-plus, round-neg, Down, round-down, round_zero, down_zero}
use Rattle.double_ranges.specs.Size.{Size, neg_size, round-at_least, mul_size, div_size}

-- ---- a value that fits is a fraction that `round` leaves as it is

own : (m : ℕ) (e : ℤ) → T (fits binary64 (fin false m e))
    → (a : ℕ) × (c : ℕ) × (0 < c) × HasValue (fin false m e) false a c × HasValue (round binary64 false a c) false a c
own zero e t = (0, 1, zero-lt-suc 0, (refl, omega arith), round_whole binary64 false 0 zero-le)
own (suc m) e t =
    let u = units_of binary64 (fin false (suc m) e) t (lt→ltb 0 (suc m) (zero-lt-suc m)) in
    let l = low binary64 in (
      u.0,
      2 ^ l,
      pow_pos l,
      u.1.value,
      round_exact binary64 false u.0 (2 ^ l) u.1.q u.1.j (pow_pos l) u.1.small (subst (λ (z : ℕ). z < 2 ^ (l + suc (emax binary64))) u.1.written u.2) (ap (λ (z : ℕ). z * 2 ^ l) u.1.written),
    )

-- x / d is a / c, and at most n / k: so is a / c
less : (x d a c n k : ℕ) → 0 < d → x * c ≡ a * d → x * k ≤ n * d → a * k ≤ n * c
less x d a c n k D h l = le_of_mul-le-mul_right (le_trans (le_of_eq (one a k d ∙ ap (λ (z : ℕ). z * k) (sym h) ∙ two x c k)) (le_trans (mul-le-mul_right c l) (le_of_eq (two n d c)))) D
  where
    one : (a k d : ℕ) → a * k * d ≡ a * d * k
    one a k d = omega arith

    two : (x c k : ℕ) → x * c * k ≡ x * k * c
    two x c k = omega arith

more : (x d a c n k : ℕ) → 0 < d → x * c ≡ a * d → n * d ≤ x * k → n * c ≤ a * k
more x d a c n k D h l = le_of_mul-le-mul_right (le_trans (le_of_eq (two n c d)) (le_trans (mul-le-mul_right c l) (le_of_eq (two x k c ∙ ap (λ (z : ℕ). z * k) h ∙ two a d k)))) D
  where
    two : (x c k : ℕ) → x * c * k ≡ x * k * c
    two x c k = omega arith

-- a value at most a fraction is at most what that is rounded to, and a value at least a fraction at least that
pub own_at_most : (m : ℕ) (e : ℤ) (n d : ℕ) → T (fits binary64 (fin false m e)) → 0 < d → m * up e * d ≤ n * down e → AtMost (fin false m e) (round binary64 false n d)
own_at_most m e n d t D h =
    let u = own m e t in
    let r = round binary64 false u.0 u.1 in
    at_most_trans (fin false m e) r (round binary64 false n d)
    (at_most_of_le (fin false m e) r (le_of_values (fin false m e) r u.0 u.1 u.0 u.1 u.2 u.2 u.3 u.4 (le_refl (u.0 * u.1))))
    (at_most_of_le r (round binary64 false n d) (round_mono binary64 u.0 u.1 n d u.2 D (less (m * up e) (down e) u.0 u.1 n d (down_pos e) u.3.1 h)))

pub own_at_least : (m : ℕ) (e : ℤ) (n d : ℕ) → T (fits binary64 (fin false m e)) → 0 < d → n * down e ≤ m * up e * d → AtMost (round binary64 false n d) (fin false m e)
own_at_least m e n d t D h =
    let u = own m e t in
    let r = round binary64 false u.0 u.1 in
    at_most_trans (round binary64 false n d) r (fin false m e)
    (at_most_of_le (round binary64 false n d) r (round_mono binary64 n d u.0 u.1 D u.2 (more (m * up e) (down e) u.0 u.1 n d (down_pos e) u.3.1 h)))
    (at_most_of_le r (fin false m e) (le_of_values r (fin false m e) u.0 u.1 u.0 u.1 u.2 u.2 u.4 u.3 (le_refl (u.0 * u.1))))

-- ---- a sum with what is not negative is no smaller

-- the other sign turns the order round
neg-at_most : (m : ℕ) (e : ℤ) (z : Float) → Plus z → AtMost z (fin false m e) → AtMost (fin true m e) (neg z)
unfolding neg
neg-at_most m e nan p h = absurd p
neg-at_most m e (inf true) p h = absurd (true≢false p)
neg-at_most m e (inf false) p h = absurd h
neg-at_most m e (fin true n d) p h = absurd (true≢false p)
neg-at_most m e (fin false n d) p h = h

negative_at_most : (m : ℕ) (e : ℤ) (z : Float) → Plus z → AtMost (fin true m e) z
negative_at_most m e nan p = absurd p
negative_at_most m e (inf t) p = p
negative_at_most m e (fin true n d) p = absurd (true≢false p)
negative_at_most m e (fin false n d) p = tt

pub add-at_most : (k : ℕ) (x y : Float) → T (fits binary64 x) → Size k x → Size k y → Plus y → AtMost x (add binary64 x y)
unfolding add sum
add-at_most k nan y t p q u = absurd p
add-at_most k (inf s) y t p q u = absurd p
add-at_most k (fin s m e) nan t p q u = absurd q
add-at_most k (fin s m e) (inf r) t p q u = absurd q
add-at_most k (fin s m e) (fin true n d) t p q u = absurd (true≢false u)
add-at_most k (fin false m e) (fin false n d) t p q u =
    own_at_most m e (m * up e * down d + n * up d * down e) (down e * down d) t (mul-pos (down_pos e) (down_pos d)) (part (m * up e) (down e) (down d) (n * up d))
  where
    part : (x e d y : ℕ) → x * (e * d) ≤ (x * d + y * e) * e
    part x e d y = omega arith
add-at_most k (fin true m e) (fin false n d) t p q u = go (ltb a b) (ltb b a) (ltb-false a b)
  where
    a : ℕ
    a = m * up e * down d

    b : ℕ
    b = n * up d * down e

    c : ℕ
    c = down e * down d

    part : (x e d y : ℕ) → (x * d - y) * e ≤ x * (e * d)
    part x e d y = le_trans (mul-le-mul_right e (fewer (x * d) y)) (le_of_eq (sorted x d e))
      where
        fewer : (a b : ℕ) → a - b ≤ a
        fewer a b = omega arith

        sorted : (x d e : ℕ) → x * d * e ≡ x * (e * d)
        sorted x d e = omega arith

    go : (x y : Bool) → (x ≡ false → b ≤ a) → AtMost (fin true m e) (cond x (round binary64 false (b - a) c) (round binary64 y (a - b) c))
    go true y f = negative_at_most m e (round binary64 false (b - a) c) (round-plus binary64 (b - a) c)
    go false false f = negative_at_most m e (round binary64 false (a - b) c) (round-plus binary64 (a - b) c)
    go false true f =
        subst (AtMost (fin true m e)) (sym (round-neg binary64 (a - b) c))
        (neg-at_most m e (round binary64 false (a - b) c) (round-plus binary64 (a - b) c)
        (own_at_least m e (a - b) c (unfold neg in neg-fits binary64 (fin true m e) t) (mul-pos (down_pos e) (down_pos d)) (part (m * up e) (down e) (down d) b)))

-- ---- 1 at least, and what is not negative

pub add-at_least : (k : ℕ) (x y : Float) → AtLeast 1 x → Size k x → Size k y → Plus y → AtLeast 1 (add binary64 x y)
unfolding add sum
add-at_least k nan y p s q u = absurd p
add-at_least k (inf t) y p s q u = absurd s
add-at_least k (fin true m e) y p s q u = absurd (true≢false p.0)
add-at_least k (fin false m e) nan p s q u = absurd q
add-at_least k (fin false m e) (inf t) p s q u = absurd q
add-at_least k (fin false m e) (fin true n d) p s q u = absurd (true≢false u)
add-at_least k (fin false m e) (fin false n d) p s q u =
    round-at_least 1 (m * up e * down d + n * up d * down e) (down e * down d) (pow_pos 53) (mul-pos (down_pos e) (down_pos d)) (part (m * up e) (down e) (down d) (n * up d) p.1)
  where
    part : (x e d y : ℕ) → 1 * e ≤ x → 1 * (e * d) ≤ x * d + y * e
    part x e d y h = le_trans (le_of_eq (first e d)) (le_trans (mul-le-mul_right d h) (rest (x * d) (y * e)))
      where
        first : (e d : ℕ) → 1 * (e * d) ≡ 1 * e * d
        first e d = omega arith

        rest : (a b : ℕ) → a ≤ a + b
        rest a b = omega arith

-- ---- what is not above 0, times what is not negative, is not above 0

eq→eqb : (m n : ℕ) → m ≡ n → T (eqb m n)
eq→eqb m n h = subst T (sym (eq-eqb m n h)) tt

pub down_le : (x : Float) (k : ℕ) → Down x → Size k x → T (le x zero_f)
unfolding le of_bits
down_le nan k p q = absurd q
down_le (inf s) k p q = absurd q
down_le (fin true zero e) k p q = go (ltb 0 (0 * up e * 1 + 0 * down e)) (eqb (0 * up e * 1) (0 * down e)) (eq→eqb (0 * up e * 1) (0 * down e) (omega (arith, zero-mul (up e), zero-mul (down e)))) (eq→eqb (0 * up e * 1) 0 (omega (arith, zero-mul (up e))))
  where
    go : (x y : Bool) → T y → T (eqb (0 * up e * 1) 0) → T (x || (y && (false || eqb (0 * up e * 1) 0)))
    go true y h g = tt
    go false true h g = g
    go false false h g = absurd h
down_le (fin true (suc m) e) k p q = go (ltb 0 (suc m * up e * 1 + 0 * down e)) (lt→ltb 0 (suc m * up e * 1 + 0 * down e) (some (suc m * up e) (down e) (mul-pos (zero-lt-suc m) (up_pos e))))
  where
    some : (x d : ℕ) → 0 < x → 0 < x * 1 + 0 * d
    some x d h = omega arith

    go : (x : Bool) → T x → T (x || (eqb (suc m * up e * 1) (0 * down e) && (false || eqb (suc m * up e * 1) 0)))
    go true h = tt
    go false h = absurd h
down_le (fin false (suc m) e) k p q = absurd (omega (arith, p))
down_le (fin false zero e) k p q = go (ltb (0 * up e * 1) (0 * down e)) (eq→eqb (0 * up e * 1) (0 * down e) (omega (arith, zero-mul (up e), zero-mul (down e))))
  where
    go : (x : Bool) → T (eqb (0 * up e * 1) (0 * down e)) → T (x || (eqb (0 * up e * 1) (0 * down e) && true))
    go true h = tt
    go false h = and_i (eqb (0 * up e * 1) (0 * down e)) true h tt

pub mul_below : (x y : Float) (a b : ℕ) → Down x → Size a x → Plus y → Size b y → Down (mul binary64 x y)
unfolding mul
mul_below nan y a b p s q t = absurd s
mul_below (inf r) y a b p s q t = absurd s
mul_below (fin r m e) nan a b p s q t = absurd t
mul_below (fin r m e) (inf u) a b p s q t = absurd t
mul_below (fin r m e) (fin true n d) a b p s q t = absurd (true≢false q)
mul_below (fin true m e) (fin false n d) a b p s q t = round-down binary64 (m * up e * (n * up d)) (down e * down d)
mul_below (fin false m e) (fin false n d) a b p s q t =
    let h : m * up e * (n * up d) ≡ 0 = rw p (none (up e) (n * up d)) in
    subst (λ (z : ℕ). Down (round binary64 false z (down e * down d))) (sym h) (down_zero (round binary64 false 0 (down e * down d)) false (down e * down d) D (round_zero binary64 false (down e * down d) D))
  where
    none : (u x : ℕ) → 0 * u * x ≡ 0
    none u x = omega arith

    D : 0 < down e * down d
    D = mul-pos (down_pos e) (down_pos d)

pub mul_not_above : (x y : Float) (a b : ℕ) → a + b ≤ 1023 → Down x → Size a x → Plus y → Size b y → T (le (mul binary64 x y) zero_f)
mul_not_above x y a b h p s q t = down_le (mul binary64 x y) (a + b) (mul_below x y a b p s q t) (mul_size a b x y h s t)

-- ---- a quotient by what is -1 at most

back : (x : Float) → neg (neg x) ≡ x
unfolding neg
back nan = refl
back (inf true) = refl
back (inf false) = refl
back (fin true m e) = refl
back (fin false m e) = refl

pub div-neg_size : (k : ℕ) (x y : Float) → k ≤ 1023 → Size k x → AtLeast 1 y → Size k (div binary64 x (neg y))
unfolding div neg
div-neg_size k nan y K p q = absurd p
div-neg_size k (inf s) y K p q = absurd p
div-neg_size k (fin s m e) nan K p q = absurd q
div-neg_size k (fin s m e) (inf t) K p q = zero-le
div-neg_size k (fin s m e) (fin t n d) K p q = other (eqb n 0) (unfold div in div_size k (fin s m e) (fin t n d) K p q)
  where
    other : (z : Bool) → Size k (cond z (cond (eqb m 0) nan (inf (unlike s t))) (round binary64 (unlike s t) (m * up e * down d) (n * up d * down e)))
        → Size k (cond z (cond (eqb m 0) nan (inf (unlike s (not t)))) (round binary64 (unlike s (not t)) (m * up e * down d) (n * up d * down e)))
    other true h = absurd (go (eqb m 0) h)
      where
        go : (b : Bool) → Size k (cond b nan (inf (unlike s t))) → ⊥
        go true h = h
        go false h = h
    other false h = signs (unlike s t) (unlike s (not t)) h
      where
        signs : (a b : Bool) → Size k (round binary64 a (m * up e * down d) (n * up d * down e)) → Size k (round binary64 b (m * up e * down d) (n * up d * down e))
        signs true true h = h
        signs false false h = h
        signs false true h = subst (Size k) (sym (round-neg binary64 (m * up e * down d) (n * up d * down e))) (neg_size k (round binary64 false (m * up e * down d) (n * up d * down e)) h)
        signs true false h = subst (Size k) (back (round binary64 false (m * up e * down d) (n * up d * down e))) (neg_size k (neg (round binary64 false (m * up e * down d) (n * up d * down e))) (subst (Size k) (round-neg binary64 (m * up e * down d) (n * up d * down e)) h))
