-- Whether two doubles are one and the same, above 0. As data: of two values that a double can have, that is the test `==` (`test_same`).
-- Assumes nothing.
use Rattle.std.specs.Prelude.{◌≡◌, ℕ, ◌+◌, ◌-◌, ◌*◌, ◌/◌, ◌^◌, ◌<◌, ◌≤◌, Bool, true, false, cond, ◌&&◌, T, ℤ, pos, negsuc, ◌==◌, nat_lt, refl, Float}
use Rattle.std.proofs.Common.{sym, ap, subst, ◌∙◌, mul_right_comm, mul-pos, arith, ltb→lt, eqb→eq, lt→ltb, le→leb}
use Rattle.std.proofs.Math.Dec.{eqb_refl}
use Rattle.std.specs.Float.{nan, inf, fin, Format, binary64}
use Rattle.std.specs.Float.Ieee.{prec, low, up, down, lt, eq, fits, size, hid, top, of_bits, to_bits, of_int, to_unsigned, in_float}
use Rattle.std.specs.Float.Ieee.Back.{unsigned_back}
use Rattle.std.specs.Float.Ieee.Bits.{of_bits-to_bits}
use Rattle.std.specs.Float.Ieee.Fits.{up_pos, down_pos, and_i, and_l, and_r}
use Rattle.std.specs.Float.Ieee.Nearest.{div_same}
use Rattle.std.specs.Float.Ieee.Positive.{above}
use Rattle.doubles.specs.Constants.{zero_f}
use Rattle.doubles.specs.Order.{above_of_lt}

abbrev pub same_exponent : ℤ → ℤ → Bool
same_exponent (pos j) (pos k) = j == k
same_exponent (pos j) (negsuc k) = false
same_exponent (negsuc j) (pos k) = false
same_exponent (negsuc j) (negsuc k) = j == k

unfoldable pub same_positive : Float → Float → Bool
same_positive nan y = false
same_positive (inf s) nan = false
same_positive (inf true) (inf t) = false
same_positive (inf false) (inf true) = false
same_positive (inf false) (inf false) = true
same_positive (inf s) (fin t n d) = false
same_positive (fin s m e) nan = false
same_positive (fin s m e) (inf t) = false
same_positive (fin true m e) (fin t n d) = false
same_positive (fin false m e) (fin true n d) = false
same_positive (fin false m e) (fin false n d) = nat_lt 0 m && (m == n && same_exponent e d)

-- ---- one double

same-exponent : (e d : ℤ) → T (same_exponent e d) → e ≡ d
same-exponent (pos j) (pos k) t = ap pos (eqb→eq j k t)
same-exponent (pos j) (negsuc k) t = absurd t
same-exponent (negsuc j) (pos k) t = absurd t
same-exponent (negsuc j) (negsuc k) t = ap negsuc (eqb→eq j k t)

exponent_same : (e : ℤ) → T (same_exponent e e)
exponent_same (pos j) = eqb_refl j
exponent_same (negsuc j) = eqb_refl j

same_one : (x y : Float) → T (same_positive x y) → x ≡ y
unfolding same_positive
same_one nan y t = absurd t
same_one (inf s) nan t = absurd t
same_one (inf true) (inf u) t = absurd t
same_one (inf false) (inf true) t = absurd t
same_one (inf false) (inf false) t = refl
same_one (inf s) (fin u n d) t = absurd t
same_one (fin s m e) nan t = absurd t
same_one (fin s m e) (inf u) t = absurd t
same_one (fin true m e) (fin u n d) t = absurd t
same_one (fin false m e) (fin true n d) t = absurd t
same_one (fin false m e) (fin false n d) t =
    let rest = and_r (nat_lt 0 m) (m == n && same_exponent e d) t in
    ap (λ (k : ℕ). fin false k e) (eqb→eq m n (and_l (m == n) (same_exponent e d) rest)) ∙ ap (fin false n) (same-exponent e d (and_r (m == n) (same_exponent e d) rest))

pub same_is : (x y : Float) → same_positive x y ≡ true → x ≡ y
same_is x y h = same_one x y (subst T (sym h) tt)

-- no number is the same as a NaN, or as 0.0 and above 0
pub none_is_nan : (x : Float) → same_positive nan x ≡ false
unfolding same_positive
none_is_nan x = refl

pub none_is_zero : (x : Float) → same_positive zero_f x ≡ false
unfolding same_positive of_bits
none_is_zero nan = refl
none_is_zero (inf s) = refl
none_is_zero (fin true n d) = refl
none_is_zero (fin false n d) = refl

-- whole numbers are told apart by their doubles
pub whole_is : (m n : ℕ) → m ≤ 2 ^ 53 → n ≤ 2 ^ 53 → of_int binary64 (pos m) ≡ of_int binary64 (pos n) → m ≡ n
unfolding in_float
whole_is m n h k e =
    sym (unsigned_back binary64 64 m (le→leb m (2 ^ 53) h) (omega (arith, h))).1
    ∙ ap (to_unsigned 64) e
    ∙ (unsigned_back binary64 64 n (le→leb n (2 ^ 53) k) (omega (arith, k))).1

-- ---- as a program tests it

-- a value above 0 is itself, and is above 0
self : (x : Float) → T (lt zero_f x) → T (same_positive x x)
unfolding same_positive
self x t = go x (above_of_lt x t)
  where
    go : (x : Float) → T (above x) → T (same_positive x x)
    go nan a = absurd a
    go (inf true) a = absurd a
    go (inf false) a = tt
    go (fin true m e) a = absurd a
    go (fin false m e) a = and_i (nat_lt 0 m) (m == m && same_exponent e e) a (and_i (m == m) (same_exponent e e) (eqb_refl m) (exponent_same e))

tested : (x : Float) → T (same_positive x x) → T (lt zero_f x && eq x x)
unfolding same_positive lt eq of_bits
tested nan t = absurd t
tested (inf true) t = absurd t
tested (inf false) t = tt
tested (fin true m e) t = absurd t
tested (fin false m e) t =
    let some : 0 < m = ltb→lt 0 m (and_l (nat_lt 0 m) (m == m && same_exponent e e) t) in
    and_i (nat_lt (0 * down e) (m * up e * 1)) (m * up e * down e == m * up e * down e && true)
    (lt→ltb (0 * down e) (m * up e * 1) (omega (arith, mul-pos some (up_pos e))))
    (and_i (m * up e * down e == m * up e * down e) true (eqb_refl (m * up e * down e)) tt)

-- two that are equal have the same bits
bits_of : Format → Bool → ℕ → ℕ
bits_of f s n = let k = size n - prec f in cond s (top f) 0 + k * hid f + n / 2 ^ k

same_bits : (f : Format) (m n : ℕ) (e d : ℤ) → m * up e * down d ≡ n * up d * down e → to_bits f (fin false m e) ≡ to_bits f (fin false n d)
unfolding to_bits bits_of
same_bits f m n e d h =
    ap (bits_of f false) (div_same (m * up e * 2 ^ low f) (down e) (n * up d * 2 ^ low f) (down d) (down_pos e) (down_pos d)
    (mul_right_comm (m * up e) (2 ^ low f) (down d) ∙ ap (λ (z : ℕ). z * 2 ^ low f) h ∙ mul_right_comm (n * up d) (down e) (2 ^ low f)))

equal_one : (x y : Float) → T (fits binary64 x) → T (fits binary64 y) → T (lt zero_f x) → T (eq x y) → x ≡ y
unfolding eq
equal_one x y p q a t = go x y p q (above_of_lt x a) t
  where
    go : (x y : Float) → T (fits binary64 x) → T (fits binary64 y) → T (above x) → T (eq x y) → x ≡ y
    go nan y p q a t = absurd a
    go (inf true) y p q a t = absurd a
    go (inf false) nan p q a t = absurd t
    go (inf false) (inf true) p q a t = absurd t
    go (inf false) (inf false) p q a t = refl
    go (inf false) (fin u n d) p q a t = absurd t
    go (fin true m e) y p q a t = absurd a
    go (fin false m e) nan p q a t = absurd t
    go (fin false m e) (inf u) p q a t = absurd t
    go (fin false m e) (fin true n d) p q a t =
        let some : 0 < m * up e * down d = mul-pos (mul-pos (ltb→lt 0 m a) (up_pos e)) (down_pos d) in
        let none : m * up e * down d ≡ 0 = eqb→eq (m * up e * down d) 0 (and_r (m * up e * down d == n * up d * down e) (m * up e * down d == 0) t) in
        absurd (omega (arith, some, none))
    go (fin false m e) (fin false n d) p q a t =
        let level : m * up e * down d ≡ n * up d * down e = eqb→eq (m * up e * down d) (n * up d * down e) (and_l (m * up e * down d == n * up d * down e) true t) in
        sym (of_bits-to_bits binary64 (fin false m e) p) ∙ ap (of_bits binary64) (same_bits binary64 m n e d level) ∙ of_bits-to_bits binary64 (fin false n d) q

both_ways : (a b : Bool) → (T a → T b) → (T b → T a) → a ≡ b
both_ways true true f g = refl
both_ways true false f g = absurd (f tt)
both_ways false true f g = absurd (g tt)
both_ways false false f g = refl

pub test_same : (x y : Float) → T (fits binary64 x) → T (fits binary64 y) → (lt zero_f x && eq x y) ≡ same_positive x y
test_same x y p q = both_ways (lt zero_f x && eq x y) (same_positive x y) there back
  where
    there : T (lt zero_f x && eq x y) → T (same_positive x y)
    there t =
        let above_zero = and_l (lt zero_f x) (eq x y) t in
        subst (λ (z : Float). T (same_positive x z)) (equal_one x y p q above_zero (and_r (lt zero_f x) (eq x y) t)) (self x above_zero)

    back : T (same_positive x y) → T (lt zero_f x && eq x y)
    back t =
        let one = same_one x y t in
        subst (λ (z : Float). T (lt zero_f x && eq x z)) one (tested x (subst (λ (z : Float). T (same_positive x z)) (sym one) t))
