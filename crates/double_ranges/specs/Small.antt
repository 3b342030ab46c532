-- Values of size 1 at most, with a sign: products, quotients by what is 1 at least, and 1 less such a value are of size 1 at most too, whatever is
-- rounded. So what a program computes as 1 - z, from a z in 0 to 1, is in 0 to 1. Assumes nothing.
use Rattle.std.specs.Prelude.{◌≡◌, refl, ℕ, ◌+◌, ◌-◌, ◌*◌, ◌≤◌, ◌<◌, Bool, true, false, not, cond, T, ltb, eqb, Float, ℤ}
use Rattle.std.proofs.Common.{sym, ap, ◌∙◌, subst, zero-le, le_trans, le_of_eq, le_of_mul-le-mul_right, mul_comm, lt_of_lt_of_le, zero-lt-suc, zero-mul, mul-le-mul, mul-pos, arith, true≢false, ltb→lt, eqb→eq, pow_pos}
use Rattle.std.specs.Float.{nan, inf, fin, Format, binary64}
use Rattle.std.specs.Float.Ieee.{prec, unlike, up, down, round, neg, sum, add, sub, mul, div, le, of_bits}
use Rattle.std.specs.Float.Ieee.Fits.{down_pos}
use Rattle.std.specs.Float.Ieee.Exact.{HasValue}
use Rattle.std.specs.Float.Ieee.Back.{round_whole}
use Rattle.std.specs.Float.Ieee.Order.{round_mono, le_of_values}
use Rattle.doubles.specs.Constants.{zero_f, one_f}
use Rattle.doubles.specs.Shift.{AtLeast}
use Rattle.double_ranges.specs.Order.{tested, at_most_of_le}
use Rattle.double_ranges.specs.Sign.{Plus, round-plus, round-neg}

abbrev pub Small : Bool → Float → Type 0
Small s nan = ⊥
Small s (inf t) = ⊥
Small s (fin t m e) = (t ≡ s) × (m * up e ≤ down e)

-- ---- a fraction up to 1 rounds to a value up to 1

small_of_le : (z w : Float) → Plus z → HasValue w false 1 1 → T (le z w) → Small false z
unfolding le
small_of_le nan w p v t = absurd p
small_of_le (inf s) nan p v t = absurd v
small_of_le (inf s) (inf u) p v t = absurd v
small_of_le (inf true) (fin u n d) p v t = absurd (true≢false p)
small_of_le (inf false) (fin u n d) p v t = absurd t
small_of_le (fin true m e) w p v t = absurd (true≢false p)
small_of_le (fin false m e) nan p v t = absurd v
small_of_le (fin false m e) (inf u) p v t = absurd v
small_of_le (fin false m e) (fin true n d) p v t = absurd (true≢false v.0)
small_of_le (fin false m e) (fin false n d) p v t =
    let w : n * up d ≡ down d = omega (arith, v.1) in
    (refl, le_of_mul-le-mul_right (le_trans (tested (m * up e * down d) (n * up d * down e) (eqb (m * up e * down d) (n * up d * down e)) (eqb→eq (m * up e * down d) (n * up d * down e)) t) (le_of_eq (ap (λ (z : ℕ). z * down e) w ∙ mul_comm (down d) (down e)))) (down_pos d))

pub neg_small : (s : Bool) (x : Float) → Small s x → Small (not s) (neg x)
unfolding neg
neg_small s nan p = absurd p
neg_small s (inf t) p = absurd p
neg_small s (fin t m e) p = (ap not p.0, p.1)

plus_small : (f : Format) (n d : ℕ) → 0 < d → n ≤ d → Small false (round f false n d)
plus_small f n d D h = small_of_le (round f false n d) (round f false 1 1) (round-plus f n d) (round_whole f false 1 (pow_pos (prec f))) (round_mono f n d 1 1 D (zero-lt-suc 0) (omega arith))

pub round_small : (f : Format) (s : Bool) (n d : ℕ) → 0 < d → n ≤ d → Small s (round f s n d)
round_small f false n d D h = plus_small f n d D h
round_small f true n d D h = subst (Small true) (sym (round-neg f n d)) (neg_small false (round f false n d) (plus_small f n d D h))

-- ---- the operations
pub mul_small : (f : Format) (s t : Bool) (x y : Float) → Small s x → Small t y → Small (unlike s t) (mul f x y)
unfolding mul
mul_small f s t nan y p q = absurd p
mul_small f s t (inf a) y p q = absurd p
mul_small f s t (fin a m e) nan p q = absurd q
mul_small f s t (fin a m e) (inf b) p q = absurd q
mul_small f s t (fin a m e) (fin b n d) p q =
    subst (λ (c : Bool). Small c (round f (unlike a b) (m * up e * (n * up d)) (down e * down d))) (λ i. unlike (p.0 i) (q.0 i))
    (round_small f (unlike a b) (m * up e * (n * up d)) (down e * down d) (mul-pos (down_pos e) (down_pos d)) (mul-le-mul p.1 q.1))

like : (a b s : Bool) → a ≡ s → b ≡ false → unlike a b ≡ s
like a true s p q = absurd (true≢false q)
like true false s p q = p
like false false s p q = p

-- by what is 1 at least
pub div_small : (f : Format) (s : Bool) (x y : Float) → Small s x → AtLeast 1 y → Small s (div f x y)
unfolding div
div_small f s nan y p q = absurd p
div_small f s (inf a) y p q = absurd p
div_small f s (fin a m e) nan p q = absurd q
div_small f s (fin a m e) (inf b) p q = (like a b s p.0 q, zero-le)
div_small f s (fin a m e) (fin b n d) p q = go (eqb n 0) (eqb→eq n 0)
  where
    go : (z : Bool) → (T z → n ≡ 0) → Small s (cond z (cond (eqb m 0) nan (inf (unlike a b))) (round f (unlike a b) (m * up e * down d) (n * up d * down e)))
    go true k = absurd (omega (arith, q.1, down_pos d, ap (λ (z : ℕ). z * up d) (k tt) ∙ zero-mul (up d)))
    go false k =
        subst (λ (c : Bool). Small c (round f (unlike a b) (m * up e * down d) (n * up d * down e))) (like a b s p.0 q.0)
        (round_small f (unlike a b) (m * up e * down d) (n * up d * down e) (mul-pos (lt_of_lt_of_le (down_pos d) (big q.1)) (down_pos e))
        (le_trans (mul-le-mul p.1 (big q.1)) (le_of_eq (mul_comm (down e) (n * up d)))))
      where
        big : 1 * down d ≤ n * up d → down d ≤ n * up d
        big h = omega arith

-- 1 and what is not positive
pub one_plus : (x : Float) → Small true x → Small false (add binary64 one_f x)
unfolding add sum of_bits
one_plus nan p = absurd p
one_plus (inf s) p = absurd p
one_plus (fin false m e) p = absurd (true≢false (sym p.0))
one_plus (fin true m e) p = go (ltb (1 * down e) (m * up e * 1)) (ltb→lt (1 * down e) (m * up e * 1))
  where
    go : (z : Bool) → (T z → 1 * down e < m * up e * 1)
        → Small false (cond z (round binary64 true (m * up e * 1 - 1 * down e) (1 * down e)) (round binary64 false (1 * down e - m * up e * 1) (1 * down e)))
    go true k = absurd (omega (arith, p.1, k tt))
    go false k = round_small binary64 false (1 * down e - m * up e * 1) (1 * down e) (omega (arith, down_pos e)) (omega arith)

pub one_less : (x : Float) → Small false x → Small false (sub binary64 one_f x)
unfolding sub
one_less x p = one_plus (neg x) (neg_small false x p)

-- ---- the program's own test, 0.0 <= x and x <= 1.0, which -0 passes too

zero_is : HasValue zero_f false 0 1
unfolding of_bits
zero_is = (refl, refl)

one_is : HasValue one_f false 1 1
unfolding of_bits
one_is = (refl, refl)

pub unit_of_small : (x : Float) → Small false x → T (le zero_f x) × T (le x one_f)
unit_of_small nan p = absurd p
unit_of_small (inf s) p = absurd p
unit_of_small (fin s m e) p = (
  le_of_values zero_f (fin s m e) 0 1 (m * up e) (down e) (zero-lt-suc 0) (down_pos e) zero_is (p.0, refl) (omega arith),
  le_of_values (fin s m e) one_f (m * up e) (down e) 1 1 (down_pos e) (zero-lt-suc 0) (p.0, refl) one_is (omega (arith, p.1)),
)

-- 1 less what passes that test
less_minus_zero : (m : ℕ) (e : ℤ) → m * up e ≡ 0 → Small false (sub binary64 one_f (fin true m e))
unfolding sub neg add sum of_bits
less_minus_zero m e z = round_small binary64 false (1 * down e + m * up e * 1) (1 * down e) (omega (arith, down_pos e)) (omega (arith, z))

pub one_less_unit : (x : Float) → T (le zero_f x) → T (le x one_f) → Small false (sub binary64 one_f x)
unfolding of_bits
one_less_unit nan p q = absurd (at_most_of_le zero_f nan p)
one_less_unit (inf true) p q = absurd (true≢false (at_most_of_le zero_f (inf true) p))
one_less_unit (inf false) p q = absurd (at_most_of_le (inf false) one_f q)
one_less_unit (fin false m e) p q = one_less (fin false m e) (small_of_le (fin false m e) one_f refl one_is q)
one_less_unit (fin true m e) p q = less_minus_zero m e (at_most_of_le zero_f (fin true m e) p).1
