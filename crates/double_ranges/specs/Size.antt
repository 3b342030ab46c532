-- Finite doubles of size 2 ^ k at most: what the operations make of them, whatever is rounded. Assumes nothing.
use Rattle.std.specs.Prelude.{◌≡◌, refl, Bool, true, false, ◌&&◌, cond, ℕ, suc, ◌+◌, ◌-◌, ◌*◌, ◌^◌, ◌≤◌, ◌<◌, T, ltb, eqb, ℤ, pos, Float}
use Rattle.std.proofs.Common.{sym, ap, subst, ◌∙◌, true≢false, zero-le, le_trans, le_of_eq, lt_of_lt_of_le, le_of_mul-le-mul_right, mul_assoc, zero-lt-suc, zero-mul, mul-le-mul, mul-pos, mul-le-mul_right, arith, ltb→lt, eqb→eq, pow-add, pow_mono}
use Rattle.std.specs.Bool.{beq}
use Rattle.std.proofs.Math.Pow.{pow-lt}
use Rattle.std.specs.Float.{nan, inf, fin, binary64}
use Rattle.std.specs.Float.Ieee.{low, emax, prec, unlike, up, down, round, neg, sum, add, sub, mul, div, le, of_int}
use Rattle.std.specs.Float.Ieee.Fits.{down_pos}
use Rattle.std.specs.Float.Ieee.Exact.{HasValue, round_exact}
use Rattle.std.specs.Float.Ieee.Back.{round_whole}
use Rattle.std.specs.Float.Ieee.Order.{round_mono}
use Rattle.doubles.specs.Shift.{AtLeast}
use Rattle.double_ranges.specs.Order.{AtMost, tested}
use Rattle.double_ranges.specs.Sign.{Plus, round-plus, round-neg}

abbrev pub Size : ℕ → Float → Type 0
Size k nan = ⊥
Size k (inf t) = ⊥
Size k (fin t m e) = m * up e ≤ 2 ^ k * down e

pub size_mono : (a b : ℕ) (x : Float) → a ≤ b → Size a x → Size b x
size_mono a b nan h p = absurd p
size_mono a b (inf t) h p = absurd p
size_mono a b (fin t m e) h p = le_trans p (mul-le-mul_right (down e) (pow_mono h))

pub neg_size : (k : ℕ) (x : Float) → Size k x → Size k (neg x)
unfolding neg
neg_size k nan p = absurd p
neg_size k (inf t) p = absurd p
neg_size k (fin t m e) p = p

-- ---- what is rounded: a fraction of size 2 ^ k at most

pow_value : (k : ℕ) → k ≤ 1023 → HasValue (round binary64 false (2 ^ k) 1) false (2 ^ k) 1
pow_value k h =
    round_exact binary64 false (2 ^ k) 1 1 (k + low binary64) (zero-lt-suc 0) (pow-lt {i = 0} {j = prec binary64} (omega arith))
    (subst (λ (z : ℕ). z < 2 ^ (low binary64 + suc (emax binary64))) (sym (one_times (2 ^ (k + low binary64)))) (pow-lt {i = k + low binary64} {j = low binary64 + suc (emax binary64)} (omega arith)))
    (sym (pow-add 2 k (low binary64)) ∙ sym (one_times (2 ^ (k + low binary64))) ∙ sym (times_one (1 * 2 ^ (k + low binary64))))
  where
    one_times : (n : ℕ) → 1 * n ≡ n
    one_times n = omega arith

    times_one : (n : ℕ) → n * 1 ≡ n
    times_one n = omega arith

crossed : (m : ℕ) (e : ℤ) (n : ℕ) (d : ℤ) → T (le (fin false m e) (fin false n d)) → m * up e * down d ≤ n * up d * down e
unfolding le
crossed m e n d t = tested (m * up e * down d) (n * up d * down e) (eqb (m * up e * down d) (n * up d * down e)) (eqb→eq (m * up e * down d) (n * up d * down e)) t

size_of-le : (k : ℕ) (z w : Float) → Plus z → HasValue w false (2 ^ k) 1 → T (le z w) → Size k z
unfolding le
size_of-le k nan w p v t = absurd p
size_of-le k (inf s) nan p v t = absurd v
size_of-le k (inf s) (inf u) p v t = absurd v
size_of-le k (inf true) (fin u n d) p v t = absurd (true≢false p)
size_of-le k (inf false) (fin u n d) p v t = absurd t
size_of-le k (fin true m e) w p v t = absurd (true≢false p)
size_of-le k (fin false m e) nan p v t = absurd v
size_of-le k (fin false m e) (inf u) p v t = absurd v
size_of-le k (fin false m e) (fin true n d) p v t = absurd (true≢false v.0)
size_of-le k (fin false m e) (fin false n d) p v t =
    let w : n * up d ≡ 2 ^ k * down d = omega (arith, v.1) in
    le_of_mul-le-mul_right (le_trans (crossed m e n d t) (le_of_eq (ap (λ (z : ℕ). z * down e) w ∙ swapped (2 ^ k) (down d) (down e)))) (down_pos d)
  where
    swapped : (a b c : ℕ) → a * b * c ≡ a * c * b
    swapped a b c = omega arith

plus_size : (k n d : ℕ) → k ≤ 1023 → 0 < d → n ≤ 2 ^ k * d → Size k (round binary64 false n d)
plus_size k n d K D h =
    size_of-le k (round binary64 false n d) (round binary64 false (2 ^ k) 1) (round-plus binary64 n d) (pow_value k K)
    (round_mono binary64 n d (2 ^ k) 1 D (zero-lt-suc 0) (omega arith))

pub round_size : (k : ℕ) (s : Bool) (n d : ℕ) → k ≤ 1023 → 0 < d → n ≤ 2 ^ k * d → Size k (round binary64 s n d)
round_size k false n d K D h = plus_size k n d K D h
round_size k true n d K D h = subst (Size k) (sym (round-neg binary64 n d)) (neg_size k (round binary64 false n d) (plus_size k n d K D h))

-- ---- the operations

-- ±a / c + ±b / c
sum_size : (k : ℕ) (s t : Bool) (a b c : ℕ) → k + 1 ≤ 1023 → 0 < c → a ≤ 2 ^ k * c → b ≤ 2 ^ k * c → Size (k + 1) (sum binary64 s a t b c)
unfolding sum
sum_size k s t a b c K C p q = go (beq s t) (ltb a b)
  where
    twice : 2 ^ (k + 1) * c ≡ 2 ^ k * c + 2 ^ k * c
    twice = ap (λ (z : ℕ). z * c) (pow-add 2 k 1) ∙ doubled (2 ^ k) c
      where
        doubled : (x y : ℕ) → x * 2 * y ≡ x * y + x * y
        doubled x y = omega arith

    go : (x y : Bool) → Size (k + 1) (cond x (round binary64 s (a + b) c) (cond y (round binary64 t (b - a) c) (round binary64 (s && ltb b a) (a - b) c)))
    go true y = round_size (k + 1) s (a + b) c K C (omega (arith, twice))
    go false true = round_size (k + 1) t (b - a) c K C (omega (arith, twice))
    go false false = round_size (k + 1) (s && ltb b a) (a - b) c K C (omega (arith, twice))

pub add_size : (k : ℕ) (x y : Float) → k + 1 ≤ 1023 → Size k x → Size k y → Size (k + 1) (add binary64 x y)
unfolding add
add_size k nan y K p q = absurd p
add_size k (inf s) y K p q = absurd p
add_size k (fin s m e) nan K p q = absurd q
add_size k (fin s m e) (inf t) K p q = absurd q
add_size k (fin s m e) (fin t n d) K p q =
    sum_size k s t (m * up e * down d) (n * up d * down e) (down e * down d) K (mul-pos (down_pos e) (down_pos d))
    (le_trans (mul-le-mul_right (down d) p) (le_of_eq (mul_assoc (2 ^ k) (down e) (down d))))
    (le_trans (mul-le-mul_right (down e) q) (le_of_eq (turned (2 ^ k) (down d) (down e))))
  where
    turned : (a b c : ℕ) → a * b * c ≡ a * (c * b)
    turned a b c = omega arith

pub sub_size : (k : ℕ) (x y : Float) → k + 1 ≤ 1023 → Size k x → Size k y → Size (k + 1) (sub binary64 x y)
unfolding sub
sub_size k x y K p q = add_size k x (neg y) K p (neg_size k y q)

pub mul_size : (a b : ℕ) (x y : Float) → a + b ≤ 1023 → Size a x → Size b y → Size (a + b) (mul binary64 x y)
unfolding mul
mul_size a b nan y K p q = absurd p
mul_size a b (inf s) y K p q = absurd p
mul_size a b (fin s m e) nan K p q = absurd q
mul_size a b (fin s m e) (inf t) K p q = absurd q
mul_size a b (fin s m e) (fin t n d) K p q =
    round_size (a + b) (unlike s t) (m * up e * (n * up d)) (down e * down d) K (mul-pos (down_pos e) (down_pos d))
    (le_trans (mul-le-mul p q) (le_of_eq (crossed (2 ^ a) (down e) (2 ^ b) (down d) ∙ ap (λ (z : ℕ). z * (down e * down d)) (sym (pow-add 2 a b)))))
  where
    crossed : (a b c d : ℕ) → a * b * (c * d) ≡ a * c * (b * d)
    crossed a b c d = omega arith

-- by what is 1 at least
pub div_size : (k : ℕ) (x y : Float) → k ≤ 1023 → Size k x → AtLeast 1 y → Size k (div binary64 x y)
unfolding div
div_size k nan y K p q = absurd p
div_size k (inf s) y K p q = absurd p
div_size k (fin s m e) nan K p q = absurd q
div_size k (fin s m e) (inf t) K p q = zero-le
div_size k (fin s m e) (fin t n d) K p q = go (eqb n 0) (eqb→eq n 0)
  where
    big : down d ≤ n * up d
    big = omega (arith, q.1)

    go : (z : Bool) → (T z → n ≡ 0) → Size k (cond z (cond (eqb m 0) nan (inf (unlike s t))) (round binary64 (unlike s t) (m * up e * down d) (n * up d * down e)))
    go true f = absurd (omega (arith, big, down_pos d, ap (λ (z : ℕ). z * up d) (f tt) ∙ zero-mul (up d)))
    go false f =
        round_size k (unlike s t) (m * up e * down d) (n * up d * down e) K (mul-pos (lt_of_lt_of_le (down_pos d) big) (down_pos e))
        (le_trans (mul-le-mul p big) (le_of_eq (moved (2 ^ k) (down e) (n * up d))))
      where
        moved : (a b c : ℕ) → a * b * c ≡ a * (c * b)
        moved a b c = omega arith

pub whole_size : (k n : ℕ) → k ≤ 1023 → n ≤ 2 ^ k → Size k (of_int binary64 (pos n))
unfolding of_int
whole_size k n K h = round_size k false n 1 K (zero-lt-suc 0) (omega arith)

-- ---- signs of finite values

pub add-plus : (a b : ℕ) (x y : Float) → Size a x → Size b y → Plus x → Plus y → Plus (add binary64 x y)
unfolding add sum
add-plus a b nan y p q u v = absurd p
add-plus a b (inf s) y p q u v = absurd p
add-plus a b (fin s m e) nan p q u v = absurd q
add-plus a b (fin s m e) (inf t) p q u v = absurd q
add-plus a b (fin true m e) (fin t n d) p q u v = absurd (true≢false u)
add-plus a b (fin false m e) (fin true n d) p q u v = absurd (true≢false v)
add-plus a b (fin false m e) (fin false n d) p q u v = round-plus binary64 (m * up e * down d + n * up d * down e) (down e * down d)

pub mul-plus : (a b : ℕ) (x y : Float) → Size a x → Size b y → Plus x → Plus y → Plus (mul binary64 x y)
unfolding mul
mul-plus a b nan y p q u v = absurd p
mul-plus a b (inf s) y p q u v = absurd p
mul-plus a b (fin s m e) nan p q u v = absurd q
mul-plus a b (fin s m e) (inf t) p q u v = absurd q
mul-plus a b (fin true m e) (fin t n d) p q u v = absurd (true≢false u)
mul-plus a b (fin false m e) (fin true n d) p q u v = absurd (true≢false v)
mul-plus a b (fin false m e) (fin false n d) p q u v = round-plus binary64 (m * up e * (n * up d)) (down e * down d)

pub div-plus : (a : ℕ) (x y : Float) → Size a x → Plus x → AtLeast 1 y → Plus (div binary64 x y)
unfolding div
div-plus a nan y p u q = absurd p
div-plus a (inf s) y p u q = absurd p
div-plus a (fin true m e) y p u q = absurd (true≢false u)
div-plus a (fin false m e) nan p u q = absurd q
div-plus a (fin false m e) (inf true) p u q = absurd (true≢false q)
div-plus a (fin false m e) (inf false) p u q = refl
div-plus a (fin false m e) (fin true n d) p u q = absurd (true≢false q.0)
div-plus a (fin false m e) (fin false n d) p u q = go (eqb n 0) (eqb→eq n 0)
  where
    go : (z : Bool) → (T z → n ≡ 0) → Plus (cond z (cond (eqb m 0) nan (inf false)) (round binary64 false (m * up e * down d) (n * up d * down e)))
    go true f = absurd (omega (arith, q.1, down_pos d, ap (λ (z : ℕ). z * up d) (f tt) ∙ zero-mul (up d)))
    go false f = round-plus binary64 (m * up e * down d) (n * up d * down e)

pub sub-plus : (a b : ℕ) (x y : Float) → Size a x → Size b y → Plus x → Plus y → AtMost y x → Plus (sub binary64 x y)
unfolding sub add neg sum
sub-plus a b nan y p q u v h = absurd p
sub-plus a b (inf s) y p q u v h = absurd p
sub-plus a b (fin s m e) nan p q u v h = absurd q
sub-plus a b (fin s m e) (inf t) p q u v h = absurd q
sub-plus a b (fin true m e) (fin t n d) p q u v h = absurd (true≢false u)
sub-plus a b (fin false m e) (fin true n d) p q u v h = absurd (true≢false v)
sub-plus a b (fin false m e) (fin false n d) p q u v h = go (ltb (m * up e * down d) (n * up d * down e)) (ltb→lt (m * up e * down d) (n * up d * down e))
  where
    go : (z : Bool) → (T z → m * up e * down d < n * up d * down e)
        → Plus (cond z (round binary64 true (n * up d * down e - m * up e * down d) (down e * down d)) (round binary64 false (m * up e * down d - n * up d * down e) (down e * down d)))
    go true f = absurd (omega (arith, f tt))
    go false f = round-plus binary64 (m * up e * down d - n * up d * down e) (down e * down d)

-- a fraction that is the whole number k at least rounds to what is k at least
swap : (x y z : ℕ) → x * y * z ≡ x * z * y
swap x y z = omega arith

value : (a b k c : ℕ) → a * b * 1 ≡ k * c → a * b ≡ k * c
value a b k c h = omega arith

pub at_of_le : (k : ℕ) (w z : Float) → HasValue w false k 1 → Plus z → T (le w z) → AtLeast k z
at_of_le k nan z v p t = absurd v
at_of_le k (inf s) z v p t = absurd v
at_of_le k (fin true a b) z v p t = absurd (true≢false v.0)
at_of_le k (fin false a b) nan v p t = absurd p
at_of_le k (fin false a b) (inf s) v p t = p
at_of_le k (fin false a b) (fin true m e) v p t = absurd (true≢false p)
at_of_le k (fin false a b) (fin false m e) v p t =
    (refl, le_of_mul-le-mul_right (le_trans (le_of_eq (swap k (down e) (down b) ∙ ap (λ (z : ℕ). z * down e) (sym (value a (up b) k (down b) v.1)))) (crossed a b m e t)) (down_pos b))

pub round-at_least : (k n d : ℕ) → k ≤ 2 ^ 53 → 0 < d → k * d ≤ n → AtLeast k (round binary64 false n d)
round-at_least k n d L D h =
    at_of_le k (round binary64 false k 1) (round binary64 false n d) (round_whole binary64 false k L) (round-plus binary64 n d) (round_mono binary64 k 1 n d (zero-lt-suc 0) D (omega arith))
