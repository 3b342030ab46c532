-- Finite doubles that are 2 ^ -j at least: products, quotients and sums of them. Assumes nothing.
use Rattle.std.specs.Prelude.{◌≡◌, refl, Bool, true, cond, ℕ, zero, suc, ◌+◌, ◌-◌, ◌*◌, ◌^◌, ◌≤◌, ◌<◌, T, eqb, Float}
use Rattle.std.proofs.Common.{sym, ap, subst, ◌∙◌, true≢false, le_trans, le_refl, le_of_eq, le_of_mul-le-mul_right, zero-mul, mul-le-mul, mul-pos, mul-le-mul_right, eqb→eq, lt→ltb, pow_pos, pow-add}
use Rattle.std.proofs.Math.Bool.{false}
use native.Mathlib.Omega.{arith}
use Rattle.std.proofs.Math.Pow.{pow-lt}
use Rattle.std.specs.Float.{nan, inf, fin, binary64}
use Rattle.std.specs.Float.Ieee.{low, emax, prec, unlike, up, down, round, add, sum, mul, div, lt, of_bits}
use Rattle.std.specs.Float.Ieee.Fits.{down_pos}
use Rattle.std.specs.Float.Ieee.Exact.{HasValue, round_exact}
use Rattle.std.specs.Float.Ieee.Order.{round_mono}
use Rattle.doubles.specs.Constants.{zero_f}
use Rattle.double_ranges.specs.Order.{AtMost, at_most_of_le}
use Rattle.double_ranges.specs.Sign.{Plus}
use Rattle.double_ranges.specs.Size.{Size, round_size, add_size}

abbrev pub Least : ℕ → Float → Type 0
Least j nan = ⊥
Least j (inf t) = ⊥
Least j (fin t m e) = (t ≡ false) × (down e ≤ 2 ^ j * (m * up e))

-- 2 ^ -j at least is no 0
none : (a x d : ℕ) → 0 < d → x ≡ 0 → d ≤ a * x → ⊥
none a zero d h e l = omega arith
none a (suc x) d h e l = omega arith

some : (x a c : ℕ) → 0 < c → c ≤ a * x → 0 < x
some zero a c h l = absurd (omega arith)
some (suc x) a c h l = omega arith

pub least_above : (j : ℕ) (x : Float) → Least j x → T (lt zero_f x)
unfolding lt of_bits
least_above j nan p = absurd p
least_above j (inf t) p = absurd p
least_above j (fin true m e) p = absurd (true≢false p.0)
least_above j (fin false m e) p = lt→ltb (0 * down e) (m * up e * 1) (above (m * up e) (down e) (some (m * up e) (2 ^ j) (down e) (down_pos e) p.1))
  where
    above : (x d : ℕ) → 0 < x → 0 * d < x * 1
    above x d h = omega arith

-- ---- what is at least one that is 2 ^ -j at least, and at most one of size 2 ^ k

pub least_up : (j k : ℕ) (w x : Float) → Least j w → AtMost w x → Size k x → Least j x
least_up j k nan x p h q = absurd p
least_up j k (inf t) x p h q = absurd p
least_up j k (fin true m e) x p h q = absurd (true≢false p.0)
least_up j k (fin false m e) nan p h q = absurd q
least_up j k (fin false m e) (inf t) p h q = absurd q
least_up j k (fin false m e) (fin true n d) p h q =
    absurd (none (2 ^ j) (m * up e) (down e) (down_pos e) h.0 p.1)
least_up j k (fin false m e) (fin false n d) p h q =
    (refl, le_of_mul-le-mul_right (le_trans (through (2 ^ j) (m * up e) (down e) (down d) p.1) (le_trans (times (2 ^ j) (m * up e * down d) (n * up d * down e) h) (le_of_eq (sorted (2 ^ j) (n * up d) (down e))))) (down_pos e))
  where
    through : (a x c d : ℕ) → c ≤ a * x → d * c ≤ a * (x * d)
    through a x c d l = le_trans (le_of_eq (flip d c)) (le_trans (mul-le-mul_right d l) (le_of_eq (assoc a x d)))
      where
        flip : (d c : ℕ) → d * c ≡ c * d
        flip d c = omega arith

        assoc : (a x d : ℕ) → a * x * d ≡ a * (x * d)
        assoc a x d = omega arith

    times : (a x y : ℕ) → x ≤ y → a * x ≤ a * y
    times a x y l = mul-le-mul (le_refl a) l

    sorted : (a x c : ℕ) → a * (x * c) ≡ a * x * c
    sorted a x c = omega arith

pub size_down : (k : ℕ) (x w : Float) → Plus x → AtMost x w → Size k w → Size k x
size_down k nan w p h q = absurd p
size_down k (inf true) w p h q = absurd (true≢false p)
size_down k (inf false) nan p h q = absurd h
size_down k (inf false) (inf t) p h q = absurd q
size_down k (inf false) (fin t n d) p h q = absurd h
size_down k (fin true m e) w p h q = absurd (true≢false p)
size_down k (fin false m e) nan p h q = absurd q
size_down k (fin false m e) (inf t) p h q = absurd q
size_down k (fin false m e) (fin true n d) p h q = subst (λ (z : ℕ). z ≤ 2 ^ k * down e) (sym h.0) (omega arith)
size_down k (fin false m e) (fin false n d) p h q =
    le_of_mul-le-mul_right (le_trans h (le_trans (mul-le-mul_right (down e) q) (le_of_eq (sorted (2 ^ k) (down d) (down e))))) (down_pos d)
  where
    sorted : (a x c : ℕ) → a * x * c ≡ a * c * x
    sorted a x c = omega arith

-- ---- what is rounded: a fraction that is 2 ^ -j at least

unit_value : (j : ℕ) → j ≤ low binary64 → HasValue (round binary64 false 1 (2 ^ j)) false 1 (2 ^ j)
unit_value j h =
    round_exact binary64 false 1 (2 ^ j) 1 (low binary64 - j) (pow_pos j) (pow-lt {i = 0} {j = prec binary64} (omega arith))
    (subst (λ (z : ℕ). z < 2 ^ (low binary64 + suc (emax binary64))) (sym (one_times (2 ^ (low binary64 - j)))) (pow-lt {i = low binary64 - j} {j = low binary64 + suc (emax binary64)} (omega arith)))
    (let e : low binary64 ≡ low binary64 - j + j = omega arith in
    ap (λ (z : ℕ). 1 * 2 ^ z) e ∙ one_times (2 ^ (low binary64 - j + j)) ∙ pow-add 2 (low binary64 - j) j ∙ ap (λ (z : ℕ). z * 2 ^ j) (sym (one_times (2 ^ (low binary64 - j)))))
  where
    one_times : (n : ℕ) → 1 * n ≡ n
    one_times n = omega arith

least_of_value : (j : ℕ) (w : Float) → HasValue w false 1 (2 ^ j) → Least j w
least_of_value j nan v = absurd v
least_of_value j (inf t) v = absurd v
least_of_value j (fin t m e) v = (v.0, le_of_eq (fraction (m * up e) (2 ^ j) (down e) v.1))
  where
    fraction : (x a d : ℕ) → x * a ≡ 1 * d → d ≡ a * x
    fraction x a d h = omega arith

pub round_least : (j k n d : ℕ) → j ≤ low binary64 → 0 < d → d ≤ 2 ^ j * n → Size k (round binary64 false n d) → Least j (round binary64 false n d)
round_least j k n d J D h s =
    least_up j k (round binary64 false 1 (2 ^ j)) (round binary64 false n d) (least_of_value j (round binary64 false 1 (2 ^ j)) (unit_value j J))
    (at_most_of_le (round binary64 false 1 (2 ^ j)) (round binary64 false n d) (round_mono binary64 1 (2 ^ j) n d (pow_pos j) D (turned (2 ^ j) n d h))) s
  where
    turned : (a n d : ℕ) → d ≤ a * n → 1 * d ≤ n * a
    turned a n d h = omega arith

-- ---- the operations

pub mul_least : (i j k : ℕ) (x y : Float) → i + j ≤ low binary64 → Least i x → Least j y → Size k (mul binary64 x y) → Least (i + j) (mul binary64 x y)
unfolding mul
mul_least i j k nan y h p q s = absurd p
mul_least i j k (inf t) y h p q s = absurd p
mul_least i j k (fin true m e) y h p q s = absurd (true≢false p.0)
mul_least i j k (fin false m e) nan h p q s = absurd q
mul_least i j k (fin false m e) (inf t) h p q s = absurd q
mul_least i j k (fin false m e) (fin true n d) h p q s = absurd (true≢false q.0)
mul_least i j k (fin false m e) (fin false n d) h p q s =
    round_least (i + j) k (m * up e * (n * up d)) (down e * down d) h (mul-pos (down_pos e) (down_pos d))
    (le_trans (mul-le-mul p.1 q.1) (le_of_eq (crossed (2 ^ i) (m * up e) (2 ^ j) (n * up d) ∙ ap (λ (z : ℕ). z * (m * up e * (n * up d))) (sym (pow-add 2 i j))))) s
  where
    crossed : (a x b y : ℕ) → a * x * (b * y) ≡ a * b * (x * y)
    crossed a x b y = omega arith

-- by what is 2 ^ -j at least
pub div_least_size : (a j : ℕ) (x y : Float) → a + j ≤ 1023 → Size a x → Least j y → Size (a + j) (div binary64 x y)
unfolding div
div_least_size a j nan y h p q = absurd p
div_least_size a j (inf s) y h p q = absurd p
div_least_size a j (fin s m e) nan h p q = absurd q
div_least_size a j (fin s m e) (inf t) h p q = absurd q
div_least_size a j (fin s m e) (fin t n d) h p q = go (eqb n 0) (eqb→eq n 0)
  where
    sorted : (a x b y : ℕ) → a * x * (b * y) ≡ a * b * (y * x)
    sorted a x b y = omega arith

    go : (z : Bool) → (T z → n ≡ 0) → Size (a + j) (cond z (cond (eqb m 0) nan (inf (unlike s t))) (round binary64 (unlike s t) (m * up e * down d) (n * up d * down e)))
    go true f = absurd (omega (arith, some (n * up d) (2 ^ j) (down d) (down_pos d) q.1, ap (λ (z : ℕ). z * up d) (f tt) ∙ zero-mul (up d)))
    go false f =
        round_size (a + j) (unlike s t) (m * up e * down d) (n * up d * down e) h (mul-pos (some (n * up d) (2 ^ j) (down d) (down_pos d) q.1) (down_pos e))
        (le_trans (mul-le-mul p q.1) (le_of_eq (sorted (2 ^ a) (down e) (2 ^ j) (n * up d) ∙ ap (λ (z : ℕ). z * (n * up d * down e)) (sym (pow-add 2 a j)))))

-- by what is above 0 and 1 at most
pub div_least : (i j k : ℕ) (x y : Float) → i ≤ low binary64 → Least i x → Least j y → Size 0 y → Size k (div binary64 x y) → Least i (div binary64 x y)
unfolding div
div_least i j k nan y h p q u s = absurd p
div_least i j k (inf t) y h p q u s = absurd p
div_least i j k (fin true m e) y h p q u s = absurd (true≢false p.0)
div_least i j k (fin false m e) nan h p q u s = absurd q
div_least i j k (fin false m e) (inf t) h p q u s = absurd q
div_least i j k (fin false m e) (fin true n d) h p q u s = absurd (true≢false q.0)
div_least i j k (fin false m e) (fin false n d) h p q u s = go (eqb n 0) (eqb→eq n 0) s
  where
    sorted : (a x y : ℕ) → y * (a * x) ≡ a * (x * y)
    sorted a x y = omega arith

    go : (z : Bool) → (T z → n ≡ 0) → Size k (cond z (cond (eqb m 0) nan (inf false)) (round binary64 false (m * up e * down d) (n * up d * down e)))
        → Least i (cond z (cond (eqb m 0) nan (inf false)) (round binary64 false (m * up e * down d) (n * up d * down e)))
    go true f s = absurd (omega (arith, some (n * up d) (2 ^ j) (down d) (down_pos d) q.1, ap (λ (z : ℕ). z * up d) (f tt) ∙ zero-mul (up d)))
    go false f s =
        round_least i k (m * up e * down d) (n * up d * down e) h (mul-pos (some (n * up d) (2 ^ j) (down d) (down_pos d) q.1) (down_pos e))
        (le_trans (mul-le-mul (one_times (n * up d) (down d) u) p.1) (le_of_eq (sorted (2 ^ i) (m * up e) (down d)))) s
      where
        one_times : (x c : ℕ) → x ≤ 1 * c → x ≤ c
        one_times x c l = omega arith

-- to what is not negative
pub add_least : (a j : ℕ) (x y : Float) → a + 1 ≤ 1023 → j ≤ low binary64 → Size a x → Size a y → Plus x → Least j y → Least j (add binary64 x y)
unfolding add sum
add_least a j nan y h g p q u v = absurd p
add_least a j (inf t) y h g p q u v = absurd p
add_least a j (fin true m e) y h g p q u v = absurd (true≢false u)
add_least a j (fin false m e) nan h g p q u v = absurd q
add_least a j (fin false m e) (inf t) h g p q u v = absurd q
add_least a j (fin false m e) (fin true n d) h g p q u v = absurd (true≢false v.0)
add_least a j (fin false m e) (fin false n d) h g p q u v =
    round_least j (a + 1) (m * up e * down d + n * up d * down e) (down e * down d) g (mul-pos (down_pos e) (down_pos d))
    (le_trans (le_of_eq (flip (down e) (down d))) (le_trans (mul-le-mul_right (down e) v.1) (part (2 ^ j) (m * up e * down d) (n * up d) (down e))))
    (unfold add sum in add_size a (fin false m e) (fin false n d) h p q)
  where
    flip : (x y : ℕ) → x * y ≡ y * x
    flip x y = omega arith

    part : (a x y d : ℕ) → a * y * d ≤ a * (x + y * d)
    part a x y d = omega arith

pub plus_up : (j : ℕ) (w x : Float) → Least j w → AtMost w x → Plus x
plus_up j nan x p h = absurd p
plus_up j (inf t) x p h = absurd p
plus_up j (fin true m e) x p h = absurd (true≢false p.0)
plus_up j (fin false m e) nan p h = absurd h
plus_up j (fin false m e) (inf t) p h = h
plus_up j (fin false m e) (fin false n d) p h = refl
plus_up j (fin false m e) (fin true n d) p h = absurd (none (2 ^ j) (m * up e) (down e) (down_pos e) h.0 p.1)
