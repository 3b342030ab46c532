-- Quotients by what is above 0, squares, and sums that are no smaller than their second term. Assumes nothing.
use Rattle.std.specs.Prelude.{◌≡◌, refl, Bool, true, false, cond, ℕ, zero, suc, ◌+◌, ◌-◌, ◌*◌, ◌^◌, ◌≤◌, ◌<◌, T, eqb, ℤ, pos, Float}
use Rattle.std.proofs.Common.{sym, ap, subst, ◌∙◌, true≢false, zero-mul, mul-pos, le_refl, arith, eqb→eq, le-ltb}
use Rattle.std.specs.Float.{nan, inf, fin, binary64}
use Rattle.std.specs.Float.Ieee.{low, up, down, unlike, round, neg, sum, add, sub, mul, div, fits, of_bits}
use Rattle.std.specs.Float.Ieee.Fits.{down_pos, round-fits}
use Rattle.std.specs.Float.Ieee.Back.{whole_unique}
use Rattle.std.specs.Float.Ieee.Exact.{HasValue}
use Rattle.doubles.specs.Constants.{zero_f, one_f}
use Rattle.double_ranges.specs.Order.{AtMost}
use Rattle.double_ranges.specs.Sign.{Plus, Down, round-plus, round-down, round_zero, down_zero}
use Rattle.double_ranges.specs.Size.{Size}
use Rattle.double_ranges.specs.Small.{Small, round_small}
use Rattle.double_ranges.specs.Least.{Least, round_least}
use Rattle.double_ranges.specs.Sums.{own_at_most}

-- ---- the quotient of x by y, where y is above 0: `div` does not ask whether y is 0

some : (x a c : ℕ) → 0 < c → c ≤ a * x → 0 < x
some zero a c h l = absurd (omega arith)
some (suc x) a c h l = omega arith

numerator : (j n : ℕ) (d : ℤ) → down d ≤ 2 ^ j * (n * up d) → 0 < n * up d
numerator j n d l = some (n * up d) (2 ^ j) (down d) (down_pos d) l

quotient : (j : ℕ) (P : Float → Type 0) (s : Bool) (m : ℕ) (e : ℤ) (n : ℕ) (d : ℤ) → Least j (fin false n d)
    → P (round binary64 (unlike s false) (m * up e * down d) (n * up d * down e)) → P (div binary64 (fin s m e) (fin false n d))
unfolding div
quotient j P s m e n d q p = go (eqb n 0) (eqb→eq n 0)
  where
    go : (z : Bool) → (T z → n ≡ 0) → P (cond z (cond (eqb m 0) nan (inf (unlike s false))) (round binary64 (unlike s false) (m * up e * down d) (n * up d * down e)))
    go true f = absurd (omega (arith, numerator j n d q.1, ap (λ (z : ℕ). z * up d) (f tt) ∙ zero-mul (up d)))
    go false f = p

pub div-above-plus : (a j : ℕ) (x y : Float) → Size a x → Plus x → Least j y → Plus (div binary64 x y)
div-above-plus a j nan y p u q = absurd p
div-above-plus a j (inf s) y p u q = absurd p
div-above-plus a j (fin true m e) y p u q = absurd (true≢false u)
div-above-plus a j (fin false m e) nan p u q = absurd q
div-above-plus a j (fin false m e) (inf t) p u q = absurd q
div-above-plus a j (fin false m e) (fin true n d) p u q = absurd (true≢false q.0)
div-above-plus a j (fin false m e) (fin false n d) p u q = quotient j Plus false m e n d q (round-plus binary64 (m * up e * down d) (n * up d * down e))

pub div-above-down : (a j : ℕ) (x y : Float) → Size a x → Down x → Least j y → Down (div binary64 x y)
div-above-down a j nan y p u q = absurd p
div-above-down a j (inf s) y p u q = absurd p
div-above-down a j (fin s m e) nan p u q = absurd q
div-above-down a j (fin s m e) (inf t) p u q = absurd q
div-above-down a j (fin s m e) (fin true n d) p u q = absurd (true≢false q.0)
div-above-down a j (fin true m e) (fin false n d) p u q = quotient j Down true m e n d q (round-down binary64 (m * up e * down d) (n * up d * down e))
div-above-down a j (fin false m e) (fin false n d) p u q =
    let none : m * up e * down d ≡ 0 = rw u (omega (arith, zero-mul (up e), zero-mul (down d))) in
    let below = mul-pos (numerator j n d q.1) (down_pos e) in
    quotient j Down false m e n d q
    (subst (λ (k : ℕ). Down (round binary64 false k (n * up d * down e))) (sym none)
    (down_zero (round binary64 false 0 (n * up d * down e)) false (n * up d * down e) below (round_zero binary64 false (n * up d * down e) below)))

-- of what is at most y it is in 0 to 1
pub div_unit : (a j : ℕ) (x y : Float) → Size a x → Plus x → Least j y → AtMost x y → Small false (div binary64 x y)
div_unit a j nan y p u q h = absurd p
div_unit a j (inf s) y p u q h = absurd p
div_unit a j (fin true m e) y p u q h = absurd (true≢false u)
div_unit a j (fin false m e) nan p u q h = absurd q
div_unit a j (fin false m e) (inf t) p u q h = absurd q
div_unit a j (fin false m e) (fin true n d) p u q h = absurd (true≢false q.0)
div_unit a j (fin false m e) (fin false n d) p u q h =
    quotient j (Small false) false m e n d q (round_small binary64 false (m * up e * down d) (n * up d * down e) (mul-pos (numerator j n d q.1) (down_pos e)) h)

-- 1 / y is no smaller than 2 ^ -k where y is no larger than 2 ^ k
pub inverse_least : (i j k : ℕ) (y : Float) → k ≤ low binary64 → Least j y → Size k y → Size i (div binary64 one_f y) → Least k (div binary64 one_f y)
unfolding of_bits
inverse_least i j k nan h q p s = absurd q
inverse_least i j k (inf t) h q p s = absurd q
inverse_least i j k (fin true n d) h q p s = absurd (true≢false q.0)
inverse_least i j k (fin false n d) h q p s =
    quotient j (λ (z : Float). Size i z → Least k z) false 1 (pos 0) n d q
    (λ r. round_least k i (1 * up (pos 0) * down d) (n * up d * down (pos 0)) h (mul-pos (numerator j n d q.1) (down_pos (pos 0))) (turned (n * up d) (2 ^ k) (down d) p) r) s
  where
    turned : (x a c : ℕ) → x ≤ a * c → x * 1 ≤ a * (1 * 1 * c)
    turned x a c l = omega (arith, l)

-- ---- a square

pub square-plus : (a : ℕ) (x : Float) → Size a x → Plus (mul binary64 x x)
unfolding mul
square-plus a nan p = absurd p
square-plus a (inf s) p = absurd p
square-plus a (fin true m e) p = round-plus binary64 (m * up e * (m * up e)) (down e * down e)
square-plus a (fin false m e) p = round-plus binary64 (m * up e * (m * up e)) (down e * down e)

-- ---- nothing

-- a zero is written in one way
pub round-none : (s : Bool) (d : ℕ) → 0 < d → round binary64 s 0 d ≡ fin s 0 (pos 0)
unfolding fits
round-none s d h = whole_unique binary64 (round binary64 s 0 d) (fin s 0 (pos 0)) s 0 (round-fits binary64 s 0 d) tt (one (round binary64 s 0 d) (round_zero binary64 s d h)) (refl, refl)
  where
    one : (x : Float) → HasValue x s 0 d → HasValue x s 0 1
    one nan v = absurd v
    one (inf t) v = absurd v
    one (fin t m e) v = (v.0, whole (m * up e) d (down e) h v.1)
      where
        whole : (x d c : ℕ) → 0 < d → x * d ≡ 0 * c → x * 1 ≡ 0 * c
        whole zero d c h v = omega (arith, zero-mul c)
        whole (suc x) d c h v = absurd (omega (arith, v, zero-mul c, mul-pos {m = suc x} (omega arith) h))

-- nothing by what is above 0
pub none_over : (j : ℕ) (y : Float) → Least j y → div binary64 (fin true 0 (pos 0)) y ≡ fin true 0 (pos 0)
none_over j nan q = absurd q
none_over j (inf t) q = absurd q
none_over j (fin true n d) q = absurd (true≢false q.0)
none_over j (fin false n d) q =
    let none : 0 * up (pos 0) * down d ≡ 0 = omega (arith, zero-mul (down d)) in
    quotient j (λ (z : Float). z ≡ fin true 0 (pos 0)) true 0 (pos 0) n d q
    (subst (λ (k : ℕ). round binary64 true k (n * up d * down (pos 0)) ≡ fin true 0 (pos 0)) (sym none) (round-none true (n * up d * down (pos 0)) (mul-pos (numerator j n d q.1) (down_pos (pos 0)))))

pub sub_self : (a : ℕ) (x : Float) → Size a x → sub binary64 x x ≡ zero_f
unfolding sub add neg sum of_bits
sub_self a nan p = absurd p
sub_self a (inf s) p = absurd p
sub_self a (fin true m e) p =
    let n = m * up e * down e in
    let same : n - n ≡ 0 = omega arith in
    rw (le-ltb n n (le_refl n), same) (round-none false (down e * down e) (mul-pos (down_pos e) (down_pos e)))
sub_self a (fin false m e) p =
    let n = m * up e * down e in
    let same : n - n ≡ 0 = omega arith in
    rw (le-ltb n n (le_refl n), same) (round-none false (down e * down e) (mul-pos (down_pos e) (down_pos e)))

-- nothing times what is finite, of either sign
none-times : (t : Bool) (n : ℕ) (d : ℤ) → mul binary64 zero_f (fin t n d) ≡ fin t 0 (pos 0)
unfolding mul of_bits
none-times true n d = rw (zero-mul (n * up d)) (round-none true (down (pos 0) * down d) (mul-pos (down_pos (pos 0)) (down_pos d)))
none-times false n d = rw (zero-mul (n * up d)) (round-none false (down (pos 0) * down d) (mul-pos (down_pos (pos 0)) (down_pos d)))

none-less : (t : Bool) → sub binary64 zero_f (fin t 0 (pos 0)) ≡ zero_f
unfolding sub add neg sum of_bits round
none-less true = refl
none-less false = refl

-- .. taken off nothing
pub none-less-none : (a : ℕ) (x : Float) → Size a x → sub binary64 zero_f (mul binary64 zero_f x) ≡ zero_f
none-less-none a nan p = absurd p
none-less-none a (inf s) p = absurd p
none-less-none a (fin t n d) p = ap (sub binary64 zero_f) (none-times t n d) ∙ none-less t

-- ---- a sum of what is not negative is no smaller than its second term

pub add-second : (a b : ℕ) (x y : Float) → T (fits binary64 y) → Size a x → Plus x → Size b y → Plus y → AtMost y (add binary64 x y)
unfolding add sum
add-second a b nan y t p u q v = absurd p
add-second a b (inf s) y t p u q v = absurd p
add-second a b (fin s m e) nan t p u q v = absurd q
add-second a b (fin s m e) (inf r) t p u q v = absurd q
add-second a b (fin true m e) (fin r n d) t p u q v = absurd (true≢false u)
add-second a b (fin false m e) (fin true n d) t p u q v = absurd (true≢false v)
add-second a b (fin false m e) (fin false n d) t p u q v =
    own_at_most n d (m * up e * down d + n * up d * down e) (down e * down d) t (mul-pos (down_pos e) (down_pos d)) (part (m * up e) (down e) (down d) (n * up d))
  where
    part : (x e d y : ℕ) → y * (e * d) ≤ (x * d + y * e) * d
    part x e d y = omega arith
