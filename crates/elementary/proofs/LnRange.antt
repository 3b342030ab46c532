-- The size of ln at every finite double above 0, and its sign from 1 on. Assumes nothing.
use Rattle.std.specs.Prelude.{◌≡◌, refl, Bool, true, false, not, ◌&&◌, ◌||◌, ℕ, suc, ◌+◌, ◌-◌, ◌*◌, ◌^◌, ◌≤◌, ◌<◌, pos, T, ltb, eqb, Float}
use Rattle.std.proofs.Common.{sym, ap, subst, ◌∙◌, true≢false, le_trans, mul-le-mul_right, zero-mul, arith, ltb→lt, eqb→eq, lit≤, ltb-false, le-ltb}
use Rattle.std.specs.Float.{nan, inf, fin, binary64}
use Rattle.std.specs.Float.Ieee.{up, down, of_bits, of_int, add, sub, mul, div, lt, le, fits}
use Rattle.std.specs.Float.Ieee.Fits.{down_pos}
use Rattle.std.specs.Float.Ieee.Bits.{is_true}
use Rattle.std.specs.Float.Ieee.Exact.{HasValue}
use Rattle.std.specs.Float.Ieee.Back.{round_whole}
use Rattle.lists.specs.Loops.{until_stop}
use Rattle.doubles.specs.Constants.{zero_f, half_f, one_f, two_f}
use Rattle.doubles.specs.Shift.{AtLeast, at_turn}
use Rattle.double_ranges.specs.Order.{AtMost}
use Rattle.double_ranges.specs.Sign.{Plus, round-plus}
use Rattle.double_ranges.specs.Size.{Size, size_mono, add_size, sub_size, mul_size, div_size, whole_size, add-plus, sub-plus, mul-plus, div-plus, round-at_least}
use Rattle.double_ranges.specs.Constants.{one_size, one_plus, two_size, two_plus}
use Rattle.double_ranges.specs.Loops as Grow
use Rattle.elementary.specs.declared.Scaled.{Scaled}
use Rattle.elementary.specs.Ln.{log10_e, unscaled, halve, below2, double, from1, halved, scaled, ratio, first, ln_term, ln_series, exponent, ln_scaled, ln_of, log10_of}
use Rattle.elementary.proofs.Scaling.{ln_scales}
use Rattle.elementary.specs.ExpRange.{whole-at_least}

-- ---- constants

ln2_size : Size 0 (of_bits binary64 0x3fe6_2e42_fefa_39ef)
unfolding of_bits
ln2_size = lit≤ tt

ln2_plus : Plus (of_bits binary64 0x3fe6_2e42_fefa_39ef)
unfolding of_bits
ln2_plus = refl

pub log10_e_size : Size 0 log10_e
unfolding of_bits
log10_e_size = lit≤ tt

log10_e-plus : Plus log10_e
unfolding of_bits
log10_e-plus = refl

thirty_five : AtLeast 1 (of_bits binary64 0x4041_8000_0000_0000)
unfolding of_bits
thirty_five = (refl, lit≤ tt)

-- ---- m, from 1 to 2

pub at_least_one : (x : Float) → T (le one_f x) → AtLeast 1 x
unfolding le of_bits
at_least_one nan t = absurd t
at_least_one (inf true) t = absurd t
at_least_one (inf false) t = refl
at_least_one (fin true m e) t = absurd (go (eqb (1 * down e) (m * up e * 1)) (eqb (1 * down e) 0) (eqb→eq (1 * down e) 0) t)
  where
    go : (x y : Bool) → (T y → 1 * down e ≡ 0) → T (false || (x && (false || y))) → ⊥
    go true true p t = absurd (omega (arith, p tt, down_pos e))
    go true false p t = t
    go false y p t = t
at_least_one (fin false m e) t = (refl, go (ltb (1 * down e) (m * up e * 1)) (eqb (1 * down e) (m * up e * 1)) (ltb→lt (1 * down e) (m * up e * 1)) (eqb→eq (1 * down e) (m * up e * 1)) t)
  where
    go : (x y : Bool) → (T x → 1 * down e < m * up e * 1) → (T y → 1 * down e ≡ m * up e * 1) → T (x || (y && true)) → 1 * down e ≤ m * up e
    go true y p q t = omega (arith, p tt)
    go false true p q t = omega (arith, q tt)
    go false false p q t = absurd t

below_two_size : (x : Float) → AtLeast 1 x → T (lt x two_f) → Size 1 x
unfolding lt of_bits
below_two_size nan p t = absurd p
below_two_size (inf true) p t = absurd (true≢false p)
below_two_size (inf false) p t = absurd t
below_two_size (fin true m e) p t = absurd (true≢false p.0)
below_two_size (fin false m e) p t = omega (arith, ltb→lt (m * up e * 1) (1 * 2 ^ 1 * down e) t)

pub plus-at_least : (k : ℕ) (x : Float) → AtLeast k x → Plus x
plus-at_least k nan p = absurd p
plus-at_least k (inf s) p = p
plus-at_least k (fin s m e) p = p.0

at_less : (j k : ℕ) (x : Float) → j ≤ k → AtLeast k x → AtLeast j x
at_less j k nan h p = absurd p
at_less j k (inf s) h p = p
at_less j k (fin s m e) h p = (p.0, le_trans (times j k (down e) h) p.1)
  where
    times : (j k n : ℕ) → j ≤ k → j * n ≤ k * n
    times j k n h = mul-le-mul_right n h

one_at_most : (x : Float) → AtLeast 1 x → AtMost one_f x
unfolding of_bits
one_at_most nan p = absurd p
one_at_most (inf s) p = p
one_at_most (fin true m e) p = absurd (true≢false p.0)
one_at_most (fin false m e) p = omega (arith, p.1)

-- ---- the series

more : (m : Float) → AtLeast 1 m → AtLeast 1 (add binary64 m one_f)
more m p = at_less 1 2 (add binary64 m one_f) (lit≤ tt) (at_turn 1 m (lit≤ tt) p)

ratio_size : (m : Float) → AtLeast 1 m → Size 1 m → Size 2 (ratio m)
ratio_size m p q = div_size 2 (sub binary64 m one_f) (add binary64 m one_f) (lit≤ tt) (sub_size 1 m one_f (lit≤ tt) q (size_mono 0 1 one_f (lit≤ tt) one_size)) (more m p)

ratio-plus : (m : Float) → AtLeast 1 m → Size 1 m → Plus (ratio m)
ratio-plus m p q =
    div-plus 2 (sub binary64 m one_f) (add binary64 m one_f) (sub_size 1 m one_f (lit≤ tt) q (size_mono 0 1 one_f (lit≤ tt) one_size))
    (sub-plus 1 0 m one_f q one_size (plus-at_least 1 m p) one_plus (one_at_most m p)) (more m p)

part_size : (k : ℕ) → k < 17 → Size 0 (div binary64 one_f (of_int binary64 (pos (2 * suc k - 1))))
part_size k h =
    let e : 2 * suc k - 1 ≡ suc (2 * k) = omega arith in
    subst (λ (n : ℕ). Size 0 (div binary64 one_f (of_int binary64 (pos n)))) (sym e)
    (div_size 0 one_f (of_int binary64 (pos (suc (2 * k)))) (lit≤ tt) one_size (whole-at_least (2 * k) (le_trans (less k h) (lit≤ tt))))
  where
    less : (k : ℕ) → k < 17 → 2 * k < 40
    less k h = omega arith

part-plus : (k : ℕ) → k < 17 → Plus (div binary64 one_f (of_int binary64 (pos (2 * suc k - 1))))
part-plus k h =
    let e : 2 * suc k - 1 ≡ suc (2 * k) = omega arith in
    subst (λ (n : ℕ). Plus (div binary64 one_f (of_int binary64 (pos n)))) (sym e)
    (div-plus 0 one_f (of_int binary64 (pos (suc (2 * k)))) one_size one_plus (whole-at_least (2 * k) (le_trans (less k h) (lit≤ tt))))
  where
    less : (k : ℕ) → k < 17 → 2 * k < 40
    less k h = omega arith

first_size : Size 0 first
first_size = div_size 0 one_f (of_bits binary64 0x4041_8000_0000_0000) (lit≤ tt) one_size thirty_five

first-plus : Plus first
first-plus = div-plus 0 one_f (of_bits binary64 0x4041_8000_0000_0000) one_size one_plus thirty_five

term_size : (u : Float) → Size 4 u → (k i : ℕ) → k < 17 → i < 17 → (s : Float) → Size (5 * i) s → Size (5 * suc i) (ln_term u (suc k) s)
term_size u p k i h l s q =
    subst (λ (a : ℕ). Size a (ln_term u (suc k) s)) (omega arith)
    (add_size (4 + 5 * i) (div binary64 one_f (of_int binary64 (pos (2 * suc k - 1)))) (mul binary64 u s) (omega arith)
    (size_mono 0 (4 + 5 * i) (div binary64 one_f (of_int binary64 (pos (2 * suc k - 1)))) (omega arith) (part_size k h)) (mul_size 4 (5 * i) u s (omega arith) p q))

series_size : (u : Float) → Size 4 u → Size 85 (ln_series u)
series_size u p = Grow.down_grows (λ (i : ℕ) (s : Float). Size (5 * i) s) (ln_term u) 17 0 (λ k i h l s q. term_size u p k i h l s q) first first_size

-- with the sign beside the size
Both : ℕ → Float → Type 0
Both i s = Size (5 * i) s × Plus s

series_plus : (u : Float) → Size 4 u → Plus u → Plus (ln_series u)
unfolding Both
series_plus u p v =
    (Grow.down_grows Both (ln_term u) 17 0 step first (first_size, first-plus)).1
  where
    step : (k i : ℕ) → k < 17 → i < 17 → (s : Float) → Both i s → Both (suc i) (ln_term u (suc k) s)
    step k i h l s q = (
      term_size u p k i h l s q.0,
      add-plus 0 (4 + 5 * i) (div binary64 one_f (of_int binary64 (pos (2 * suc k - 1)))) (mul binary64 u s) (part_size k h) (mul_size 4 (5 * i) u s (omega arith) p q.0) (part-plus k h)
          (mul-plus 4 (5 * i) u s p q.0 v q.1),
    )

-- ---- the counts of the scaling

halvings_few : (y : Float) → ((halved y).halvings ≤ 1074) × ((halved y).doublings ≡ 0)
unfolding halved
halvings_few y =
    let r = Grow.until_grows (λ (i : ℕ) (s : Scaled). (s.halvings ≤ i) × (s.doublings ≡ 0)) below2 halve 1074 0 (λ i l s e p. (omega (arith, p.0), p.1)) (unscaled y) (omega arith, refl) in
    (omega (arith, r.1, r.2.0), r.2.1)

scalings_few : (y : Float) → ((scaled y).halvings ≤ 1074) × ((scaled y).doublings ≤ 1074)
unfolding scaled
scalings_few y =
    let r = Grow.until_grows (λ (i : ℕ) (s : Scaled). (s.doublings ≤ i) × (s.halvings ≡ (halved y).halvings)) from1 double 1074 0 (λ i l s e p. (omega (arith, p.0), p.1)) (halved y)
    (omega (arith, (halvings_few y).1), refl) in
    (omega (arith, r.2.1, (halvings_few y).0), omega (arith, r.1, r.2.0))

exponent_size : (y : Float) → Size 12 (exponent (scaled y))
exponent_size y =
    let f = scalings_few y in
    sub_size 11 (of_int binary64 (pos (scaled y).halvings)) (of_int binary64 (pos (scaled y).doublings)) (lit≤ tt) (whole_size 11 (scaled y).halvings (lit≤ tt) (le_trans f.0 (lit≤ tt)))
    (whole_size 11 (scaled y).doublings (lit≤ tt) (le_trans f.1 (lit≤ tt)))

-- ---- ln

abbrev Scales : Float → Type 0
Scales m = AtLeast 1 m × Size 1 m

product_size : (m : Float) → Scales m → Size 88 (mul binary64 two_f (mul binary64 (ratio m) (ln_series (mul binary64 (ratio m) (ratio m)))))
product_size m p =
    let z = ratio_size m p.0 p.1 in
    mul_size 1 87 two_f (mul binary64 (ratio m) (ln_series (mul binary64 (ratio m) (ratio m)))) (lit≤ tt) two_size
    (mul_size 2 85 (ratio m) (ln_series (mul binary64 (ratio m) (ratio m))) (lit≤ tt) z (series_size (mul binary64 (ratio m) (ratio m)) (mul_size 2 2 (ratio m) (ratio m) (lit≤ tt) z z)))

product_plus : (m : Float) → Scales m → Plus (mul binary64 two_f (mul binary64 (ratio m) (ln_series (mul binary64 (ratio m) (ratio m)))))
product_plus m p =
    let z = ratio_size m p.0 p.1 in
    let w = ratio-plus m p.0 p.1 in
    let u = mul binary64 (ratio m) (ratio m) in
    let s = series_size u (mul_size 2 2 (ratio m) (ratio m) (lit≤ tt) z z) in
    mul-plus 1 87 two_f (mul binary64 (ratio m) (ln_series u)) two_size (mul_size 2 85 (ratio m) (ln_series u) (lit≤ tt) z s) two_plus
    (mul-plus 2 85 (ratio m) (ln_series u) z s w (series_plus u (mul_size 2 2 (ratio m) (ratio m) (lit≤ tt) z z) (mul-plus 2 2 (ratio m) (ratio m) z z w w)))

scales : (y : Float) → T (fits binary64 y) → T (lt zero_f y) → T (lt y (inf false)) → Scales (scaled y).m
scales y t p q =
    let e = ln_scales y t p q in
    let a = at_least_one (scaled y).m e.from_one in
    (a, below_two_size (scaled y).m a e.below_two)

steps : (y : Float) → T (lt zero_f y) → T (lt y (inf false)) → ln_of y ≡ ln_scaled (scaled y)
unfolding ln_of
steps y p q = rw (is_true (lt zero_f y) p, is_true (lt y (inf false)) q) refl

-- at every finite double above 0 ln is finite
pub ln_size : (y : Float) → T (fits binary64 y) → T (lt zero_f y) → T (lt y (inf false)) → Size 89 (ln_of y)
unfolding ln_scaled
ln_size y t p q =
    subst (Size 89) (sym (steps y p q))
    (add_size 88 (mul binary64 (exponent (scaled y)) (of_bits binary64 0x3fe6_2e42_fefa_39ef))
    (mul binary64 two_f (mul binary64 (ratio (scaled y).m) (ln_series (mul binary64 (ratio (scaled y).m) (ratio (scaled y).m))))) (lit≤ tt)
    (size_mono 12 88 (mul binary64 (exponent (scaled y)) (of_bits binary64 0x3fe6_2e42_fefa_39ef)) (lit≤ tt)
    (mul_size 12 0 (exponent (scaled y)) (of_bits binary64 0x3fe6_2e42_fefa_39ef) (lit≤ tt) (exponent_size y) ln2_size))
    (product_size (scaled y).m (scales y t p q)))

-- ---- from 1 on nothing is doubled

half_at_least : (x : Float) → AtLeast 1 x → lt x two_f ≡ false → AtLeast 1 (mul binary64 x half_f)
unfolding lt mul of_bits
half_at_least nan p h = absurd p
half_at_least (inf true) p h = absurd (true≢false p)
half_at_least (inf false) p h = refl
half_at_least (fin true m e) p h = absurd (true≢false p.0)
half_at_least (fin false m e) p h =
    round-at_least 1 (m * up e * (1 * 1)) (down e * 2 ^ 1) (lit≤ tt) (omega (arith, down_pos e)) (omega (arith, ltb-false (m * up e * 1) (1 * 2 ^ 1 * down e) h))

halved-at_least : (y : Float) → AtLeast 1 y → AtLeast 1 (halved y).m
unfolding halved
halved-at_least y p =
    (Grow.until_grows (λ (i : ℕ) (s : Scaled). AtLeast 1 s.m) below2 halve 1074 0 (λ i l s e q. half_at_least s.m q e) (unscaled y) p).2

not_below_one : (x : Float) → AtLeast 1 x → not (lt x one_f) ≡ true
unfolding lt of_bits
not_below_one nan p = absurd p
not_below_one (inf true) p = absurd (true≢false p)
not_below_one (inf false) p = refl
not_below_one (fin true m e) p = absurd (true≢false p.0)
not_below_one (fin false m e) p = ap not (le-ltb (m * up e * 1) (1 * down e) (omega (arith, p.1)))

none_doubled : (y : Float) → AtLeast 1 y → scaled y ≡ halved y
unfolding scaled
none_doubled y p = until_stop from1 double 1074 (halved y) (not_below_one (halved y).m (halved-at_least y p))

zero_at_most : (z x : Float) (k : ℕ) → HasValue z false 0 1 → Size k x → Plus x → AtMost z x
zero_at_most nan x k v p u = absurd v
zero_at_most (inf s) x k v p u = absurd v
zero_at_most (fin true n d) x k v p u = absurd (true≢false v.0)
zero_at_most (fin false n d) nan k v p u = absurd p
zero_at_most (fin false n d) (inf s) k v p u = absurd p
zero_at_most (fin false n d) (fin true m e) k v p u = absurd (true≢false u)
zero_at_most (fin false n d) (fin false m e) k v p u =
    let z : n * up d ≡ 0 = omega (arith, v.1) in
    subst (λ (w : ℕ). w * down e ≤ m * up e * down d) (sym z) (omega (arith, zero-mul (down e)))

whole-plus : (n : ℕ) → Plus (of_int binary64 (pos n))
unfolding of_int
whole-plus n = round-plus binary64 n 1

zero_value : HasValue (of_int binary64 (pos 0)) false 0 1
unfolding of_int
zero_value = round_whole binary64 false 0 (lit≤ tt)

exponent-plus : (y : Float) → AtLeast 1 y → Plus (exponent (scaled y))
exponent-plus y p =
    let f = scalings_few y in
    let d : (scaled y).doublings ≡ 0 = ap (λ (s : Scaled). s.doublings) (none_doubled y p) ∙ (halvings_few y).1 in
    let h = whole_size 11 (scaled y).halvings (lit≤ tt) (le_trans f.0 (lit≤ tt)) in
    subst (λ (n : ℕ). Plus (sub binary64 (of_int binary64 (pos (scaled y).halvings)) (of_int binary64 (pos n)))) (sym d)
    (sub-plus 11 0 (of_int binary64 (pos (scaled y).halvings)) (of_int binary64 (pos 0)) h (whole_size 0 0 (lit≤ tt) (lit≤ tt)) (whole-plus (scaled y).halvings) (whole-plus 0)
    (zero_at_most (of_int binary64 (pos 0)) (of_int binary64 (pos (scaled y).halvings)) 11 zero_value h (whole-plus (scaled y).halvings)))

-- from 1 on ln is not below 0
pub ln_plus : (y : Float) → T (fits binary64 y) → AtLeast 1 y → T (lt zero_f y) → T (lt y (inf false)) → Plus (ln_of y)
unfolding ln_scaled
ln_plus y t a p q =
    let e = mul_size 12 0 (exponent (scaled y)) (of_bits binary64 0x3fe6_2e42_fefa_39ef) (lit≤ tt) (exponent_size y) ln2_size in
    let s = scales y t p q in
    subst Plus (sym (steps y p q))
    (add-plus 12 88 (mul binary64 (exponent (scaled y)) (of_bits binary64 0x3fe6_2e42_fefa_39ef))
    (mul binary64 two_f (mul binary64 (ratio (scaled y).m) (ln_series (mul binary64 (ratio (scaled y).m) (ratio (scaled y).m))))) e (product_size (scaled y).m s)
    (mul-plus 12 0 (exponent (scaled y)) (of_bits binary64 0x3fe6_2e42_fefa_39ef) (exponent_size y) ln2_size (exponent-plus y a) ln2_plus) (product_plus (scaled y).m s))

-- ---- log10

pub log10_size : (y : Float) → T (fits binary64 y) → T (lt zero_f y) → T (lt y (inf false)) → Size 89 (log10_of y)
unfolding log10_of
log10_size y t p q = mul_size 89 0 (ln_of y) log10_e (lit≤ tt) (ln_size y t p q) log10_e_size

pub log10_plus : (y : Float) → T (fits binary64 y) → AtLeast 1 y → T (lt zero_f y) → T (lt y (inf false)) → Plus (log10_of y)
unfolding log10_of
log10_plus y t a p q = mul-plus 89 0 (ln_of y) log10_e (ln_size y t p q) log10_e_size (ln_plus y t a p q) log10_e-plus
