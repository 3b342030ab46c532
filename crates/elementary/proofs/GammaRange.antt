-- The size of ln_gamma at every double above 0 up to 2 ^ 40. Assumes nothing.
use Rattle.std.specs.Prelude.{refl, true, false, ℕ, suc, ◌+◌, ◌*◌, ◌≤◌, T, Float}
use Rattle.std.proofs.Common.{subst, true≢false, zero-mul, arith, lt→ltb, lit≤}
use Rattle.std.specs.Float.{nan, inf, fin, binary64}
use Rattle.std.specs.Float.Ieee.{up, down, of_bits, add, sub, mul, div, lt, le, fits}
use Rattle.std.specs.Float.Ieee.Fits.{down_pos, add-fits}
use Rattle.std.specs.Float.Ieee.Bits.{is_true}
use Rattle.std.specs.Float.Ieee.Exact.{HasValue}
use Rattle.doubles.specs.Constants.{zero_f, half_f, one_f, sixteen_f}
use Rattle.doubles.specs.Order.{above_of_lt}
use Rattle.doubles.specs.Shift.{AtLeast, at-start, at_turn}
use Rattle.double_ranges.specs.Size.{Size, size_mono, add_size, sub_size, mul_size, div_size, at_of_le}
use Rattle.double_ranges.specs.Constants.{zero_size_lem, half_size, one_size}
use Rattle.double_ranges.specs.Loops as Grow
use Rattle.elementary.specs.declared.Shifted.{Shifted}
use Rattle.elementary.specs.Ln.{ln_of}
use Rattle.elementary.specs.LnGamma.{unshifted, shift, from16, shifted, correction, stirling, ln_gamma_of}
use Rattle.elementary.proofs.Scaling.{gamma_shifts}
use Rattle.elementary.proofs.LnRange.{ln_size, plus-at_least}
use Rattle.elementary.specs.GammaRange.{Turned}

-- ---- finite and above 0, as a program tests it

pub finite_below : (k : ℕ) (x : Float) → Size k x → T (lt x (inf false))
unfolding lt
finite_below k nan p = absurd p
finite_below k (inf s) p = absurd p
finite_below k (fin s m e) p = tt

pub above_zero : (x : Float) → AtLeast 1 x → T (lt zero_f x)
unfolding lt of_bits
above_zero nan p = absurd p
above_zero (inf true) p = absurd (true≢false p)
above_zero (inf false) p = tt
above_zero (fin true m e) p = absurd (true≢false p.0)
above_zero (fin false m e) p = lt→ltb (0 * down e) (m * up e * 1) (omega (arith, p.1, down_pos e, zero-mul (down e)))

-- ---- constants

sixteen_is : HasValue sixteen_f false 16 1
unfolding of_bits
sixteen_is = (refl, refl)

root_size : Size 0 (of_bits binary64 0x3fed_67f1_c864_beb5)
unfolding of_bits
root_size = lit≤ tt

at_1260 : AtLeast 1 (of_bits binary64 0x4093_b000_0000_0000)
unfolding of_bits
at_1260 = (refl, lit≤ tt)

at_1680 : AtLeast 1 (of_bits binary64 0x409a_4000_0000_0000)
unfolding of_bits
at_1680 = (refl, lit≤ tt)

at_360 : AtLeast 1 (of_bits binary64 0x4076_8000_0000_0000)
unfolding of_bits
at_360 = (refl, lit≤ tt)

at_12 : AtLeast 1 (of_bits binary64 0x4028_0000_0000_0000)
unfolding of_bits
at_12 = (refl, lit≤ tt)

-- ---- the shift

turn : (i : ℕ) → i ≤ 16 → (s : Shifted) → Turned i s → Turned (suc i) (shift s)
turn i l s p = record {
  fit = add-fits binary64 s.x one_f;
  above = above_zero (add binary64 s.x one_f) (at_turn 0 s.x (lit≤ tt) (at-start s.x (above_of_lt s.x p.above)));
  x_size = subst (λ (k : ℕ). Size k (add binary64 s.x one_f)) (omega arith) (add_size (40 + i) s.x one_f (omega arith) p.x_size (size_mono 0 (40 + i) one_f (omega arith) one_size));
  c_size = subst (λ (k : ℕ). Size k (add binary64 s.c (ln_of s.x))) (omega arith)
      (add_size (90 + i) s.c (ln_of s.x) (omega arith) p.c_size (size_mono 89 (90 + i) (ln_of s.x) (omega arith) (ln_size s.x p.fit p.above (finite_below (40 + i) s.x p.x_size))));
}

turned : (x : Float) → T (fits binary64 x) → T (lt zero_f x) → Size 40 x → (k : ℕ) × (k ≤ 16) × Turned k (shifted x)
unfolding shifted
turned x t p q =
    Grow.until_grows Turned from16 shift 16 0 (λ i l s e h. turn i (omega arith) s h) (unshifted x)
    (record { fit = t; above = p; x_size = q; c_size = size_mono 0 90 zero_f (lit≤ tt) zero_size_lem })

-- ---- Stirling's line

part : (c : Float) → AtLeast 1 c → Size 0 (div binary64 one_f c)
part c h = div_size 0 one_f c (lit≤ tt) one_size h

correction_size : (v : Float) → Size 0 v → Size 3 (correction v)
unfolding correction
correction_size v p =
    let a = sub binary64 (div binary64 one_f (of_bits binary64 0x4093_b000_0000_0000)) (div binary64 v (of_bits binary64 0x409a_4000_0000_0000)) in
    let b = sub binary64 (div binary64 one_f (of_bits binary64 0x4076_8000_0000_0000)) (mul binary64 v a) in
    let a-size : Size 1 a = sub_size 0 (div binary64 one_f (of_bits binary64 0x4093_b000_0000_0000)) (div binary64 v (of_bits binary64 0x409a_4000_0000_0000)) (lit≤ tt) (part (of_bits binary64 0x4093_b000_0000_0000) at_1260)
    (div_size 0 v (of_bits binary64 0x409a_4000_0000_0000) (lit≤ tt) p at_1680) in
    let b-size : Size 2 b = sub_size 1 (div binary64 one_f (of_bits binary64 0x4076_8000_0000_0000)) (mul binary64 v a) (lit≤ tt)
    (size_mono 0 1 (div binary64 one_f (of_bits binary64 0x4076_8000_0000_0000)) (lit≤ tt) (part (of_bits binary64 0x4076_8000_0000_0000) at_360)) (mul_size 0 1 v a (lit≤ tt) p a-size) in
    sub_size 2 (div binary64 one_f (of_bits binary64 0x4028_0000_0000_0000)) (mul binary64 v b) (lit≤ tt)
    (size_mono 0 2 (div binary64 one_f (of_bits binary64 0x4028_0000_0000_0000)) (lit≤ tt) (part (of_bits binary64 0x4028_0000_0000_0000) at_12)) (mul_size 0 2 v b (lit≤ tt) p b-size)

line_size : (s : Shifted) → T (fits binary64 s.x) → T (lt zero_f s.x) → Size 56 s.x → Size 106 s.c → T (le sixteen_f s.x) → Size 150 (stirling s)
unfolding stirling
line_size s t p q u h =
    let x = s.x in
    let plus = plus-at_least 0 x (at-start x (above_of_lt x p)) in
    let r = div binary64 one_f x in
    let v = mul binary64 r r in
    let d = correction v in
    let first = sub binary64 (mul binary64 (sub binary64 x half_f) (ln_of x)) x in
    let second = add binary64 first (of_bits binary64 0x3fed_67f1_c864_beb5) in
    let r-size : Size 0 r = div_size 0 one_f x (lit≤ tt) one_size (sixteen_one x (at_of_le 16 sixteen_f x sixteen_is plus h)) in
    let first_size : Size 147 first = sub_size 146 (mul binary64 (sub binary64 x half_f) (ln_of x)) x (lit≤ tt)
    (mul_size 57 89 (sub binary64 x half_f) (ln_of x) (lit≤ tt) (sub_size 56 x half_f (lit≤ tt) q (size_mono 0 56 half_f (lit≤ tt) half_size)) (ln_size x t p (finite_below 56 x q)))
    (size_mono 56 146 x (lit≤ tt) q) in
    let second-size : Size 148 second = add_size 147 first (of_bits binary64 0x3fed_67f1_c864_beb5) (lit≤ tt) first_size (size_mono 0 147 (of_bits binary64 0x3fed_67f1_c864_beb5) (lit≤ tt) root_size) in
    sub_size 149 (add binary64 second (mul binary64 r d)) s.c (lit≤ tt)
    (add_size 148 second (mul binary64 r d) (lit≤ tt) second-size (size_mono 3 148 (mul binary64 r d) (lit≤ tt) (mul_size 0 3 r d (lit≤ tt) r-size (correction_size v (mul_size 0 0 r r (lit≤ tt) r-size r-size)))))
    (size_mono 106 149 s.c (lit≤ tt) u)
  where
    sixteen_one : (x : Float) → AtLeast 16 x → AtLeast 1 x
    sixteen_one nan p = absurd p
    sixteen_one (inf s) p = p
    sixteen_one (fin s m e) p = (p.0, omega (arith, p.1))

-- at every double above 0 up to 2 ^ 40 ln_gamma is finite
pub gamma_size : (x : Float) → T (fits binary64 x) → T (lt zero_f x) → Size 40 x → Size 150 (ln_gamma_of x)
unfolding ln_gamma_of
gamma_size x t p q =
    let r = turned x t p q in
    rw (is_true (lt zero_f x) p, is_true (lt x (inf false)) (finite_below 40 x q))
    (line_size (shifted x) r.2.fit r.2.above (size_mono (40 + r.0) 56 (shifted x).x (omega (arith, r.1)) r.2.x_size) (size_mono (90 + r.0) 106 (shifted x).c (omega (arith, r.1)) r.2.c_size) (gamma_shifts x p))
