-- Laws of Rust's `as` from a double to an unsigned number, `to_unsigned`: 0 for a NaN, and the nearest end where the double is out of range.
-- Assumes nothing.
use Rattle.std.specs.Prelude.{◌≡◌, ℕ, suc, ◌+◌, ◌-◌, ◌*◌, ◌/◌, ◌^◌, ◌<◌, ◌≤◌, min, true, false, T, ℤ, pos, negsuc, refl, Float}
use Rattle.std.proofs.Common.{sym, subst, arith, le-div_iff_mul-le, pow_pos, ltb-false}
use Rattle.std.specs.Float.{nan, inf, fin, binary64}
use Rattle.std.specs.Float.Ieee.{of_bits, lt, neg, to_unsigned, up, down}

down_pos : (e : ℤ) → 0 < down e
down_pos (pos k) = omega arith
down_pos (negsuc k) = pow_pos (suc k)

-- not above -1: 0
pub at_zero : (x : Float) → lt (neg (of_bits binary64 0x3ff0_0000_0000_0000)) x ≡ false → to_unsigned 64 x ≡ 0
unfolding lt neg of_bits to_unsigned
at_zero nan h = refl
at_zero (inf true) h = refl
at_zero (inf false) h = absurd (subst T h tt)
at_zero (fin true m e) h = refl
at_zero (fin false m e) h = absurd (omega (arith, down_pos e, ltb-false 0 (1 * down e + m * up e * 1) h))

-- above -1 and not below 2 ^ 64: the last number
pub at_top : (x : Float) → lt (neg (of_bits binary64 0x3ff0_0000_0000_0000)) x ≡ true → lt x (of_bits binary64 0x43f0_0000_0000_0000) ≡ false → to_unsigned 64 x ≡ 18446744073709551615
unfolding lt neg of_bits to_unsigned
at_top nan g h = absurd (subst T (sym g) tt)
at_top (inf true) g h = absurd (subst T (sym g) tt)
at_top (inf false) g h = refl
at_top (fin true m e) g h = absurd (omega (arith, down_pos e, ltb-false 0 (m * up e * 1 + 18446744073709551616 * down e) h))
at_top (fin false m e) g h =
    let below : 18446744073709551616 * down e ≤ m * up e = omega (arith, ltb-false (m * up e * 1) (18446744073709551616 * down e) h) in
    let many : 18446744073709551616 ≤ m * up e / down e = (le-div_iff_mul-le (down_pos e)).1 below in
    omega arith

-- a narrower cast is the widest one, cut
pub narrower : (w : ℕ) (x : Float) → 2 ^ w ≤ 2 ^ 64 → to_unsigned w x ≡ min (to_unsigned 64 x) (2 ^ w - 1)
unfolding to_unsigned
narrower w nan h = omega arith
narrower w (inf true) h = omega arith
narrower w (inf false) h = omega arith
narrower w (fin true m e) h = omega arith
narrower w (fin false m e) h = omega arith
