-- exp of what is not above 0 is in 0 to 1, as the double that the steps come to; and so is 1 less it. Assumes nothing.
use Rattle.std.specs.Prelude.{refl, ℕ, zero, suc, ◌*◌, ◌^◌, ◌<◌, Bool, true, false, not, cond, ℤ, pos, T, eqb, Float}
use Rattle.std.proofs.Common.{sym, subst, le_trans, le_refl, zero-lt-suc, mul-pos, arith, eqb→eq, nltb→le, lit≤}
use Rattle.std.specs.Float.{nan, inf, fin, binary64}
use Rattle.std.specs.Float.Ieee.{up, down, round, neg, add, sub, mul, div, lt, le, of_bits, of_int, fits}
use Rattle.std.specs.Float.Ieee.Fits.{up_pos, down_pos}
use Rattle.std.specs.Float.Ieee.Exact.{HasValue}
use Rattle.std.specs.Float.Ieee.Back.{round_whole, whole_unique}
use Rattle.lists.specs.Loops as Loops
use Rattle.doubles.specs.Constants.{zero_f, one_f}
use Rattle.doubles.specs.Shift.{AtLeast}
use Rattle.double_ranges.specs.Order.{tested}
use Rattle.double_ranges.specs.Sign.{Plus}
use Rattle.double_ranges.specs.Size.{Size}
use Rattle.double_ranges.specs.Small.{Small, mul_small, div_small, one_plus, one_less, round_small, unit_of_small}
use Rattle.elementary.specs.Exp.{lowest, reduced, exp_term, square, exp_of}

-- what each turn keeps, all keep
pub down_keeps : {S : Type 0} (g : ℕ → S → S) (P : S → Type 0) (n : ℕ) → ((k : ℕ) → k < n → (s : S) → P s → P (g (suc k) s)) → (s : S) → P s → P (Loops.down g n s)
unfolding Loops.down
down_keeps g P zero h s p = p
down_keeps g P (suc n) h s p = down_keeps g P n (λ k l. h k (omega arith)) (g (suc n) s) (h n (le_refl (suc n)) s p)

at_of_value : (x : Float) (k : ℕ) → HasValue x false (suc k) 1 → AtLeast 1 x
at_of_value nan k v = absurd v
at_of_value (inf s) k v = absurd v
at_of_value (fin s m e) k v = (v.0, omega (arith, v.1))

-- a whole number from 1 on
pub whole-at_least : (k : ℕ) → k < 2 ^ 53 → AtLeast 1 (of_int binary64 (pos (suc k)))
unfolding of_int
whole-at_least k h = at_of_value (round binary64 false (suc k) 1) k (round_whole binary64 false (suc k) h)

series_small : (t : Float) → Small true t → (k : ℕ) → k < 18 → (s : Float) → Small false s → Small false (exp_term t (suc k) s)
series_small t p k l s q =
    one_plus (div binary64 (mul binary64 t s) (of_int binary64 (pos (suc k))))
    (div_small binary64 true (mul binary64 t s) (of_int binary64 (pos (suc k))) (mul_small binary64 true false t s p q) (whole-at_least k (le_trans l (lit≤ tt))))

one_small : Small false one_f
unfolding of_bits
one_small = (refl, lit≤ tt)

all_small : (t : Float) → Small true t → Small false (Loops.down square 10 (Loops.down (exp_term t) 18 one_f))
all_small t p =
    down_keeps square (Small false) 10 (λ k l s q. mul_small binary64 false false s s q q) (Loops.down (exp_term t) 18 one_f)
    (down_keeps (exp_term t) (Small false) 18 (series_small t p) one_f one_small)

-- x / 1024, for an x that is not above 0 and not below -700
reduced_small : (m : ℕ) (e : ℤ) → T (not (lt (fin true m e) lowest)) → Small true (reduced (fin true m e))
unfolding lt neg div of_bits
reduced_small m e h =
    round_small binary64 true (m * up e * 1) (1024 * down e) (omega (arith, down_pos e)) (omega (arith, nltb→le (700 * down e) (m * up e * 1) h))

at_zero : Small false (exp_of (fin false 0 (pos 0)))
unfolding exp_of Loops.down of_bits of_int add mul div neg lt
at_zero = (refl, lit≤ tt)

zero_small : Small false zero_f
unfolding of_bits
zero_small = (refl, lit≤ tt)

negative_small : (m : ℕ) (e : ℤ) → Small false (exp_of (fin true m e))
unfolding exp_of
negative_small m e = go (lt (fin true m e) lowest) (reduced_small m e)
  where
    go : (b : Bool) → (T (not b) → Small true (reduced (fin true m e)))
        → Small false (cond b zero_f (Loops.down square 10 (Loops.down (exp_term (reduced (fin true m e))) 18 one_f)))
    go true k = zero_small
    go false k = all_small (reduced (fin true m e)) (k tt)

infinite_small : Small false (exp_of (inf true))
unfolding exp_of of_bits neg lt
infinite_small = (refl, lit≤ tt)

pub exp_small : (x : Float) → T (fits binary64 x) → T (le x zero_f) → Small false (exp_of x)
unfolding le of_bits
exp_small nan t h = absurd h
exp_small (inf true) t h = infinite_small
exp_small (inf false) t h = absurd h
exp_small (fin true m e) t h = negative_small m e
exp_small (fin false zero e) t h = subst (λ (z : Float). Small false (exp_of z)) (sym (whole_unique binary64 (fin false 0 e) (fin false 0 (pos 0)) false 0 t (unfold fits in tt) (refl, omega arith) (refl, refl))) at_zero
exp_small (fin false (suc m) e) t h = absurd (omega (arith, mul-pos (zero-lt-suc m) (up_pos e), tested (suc m * up e * 1) (0 * down e) (eqb (suc m * up e * 1) (0 * down e)) (eqb→eq (suc m * up e * 1) (0 * down e)) h))

-- as a program tests it
pub exp_unit : (x : Float) → T (fits binary64 x) → T (le x zero_f) → T (le zero_f (exp_of x)) × T (le (exp_of x) one_f)
exp_unit x t h = unit_of_small (exp_of x) (exp_small x t h)

pub less_exp_unit : (x : Float) → T (fits binary64 x) → T (le x zero_f) → T (le zero_f (sub binary64 one_f (exp_of x))) × T (le (sub binary64 one_f (exp_of x)) one_f)
less_exp_unit x t h = unit_of_small (sub binary64 one_f (exp_of x)) (one_less (exp_of x) (exp_small x t h))

-- ---- the factor of 10 to x

pub ln10_size : Size 2 (of_bits binary64 0x4002_6bb1_bbb5_5516)
unfolding of_bits
ln10_size = lit≤ tt

pub ln10_plus : Plus (of_bits binary64 0x4002_6bb1_bbb5_5516)
unfolding of_bits
ln10_plus = refl
