-- A value above zero, an infinity included, and 1 added to it until it is 16 at least: 16 turns are enough.
-- Assumes nothing.
use Rattle.std.specs.Prelude.{◌≡◌, ℕ, suc, ◌+◌, ◌*◌, ◌^◌, ◌≤◌, ◌<◌, Bool, true, false, not, T, Float}
use Rattle.std.proofs.Math.Path.{refl, subst}
use Rattle.std.proofs.Common.{sym, zero-le, zero-lt-suc, mul-one, zero-mul, arith, true≢false}
use Rattle.std.proofs.Math.Arith.{le→nltb}
use Rattle.std.specs.Float.{nan, inf, fin, binary64}
use Rattle.std.specs.Float.Ieee.{up, down, round, add, lt, le, of_bits}
use Rattle.std.specs.Float.Ieee.Bits.{is_true}
use Rattle.std.specs.Float.Ieee.Fits.{down_pos}
use Rattle.std.specs.Float.Ieee.Exact.{HasValue}
use Rattle.std.specs.Float.Ieee.Back.{round_whole}
use Rattle.std.specs.Float.Ieee.Order.{round_mono, le_of_values}
use Rattle.std.specs.Float.Ieee.Positive.{above, above_of_le, positive_of_value, own_value, values_of_le}
use Rattle.lists.specs.Loops.{until}
use Rattle.lists.specs.While.{While, until_law, until_while}
use Rattle.doubles.specs.Constants.{one_f, sixteen_f}
use Rattle.doubles.specs.Order.{values_of_ge}

-- x is k at least: plus infinity, or a finite value whose fraction is
abbrev pub AtLeast : ℕ → Float → Type 0
AtLeast k nan = ⊥
AtLeast k (inf s) = s ≡ false
AtLeast k (fin s m e) = (s ≡ false) × (k * down e ≤ m * up e)

pub at-start : (x : Float) → T (above x) → AtLeast 0 x
at-start nan t = absurd t
at-start (inf true) t = absurd t
at-start (inf false) t = refl
at-start (fin true m e) t = absurd t
at-start (fin false m e) t = (refl, subst (λ (z : ℕ). z ≤ m * up e) (sym (zero-mul (down e))) zero-le)

-- what is no smaller than the whole number a is a at least
at_of_le : (w z : Float) (a : ℕ) → 0 < a → HasValue w false a 1 → T (le w z) → AtLeast a z
at_of_le w z a A v t = go z (above_of_le w z (positive_of_value w a 1 v A) t) t
  where
    go : (z : Float) → T (above z) → T (le w z) → AtLeast a z
    go nan b t = absurd b
    go (inf true) b t = absurd b
    go (inf false) b t = refl
    go (fin true n d) b t = absurd b
    go (fin false n d) b t =
        (refl, subst (λ (y : ℕ). a * down d ≤ y) (mul-one (n * up d)) (values_of_le w (fin false n d) a 1 (n * up d) (down d) (positive_of_value w a 1 v A) b v (own_value (fin false n d) b) t))

-- one turn
pub at_turn : (k : ℕ) (x : Float) → k < 2 ^ 53 → AtLeast k x → AtLeast (suc k) (add binary64 x one_f)
unfolding of_bits add
at_turn k nan h t = absurd t
at_turn k (inf s) h t = t
at_turn k (fin true m e) h t = absurd (true≢false t.0)
at_turn k (fin false m e) h t =
    at_of_le (round binary64 false (suc k) 1) (round binary64 false (m * up e * 1 + 1 * down e) (down e * 1)) (suc k) (zero-lt-suc k) (round_whole binary64 false (suc k) h)
    (round_mono binary64 (suc k) 1 (m * up e * 1 + 1 * down e) (down e * 1) (zero-lt-suc 0) (subst (λ (y : ℕ). 0 < y) (sym (mul-one (down e))) (down_pos e)) (more k (down e) (m * up e) t.1))
  where
    more : (k d n : ℕ) → k * d ≤ n → suc k * (d * 1) ≤ (n * 1 + 1 * d) * 1
    more k d n h = omega arith

-- the end
at_end : (x : Float) → AtLeast 16 x → T (not (lt x sixteen_f))
unfolding of_bits lt
at_end nan t = absurd t
at_end (inf true) t = absurd (true≢false t)
at_end (inf false) t = tt
at_end (fin true m e) t = absurd (true≢false t.0)
at_end (fin false m e) t = le→nltb (m * up e * 1) (1 * 2 ^ 4 * down e) (subst (λ (y : ℕ). 16 * down e ≤ y) (sym (mul-one (m * up e))) t.1)

-- not below 16, and no NaN: 16 at least
at-le : (k : ℕ) (x : Float) → AtLeast k x → T (not (lt x sixteen_f)) → T (le sixteen_f x)
unfolding of_bits
at-le k nan t h = absurd t
at-le k (inf true) t h = absurd (true≢false t)
at-le k (inf false) t h = unfold le in tt
at-le k (fin s m e) t h =
    le_of_values sixteen_f (fin s m e) 16 1 (m * up e) (down e) (zero-lt-suc 0) (down_pos e) (refl, refl) (t.0, refl)
    (values_of_ge (fin s m e) sixteen_f (m * up e) (down e) 16 1 (down_pos e) (zero-lt-suc 0) (t.0, refl) (refl, refl) h)

-- For any state with x in it, and a step that adds 1 to x: from an x above zero, 16 turns end with an x that is 16 at least.
module _ {S : Type 0} (x : S → Float) (step : S → S) (adds : (s : S) → x (step s) ≡ add binary64 (x s) one_f) where
  abbrev pub from16 : S → Bool
  from16 s = not (lt (x s) sixteen_f)

  Left : ℕ → S → Type 0
  Left n s = (k : ℕ) × (k + n ≡ 16) × AtLeast k (x s)

  ends : (s : S) → T (above (x s)) → T (from16 (until from16 step 16 s)) × ((n : ℕ) × Left n (until from16 step 16 s))
  unfolding Left
  ends s a =
      until_law from16 step Left (λ s t. at_end (x s) (subst (λ (k : ℕ). AtLeast k (x s)) (omega (arith, t.1)) t.2))
      (λ n s t h. (suc t.0, omega (arith, t.1), subst (λ (z : Float). AtLeast (suc t.0) z) (sym (adds s)) (at_turn t.0 (x s) (omega (arith, t.1)) t.2))) 16 s (0, refl, at-start (x s) a)

  pub shift_ends : (s : S) → T (above (x s)) → T (le sixteen_f (x (until from16 step 16 s)))
  unfolding Left
  shift_ends s a = let r = ends s a in at-le r.1.1.0 (x (until from16 step 16 s)) r.1.1.2 r.0

  -- the loop without a budget comes to the same
  pub shift_loop : (s : S) → T (above (x s)) → While from16 step s (until from16 step 16 s)
  shift_loop s a = until_while from16 step 16 s (is_true (from16 (until from16 step 16 s)) (ends s a).0)
