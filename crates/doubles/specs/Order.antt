-- The order of two finite values that are not negative, as the order of any fractions that they equal.
-- Assumes nothing.
use Rattle.std.proofs.Common.{sym, zero-le, lt_of_not-le, not-le_of_lt, le_of_suc-le-suc, lt_of_le_of_lt, true≢false, lt→ltb, ltb→lt, T_not}
use Rattle.std.specs.Prelude.{ℕ, ◌*◌, ◌≤◌, ◌<◌, not, T, Float}
use Rattle.std.proofs.Math.Bool.{true, false}
use Rattle.std.proofs.Math.Arith.{le→nltb}
use Rattle.std.specs.Float.{nan, inf, fin}
use Rattle.std.specs.Float.Ieee.{up, down, lt, of_bits}
use Rattle.std.specs.Float.Ieee.Fits.{down_pos}
use Rattle.std.specs.Float.Ieee.Exact.{HasValue}
use Rattle.std.specs.Float.Ieee.Order.{transfer}
use Rattle.std.specs.Float.Ieee.Positive.{above, positive, first_pos}
use Rattle.doubles.specs.Constants.{zero_f}

-- ---- a / c and b / d
pub lt_of_values : (x y : Float) (a c b d : ℕ) → 0 < c → 0 < d → HasValue x false a c → HasValue y false b d → a * d < b * c → T (lt x y)
unfolding lt
lt_of_values nan y a c b d C D p q h = absurd p
lt_of_values (inf s) y a c b d C D p q h = absurd p
lt_of_values (fin true m e) y a c b d C D p q h = absurd (true≢false p.0)
lt_of_values (fin false m e) nan a c b d C D p q h = absurd q
lt_of_values (fin false m e) (inf t) a c b d C D p q h = absurd q
lt_of_values (fin false m e) (fin true n k) a c b d C D p q h = absurd (true≢false q.0)
lt_of_values (fin false m e) (fin false n k) a c b d C D p q h =
    lt→ltb (m * up e * down k) (n * up k * down e)
    (lt_of_not-le (λ (g : n * up k * down e ≤ m * up e * down k). not-le_of_lt h (transfer b a d c (n * up k) (m * up e) (down k) (down e) (down_pos k) (down_pos e) (sym q.1) (sym p.1) g)))

pub ge_of_values : (x y : Float) (a c b d : ℕ) → 0 < c → 0 < d → HasValue x false a c → HasValue y false b d → b * c ≤ a * d → T (not (lt x y))
unfolding lt
ge_of_values nan y a c b d C D p q h = absurd p
ge_of_values (inf s) y a c b d C D p q h = absurd p
ge_of_values (fin true m e) y a c b d C D p q h = absurd (true≢false p.0)
ge_of_values (fin false m e) nan a c b d C D p q h = absurd q
ge_of_values (fin false m e) (inf t) a c b d C D p q h = absurd q
ge_of_values (fin false m e) (fin true n k) a c b d C D p q h = absurd (true≢false q.0)
ge_of_values (fin false m e) (fin false n k) a c b d C D p q h =
    le→nltb (m * up e * down k) (n * up k * down e) (transfer (n * up k) (m * up e) (down k) (down e) b a d c D C q.1 p.1 h)

pub values_of_lt : (x y : Float) (a c b d : ℕ) → 0 < c → 0 < d → HasValue x false a c → HasValue y false b d → T (lt x y) → a * d < b * c
values_of_lt x y a c b d C D p q t = lt_of_not-le (λ (g : b * c ≤ a * d). T_not (lt x y) (ge_of_values x y a c b d C D p q g) t)

pub values_of_ge : (x y : Float) (a c b d : ℕ) → 0 < c → 0 < d → HasValue x false a c → HasValue y false b d → T (not (lt x y)) → b * c ≤ a * d
values_of_ge x y a c b d C D p q t = le_of_suc-le-suc (lt_of_not-le (λ (g : a * d < b * c). T_not (lt x y) t (lt_of_values x y a c b d C D p q g)))

-- ---- as a program tests it: 0.0 < x, and x below the infinity
pub above_of_lt : (x : Float) → T (lt zero_f x) → T (above x)
unfolding of_bits lt
above_of_lt nan t = absurd t
above_of_lt (inf s) t = t
above_of_lt (fin true m e) t = absurd t
above_of_lt (fin false m e) t = lt→ltb 0 m (first_pos m (up e) (first_pos (m * up e) 1 (lt_of_le_of_lt zero-le (ltb→lt (0 * down e) (m * up e * 1) t))))

pub positive_of_lt : (x : Float) → T (lt zero_f x) → T (lt x (inf false)) → T (positive x)
positive_of_lt x t = go x (above_of_lt x t)
  where
    go : (x : Float) → T (above x) → T (lt x (inf false)) → T (positive x)
    go nan a u = absurd a
    go (inf true) a u = absurd a
    go (inf false) a u = absurd (unfold lt in u)
    go (fin true m e) a u = absurd a
    go (fin false m e) a u = a
