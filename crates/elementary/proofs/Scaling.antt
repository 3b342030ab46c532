-- No budget of ln or ln_gamma ever binds: for every double that document 01 gives them a value at, what the code runs is document 01's own
-- loops to their end. Assumes nothing.
use Rattle.std.specs.Prelude.{refl, false, T, Float}
use Rattle.std.proofs.Common.{lit≤}
use Rattle.std.specs.Float.{inf, binary64}
use Rattle.std.specs.Float.Ieee.{of_bits, fits, lt, le}
use Rattle.std.specs.Float.Ieee.Exact.{HasValue}
use Rattle.lists.specs.While.{While}
use Rattle.doubles.specs.Constants.{zero_f, half_f, one_f, two_f, sixteen_f}
use Rattle.doubles.specs.Order.{above_of_lt, positive_of_lt}
use Rattle.doubles.specs.Scale.{Ended, scaling_ends, scaling_loops}
use Rattle.doubles.specs.Shift.{shift_ends, shift_loop}
use Rattle.elementary.specs.declared.Scaled.{Scaled}
use Rattle.elementary.specs.declared.Shifted.{Shifted}
use Rattle.elementary.specs.Ln.{unscaled, halve, below2, double, from1, max_scalings, halved, scaled}
use Rattle.elementary.specs.LnGamma.{unshifted, shift, from16, shifted}

half_is : HasValue half_f false 1 2
unfolding of_bits
half_is = (refl, refl)

one_is : HasValue one_f false 1 1
unfolding of_bits
one_is = (refl, refl)

two_is : HasValue two_f false 2 1
unfolding of_bits
two_is = (refl, refl)

-- For every finite double y above 0 the scaling ends with 1 ≤ m < 2, and y × 2 ^ doublings is exactly m × 2 ^ halvings: y is m × 2 ^ k.
pub ln_scales : (y : Float) → T (fits binary64 y) → T (lt zero_f y) → T (lt y (inf false))
    → Ended binary64 one_f two_f y (scaled y).doublings (scaled y).m (scaled y).halvings
unfolding halved scaled
ln_scales y t p q =
    scaling_ends binary64 one_f two_f half_f one_is two_is half_is (λ (s : Scaled). s.m) (λ (s : Scaled). s.halvings) (λ (s : Scaled). s.doublings) halve double
    (λ s. refl) (λ s. refl) (λ s. refl) (λ s. refl) (λ s. refl) (λ s. refl) max_scalings (lit≤ tt) (lit≤ tt) (unscaled y) t (positive_of_lt y p q) refl refl

-- There the halvings, and then the doublings, are the loops without a budget.
pub ln_loops : (y : Float) → T (fits binary64 y) → T (lt zero_f y) → T (lt y (inf false)) → While below2 halve (unscaled y) (halved y) × While from1 double (halved y) (scaled y)
unfolding halved scaled
ln_loops y t p q =
    scaling_loops binary64 one_f two_f half_f one_is two_is half_is (λ (s : Scaled). s.m) (λ (s : Scaled). s.halvings) (λ (s : Scaled). s.doublings) halve double
    (λ s. refl) (λ s. refl) (λ s. refl) (λ s. refl) (λ s. refl) (λ s. refl) max_scalings (lit≤ tt) (lit≤ tt) (unscaled y) t (positive_of_lt y p q) refl refl

-- For every x above 0 ln_gamma's shift ends with an x that is 16 at least.
pub gamma_shifts : (x : Float) → T (lt zero_f x) → T (le sixteen_f (shifted x).x)
unfolding shifted
gamma_shifts x a = shift_ends (λ (s : Shifted). s.x) shift (λ s. refl) (unshifted x) (above_of_lt x a)

-- There the shift is the loop without a budget.
pub gamma_loop : (x : Float) → T (lt zero_f x) → While from16 shift (unshifted x) (shifted x)
unfolding shifted
gamma_loop x a = shift_loop (λ (s : Shifted). s.x) shift (λ s. refl) (unshifted x) (above_of_lt x a)
