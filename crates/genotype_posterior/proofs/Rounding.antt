-- The value that is rounded to a PL is never below 0, whatever the likelihoods are: so its whole part is its floor. Assumes nothing.
use Rattle.std.proofs.Common.{◌≡◌, ℕ, zero, suc, ◌*◌, ◌<◌, Bool, true, false, cond, not, ◌&&◌, ◌||◌, eqb, List, [], ◌∷◌, length, get_or, pos, sym, refl, ap, subst, le_of_suc-le-suc, not-suc-le-zero, eq-eqb}
use Rattle.std.specs.List.{fold}
use mathlib.Core.Bool.{beq, false≢true}
use lib.Ieee.{Float, nan, inf, fin, binary64, up, down, add, sub, neg, lt, eq, ne, of_bits}
use Rattle.lists.specs.Tests.{beq_refl}
use Rattle.doubles.specs.Constants.{zero_f}
use Rattle.double_ranges.specs.Order.{AtMost, Number, at_most_trans, at_most_refl, at_most_of_lt, at_most_of_not_lt}
use Rattle.double_ranges.specs.Sign.{Down, sub-down, mul-down}
use Rattle.genotype_posterior.specs.Phred.{max_f, adjust, scaled}

same : (s : Bool) (a : ℕ) → (eqb a a && (beq s s || eqb a 0)) ≡ true
same s a = rw (eq-eqb a a refl, beq_refl s) refl

not_other : (x : Float) → Number x → ne x x ≡ false
unfolding ne eq
not_other nan p = absurd p
not_other (inf s) p = ap not (beq_refl s)
not_other (fin s m e) p = ap not (same s (m * up e * down e))

number_of-lt : (x y : Float) → lt x y ≡ true → Number y
unfolding lt
number_of-lt nan y h = absurd (false≢true h)
number_of-lt (inf s) nan h = absurd (false≢true h)
number_of-lt (inf s) (inf t) h = tt
number_of-lt (inf s) (fin t n d) h = tt
number_of-lt (fin s m e) nan h = absurd (false≢true h)
number_of-lt (fin s m e) (inf t) h = tt
number_of-lt (fin s m e) (fin t n d) h = tt

-- r is a number, at least t, and at least x where x is a number
record Top (t x r : Float) : Type 0 where
  number : Number r
  before : AtMost t r
  this : Number x → AtMost x r

max_is : (t x : Float) → Number t → Top t x (max_f t x)
unfolding max_f
max_is t x p = subst (λ (b : Bool). Top t x (cond (b || lt t x) x t)) (sym (not_other t p)) (go (lt t x) (at_most_of_lt t x) (number_of-lt t x) (at_most_of_not_lt t x p))
  where
    go : (b : Bool) → (b ≡ true → AtMost t x) → (b ≡ true → Number x) → (Number x → b ≡ false → AtMost x t) → Top t x (cond b x t)
    go true f g h = record { number = g refl; before = f refl; this = λ n. at_most_refl x n }
    go false f g h = record { number = p; before = at_most_refl t p; this = λ n. h n refl }

largest : (xs : List Float) (t : Float) → Number t → AtMost t (fold max_f t xs)
largest [] t p = at_most_refl t p
largest (x ∷ xs) t p = let m = max_is t x p in at_most_trans t (max_f t x) (fold max_f (max_f t x) xs) m.before (largest xs (max_f t x) m.number)

each-at_most : (xs : List Float) (t : Float) → Number t → (i : ℕ) → i < length xs → Number (get_or xs i nan) → AtMost (get_or xs i nan) (fold max_f t xs)
each-at_most [] t p i h n = absurd (not-suc-le-zero h)
each-at_most (x ∷ xs) t p zero h n = let m = max_is t x p in at_most_trans x (max_f t x) (fold max_f (max_f t x) xs) (m.this n) (largest xs (max_f t x) m.number)
each-at_most (x ∷ xs) t p (suc i) h n = each-at_most xs (max_f t x) (max_is t x p).number i (le_of_suc-le-suc h) n

less-down : (g top : Float) → (Number g → AtMost g top) → Down (sub binary64 g top)
less-down nan top h = unfold sub add in tt
less-down (inf s) top h = sub-down binary64 (inf s) top (h tt)
less-down (fin s m e) top h = sub-down binary64 (fin s m e) top (h tt)

-- "floor of value + 0.5": the value of likelihood i is not below 0
pub scaled_not_below : (gl : List Float) (i : ℕ) → i < length gl → lt (scaled (adjust gl) (get_or gl i nan)) zero_f ≡ false
unfolding neg of_bits
scaled_not_below gl i h =
    mul-down 5 (pos 1) (sub binary64 (get_or gl i nan) (adjust gl)) (less-down (get_or gl i nan) (adjust gl) (each-at_most gl (inf true) tt i h))
