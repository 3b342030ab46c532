-- 02, U7: each entry of the table keeps the rule of the tenth power. Assumes nothing.
use Rattle.std.specs.Prelude.{◌≡◌, refl, true, false, not, ℕ, ◌*◌, ◌^◌, ◌<◌, T, eqb, Float}
use Rattle.std.proofs.Common.{sym, subst, true≢false, eqb-true, leb-true}
use Rattle.std.specs.Float.{nan, inf, fin, binary64}
use Rattle.std.specs.Float.Ieee.{is_nan, of_bits, up, down}
use Rattle.std.specs.Float.Ieee.Exact.{HasValue}
use Rattle.std.specs.Float.Ieee.Positive.{positive}
use Rattle.lists.specs.Tests.{and_left, and_right}
use Rattle.lists.specs.Every.{every, every-at}
use Rattle.genome.specs.Ranges.{missing_quality}
use Rattle.error_probabilities.specs.ErrorProb.{error_prob}
use Rattle.error_probabilities.specs.Table.{patterns, lower, upper, pattern_of, entry_of}
use Rattle.error_probabilities.specs.TenthPower.{NearTenthPower, digits, places, is_value, is_near, test}
use Rattle.error_probabilities.proofs.BySteps.{in_table, entry_by_steps}

all_near : every test 0 patterns ≡ true
unfolding patterns lower upper test is_value is_near every of_bits
all_near = refl

value_of : (x : Float) (a c : ℕ) → is_value x a c ≡ true → HasValue x false a c
unfolding is_value
value_of nan a c e = absurd (true≢false (sym e))
value_of (inf s) a c e = absurd (true≢false (sym e))
value_of (fin true m k) a c e = absurd (true≢false (sym e))
value_of (fin false m k) a c e = (refl, eqb-true (m * up k * c) (a * down k) (and_right (positive (fin false m k)) (eqb (m * up k * c) (a * down k)) e))

near_of : (i b : ℕ) → test i b ≡ true → NearTenthPower i (of_bits binary64 b)
unfolding test is_near
near_of i b e = record {
  whole = digits b;
  halvings = places b;
  exact = value_of (of_bits binary64 b) (digits b) (2 ^ places b) (and_left (is_value (of_bits binary64 b) (digits b) (2 ^ places b)) (is_near i (digits b) (places b)) e);
  near = leb-true _ _ (and_right (is_value (of_bits binary64 b) (digits b) (2 ^ places b)) (is_near i (digits b) (places b)) e);
}

-- each entry keeps the rule
pub tenth_power : (q : ℕ) → q < missing_quality → NearTenthPower q (entry_of q)
tenth_power q h = near_of q (pattern_of q) (every-at test patterns all_near q 0 (in_table q h))

-- ---- so none is a NaN

number_of : (x : Float) (a c : ℕ) → HasValue x false a c → T (not (is_nan x))
unfolding is_nan
number_of nan a c v = absurd v
number_of (inf s) a c v = absurd v
number_of (fin s m k) a c v = tt

entry_is_number : (q : ℕ) → q < missing_quality → T (not (is_nan (entry_of q)))
entry_is_number q h = let t = tenth_power q h in number_of (entry_of q) t.whole (2 ^ t.halvings) t.exact

-- and so of the double that the steps come to, as the generator has to know
pub steps_are_number : (q : ℕ) → q < missing_quality → T (not (is_nan (error_prob q)))
steps_are_number q h = subst (λ (x : Float). T (not (is_nan x))) (entry_by_steps q h) (entry_is_number q h)
