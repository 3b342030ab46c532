-- Likelihoods of 0.0 alone: rounded they are alike, none of them is above the first, and the first zero exit is taken. Assumes nothing.
use Rattle.std.specs.Prelude.{◌≡◌, ℕ, zero, suc, ◌-◌, false, length, replicate, slice_index_or, refl, Float}
use Rattle.std.specs.List.{fold}
use Rattle.std.specs.Float.{nan}
use Rattle.std.specs.Float.Ieee.{of_bits, of_int, round, to_unsigned, add, sub, mul, div, neg, lt, ne}
use Rattle.lists.specs.Loops.{along}
use Rattle.lists.specs.Folds.{each_alike}
use Rattle.doubles.specs.Constants.{zero_f}
use Rattle.log10_sums.specs.Sums.{larger, max_element_index}
use Rattle.genotype_posterior.specs.Phred.{max_f, min_f, pl_of, adjust, round_trip, pl_round_trip}
use Rattle.genotype_posterior.specs.Posterior.{posterior}
use Rattle.genotype_posterior.specs.Alike.{minus_zero}

largest : (n : ℕ) → fold max_f zero_f (replicate n zero_f) ≡ zero_f
unfolding max_f lt ne of_bits
largest zero = refl
largest (suc n) = largest n

adjusted : (n : ℕ) → adjust (replicate (suc n) zero_f) ≡ zero_f
unfolding max_f lt ne of_bits
adjusted n = largest n

rounded : (k : ℕ) → round_trip zero_f k zero_f ≡ minus_zero
unfolding pl_of min_f to_unsigned of_bits of_int round add sub mul div neg lt ne
rounded k = refl

pub rounded_alike : (n : ℕ) → pl_round_trip (replicate (suc n) zero_f) ≡ replicate (suc n) minus_zero
unfolding pl_round_trip
rounded_alike n = rw (adjusted n) (each_alike (round_trip zero_f) (suc n) zero_f minus_zero rounded)

-- entry j of as many, and past them none, is not above the first
not_above : (n j : ℕ) → lt (slice_index_or (replicate n minus_zero) 0 nan) (slice_index_or (replicate n minus_zero) j nan) ≡ false
unfolding lt neg of_bits
not_above zero j = refl
not_above (suc n) j = go (suc n) j
  where
    go : (n j : ℕ) → lt minus_zero (slice_index_or (replicate n minus_zero) j nan) ≡ false
    go zero j = refl
    go (suc n) zero = refl
    go (suc n) (suc j) = go n j

pub first_largest : (n : ℕ) → max_element_index (replicate n minus_zero) ≡ 0
unfolding max_element_index along larger
first_largest n = go 1 (length (replicate n minus_zero) - 1)
  where
    go : (i k : ℕ) → along (larger (replicate n minus_zero)) i k 0 ≡ 0
    go i zero = refl
    go i (suc k) = rw (not_above n i) (go (suc i) k)

pub posterior_alike : (het sd : Float) (n : ℕ) → posterior het sd (replicate n minus_zero) ≡ zero_f
unfolding posterior
posterior_alike het sd n = rw (first_largest n)
