-- 02, U7: each entry of the table is what document 01's steps give. Assumes nothing.
use Rattle.std.specs.Prelude.{◌≡◌, refl, Bool, true, false, cond, ◌&&◌, ℕ, ◌+◌, ◌<◌, eqb, ltb, length}
use Rattle.std.proofs.Common.{ap, ◌∙◌, eqb-true, ltb-true}
use Rattle.std.specs.Float.{binary64}
use Rattle.std.specs.Float.Ieee.{of_bits, to_bits, fits, of_int, add, mul, div, neg, lt}
use Rattle.std.specs.Float.Ieee.Bits.{of_bits-to_bits}
use Rattle.lists.specs.Loops.{down}
use Rattle.lists.specs.Tests.{and_left, and_right}
use Rattle.lists.specs.Every.{every, every-at, every_append}
use Rattle.elementary.specs.Exp.{exp_of, ten_to_of}
use Rattle.genome.specs.Ranges.{missing_quality}
use Rattle.error_probabilities.specs.ErrorProb.{error_prob}
use Rattle.error_probabilities.specs.Table.{lower, upper, patterns, pattern_of, entry_of, probability_in}

-- every quality but the missing one has an entry
pub in_table : (q : ℕ) → q < missing_quality → q < length patterns
unfolding patterns lower upper
in_table q h = h

-- ---- and document 01's steps at each of its entries: one test, which is worked out in two parts

-- b is the pattern of the double that the steps come to
by_steps : ℕ → ℕ → Bool
by_steps q b = let e = error_prob q in eqb b (to_bits binary64 e) && fits binary64 e

lower_by_steps : every by_steps 0 lower ≡ true
unfolding lower by_steps every error_prob ten_to_of exp_of down of_bits to_bits fits of_int add mul div neg lt
lower_by_steps = refl

upper_by_steps : every by_steps 125 upper ≡ true
unfolding upper by_steps every error_prob ten_to_of exp_of down of_bits to_bits fits of_int add mul div neg lt
upper_by_steps = refl

behind_lower : every by_steps (0 + length lower) upper ≡ true
unfolding lower
behind_lower = upper_by_steps

all_by_steps : (q : ℕ) → q < missing_quality → by_steps q (pattern_of q) ≡ true
unfolding patterns
all_by_steps q h = every-at by_steps patterns (every_append by_steps lower upper 0 lower_by_steps behind_lower) q 0 (in_table q h)

pub pattern_by_steps : (q : ℕ) → q < missing_quality → pattern_of q ≡ to_bits binary64 (error_prob q)
unfolding by_steps
pattern_by_steps q h = eqb-true (pattern_of q) (to_bits binary64 (error_prob q)) (and_left _ (fits binary64 (error_prob q)) (all_by_steps q h))

-- so whoever reads an entry has what the steps come to
pub entry_by_steps : (q : ℕ) → q < missing_quality → entry_of q ≡ error_prob q
unfolding by_steps
entry_by_steps q h =
    let held = and_right (eqb (pattern_of q) (to_bits binary64 (error_prob q))) (fits binary64 (error_prob q)) (all_by_steps q h) in
    ap (of_bits binary64) (pattern_by_steps q h) ∙ of_bits-to_bits binary64 (error_prob q) (rw held tt)

-- by the table itself
pub by_table : (q : ℕ) → probability_in patterns q ≡ error_prob q
unfolding probability_in
by_table q = go (ltb q missing_quality) (ltb-true q missing_quality)
  where
    go : (b : Bool) → (b ≡ true → q < missing_quality) → cond b (entry_of q) (error_prob q) ≡ error_prob q
    go true h = entry_by_steps q (h refl)
    go false h = refl
