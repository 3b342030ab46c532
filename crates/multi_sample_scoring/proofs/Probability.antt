-- The probability of a set is in 0.0 to 1.0, for every set that is not refused: so no add refuses what scoring a set answered with 8. Assumes nothing.
use mathlib.Core.Path.{◌≡◌, refl, sym, ap, subst}
use Rattle.std.specs.List.{fold}
use mathlib.Core.Bool.{Bool, true, false, cond, not}
use mathlib.Core.List.{List, [], ◌∷◌, map}
use Prim.Native.Nat.{ℕ}
use lib.Dec.{T, lit≤}
use lib.Ieee.{Float, binary64, of_bits, sub, lt, le}
use Rattle.lists.specs.Tests.{and_left, and_right}
use Rattle.doubles.specs.Constants.{zero_f, one_f}
use Rattle.double_ranges.specs.Small.{Small, mul_small, one_less, one_less_unit, unit_of_small}
use Rattle.genome.specs.declared.GenomePosition.{GenomePosition}
use Rattle.genome.specs.Refusals.{answered}
use Rattle.genome.specs.Ranges.{is_probability}
use Rattle.genotype_likelihoods.specs.declared.HaplotypeCallerActivityScoringParams.{HaplotypeCallerActivityScoringParams}
use Rattle.activity_profile.specs.declared.ActivityProfileState.{ActivityProfileState}
use Rattle.activity_profile.specs.Add.{no_activity}
use Rattle.activity_scoring.specs.Score.{in_range, from_rounded, rounded_of, activity_of}
use Rattle.activity_scoring.proofs.Probability.{activity_unit, true_of, state_unit}
use Rattle.multi_sample_scoring.specs.Sets.{piles_left, clamped, with_sample, any_non_ref, set_state_with, set_state_of, set_score_of}
use Rattle.multi_sample_scoring.proofs.Accepted.{accepted_is}

-- ---- in 0 to 1, by value

one_small : Small false one_f
unfolding of_bits
one_small = (refl, lit≤ tt)

zero_small : Small false zero_f
unfolding of_bits
zero_small = (refl, lit≤ tt)

clamped_small : (x : Float) → Small false x → Small false (clamped x)
unfolding clamped
clamped_small x h = go (lt x zero_f) (lt one_f x)
  where
    go : (a b : Bool) → Small false (cond a zero_f (cond b one_f x))
    go true b = zero_small
    go false true = one_small
    go false false = h

small_unit : (x : Float) → Small false x → is_probability x ≡ true
small_unit x h = let u = unit_of_small x h in true_of (le zero_f x) (le x one_f) u.0 u.1

-- 1 less a probability, as a pile has it
less_small : (x : Float) → is_probability x ≡ true → Small false (sub binary64 one_f x)
less_small x e = one_less_unit x (subst T (sym (and_left (le zero_f x) (le x one_f) e)) tt) (subst T (sym (and_right (le zero_f x) (le x one_f) e)) tt)

module _ (p : GenomePosition) (s : HaplotypeCallerActivityScoringParams) (ranged : in_range p s ≡ true) where
  product_small : (q : Float) (ps : List (List ℕ)) → Small false q → Small false (fold (with_sample (from_rounded s)) q (map (λ (pile : List ℕ). rounded_of pile s) ps))
  unfolding activity_of
  product_small q [] h = h
  product_small q (pile ∷ ps) h =
      let x = (activity_of pile s).probability in
      product_small (with_sample (from_rounded s) q (rounded_of pile s)) ps (mul_small binary64 false false q (clamped (sub binary64 one_f x)) h (clamped_small (sub binary64 one_f x) (less_small x (activity_unit p pile s ranged))))

  set_unit : (contig : ℕ) (ps : List (List ℕ)) → is_probability (set_state_with (λ (pile : List ℕ). rounded_of pile s) (from_rounded s) contig p s ps).active_prob ≡ true
  unfolding set_state_with any_non_ref activity_of
  set_unit contig [] = small_unit zero_f zero_small
  set_unit contig (pile ∷ []) = state_unit contig p pile s ranged
  set_unit contig (a ∷ b ∷ ps) =
      let q = fold (with_sample (from_rounded s)) one_f (map (λ (pile : List ℕ). rounded_of pile s) (a ∷ b ∷ ps)) in
      small_unit (sub binary64 one_f q) (one_less q (product_small one_f (a ∷ b ∷ ps) one_small))

pub set_in_unit : (contig : ℕ) (p : GenomePosition) (words lengths : List ℕ) (s : HaplotypeCallerActivityScoringParams) (r : ActivityProfileState)
    → set_score_of contig p words lengths s ≡ answered r → is_probability r.active_prob ≡ true
set_in_unit contig p words lengths s r e =
    let a = accepted_is p words lengths s (set_state_of contig p words lengths s) r e in
    subst (λ (x : ActivityProfileState). is_probability x.active_prob ≡ true) a.1 (set_unit p s a.0.ranged contig (piles_left words lengths))

-- so refusal 8 of an add never meets the score of a set
pub set_never_8 : (contig : ℕ) (p : GenomePosition) (words lengths : List ℕ) (s : HaplotypeCallerActivityScoringParams) (r : ActivityProfileState)
    → set_score_of contig p words lengths s ≡ answered r → no_activity r ≡ false
set_never_8 contig p words lengths s r e = ap not (set_in_unit contig p words lengths s r e)
