-- By a list of priors that was filled, for whatever settings, the posterior is the plain one of the call's settings: for every slice that it was filled into and
-- every part of it from the front. Assumes nothing.
use Rattle.std.specs.Prelude.{◌≡◌, ℕ, zero, suc, ◌+◌, ◌-◌, ◌<◌, ◌≤◌, Bool, true, false, cond, ◌&&◌, List, length, get_or, drop, replicate, ◌==◌, nat_lt, slice_index_or, refl, Float}
use Rattle.std.proofs.Math.Path.{sym}
use Rattle.std.proofs.Common.{ap, ◌∙◌, arith, ext_get_or, get_or-drop}
use borrow.Author.Tests.{lt-ltb, le-ltb, ltb-true, ltb-false, eqb-true, ne_eqb}
use Rattle.std.specs.Float.{binary64, nan}
use Rattle.std.specs.Float.Ieee.{add}
use Rattle.lists.specs.Each.{each, length-each, get_or-each}
use Rattle.lists.specs.Tests.{and_left, and_right}
use Rattle.doubles.specs.Constants.{zero_f}
use Rattle.numbers.specs.Same.{same_positive, same_is, none_is_nan, none_is_zero, whole_is}
use Rattle.genotype_posterior.specs.Posterior.{whole, ref_pseudocount, snp_pseudocount, unnormalized, unnormalized_all, posterior}
use Rattle.genotype_posterior.specs.Priors.{heading, priors_length, log10_prior, prior_at, listed, log10_priors, with_prior, carries_reals, carries, are_for, unnormalized_by, posterior_by, HoldsPriors}

pub filled_priors : (ploidy : ℕ) (het sd : Float) (l : List Float) → priors_length ploidy ≤ length l → HoldsPriors ploidy het sd (log10_priors ploidy het sd l)
unfolding log10_priors
filled_priors ploidy het sd l long = rw (le-ltb (length l) (priors_length ploidy) long)
    (λ j h k. get_or-each (listed ploidy het sd) l j nan (omega (arith, long)) ∙ rw (lt-ltb j (priors_length ploidy) k))

behind_heading : (ploidy : ℕ) (het sd : Float) (j : ℕ) → prior_at ploidy het sd (heading + j) ≡ log10_prior het sd ploidy j
unfolding prior_at
behind_heading ploidy het sd j =
    let place : heading + j - heading ≡ j = omega arith in
    rw (ne_eqb (heading + j) 0 (λ e. absurd (omega (arith, e))), ne_eqb (heading + j) 1 (λ e. absurd (omega (arith, e))), ne_eqb (heading + j) 2 (λ e. absurd (omega (arith, e))), place)

-- filled for ploidy, h and d; read for n genotypes, het and sd
module _ (ploidy n : ℕ) (h d het sd : Float) (priors : List Float) (held : HoldsPriors ploidy h d priors) (few : ploidy ≤ 255) (small : n ≤ 256) (for-call : are_for priors n het sd ≡ true) where
  long : length priors ≡ heading + n
  unfolding are_for
  long = eqb-true _ _ (and_left (length priors == heading + n) _ for-call)

  carried : carries priors n het sd ≡ true
  unfolding are_for
  carried = and_right (length priors == heading + n) _ for-call

  carried_reals : carries_reals priors het sd ≡ true
  carried_reals = and_right (same_positive (slice_index_or priors 0 nan) (whole (n - 1))) _ carried

  one_ploidy : ploidy ≡ n - 1
  unfolding prior_at
  one_ploidy =
      whole_is ploidy (n - 1) (omega (arith, few)) (omega (arith, small))
      (sym (held 0 (omega (arith, long)) (omega arith)) ∙ same_is (slice_index_or priors 0 nan) (whole (n - 1)) (and_left (same_positive (slice_index_or priors 0 nan) (whole (n - 1))) _ carried))

  one_heterozygosity : h ≡ het
  unfolding prior_at
  one_heterozygosity = sym (held 1 (omega (arith, long)) (omega arith)) ∙ same_is (slice_index_or priors 1 nan) het (and_left (same_positive (slice_index_or priors 1 nan) het) _ carried_reals)

  one_deviation : d ≡ sd
  unfolding prior_at
  one_deviation = sym (held 2 (omega (arith, long)) (omega arith)) ∙ same_is (slice_index_or priors 2 nan) sd (and_right (same_positive (slice_index_or priors 1 nan) het) _ carried_reals)

  prior_held : (k : ℕ) → k < n → slice_index_or (drop heading priors) k nan ≡ log10_prior het sd (n - 1) k
  prior_held k l =
      get_or-drop heading priors k nan
      ∙ held (heading + k) (omega (arith, long, l)) (omega (arith, one_ploidy, l))
      ∙ behind_heading ploidy h d k
      ∙ rw (one_ploidy, one_heterozygosity, one_deviation)

unnormalized-filled : (ploidy : ℕ) (h d het sd : Float) (priors gl : List Float) → HoldsPriors ploidy h d priors → ploidy ≤ 255 → length gl ≤ 256
    → unnormalized_by priors het sd gl ≡ unnormalized_all het sd gl
unfolding unnormalized_by unnormalized log10_prior
unnormalized-filled ploidy h d het sd priors gl held few small = go (are_for priors (length gl) het sd) refl
  where
    rest : List Float
    rest = drop heading priors

    rule : ℕ → Float → Float
    rule = unnormalized (length gl - 1) (ref_pseudocount het sd) (snp_pseudocount het sd)

    go : (b : Bool) → are_for priors (length gl) het sd ≡ b → cond b (each (with_prior rest) gl) (unnormalized_all het sd gl) ≡ unnormalized_all het sd gl
    go true e =
        let entries : (k : ℕ) → k < length (each (with_prior rest) gl) → slice_index_or (each (with_prior rest) gl) k nan ≡ get_or (each rule gl) k nan = λ k l.
        let below : k < length gl = rw (length-each (with_prior rest) gl) at l in
        get_or-each (with_prior rest) gl k nan below
        ∙ ap (add binary64 (slice_index_or gl k nan)) (prior_held ploidy (length gl) h d het sd priors held few small e k below)
        ∙ sym (get_or-each rule gl k nan below) in
        ext_get_or nan (each (with_prior rest) gl) (each rule gl) (length-each (with_prior rest) gl ∙ sym (length-each rule gl)) entries
    go false e = refl

pub posterior-filled : (ploidy : ℕ) (h d het sd : Float) (priors gl : List Float) → HoldsPriors ploidy h d priors → ploidy ≤ 255 → length gl ≤ 256
    → posterior_by priors het sd gl ≡ posterior het sd gl
unfolding posterior_by posterior
posterior-filled ploidy h d het sd priors gl held few small = rw (unnormalized-filled ploidy h d het sd priors gl held few small)

-- a list that is not for the call is not read
unread : (het sd : Float) (priors gl : List Float) → are_for priors (length gl) het sd ≡ false → posterior_by priors het sd gl ≡ posterior het sd gl
unfolding posterior_by posterior unnormalized_by
unread het sd priors gl e = rw e

-- filled for the call's own settings, any slice will do: one that was too short to be filled, or is too long, is not read
pub posterior_own : (ploidy : ℕ) (het sd : Float) (l gl : List Float) → length gl ≡ ploidy + 1 → ploidy ≤ 255 → posterior_by (log10_priors ploidy het sd l) het sd gl ≡ posterior het sd gl
unfolding log10_priors are_for
posterior_own ploidy het sd l gl n few = go (nat_lt (length l) (priors_length ploidy)) (ltb-true (length l) (priors_length ploidy)) (ltb-false (length l) (priors_length ploidy)) refl
  where
    go : (b : Bool) → (b ≡ true → length l < priors_length ploidy) → (b ≡ false → priors_length ploidy ≤ length l) → nat_lt (length l) (priors_length ploidy) ≡ b
        → posterior_by (log10_priors ploidy het sd l) het sd gl ≡ posterior het sd gl
    go true f g e =
        let short : log10_priors ploidy het sd l ≡ l = rw e in
        rw short (unread het sd l gl (rw (ne_eqb (length l) (heading + length gl) (λ same. absurd (omega (arith, same, n, f refl))))))
    go false f g e = posterior-filled ploidy het sd het sd (log10_priors ploidy het sd l) gl (filled_priors ploidy het sd l (g refl)) few (omega (arith, n, few))

-- so it is by a slice of zeros that nothing was filled into, of any length
zeros_for_none : (k n : ℕ) (het sd : Float) → are_for (replicate k zero_f) n het sd ≡ false
unfolding are_for
zeros_for_none k n het sd = rw (other k) (go (length (replicate k zero_f) == heading + n))
  where
    other : (k : ℕ) → same_positive (slice_index_or (replicate k zero_f) 0 nan) (whole (n - 1)) ≡ false
    other zero = none_is_nan (whole (n - 1))
    other (suc k) = none_is_zero (whole (n - 1))

    go : (b : Bool) → (b && false) ≡ false
    go true = refl
    go false = refl

pub posterior_zeros : (k : ℕ) (het sd : Float) (gl : List Float) → posterior_by (replicate k zero_f) het sd gl ≡ posterior het sd gl
posterior_zeros k het sd gl = unread het sd (replicate k zero_f) gl (zeros_for_none k (length gl) het sd)
