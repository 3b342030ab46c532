-- The posterior of rounded likelihoods, within document 01's ranges, is in 0.0 to 1.0. Assumes nothing.
use Rattle.std.specs.Prelude.{◌≡◌, ℕ, suc, ◌+◌, ◌-◌, ◌<◌, ◌≤◌, Bool, true, false, cond, ◌||◌, T, List, length, pos, ◌==◌, ◌≢◌, slice_index_or}
use Rattle.std.proofs.Math.Path.{refl, subst}
use Rattle.std.proofs.Common.{sym, le_trans, lit≤}
use native.Mathlib.Omega.{arith}
use borrow.Author.Tests.{eqb-true, eqb-false, ne_eqb}
use Rattle.std.specs.Float.Ieee.{Float, binary64, of_bits, of_int, to_unsigned, add, sub, mul, lt, le, eq, ne, fits}
use Rattle.std.specs.Float.{nan, inf, fin}
use Rattle.std.specs.Float.Ieee.Fits.{add-fits, mul-fits}
use Rattle.lists.specs.Each.{get_or-each, length-each}
use Rattle.lists.specs.Loops.{along}
use Rattle.doubles.specs.Constants.{zero_f, one_f, ten_f}
use Rattle.doubles.specs.Shift.{AtLeast}
use Rattle.double_ranges.specs.Order.{AtMost, Number, at_most_refl, at_most_trans, at_most_of_lt, at_most_of_not_lt}
use Rattle.double_ranges.specs.Sign.{Plus, sub-down}
use Rattle.double_ranges.specs.Size.{Size, size_mono, add_size, sub_size, whole_size}
use Rattle.double_ranges.specs.Small.{Small}
use Rattle.double_ranges.specs.Sums.{add-at_most, add-at_least, mul_not_above, div-neg_size}
use Rattle.double_ranges.specs.Constants.{zero_size_lem, zero_plus, one_size, one_at_least, ten_at_least}
use Rattle.double_ranges.specs.Loops as Grow
use Rattle.elementary.specs.Exp.{exp_of, ten_to_of}
use Rattle.elementary.specs.Ln.{log10_of}
use Rattle.elementary.specs.ExpRange.{exp_small, less_exp_unit, ln10_size, ln10_plus}
use Rattle.elementary.proofs.LnRange.{log10_size, log10_plus}
use Rattle.elementary.proofs.GammaRange.{above_zero, finite_below}
use Rattle.log10_sums.specs.Sums.{larger, max_element_index, power, powers, log_or_zero, sum_from, log10_sum_log10}
use Rattle.genotype_posterior.specs.Phred.{pl_of, scaled, round_trip, adjust, pl_round_trip}
use Rattle.genotype_posterior.specs.Posterior.{ref_pseudocount, snp_pseudocount, unnormalized, unnormalized_all, non_ref, posterior}
use Rattle.genotype_posterior.proofs.PriorRange.{unnormalized_size}
use Rattle.genotype_posterior.specs.PriorRange.{InRange}

-- ---- constants

one_fits : T (fits binary64 one_f)
unfolding of_bits fits
one_fits = tt

pub zero_unit : T (le zero_f zero_f) × T (le zero_f one_f)
unfolding le of_bits
zero_unit = (tt, tt)

number_of_size : (k : ℕ) (x : Float) → Size k x → Number x
number_of_size k nan p = absurd p
number_of_size k (inf t) p = absurd p
number_of_size k (fin t m e) p = tt

-- ---- a rounded likelihood

pl_at_most : (x : Float) → pl_of x ≤ 2147483647
unfolding pl_of
pl_at_most x = cut (add binary64 _ _)
  where
    cut : (y : Float) → to_unsigned 31 y ≤ 2147483647
    cut nan = unfold to_unsigned in omega arith
    cut (inf true) = unfold to_unsigned in omega arith
    cut (inf false) = unfold to_unsigned in omega arith
    cut (fin true m e) = unfold to_unsigned in omega arith
    cut (fin false m e) = unfold to_unsigned in omega arith

-- of any likelihood, whatever the largest is
pub round_trip_size : (top g : Float) (i : ℕ) → Size 31 (round_trip top i g)
round_trip_size top g i = div-neg_size 31 (of_int binary64 (pos (pl_of (scaled top g)))) ten_f (lit≤ tt) (whole_size 31 (pl_of (scaled top g)) (lit≤ tt) (le_trans (pl_at_most (scaled top g)) (lit≤ tt))) ten_at_least

pub rounded_size : (gl : List Float) (i : ℕ) → i < length gl → Size 31 (slice_index_or (pl_round_trip gl) i nan)
unfolding pl_round_trip
rounded_size gl i h = subst (Size 31) (sym (get_or-each (round_trip (adjust gl)) gl i nan h)) (round_trip_size (adjust gl) (slice_index_or gl i nan) i)

pub rounded_length : (gl : List Float) → length (pl_round_trip gl) ≡ length gl
unfolding pl_round_trip
rounded_length gl = length-each (round_trip (adjust gl)) gl

-- ---- the largest of finite values

-- 10 to (x − top), where x is at most top
small_parts : (x : Float) → Small false x → Size 0 x × Plus x
small_parts nan p = absurd p
small_parts (inf t) p = absurd p
small_parts (fin t m e) p = (omega (arith, p.1), p.0)

not_above : (x top : Float) (k : ℕ) → k ≤ 200 → AtMost x top → Size k x → Size k top → T (le (mul binary64 (sub binary64 x top) (of_bits binary64 0x4002_6bb1_bbb5_5516)) zero_f)
not_above x top k h a p q =
    mul_not_above (sub binary64 x top) (of_bits binary64 0x4002_6bb1_bbb5_5516) (k + 1) 2 (omega arith) (sub-down binary64 x top a) (sub_size k x top (omega arith) p q) ln10_plus ln10_size

power_small : (x top : Float) → AtMost x top → Size 155 x → Size 155 top → Small false (ten_to_of (sub binary64 x top))
unfolding ten_to_of
power_small x top a p q =
    exp_small (mul binary64 (sub binary64 x top) (of_bits binary64 0x4002_6bb1_bbb5_5516)) (mul-fits binary64 (sub binary64 x top) (of_bits binary64 0x4002_6bb1_bbb5_5516)) (not_above x top 155 (lit≤ tt) a p q)

-- a sum of such powers from 1 on
record Summed (b : ℕ) (s : Float) : Type 0 where
  from_one : AtLeast 1 s
  size : Size b s
  fit : T (fits binary64 s)

-- the logarithm of such a sum is not below 0
logarithm_range : (b : ℕ) (s : Float) → Summed b s → Size 89 (log_or_zero s) × Plus (log_or_zero s)
unfolding log_or_zero
logarithm_range b s p = go (ne s one_f)
  where
    above : T (lt zero_f s)
    above = above_zero s p.from_one

    below : T (lt s (inf false))
    below = finite_below b s p.size

    go : (c : Bool) → Size 89 (cond c (log10_of s) zero_f) × Plus (cond c (log10_of s) zero_f)
    go true = (log10_size s p.fit above below, log10_plus s p.fit p.from_one above below)
    go false = (size_mono 0 89 zero_f (lit≤ tt) zero_size_lem, zero_plus)

not_infinite : (k : ℕ) (x : Float) → Size k x → eq x (inf true) ≡ false
unfolding eq
not_infinite k nan p = absurd p
not_infinite k (inf t) p = absurd p
not_infinite k (fin t m e) p = refl

index_of_none : (u : List Float) → length u ≡ 0 → max_element_index u ≡ 0
unfolding max_element_index along
index_of_none u h = rw h refl

module _ (u : List Float) (few : length u ≤ 101) (sized : (i : ℕ) → i < length u → Size 155 (slice_index_or u i nan)) (fitted : (i : ℕ) → i < length u → T (fits binary64 (slice_index_or u i nan))) where
  -- those before i are at most value m
  record Led (i m : ℕ) : Type 0 where
    place : m < length u
    most : (k : ℕ) → k < i → AtMost (slice_index_or u k nan) (slice_index_or u m nan)

  led_turn : (k : ℕ) → k < length u → (m : ℕ) → Led k m → Led (suc k) (larger u k m)
  unfolding larger
  led_turn k h m p = go (lt (slice_index_or u m nan) (slice_index_or u k nan)) (at_most_of_lt (slice_index_or u m nan) (slice_index_or u k nan)) (at_most_of_not_lt (slice_index_or u m nan) (slice_index_or u k nan) (number_of_size 155 (slice_index_or u m nan) (sized m p.place)) (number_of_size 155 (slice_index_or u k nan) (sized k h)))
    where
      last : (j m : ℕ) → ((i : ℕ) → i < k → AtMost (slice_index_or u i nan) (slice_index_or u m nan)) → AtMost (slice_index_or u k nan) (slice_index_or u m nan) → j < suc k → AtMost (slice_index_or u j nan) (slice_index_or u m nan)
      last j m f g l = pick (j == k) (eqb-true j k) (eqb-false j k)
        where
          pick : (b : Bool) → (b ≡ true → j ≡ k) → (b ≡ false → j ≢ k) → AtMost (slice_index_or u j nan) (slice_index_or u m nan)
          pick true s t = subst (λ (i : ℕ). AtMost (slice_index_or u i nan) (slice_index_or u m nan)) (sym (s refl)) g
          pick false s t = f j (omega (arith, t refl))

      go : (b : Bool) → (b ≡ true → AtMost (slice_index_or u m nan) (slice_index_or u k nan)) → (b ≡ false → AtMost (slice_index_or u k nan) (slice_index_or u m nan)) → Led (suc k) (cond b k m)
      go true f g = record { place = h; most = λ j l. last j k (λ i q. at_most_trans (slice_index_or u i nan) (slice_index_or u m nan) (slice_index_or u k nan) (p.most i q) (f refl)) (at_most_refl (slice_index_or u k nan) (number_of_size 155 (slice_index_or u k nan) (sized k h))) l }
      go false f g = record { place = p.place; most = λ j l. last j m p.most (g refl) l }

  led_first : 0 < length u → Led 1 0
  led_first h = record { place = h; most = λ k l. subst (λ (i : ℕ). AtMost (slice_index_or u i nan) (slice_index_or u 0 nan)) (zero_is k l) (at_most_refl (slice_index_or u 0 nan) (number_of_size 155 (slice_index_or u 0 nan) (sized 0 h))) }
    where
      zero_is : (k : ℕ) → k < 1 → 0 ≡ k
      zero_is k l = omega arith

  led : 0 < length u → Led (length u) (max_element_index u)
  unfolding max_element_index
  led h =
      let e : 1 + (length u - 1) ≡ length u = omega arith in
      subst (λ (n : ℕ). Led n (along (larger u) 1 (length u - 1) 0)) e (Grow.along_keeps Led (larger u) 1 (length u - 1) (λ k l m p. led_turn k (omega arith) m p) 0 (led_first h))

  -- ---- their sum

  module _ (m : ℕ) (lead : Led (length u) m) where
    top_size : Size 155 (slice_index_or u m nan)
    top_size = sized m lead.place

    summed_turn : (k b : ℕ) → k < length u → b < length u → (s : Float) → Summed b s → Summed (suc b) (power u m (slice_index_or u m nan) k s)
    unfolding power
    summed_turn k b h l s p = go (k == m || eq (slice_index_or u k nan) (inf true))
      where
        x : Float
        x = ten_to_of (sub binary64 (slice_index_or u k nan) (slice_index_or u m nan))

        x_range : Size 0 x × Plus x
        x_range = small_parts x (power_small (slice_index_or u k nan) (slice_index_or u m nan) (lead.most k h) (sized k h) (sized m lead.place))

        go : (c : Bool) → Summed (suc b) (cond c s (add binary64 s x))
        go true = record { from_one = p.from_one; size = size_mono b (suc b) s (omega arith) p.size; fit = p.fit }
        go false = record {
          from_one = add-at_least b s x p.from_one p.size (size_mono 0 b x (omega arith) x_range.0) x_range.1;
          size = subst (λ (n : ℕ). Size n (add binary64 s x)) (omega arith) (add_size b s x (omega (arith, few)) p.size (size_mono 0 b x (omega arith) x_range.0));
          fit = add-fits binary64 s x;
        }

    powers_range : Summed (length u) (powers u m (slice_index_or u m nan))
    powers_range =
        let e : 0 + length u ≡ length u = omega arith in
        subst (λ (n : ℕ). Summed n (powers u m (slice_index_or u m nan))) e
        (Grow.along_grows Summed (power u m (slice_index_or u m nan)) 0 (length u) 0 (λ k b h l s p. summed_turn k b (omega arith) (omega arith) s p) one_f
        (record { from_one = one_at_least; size = one_size; fit = one_fits }))

    -- the sum is finite, and no smaller than the largest
    sum_range : (AtMost (slice_index_or u m nan) (sum_from u m (slice_index_or u m nan))) × Size 156 (sum_from u m (slice_index_or u m nan))
    unfolding sum_from
    sum_range =
        let l = logarithm_range (length u) (powers u m (slice_index_or u m nan)) powers_range in
        let s = log_or_zero (powers u m (slice_index_or u m nan)) in
        let l-size = size_mono 89 155 s (lit≤ tt) l.0 in
        rw (not_infinite 155 (slice_index_or u m nan) top_size)
        (add-at_most 155 (slice_index_or u m nan) s (fitted m lead.place) top_size l-size l.1, add_size 155 (slice_index_or u m nan) s (lit≤ tt) top_size l-size)

  -- the sum of the powers, whose log10 is taken, is finite and above 0
  pub powers_argument : 0 < length u → let m = max_element_index u in T (lt zero_f (powers u m (slice_index_or u m nan))) × T (lt (powers u m (slice_index_or u m nan)) (inf false))
  powers_argument h =
      let m = max_element_index u in
      let p = powers_range m (led h) in
      (above_zero (powers u m (slice_index_or u m nan)) p.from_one, finite_below (length u) (powers u m (slice_index_or u m nan)) p.size)

  -- ---- 1 less the normalized posterior of the first

  sum_is : (h : 2 ≤ length u) → log10_sum_log10 u ≡ sum_from u (max_element_index u) (slice_index_or u (max_element_index u) nan)
  unfolding log10_sum_log10
  sum_is h = rw (ne_eqb (length u) 0 (λ e. absurd (omega (arith, e))), ne_eqb (length u) 1 (λ e. absurd (omega (arith, e)))) refl

  pub non_ref_unit : T (le zero_f (non_ref u)) × T (le (non_ref u) one_f)
  unfolding non_ref ten_to_of
  non_ref_unit = go (max_element_index u == 0) (eqb-false (max_element_index u) 0)
    where
      some : (max_element_index u ≢ 0) → 0 < length u
      some f = pick (length u == 0) (eqb-true (length u) 0) (eqb-false (length u) 0)
        where
          pick : (b : Bool) → (b ≡ true → length u ≡ 0) → (b ≡ false → length u ≢ 0) → 0 < length u
          pick true s t = absurd (f (index_of_none u (s refl)))
          pick false s t = omega (arith, t refl)

      go : (b : Bool) → (b ≡ false → max_element_index u ≢ 0)
          → T (le zero_f (cond b zero_f (sub binary64 one_f (exp_of (mul binary64 (sub binary64 (slice_index_or u 0 nan) (log10_sum_log10 u)) (of_bits binary64 0x4002_6bb1_bbb5_5516))))))
          × T (le (cond b zero_f (sub binary64 one_f (exp_of (mul binary64 (sub binary64 (slice_index_or u 0 nan) (log10_sum_log10 u)) (of_bits binary64 0x4002_6bb1_bbb5_5516))))) one_f)
      go true f = zero_unit
      go false f =
          let h = some (f refl) in
          let l = led h in
          let e = sum_is (two (max_element_index u) (length u) (f refl) l.place) in
          let r = sum_range (max_element_index u) l in
          let s = sum_from u (max_element_index u) (slice_index_or u (max_element_index u) nan) in
          let y = mul binary64 (sub binary64 (slice_index_or u 0 nan) s) (of_bits binary64 0x4002_6bb1_bbb5_5516) in
          rw e (less_exp_unit y (mul-fits binary64 (sub binary64 (slice_index_or u 0 nan) s) (of_bits binary64 0x4002_6bb1_bbb5_5516))
          (not_above (slice_index_or u 0 nan) s 156 (lit≤ tt) (at_most_trans (slice_index_or u 0 nan) (slice_index_or u (max_element_index u) nan) s (l.most 0 h) r.0) (size_mono 155 156 (slice_index_or u 0 nan) (lit≤ tt) (sized 0 h)) r.1))
        where
          two : (i n : ℕ) → (i ≢ 0) → i < n → 2 ≤ n
          two i n f l = omega (arith, f)

-- ---- the posterior

unnormalized_fits : (ploidy : ℕ) (ref snp : Float) (n : ℕ) (x : Float) → T (fits binary64 (unnormalized ploidy ref snp n x))
unfolding unnormalized
unnormalized_fits ploidy ref snp n x = add-fits binary64 x _

-- of likelihoods that were rounded, one for each genotype of a ploidy up to 100
module _ (het sd : Float) (gl : List Float) (r : InRange het sd) (few : length gl ≤ 101) (sized : (i : ℕ) → i < length gl → Size 31 (slice_index_or gl i nan)) where
  same : length (unnormalized_all het sd gl) ≡ length gl
  same = length-each (unnormalized (length gl - 1) (ref_pseudocount het sd) (snp_pseudocount het sd)) gl

  within : (i : ℕ) → i < length (unnormalized_all het sd gl) → i < length gl
  within i h = omega (arith, same)

  all_few : length (unnormalized_all het sd gl) ≤ 101
  all_few = omega (arith, same, few)

  all_sized : (i : ℕ) → i < length (unnormalized_all het sd gl) → Size 155 (slice_index_or (unnormalized_all het sd gl) i nan)
  all_sized i h =
      subst (Size 155) (sym (get_or-each (unnormalized (length gl - 1) (ref_pseudocount het sd) (snp_pseudocount het sd)) gl i nan (within i h)))
      (unnormalized_size (length gl - 1) i het sd (slice_index_or gl i nan) r (last i (length gl) (within i h)) (omega (arith, few)) (sized i (within i h)))
    where
      last : (i n : ℕ) → i < n → i ≤ n - 1
      last i n h = omega arith

  all_fit : (i : ℕ) → i < length (unnormalized_all het sd gl) → T (fits binary64 (slice_index_or (unnormalized_all het sd gl) i nan))
  all_fit i h =
      subst (λ (x : Float). T (fits binary64 x)) (sym (get_or-each (unnormalized (length gl - 1) (ref_pseudocount het sd) (snp_pseudocount het sd)) gl i nan (within i h)))
      (unnormalized_fits (length gl - 1) (ref_pseudocount het sd) (snp_pseudocount het sd) i (slice_index_or gl i nan))

  -- what the posterior takes the log10 of is finite and above 0
  pub posterior_argument : 0 < length gl → let u = unnormalized_all het sd gl in let m = max_element_index u in T (lt zero_f (powers u m (slice_index_or u m nan))) × T (lt (powers u m (slice_index_or u m nan)) (inf false))
  posterior_argument h = powers_argument (unnormalized_all het sd gl) all_few all_sized all_fit (omega (arith, same))

  pub posterior_unit : T (le zero_f (posterior het sd gl)) × T (le (posterior het sd gl) one_f)
  unfolding posterior
  posterior_unit = go (max_element_index gl == 0)
    where
      go : (b : Bool) → T (le zero_f (cond b zero_f (non_ref (unnormalized_all het sd gl)))) × T (le (cond b zero_f (non_ref (unnormalized_all het sd gl))) one_f)
      go true = zero_unit
      go false = non_ref_unit (unnormalized_all het sd gl) all_few all_sized all_fit
