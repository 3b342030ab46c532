-- Within document 01's ranges every entry of a kernel is in 0 to 1, and so none is a NaN. Assumes nothing.
use Rattle.std.proofs.Common.{◌≡◌, ℕ, zero, suc, ◌+◌, ◌<◌, ◌≤◌, true, false, T, List, [], ◌∷◌, length, get_or, pos, sym, refl, ap, ◌∙◌, subst, arith, lit≤}
use Rattle.std.specs.List.{fold}
use lib.Ieee.{Float, nan, inf, fin, binary64, of_bits, of_int, add, sub, mul, div, neg, lt, le, fits}
use lib.Ieee.Fits.{add-fits, div-fits}
use Rattle.lists.specs.Each.{get_or-each, tabulate, length-tabulate, get_or-tabulate}
use Rattle.lists.specs.Loops as Loops
use Rattle.lists.specs.Tests.{and_left, and_right}
use Rattle.doubles.specs.Constants.{zero_f, one_f, two_f}
use Rattle.double_ranges.specs.Order.{AtMost, Number, at_most_of_le, at_most_refl, at_most_trans}
use Rattle.double_ranges.specs.Sign.{Plus, down-neg}
use Rattle.double_ranges.specs.Size.{Size, size_mono, neg_size, add_size, sub_size, mul_size, whole_size, add-plus}
use Rattle.double_ranges.specs.Small.{Small, unit_of_small}
use Rattle.double_ranges.specs.Least.{Least, least_up, plus_up, size_down, mul_least, div_least_size}
use Rattle.double_ranges.specs.Sums.{add-at_most, down_le}
use Rattle.double_ranges.specs.Constants.{zero_plus, zero_size_lem, one_size, two_size}
use Rattle.double_ranges.specs.Quotients.{div-above-plus, div-above-down, div_unit, inverse_least, none_over, square-plus, sub_self, add-second}
use Rattle.elementary.specs.Exp.{exp_of}
use Rattle.elementary.specs.ExpRange.{exp_small}
use Rattle.band_pass_kernel.specs.Kernel.{root_two_pi, normal_distribution, density, densities, plus, total, over, gaussian, band, gaussian_kernel}
use Rattle.band_pass_kernel.specs.Resolve.{is_sigma, max_filter}

-- ---- the constants

low_sigma : Float
low_sigma = of_bits binary64 0x3f90_0000_0000_0000

high_sigma : Float
high_sigma = of_bits binary64 0x40b0_0000_0000_0000

low_least : Least 6 low_sigma
unfolding low_sigma of_bits
low_least = (refl, lit≤ tt)

high_size : Size 12 high_sigma
unfolding high_sigma of_bits
high_size = lit≤ tt

two_least : Least 0 two_f
unfolding of_bits
two_least = (refl, lit≤ tt)

root_least : Least 0 root_two_pi
unfolding of_bits
root_least = (refl, lit≤ tt)

root_size : Size 2 root_two_pi
unfolding of_bits
root_size = lit≤ tt

-- exp of nothing is 1
exp_none : exp_of (fin true 0 (pos 0)) ≡ one_f
unfolding exp_of of_bits lt neg Loops.down mul add div of_int
exp_none = refl

-- 0 × 0 with the other sign
no_square : neg (mul binary64 zero_f zero_f) ≡ fin true 0 (pos 0)
unfolding of_bits neg mul
no_square = refl

-- ---- an entry before it is normalised

pub record Entry (x : Float) : Type 0 where
  pub plus_sign : Plus x
  pub size : Size 6 x
  pub fit : T (fits binary64 x)

module _ (sd : Float) (range : is_sigma sd ≡ true) where
  low_at : AtMost low_sigma sd
  unfolding low_sigma
  low_at = at_most_of_le (of_bits binary64 0x3f90_0000_0000_0000) sd (subst T (sym (and_left (le (of_bits binary64 0x3f90_0000_0000_0000) sd) (le sd (of_bits binary64 0x40b0_0000_0000_0000)) range)) tt)

  high_at : AtMost sd high_sigma
  unfolding high_sigma
  high_at = at_most_of_le sd (of_bits binary64 0x40b0_0000_0000_0000) (subst T (sym (and_right (le (of_bits binary64 0x3f90_0000_0000_0000) sd) (le sd (of_bits binary64 0x40b0_0000_0000_0000)) range)) tt)

  sd_plus : Plus sd
  sd_plus = plus_up 6 low_sigma sd low_least low_at

  sd_size : Size 12 sd
  sd_size = size_down 12 sd high_sigma sd_plus high_at high_size

  sd_least : Least 6 sd
  sd_least = least_up 6 12 low_sigma sd low_least low_at sd_size

  -- (2 × sd) × sd, and sd × 2.5066282746310002
  two_sd : Float
  two_sd = mul binary64 two_f sd

  two_sd_size : Size 13 two_sd
  unfolding two_sd
  two_sd_size = mul_size 1 12 two_f sd (lit≤ tt) two_size sd_size

  spread : Float
  spread = mul binary64 (mul binary64 two_f sd) sd

  spread_least : Least 12 spread
  unfolding spread two_sd
  spread_least =
      mul_least 6 6 25 (mul binary64 two_f sd) sd (lit≤ tt) (mul_least 0 6 13 two_f sd (lit≤ tt) two_least sd_least two_sd_size) sd_least
      (mul_size 13 12 (mul binary64 two_f sd) sd (lit≤ tt) two_sd_size sd_size)

  scale : Float
  scale = mul binary64 sd root_two_pi

  scale_size : Size 14 scale
  unfolding scale
  scale_size = mul_size 12 2 sd root_two_pi (lit≤ tt) sd_size root_size

  scale_least : Least 6 scale
  unfolding scale
  scale_least = mul_least 6 0 14 sd root_two_pi (lit≤ tt) sd_least root_least scale_size

  -- what is divided by it, of an exponent that is not above 0
  entry_of : (x : Float) → T (fits binary64 x) → T (le x zero_f) → Entry (div binary64 (exp_of x) scale)
  entry_of x t l =
      let small = exp_small x t l in
      record {
        plus_sign = div-above-plus 0 6 (exp_of x) scale (size_of (exp_of x) small) (plus_of (exp_of x) small) scale_least;
        size = div_least_size 0 6 (exp_of x) scale (lit≤ tt) (size_of (exp_of x) small) scale_least;
        fit = div-fits binary64 (exp_of x) scale;
      }
    where
      size_of : (x : Float) → Small false x → Size 0 x
      size_of nan p = absurd p
      size_of (inf t) p = absurd p
      size_of (fin t m e) p = omega (arith, p.1)

      plus_of : (x : Float) → Small false x → Plus x
      plus_of nan p = absurd p
      plus_of (inf t) p = absurd p
      plus_of (fin t m e) p = p.0

  -- −((i − F) × (i − F)) / ((2 × sd) × sd)
  exponent : ℕ → ℕ → Float
  exponent f i =
      let x = sub binary64 (of_int binary64 (pos i)) (of_int binary64 (pos f)) in
      div binary64 (neg (mul binary64 x x)) spread

  exponent_not_above : (f i : ℕ) → f ≤ 1024 → i ≤ 1024 → T (le (exponent f i) zero_f)
  unfolding exponent
  exponent_not_above f i h k =
      let x = sub binary64 (of_int binary64 (pos i)) (of_int binary64 (pos f)) in
      let x_size : Size 11 x = sub_size 10 (of_int binary64 (pos i)) (of_int binary64 (pos f)) (lit≤ tt) (whole_size 10 i (lit≤ tt) k) (whole_size 10 f (lit≤ tt) h) in
      let sq = mul binary64 x x in
      let sq-size : Size 22 sq = mul_size 11 11 x x (lit≤ tt) x_size x_size in
      down_le (div binary64 (neg sq) spread) 34
      (div-above-down 22 12 (neg sq) spread (neg_size 22 sq sq-size) (down-neg sq (square-plus 11 x x_size)) spread_least)
      (div_least_size 22 12 (neg sq) spread (lit≤ tt) (neg_size 22 sq sq-size) spread_least)

  density_entry : (f i : ℕ) → f ≤ 1024 → i ≤ 1024 → Entry (density f sd i)
  unfolding normal_distribution exponent spread scale
  density_entry f i h k = entry_of (exponent f i) (div-fits binary64 _ spread) (exponent_not_above f i h k)

  -- the one in the middle is above 0
  exponent-none : (f : ℕ) → f ≤ 1024 → exponent f f ≡ fin true 0 (pos 0)
  unfolding exponent
  exponent-none f h = ap (λ (x : Float). div binary64 (neg (mul binary64 x x)) spread) (sub_self 10 (of_int binary64 (pos f)) (whole_size 10 f (lit≤ tt) h))
      ∙ ap (λ (x : Float). div binary64 x spread) no_square
      ∙ none_over 12 spread spread_least

  density_middle : (f : ℕ) → f ≤ 1024 → Least 14 (density f sd f)
  unfolding normal_distribution exponent spread scale
  density_middle f h =
      subst (λ (x : Float). Least 14 (div binary64 x scale)) (sym (ap exp_of (exponent-none f h) ∙ exp_none))
      (inverse_least 6 6 14 scale (lit≤ tt) scale_least scale_size (div_least_size 0 6 one_f scale (lit≤ tt) one_size scale_least))

-- ---- their sum

pub record Summed (k : ℕ) (s : Float) : Type 0 where
  pub plus_sign : Plus s
  pub size : Size k s
  pub fit : T (fits binary64 s)

number_of : (k : ℕ) (x : Float) → Size k x → Number x
number_of k nan p = absurd p
number_of k (inf t) p = absurd p
number_of k (fin t m e) p = tt

-- from s on, with entries of l still to come
pub record Total (l : List Float) (s r : Float) (k : ℕ) : Type 0 where
  pub summed : Summed k r
  pub from_start : AtMost s r
  pub from_each : (i : ℕ) → i < length l → AtMost (get_or l i nan) r

each_one : (x : Float) (l : List Float) (r : Float) → AtMost x r → ((i : ℕ) → i < length l → AtMost (get_or l i nan) r) → (i : ℕ) → i < suc (length l) → AtMost (get_or (x ∷ l) i nan) r
each_one x l r a f zero b = a
each_one x l r a f (suc i) b = f i (omega (arith, b))

sum_range : (l : List Float) → ((i : ℕ) → i < length l → Entry (get_or l i nan)) → (k : ℕ) → 6 ≤ k → k + length l ≤ 1023 → (s : Float) → Summed k s → Total l s (fold plus s l) (k + length l)
sum_range [] all k h g s p = record {
  summed = subst (λ (n : ℕ). Summed n s) (omega arith) p;
  from_start = at_most_refl s (number_of k s p.size);
  from_each = λ i l. absurd (omega (arith, l));
}
sum_range (x ∷ l) all k h g s p =
    let e = all 0 (omega arith) in
    let x_size = size_mono 6 k x h e.size in
    let more : Summed (k + 1) (add binary64 s x) = record { plus_sign = add-plus k k s x p.size x_size p.plus_sign e.plus_sign; size = add_size k s x (omega (arith, g)) p.size x_size; fit = add-fits binary64 s x } in
    let rest = sum_range l (λ i b. all (suc i) (omega (arith, b))) (k + 1) (omega (arith, h)) (omega (arith, g)) (add binary64 s x) more in
    let r = fold plus (add binary64 s x) l in
    record {
      summed = subst (λ (n : ℕ). Summed n r) (omega arith) rest.summed;
      from_start = at_most_trans s (add binary64 s x) r (add-at_most k s x p.fit p.size x_size e.plus_sign) rest.from_start;
      from_each = each_one x l r (at_most_trans x (add binary64 s x) r (add-second k k s x e.fit p.size p.plus_sign x_size e.plus_sign) rest.from_start) rest.from_each;
    }

zero_fits : T (fits binary64 zero_f)
unfolding of_bits fits
zero_fits = tt

-- ---- the kernel

-- Every entry of the kernel of a filter size up to 500, for every sigma in its range, is in 0 to 1.
pub kernel_unit : (f : ℕ) (sd : Float) → f ≤ max_filter → is_sigma sd ≡ true → (i : ℕ) → i < band f
    → T (le zero_f (get_or (gaussian_kernel f sd) i nan)) × T (le (get_or (gaussian_kernel f sd) i nan) one_f)
unfolding gaussian densities total
kernel_unit f sd few range i h =
    let n = band f in
    let l = tabulate (density f sd) n in
    let long : length l ≡ n = length-tabulate (density f sd) n in
    let at : (k : ℕ) → k < n → get_or l k nan ≡ density f sd k = λ k b. get_or-tabulate (density f sd) n k nan b in
    let entry : (k : ℕ) → k < length l → Entry (get_or l k nan) = λ k b. subst Entry (sym (at k (omega (arith, long, b)))) (density_entry sd range f k (omega (arith, few)) (omega (arith, few, long, b))) in
    let start : Summed 6 zero_f = record { plus_sign = zero_plus; size = size_mono 0 6 zero_f (lit≤ tt) zero_size_lem; fit = zero_fits } in
    let sums = sum_range l entry 6 (lit≤ tt) (omega (arith, few, long)) zero_f start in
    let r = fold plus zero_f l in
    let middle : AtMost (density f sd f) r = subst (λ (x : Float). AtMost x r) (at f (omega arith)) (sums.from_each f (omega (arith, long))) in
    let above : Least 14 r = least_up 14 (6 + length l) (density f sd f) r (density_middle sd range f (omega (arith, few))) middle sums.summed.size in
    let e = entry i (omega (arith, long, h)) in
    subst (λ (x : Float). T (le zero_f x) × T (le x one_f)) (sym (get_or-each (over r) l i nan (omega (arith, long, h))))
    (unit_of_small (div binary64 (get_or l i nan) r) (div_unit 6 14 (get_or l i nan) r e.size e.plus_sign above (sums.from_each i (omega (arith, long, h)))))
