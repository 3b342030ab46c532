-- A finite value above zero, halved until it is below 2 and then doubled until it is 1 at least: as many turns of each as the format's
-- least exponent (1,074 for a double) are enough, and nothing is rounded.
-- Assumes nothing.
use Rattle.std.specs.Prelude.{◌≡◌, refl, ℕ, zero, suc, ◌+◌, ◌-◌, ◌*◌, ◌%◌, ◌^◌, ◌≤◌, ◌<◌, Bool, true, false, not, ◌&&◌, ℤ, pos, negsuc, T, ltb, leb, eqb, Float}
use Rattle.std.proofs.Common.{sym, ap, ◌∙◌, subst, le_trans, le_of_eq, lt_of_lt_of_le, lt_of_le_of_lt, lt_of_not-le, not-le_of_lt, le_of_suc-le-suc, zero-lt-suc, mul-one, one-mul, mul_comm, mul_assoc, mul_left_comm, mul-le-mul_right, mul-lt-mul_of_pos_right, mul-pos, lt_of_mul-lt-mul_right, add-suc, arith, ltb→lt, leb→le, lit≤, pow-add, pow_pos, pow_mono}
use Rattle.std.proofs.Math.Nat.{pow-succ', eq_of_mul-eq-mul_right}
use Rattle.std.proofs.Math.Pow.{pow-lt}
use Rattle.std.specs.Float.{nan, inf, fin, Format, binary32, binary64}
use Rattle.std.specs.Float.Ieee.{prec, emax, low, up, down, round, mul, lt, le, fits}
use Rattle.std.specs.Float.Ieee.Bits.{is_true}
use Rattle.std.specs.Float.Ieee.Digits.{back}
use Rattle.std.specs.Float.Ieee.Fits.{and_l, and_r, mul-fits}
use Rattle.std.specs.Float.Ieee.Exact.{HasValue, round_exact}
use Rattle.std.specs.Float.Ieee.Order.{le_of_values}
use Rattle.std.specs.Float.Ieee.Scale.{round_same}
use Rattle.std.specs.Float.Ieee.Positive.{positive, positive_of_value, value→cross, mul_at, num, den}
use Rattle.lists.specs.Loops.{until}
use Rattle.lists.specs.While.{While, until_law, until_while}
use Rattle.doubles.specs.Order.{lt_of_values, ge_of_values, values_of_lt, values_of_ge}

-- x is a of the format's smallest values, a above 0, written q * 2 ^ j with a q of no more digits than the format keeps
pub record Units (f : Format) (x : Float) (a : ℕ) : Type 0 where
  pub value : HasValue x false a (2 ^ low f)
  pub some : 0 < a
  pub q : ℕ
  pub j : ℕ
  pub small : q < 2 ^ prec f
  pub written : a ≡ q * 2 ^ j

-- every value that fits, is finite and is above 0 is one, with a below 2 ^ (low + emax + 1)
pow_le : (i j : ℕ) → 2 ^ i ≤ 2 ^ j → i ≤ j
pow_le i j h = le_of_suc-le-suc (lt_of_not-le (λ (g : suc j ≤ i). not-le_of_lt (pow-lt g) h))

abbrev Made : Format → Float → Type 0
Made f x = (a : ℕ) × Units f x a × (a < 2 ^ (low f + suc (emax f)))

-- 2 ^ e in units
power : (l : ℕ) (e : ℤ) → down e ≤ 2 ^ l → (j : ℕ) × (up e * 2 ^ l ≡ 2 ^ j * down e)
power l (pos k) h = (k + l, sym (pow-add 2 k l) ∙ sym (mul-one (2 ^ (k + l))))
power l (negsuc k) h = (l - suc k, one-mul (2 ^ l) ∙ sym (ap (λ (z : ℕ). 2 ^ z) (back l (suc k) (pow_le (suc k) l h))) ∙ pow-add 2 (l - suc k) (suc k))

made : (f : Format) (m : ℕ) (e : ℤ) → suc m < 2 ^ prec f → down e ≤ 2 ^ low f → suc m * up e < 2 ^ suc (emax f) * down e → Made f (fin false (suc m) e)
made f m e s l t =
    let j = (power (low f) e l).0 in
    let v : suc m * up e * 2 ^ low f ≡ suc m * 2 ^ j * down e = mul_assoc (suc m) (up e) (2 ^ low f) ∙ ap (λ (z : ℕ). suc m * z) (power (low f) e l).1 ∙ sym (mul_assoc (suc m) (2 ^ j) (down e)) in
    let w : suc m * 2 ^ j * down e < 2 ^ (low f + suc (emax f)) * down e =
    subst (λ (z : ℕ). z < 2 ^ (low f + suc (emax f)) * down e) v
    (lt_of_lt_of_le (mul-lt-mul_of_pos_right t (pow_pos (low f))) (le_of_eq (simp (pow-add, mul_assoc, mul_comm, mul_left_comm)))) in
    (suc m * 2 ^ j, record { value = (refl, v); some = mul-pos (zero-lt-suc m) (pow_pos j); q = suc m; j = j; small = s; written = refl }, lt_of_mul-lt-mul_right (down e) w)

pub units_of : (f : Format) (x : Float) → T (fits f x) → T (positive x) → Made f x
unfolding fits
units_of f nan t p = absurd p
units_of f (inf s) t p = absurd p
units_of f (fin true m e) t p = absurd p
units_of f (fin false zero e) t p = absurd p
units_of f (fin false (suc m) e) t p =
    let a : Bool = eqb (suc m % 2) 1 in
    let b : Bool = ltb (suc m) (2 ^ prec f) in
    let c : Bool = leb (down e) (2 ^ low f) in
    let d : Bool = ltb (suc m * up e) (2 ^ suc (emax f) * down e) in
    made f m e (ltb→lt (suc m) (2 ^ prec f) (and_r a b (and_l (a && b) c (and_l (a && b && c) d t))))
    (leb→le (down e) (2 ^ low f) (and_r (a && b) c (and_l (a && b && c) d t)))
    (ltb→lt (suc m * up e) (2 ^ suc (emax f) * down e) (and_r (a && b && c) d t))

-- ---- a product by n / d that comes to whole units again is exact
pub mul_units : (f : Format) (x y : Float) (a n d b : ℕ) → Units f x a → 0 < n → 0 < d → HasValue y false n d → a * n ≡ b * d
    → 0 < b → (q j : ℕ) → q < 2 ^ prec f → b ≡ q * 2 ^ j → b < 2 ^ (low f + suc (emax f)) → Units f (mul f x y) b
mul_units f x y a n d b u N D v e B q j s w t =
    let L = pow_pos (low f) in
    let is : mul f x y ≡ round f false b (2 ^ low f) =
    mul_at f x y a (2 ^ low f) n d (positive_of_value x a (2 ^ low f) u.value u.some) (positive_of_value y n d v N) L D u.value v
    ∙ round_same f false (a * n) (2 ^ low f * d) b (2 ^ low f) (mul-pos L D) L (simp (e, mul_assoc, mul_comm, mul_left_comm)) in
    record {
      value = subst (λ (z : Float). HasValue z false b (2 ^ low f)) (sym is)
          (round_exact f false b (2 ^ low f) q j L s (subst (λ (z : ℕ). z < 2 ^ (low f + suc (emax f))) w t) (ap (λ (z : ℕ). z * 2 ^ low f) w));
      some = B;
      q = q;
      j = j;
      small = s;
      written = w;
    }

-- ---- what is said of y and of what it came to: y × 2 ^ i is x × 2 ^ j
abbrev pub Times : Float → ℕ → Float → ℕ → Type 0
Times y i x j = num y * 2 ^ i * den x ≡ num x * 2 ^ j * den y

-- y came to x by j halvings and i doublings
pub record Ended (f : Format) (one two y : Float) (i : ℕ) (x : Float) (j : ℕ) : Type 0 where
  pub from_one : T (le one x)
  pub below_two : T (lt x two)
  pub exact : Times y i x j
  pub least : i ≤ j + low f
  pub most : j ≤ i + emax f
  pub fit : T (fits f x)

times_of_units : (f : Format) (y x : Float) (a b i j : ℕ) → Units f y a → Units f x b → a * 2 ^ i ≡ b * 2 ^ j → Times y i x j
times_of_units f y x a b i j u v e =
    let L = 2 ^ low f in
    let p : num y * L ≡ a * den y = value→cross y a L u.value in
    let q : num x * L ≡ b * den x = value→cross x b L v.value in
    eq_of_mul-eq-mul_right L (pow_pos (low f)) (num y * 2 ^ i * den x) (num x * 2 ^ j * den y)
    (side (num y) (2 ^ i) (den x) L ∙ ap (λ (z : ℕ). z * (2 ^ i * den x)) p ∙ turn a (den y) (2 ^ i) (den x) ∙ ap (λ (z : ℕ). z * (den y * den x)) e
    ∙ sym (side (num x) (2 ^ j) (den y) L ∙ ap (λ (z : ℕ). z * (2 ^ j * den y)) q ∙ turn b (den x) (2 ^ j) (den y) ∙ ap (λ (z : ℕ). b * 2 ^ j * z) (mul_comm (den x) (den y))))
  where
    side : (n p d l : ℕ) → n * p * d * l ≡ n * l * (p * d)
    side n p d l = simp (mul_assoc, mul_left_comm, mul_comm)

    turn : (a d p e : ℕ) → a * d * (p * e) ≡ a * p * (d * e)
    turn a d p e = simp (mul_assoc, mul_left_comm)

-- a * 2 ^ i is b * 2 ^ j, with 1 ≤ a < 2 ^ (l + e + 1) and 2 ^ l ≤ b < 2 ^ (l + 1)
pow_lt_inv : (i j : ℕ) → 2 ^ i < 2 ^ j → i < j
pow_lt_inv i j h = lt_of_not-le (λ (g : j ≤ i). not-le_of_lt h (pow_mono g))

least_count : (l a b i j : ℕ) → 0 < a → b < 2 * 2 ^ l → a * 2 ^ i ≡ b * 2 ^ j → i ≤ j + l
least_count l a b i j A B e =
    let p : 2 ^ i ≤ b * 2 ^ j = le_trans (le_trans (le_of_eq (sym (one-mul (2 ^ i)))) (mul-le-mul_right (2 ^ i) A)) (le_of_eq e) in
    let q : b * 2 ^ j < 2 ^ (suc l + j) = lt_of_lt_of_le (mul-lt-mul_of_pos_right B (pow_pos j)) (le_of_eq (ap (λ (z : ℕ). z * 2 ^ j) (sym (pow-succ' 2 l)) ∙ sym (pow-add 2 (suc l) j))) in
    omega (arith, pow_lt_inv i (suc l + j) (lt_of_le_of_lt p q))

most_count : (l e a b i j : ℕ) → a < 2 ^ (l + suc e) → 2 ^ l ≤ b → a * 2 ^ i ≡ b * 2 ^ j → j ≤ i + e
most_count l e a b i j A B h =
    let p : 2 ^ (l + j) ≤ b * 2 ^ j = le_trans (le_of_eq (pow-add 2 l j)) (mul-le-mul_right (2 ^ j) B) in
    let q : a * 2 ^ i < 2 ^ (l + suc e + i) = lt_of_lt_of_le (mul-lt-mul_of_pos_right A (pow_pos i)) (le_of_eq (sym (pow-add 2 (l + suc e) i))) in
    omega (arith, pow_lt_inv (l + j) (l + suc e + i) (lt_of_le_of_lt (le_trans p (le_of_eq (sym h))) q))

step : (b i j : ℕ) → j ≡ suc i → b * 2 ^ j ≡ 2 * b * 2 ^ i
step b i j e = ap (λ (z : ℕ). b * 2 ^ z) e ∙ ap (λ (z : ℕ). b * z) (pow-succ' 2 i) ∙ mul_left_comm b 2 (2 ^ i) ∙ sym (mul_assoc 2 b (2 ^ i))

-- ---- the turns
module _ (f : Format) (one two half : Float) (v1 : HasValue one false 1 1) (v2 : HasValue two false 2 1) (vh : HasValue half false 1 2) where
  abbrev top : ℕ
  top = 2 ^ (low f + suc (emax f))

  wide : prec f ≤ suc (low f)
  wide = go f
    where
      go : (f : Format) → prec f ≤ suc (low f)
      go binary32 = lit≤ tt
      go binary64 = lit≤ tt

  pub half_turn : (x : Float) (a : ℕ) → Units f x a → a < top → T (not (lt x two)) → (b : ℕ) × (a ≡ 2 * b) × Units f (mul f x half) b
  half_turn x a u t h = go u.j u.written
    where
      ge : 2 * 2 ^ low f ≤ a * 1
      ge = values_of_ge x two a (2 ^ low f) 2 1 (pow_pos (low f)) (zero-lt-suc 0) u.value v2 h

      few : u.q < 2 * 2 ^ low f
      few = lt_of_lt_of_le u.small (le_trans (pow_mono wide) (le_of_eq (pow-succ' 2 (low f))))

      go : (j : ℕ) → a ≡ u.q * 2 ^ j → (b : ℕ) × (a ≡ 2 * b) × Units f (mul f x half) b
      go zero e = absurd (omega (arith, ge, few))
      go (suc j) e =
          let b = u.q * 2 ^ j in
          let d : a ≡ 2 * b = e ∙ ap (λ (z : ℕ). u.q * z) (pow-succ' 2 j) ∙ mul_left_comm u.q 2 (2 ^ j) in
          (b, d, mul_units f x half a 1 2 b u (zero-lt-suc 0) (zero-lt-suc 1) vh (omega arith) (omega (arith, u.some)) u.q j u.small refl (omega arith))

  pub double-turn : (x : Float) (a : ℕ) → Units f x a → T (lt x one) → (a < 2 ^ low f) × Units f (mul f x two) (2 * a)
  double-turn x a u h =
      let l : a * 1 < 1 * 2 ^ low f = values_of_lt x one a (2 ^ low f) 1 1 (pow_pos (low f)) (zero-lt-suc 0) u.value v1 h in
      let r : 2 * 2 ^ low f ≤ top = le_trans (le_of_eq (sym (pow-succ' 2 (low f)))) (pow_mono (omega arith)) in (
        omega arith,
        mul_units f x two a 2 1 (2 * a) u (zero-lt-suc 1) (zero-lt-suc 0) v2 (omega arith) (omega (arith, u.some)) u.q (suc u.j) u.small
            (ap (λ (z : ℕ). 2 * z) u.written ∙ mul_left_comm 2 u.q (2 ^ u.j) ∙ ap (λ (z : ℕ). u.q * z) (sym (pow-succ' 2 u.j))) (omega arith),
      )

  -- ---- the loops, over any state that has the value m, the number h of halvings and the number d of doublings
  module _ {S : Type 0} (m : S → Float) (h : S → ℕ) (d : S → ℕ) (halve twice : S → S)
      (hm : (s : S) → m (halve s) ≡ mul f (m s) half) (hh : (s : S) → h (halve s) ≡ h s + 1) (hd : (s : S) → d (halve s) ≡ d s)
      (tm : (s : S) → m (twice s) ≡ mul f (m s) two) (th : (s : S) → h (twice s) ≡ h s) (td : (s : S) → d (twice s) ≡ d s + 1) where
    abbrev pub below2 : S → Bool
    below2 s = lt (m s) two

    abbrev pub from1 : S → Bool
    from1 s = not (lt (m s) one)

    -- A units at the start are a units now, less the halvings and with the doublings
    abbrev Same : ℕ → ℕ → S → Type 0
    Same A a s = A * 2 ^ d s ≡ a * 2 ^ h s

    -- with n turns left m is below 2 ^ (n + 1)
    record Halving (A n : ℕ) (s : S) : Type 0 where
      a : ℕ
      is : Units f (m s) a
      fit : T (fits f (m s))
      inside : a < top
      bound : a < 2 ^ (low f + suc n)
      same : Same A a s

    halving_stop : (A : ℕ) (s : S) → Halving A 0 s → T (below2 s)
    halving_stop A s k = lt_of_values (m s) two k.a (2 ^ low f) 2 1 (pow_pos (low f)) (zero-lt-suc 0) k.is.value v2 (omega (arith, k.bound, pow-add 2 (low f) 1))

    halving_turn : (A n : ℕ) (s : S) → Halving A (suc n) s → T (not (below2 s)) → Halving A n (halve s)
    halving_turn A n s k t =
        let r = half_turn (m s) k.a k.is k.inside t in
        record {
          a = r.0;
          is = subst (λ (z : Float). Units f z r.0) (sym (hm s)) r.2;
          fit = subst (λ (z : Float). T (fits f z)) (sym (hm s)) (mul-fits f (m s) half);
          inside = omega (arith, k.inside, r.1);
          bound = omega (arith, k.bound, r.1, ap (λ (z : ℕ). 2 ^ z) (add-suc (low f) (suc n)) ∙ pow-succ' 2 (low f + suc n));
          same = ap (λ (z : ℕ). A * 2 ^ z) (hd s) ∙ k.same ∙ ap (λ (z : ℕ). z * 2 ^ h s) r.1 ∙ sym (step r.0 (h s) (h (halve s)) (omega (arith, hh s)));
        }

    -- with n turns left m is 2 ^ -n at least
    record Doubling (A n : ℕ) (s : S) : Type 0 where
      a : ℕ
      is : Units f (m s) a
      fit : T (fits f (m s))
      under : a < 2 * 2 ^ low f
      reach : 2 ^ low f ≤ a * 2 ^ n
      same : Same A a s

    doubling_stop : (A : ℕ) (s : S) → Doubling A 0 s → T (from1 s)
    doubling_stop A s k = ge_of_values (m s) one k.a (2 ^ low f) 1 1 (pow_pos (low f)) (zero-lt-suc 0) k.is.value v1 (omega (arith, k.reach))

    not_not : (b : Bool) → T (not (not b)) → T b
    not_not true t = tt
    not_not false t = t

    doubling_turn : (A n : ℕ) (s : S) → Doubling A (suc n) s → T (not (from1 s)) → Doubling A n (twice s)
    doubling_turn A n s k t =
        let r = double-turn (m s) k.a k.is (not_not (lt (m s) one) t) in
        record {
          a = 2 * k.a;
          is = subst (λ (z : Float). Units f z (2 * k.a)) (sym (tm s)) r.1;
          fit = subst (λ (z : Float). T (fits f z)) (sym (tm s)) (mul-fits f (m s) two);
          under = omega (arith, r.0);
          reach = le_trans k.reach (le_of_eq (step k.a n (suc n) refl));
          same = step A (d s) (d (twice s)) (omega (arith, td s)) ∙ mul_assoc 2 A (2 ^ d s) ∙ ap (λ (z : ℕ). 2 * z) k.same ∙ sym (mul_assoc 2 k.a (2 ^ h s)) ∙ sym (ap (λ (z : ℕ). 2 * k.a * 2 ^ z) (th s));
        }

    -- N turns of each are enough
    module _ (N : ℕ) (low-N : low f ≤ N) (emax-N : emax f ≤ N) where
      abbrev pub halved : S → S
      halved s = until below2 halve N s

      abbrev pub scaled : S → S
      scaled s = until from1 twice N (halved s)

      halving_ends : (s : S) → T (fits f (m s)) → T (positive (m s)) → h s ≡ 0 → d s ≡ 0
          → (A : ℕ) × (Units f (m s) A × (A < top)) × T (below2 (halved s)) × ((n : ℕ) × Halving A n (halved s))
      halving_ends s t p e e' =
          let u = units_of f (m s) t p in
          let k : Halving u.0 N s = record {
            a = u.0;
            is = u.1;
            fit = t;
            inside = u.2;
            bound = lt_of_lt_of_le u.2 (pow_mono (omega arith));
            same = ap (λ (z : ℕ). u.0 * 2 ^ z) (e' ∙ sym e);
          } in
          let r = until_law below2 halve (Halving u.0) (halving_stop u.0) (halving_turn u.0) N s k in
          (u.0, (u.1, u.2), r.0, r.1)

      doubling_starts : (A n : ℕ) (s : S) → Halving A n s → T (below2 s) → Doubling A N s
      doubling_starts A n s k t = record {
        a = k.a;
        is = k.is;
        fit = k.fit;
        under = omega (arith, values_of_lt (m s) two k.a (2 ^ low f) 2 1 (pow_pos (low f)) (zero-lt-suc 0) k.is.value v2 t);
        reach = le_trans (pow_mono low-N) (le_trans (le_of_eq (sym (one-mul (2 ^ N)))) (mul-le-mul_right (2 ^ N) k.is.some));
        same = k.same;
      }

      doubling_ends : (s : S) → T (fits f (m s)) → T (positive (m s)) → h s ≡ 0 → d s ≡ 0
          → (A : ℕ) × (Units f (m s) A × (A < top)) × T (from1 (scaled s)) × ((n : ℕ) × Doubling A n (scaled s))
      doubling_ends s t p e e' =
          let k = halving_ends s t p e e' in
          let r = until_law from1 twice (Doubling k.0) (doubling_stop k.0) (doubling_turn k.0) N (halved s) (doubling_starts k.0 k.3.0 (halved s) k.3.1 k.2) in
          (k.0, k.1, r.0, r.1)

      finish : (s : S) (A : ℕ) → Units f (m s) A → A < top → (z : S) (n : ℕ) → Doubling A n z → T (from1 z) → Ended f one two (m s) (d z) (m z) (h z)
      finish s A u l z n k t =
          let one-le : 1 * 2 ^ low f ≤ k.a * 1 = values_of_ge (m z) one k.a (2 ^ low f) 1 1 (pow_pos (low f)) (zero-lt-suc 0) k.is.value v1 t in
          record {
            from_one = le_of_values one (m z) 1 1 k.a (2 ^ low f) (zero-lt-suc 0) (pow_pos (low f)) v1 k.is.value one-le;
            below_two = lt_of_values (m z) two k.a (2 ^ low f) 2 1 (pow_pos (low f)) (zero-lt-suc 0) k.is.value v2 (omega (arith, k.under));
            exact = times_of_units f (m s) (m z) A k.a (d z) (h z) u k.is k.same;
            least = least_count (low f) A k.a (d z) (h z) u.some k.under k.same;
            most = most_count (low f) (emax f) A k.a (d z) (h z) l (omega arith) k.same;
            fit = k.fit;
          }

      -- the scaling comes to a value in 1 to 2, exactly the start's but for the powers of two that were counted
      pub scaling_ends : (s : S) → T (fits f (m s)) → T (positive (m s)) → h s ≡ 0 → d s ≡ 0 → Ended f one two (m s) (d (scaled s)) (m (scaled s)) (h (scaled s))
      scaling_ends s t p e e' = let r = doubling_ends s t p e e' in finish s r.0 r.1.0 r.1.1 (scaled s) r.3.0 r.3.1 r.2

      -- the two loops without a budget come to the same
      pub scaling_loops : (s : S) → T (fits f (m s)) → T (positive (m s)) → h s ≡ 0 → d s ≡ 0 → While below2 halve s (halved s) × While from1 twice (halved s) (scaled s)
      scaling_loops s t p e e' = (
        until_while below2 halve N s (is_true (below2 (halved s)) (halving_ends s t p e e').2),
        until_while from1 twice N (halved s) (is_true (from1 (scaled s)) (doubling_ends s t p e e').2),
      )
