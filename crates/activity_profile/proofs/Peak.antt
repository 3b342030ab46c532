-- The peak: of a region's cells it is one that no other is strictly above, and of equals the first; a first cell that is NaN is the peak. So the walk of the
-- definition says what document 02 says, for cells of any content. Assumes nothing.
use mathlib.Core.Path.{◌≡◌, refl, sym, ap, subst, ◌∙◌}
use mathlib.Core.Bool.{Bool, true, false, cond, true≢false, false≢true}
use mathlib.Core.List.{List}
use mathlib.Core.Logic.{◌⊎◌, inl, inr}
use Prim.Native.Nat.{ℕ, suc, ◌+◌, ◌-◌, ◌≤◌, ◌<◌}
use native.Mathlib.Nat.{eq-or-lt_of_le, eq-zero-or-pos}
use native.Mathlib.Omega.{arith}
use lib.ListN.{length, take}
use lib.Seq.{get_or-take, length-take-le}
use lib.Ieee.{Float, nan, lt, le, eq}
use Rattle.lists.specs.Loops.{along}
use Rattle.lists.specs.Tests.{or_left, or_right}
use Rattle.lists.specs.Window.{lt_or_le}
use Rattle.double_ranges.specs.Loops.{along_keeps}
use Rattle.double_ranges.specs.Order.{Number, above_lower, at_most_of_lt, lt-at_most, lt_self, not_le_lower, number-above}
use Rattle.activity_profile.specs.declared.BandPassActivityProfile.{BandPassActivityProfile}
use Rattle.activity_profile.specs.declared.ActivityProfileRegion.{ActivityProfileRegion}
use Rattle.activity_profile.specs.Loci.{cell}
use Rattle.activity_profile.specs.Verdict.{Verdict, refusal, granted}
use Rattle.activity_profile.specs.Peak.{leads, peak_index}
use Rattle.activity_profile.specs.Pop.{PopAnswer, refused_pop, empty_pop, held_pop, region_pop, Turn, empty, held, ready, pop_verdict, turn, pop_size, region_with, region_of, pop_answer_by, pop_answer}
use Rattle.activity_profile.proofs.Cuts.{cut_is}

-- ---- the walk

module _ (xs : List Float) where
  -- cell j leads the first n cells
  pub record Leading (n j : ℕ) : Type 0 where
    pub inside : j < n
    pub none_above : (i : ℕ) → i < n → lt (cell xs j) (cell xs i) ≡ false
    pub none_equal : (i : ℕ) → i < j → eq (cell xs j) (cell xs i) ≡ false
    pub above_earlier : (i : ℕ) → i < j → Number (cell xs i) → lt (cell xs i) (cell xs j) ≡ true
    -- so that a first cell that is NaN leads: nothing is above it
    pub above-first : 0 < j → lt (cell xs 0) (cell xs j) ≡ true

  -- cell n is strictly above the leader of those before it
  overtakes : (n j : ℕ) → Leading n j → lt (cell xs j) (cell xs n) ≡ true → Leading (suc n) n
  unfolding le
  overtakes n j l h = record {
    inside = omega arith;
    none_above = λ i q. above i (eq-or-lt_of_le q);
    none_equal = λ i q. or_right (lt (cell xs n) (cell xs i)) (eq (cell xs n) (cell xs i)) (lower i q);
    above_earlier = λ i q p. above_lower (cell xs j) (cell xs n) (cell xs i) p h (l.none_above i q);
    above-first = λ q. first (eq-zero-or-pos j);
  }
    where
      lower : (i : ℕ) → i < n → le (cell xs n) (cell xs i) ≡ false
      lower i q = not_le_lower (cell xs j) (cell xs n) (cell xs i) h (l.none_above i q)

      above : (i : ℕ) → (suc i ≡ suc n) ⊎ (suc i < suc n) → lt (cell xs n) (cell xs i) ≡ false
      above i (inl e) = let f : i ≡ n = omega arith in rw f (lt_self (cell xs n))
      above i (inr q) = or_left (lt (cell xs n) (cell xs i)) (eq (cell xs n) (cell xs i)) (lower i (omega arith))

      first : (j ≡ 0) ⊎ (0 < j) → lt (cell xs 0) (cell xs n) ≡ true
      first (inl e) = rw (← e) h
      first (inr q) = lt-at_most (cell xs 0) (cell xs j) (cell xs n) (l.above-first q) (at_most_of_lt (cell xs j) (cell xs n) h)

  -- or it is not
  stays : (n j : ℕ) → Leading n j → lt (cell xs j) (cell xs n) ≡ false → Leading (suc n) j
  stays n j l h = record {
    inside = omega (arith, l.inside);
    none_above = λ i q. above i (eq-or-lt_of_le q);
    none_equal = l.none_equal;
    above_earlier = l.above_earlier;
    above-first = l.above-first;
  }
    where
      above : (i : ℕ) → (suc i ≡ suc n) ⊎ (suc i < suc n) → lt (cell xs j) (cell xs i) ≡ false
      above i (inl e) = let f : i ≡ n = omega arith in rw f h
      above i (inr q) = l.none_above i (omega arith)

  turn-leads : (n j : ℕ) → Leading n j → Leading (suc n) (leads xs n j)
  unfolding leads
  turn-leads n j l = go (lt (cell xs j) (cell xs n)) refl
    where
      go : (b : Bool) → lt (cell xs j) (cell xs n) ≡ b → Leading (suc n) (cond b n j)
      go true e = overtakes n j l e
      go false e = stays n j l e

  -- The peak of any cells, one at least, leads them.
  pub peak_leads : 1 ≤ length xs → Leading (length xs) (peak_index xs)
  unfolding peak_index
  peak_leads h =
      let e : 1 + (length xs - 1) ≡ length xs = omega arith in
      let alone : Leading 1 0 = record {
        inside = omega arith;
        none_above = λ i q. let f : i ≡ 0 = omega arith in rw f (lt_self (cell xs 0));
        none_equal = λ i q. absurd (omega (arith, q));
        above_earlier = λ i q. absurd (omega (arith, q));
        above-first = λ q. absurd (omega (arith, q));
      } in
      subst (λ (n : ℕ). Leading n (along (leads xs) 1 (length xs - 1) 0)) e (along_keeps Leading (leads xs) 1 (length xs - 1) (λ k l j. turn-leads k j) 0 alone)

  -- Only one cell leads, so that what `Leading` says of the peak says which one it is.
  pub one_leads : (n j k : ℕ) → Leading n j → Leading n k → j ≡ k
  one_leads n j k l m = go (lt_or_le j k)
    where
      -- a cell before the leader is a number, or the first, which the leader is strictly above
      earlier : (j k : ℕ) → Leading n j → Leading n k → j < k → (j ≡ 0) ⊎ (0 < j) → lt (cell xs j) (cell xs k) ≡ true
      earlier j k l m q (inl e) = rw e (m.above-first (omega arith))
      earlier j k l m q (inr p) = m.above_earlier j q (number-above (cell xs 0) (cell xs j) (at_most_of_lt (cell xs 0) (cell xs j) (l.above-first p)))

      not_earlier : (j k : ℕ) → Leading n j → Leading n k → j < k → ⊥
      not_earlier j k l m q = true≢false (sym (earlier j k l m q (eq-zero-or-pos j)) ∙ l.none_above k m.inside)

      go : (j < k) ⊎ (k ≤ j) → j ≡ k
      go (inl q) = absurd (not_earlier j k l m q)
      go (inr q) = at_least (eq-or-lt_of_le q)
        where
          at_least : (k ≡ j) ⊎ (k < j) → j ≡ k
          at_least (inl e) = sym e
          at_least (inr p) = absurd (not_earlier k j m l p)

-- ---- the peak of a region that is popped

-- `cells` are those lent to the pop: "cell i is the activity at region start + i", so that of a region from s on the cell of locus q is cell q - s
pub record Peak (cells : List Float) (r : ActivityProfileRegion) : Type 0 where
  -- each locus of the region has a cell that was lent
  pub lent : r.end - r.start < length cells
  -- the peak's position is one of the region's loci, and the peak is the cell there
  pub from_start : r.start ≤ r.peak_pos
  pub to_end : r.peak_pos ≤ r.end
  pub is_cell : r.peak ≡ cell cells (r.peak_pos - r.start)
  -- no cell of the region is strictly above it
  pub none_above : (q : ℕ) → r.start ≤ q → q ≤ r.end → lt r.peak (cell cells (q - r.start)) ≡ false
  -- none before it equals it, and it is strictly above those that are numbers
  pub none_equal : (q : ℕ) → r.start ≤ q → q < r.peak_pos → eq r.peak (cell cells (q - r.start)) ≡ false
  pub above_earlier : (q : ℕ) → r.start ≤ q → q < r.peak_pos → Number (cell cells (q - r.start)) → lt (cell cells (q - r.start)) r.peak ≡ true
  -- unless the first cell is the peak, it is strictly above the first: so a first cell that is NaN is the peak
  pub above-first : r.start < r.peak_pos → lt (cell cells 0) r.peak ≡ true
  pub nan_first : cell cells 0 ≡ nan → r.peak_pos ≡ r.start

leading_is : (cells : List Float) (r : ActivityProfileRegion) → Peak cells r → Leading cells (suc (r.end - r.start)) (r.peak_pos - r.start)
leading_is cells r p = record {
  inside = omega (arith, p.from_start, p.to_end);
  none_above = λ i q. at i (λ j x. lt x (cell cells j) ≡ false) (p.none_above (r.start + i) (omega arith) (omega (arith, p.from_start, p.to_end)));
  none_equal = λ i q. at i (λ j x. eq x (cell cells j) ≡ false) (p.none_equal (r.start + i) (omega arith) (omega (arith, p.from_start)));
  above_earlier = λ i q n. at i (λ j x. lt (cell cells j) x ≡ true) (p.above_earlier (r.start + i) (omega arith) (omega (arith, p.from_start)) (at_back i n));
  above-first = λ q. subst (λ (x : Float). lt (cell cells 0) x ≡ true) p.is_cell (p.above-first (omega arith));
}
  where
    -- the cell of locus start + i is cell i, and the peak is a cell
    at : (i : ℕ) (P : ℕ → Float → Type 0) → P (r.start + i - r.start) r.peak → P i (cell cells (r.peak_pos - r.start))
    at i P x = subst (λ (j : ℕ). P j (cell cells (r.peak_pos - r.start))) (omega arith) (subst (P (r.start + i - r.start)) p.is_cell x)

    at_back : (i : ℕ) → Number (cell cells i) → Number (cell cells (r.start + i - r.start))
    at_back i n = subst (λ (j : ℕ). Number (cell cells j)) (omega arith) n

-- What `Peak` says singles out one locus: two regions of the same loci that have it, over the same cells, have the same peak.
pub one_peak : (cells : List Float) (r s : ActivityProfileRegion) → Peak cells r → Peak cells s → r.start ≡ s.start → r.end ≡ s.end → r.peak_pos ≡ s.peak_pos
one_peak cells r s p q a b =
    let e : r.peak_pos - r.start ≡ s.peak_pos - s.start = one_leads cells (suc (r.end - r.start)) _ _ (leading_is cells r p) (rw (a, b) (leading_is cells s q)) in
    omega (arith, p.from_start, q.from_start)

-- what a pop answers: a region that it hands out has its peak
abbrev Hands : List Float → PopAnswer → Type 0
Hands cells (refused_pop n q) = Unit {0}
Hands cells (empty_pop q) = Unit {0}
Hands cells (held_pop q) = Unit {0}
Hands cells (region_pop r q) = Peak cells r

region_of_lem : (p : BandPassActivityProfile) (cells : List Float) (size extension : ℕ) → 1 ≤ size → size ≤ length cells → Peak cells (region_of p cells size extension)
unfolding region_of region_with lt
region_of_lem p cells size extension h k = record {
  lent = omega arith;
  from_start = omega arith;
  to_end = omega (arith, l.inside);
  is_cell = let e : p.region_start + j - p.region_start ≡ j = omega arith in rw e (same j l.inside);
  none_above = λ q a b. let i : q - p.region_start < size = omega arith in ap (lt peak) (sym (same _ i)) ∙ l.none_above _ i;
  none_equal = λ q a b. let i : q - p.region_start < j = omega arith in ap (eq peak) (sym (same _ (omega (arith, l.inside)))) ∙ l.none_equal _ i;
  above_earlier = λ q a b n. earlier (q - p.region_start) (omega arith) n;
  above-first = λ q. first (omega arith);
  nan_first = λ e. leads_nan e (eq-zero-or-pos j);
}
  where
    popped : List Float
    popped = take size cells

    j : ℕ
    j = peak_index popped

    peak : Float
    peak = cell popped j

    l : Leading popped size j
    l =
        let long : length popped ≡ size = length-take-le size cells k in
        subst (λ (n : ℕ). Leading popped n j) long (peak_leads popped (omega arith))

    same : (i : ℕ) → i < size → cell popped i ≡ cell cells i
    same i q = get_or-take size cells i nan q

    earlier : (i : ℕ) → i < j → Number (cell cells i) → lt (cell cells i) peak ≡ true
    earlier i q n =
        let e = same i (omega (arith, l.inside)) in
        ap (λ (x : Float). lt x peak) (sym e) ∙ l.above_earlier i q (subst Number (sym e) n)

    first : 0 < j → lt (cell cells 0) peak ≡ true
    first q = ap (λ (x : Float). lt x peak) (sym (same 0 h)) ∙ l.above-first q

    leads_nan : cell cells 0 ≡ nan → (j ≡ 0) ⊎ (0 < j) → p.region_start + j ≡ p.region_start
    leads_nan e (inl z) = omega arith
    leads_nan e (inr q) = absurd (false≢true (subst (λ (x : Float). lt x peak ≡ true) e (first q)))

hands : (p : BandPassActivityProfile) (cells : List Float) (extension least most : ℕ) (forced : Bool) → Hands cells (pop_answer p cells extension least most forced)
unfolding pop_answer pop_answer_by
hands p cells extension least most forced = go (pop_verdict p (length cells) least most) (turn p most forced) refl refl
  where
    go : (v : Verdict) (t : Turn) → pop_verdict p (length cells) least most ≡ v → turn p most forced ≡ t → Hands cells (pop_answer_by v t p cells extension least most forced)
    go (refusal n) t e f = tt
    go granted empty e f = tt
    go granted held e f = tt
    go granted ready e f =
        let c = cut_is p cells least most forced e f in
        region_of_lem p cells (pop_size p cells least most forced) extension c.sized.some (omega (arith, c.within, c.kept_high, c.asked.whole.cells))

-- Whatever the record, the cells and the sizes are: a region that a pop answers has its peak.
pub region_peak : (p : BandPassActivityProfile) (cells : List Float) (extension least most : ℕ) (forced : Bool) (r : ActivityProfileRegion) (q : BandPassActivityProfile)
    → pop_answer p cells extension least most forced ≡ region_pop r q → Peak cells r
region_peak p cells extension least most forced r q e = subst (Hands cells) e (hands p cells extension least most forced)
