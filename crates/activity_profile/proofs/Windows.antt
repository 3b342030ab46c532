-- The window that an accepted add writes, and that its cells are those of the definition. Assumes nothing.
use Prim.Native.Nat.{ℕ, zero, suc, ◌+◌, ◌-◌, ◌*◌, ◌≤◌, ◌<◌, max}
use mathlib.Core.Path.{◌≡◌, refl, sym, ◌∙◌}
use mathlib.Core.Bool.{Bool, true, false, cond}
use mathlib.Core.List.{List, ◌++◌}
use mathlib.Core.Logic.{⊎_elim}
use native.Mathlib.Omega.{arith}
use lib.Dec.{ltb}
use lib.ListN.{length, take, drop}
use lib.Ieee.{Float, nan}
use Rattle.std.proofs.lemmas.List.{get_or-drop}
use borrow.Author.Tests.{lt-ltb, le-ltb, le-leb, lt-leb, eqb-true, not-false}
use Rattle.lists.specs.Each.{each, each_same}
use Rattle.lists.specs.Window.{within, each_window, lt_or_le}
use Rattle.activity_profile.specs.declared.BandPassActivityProfile.{BandPassActivityProfile}
use Rattle.activity_profile.specs.declared.ActivityProfileState.{ActivityProfileState}
use Rattle.activity_profile.specs.Verdict.{granted}
use Rattle.activity_profile.specs.Add.{at, super_states, spreads, received, weight, first_locus, lowest, highest, needed, add_verdict, added_cell}
use Rattle.activity_profile.specs.Window.{receiving, lo, hi, off, held}
use Rattle.lists.specs.Tests.{or_right}
use Rattle.activity_profile.proofs.Verdicts.{this_not}
use Rattle.activity_profile.proofs.Facts.{Whole, accepted_is}
use Rattle.activity_profile.proofs.Unbroken.{first_is, high_is}

-- ---- where the window lies

pub record Reached (p : BandPassActivityProfile) (s : ActivityProfileState) (n k : ℕ) : Type 0 where
  pub first : first_locus p s ≤ at s
  pub some : 1 ≤ first_locus p s
  pub low : lowest p s ≤ at s
  pub near : at s ≤ lowest p s + p.filter_size
  pub high : at s ≤ highest p s
  pub far : highest p s ≤ at s + p.filter_size
  pub on : highest p s ≤ p.contig_len
  pub room : highest p s - first_locus p s + 1 ≤ n
  pub count : needed p s ≤ p.contig_len
  pub kernel : k ≡ 2 * p.filter_size + 1
  pub whole : Whole p n
  pub asked : (1 ≤ at s) × (at s ≤ p.contig_len)

lowest_is : (b : Bool) (q f : ℕ) → 1 ≤ q → (cond b (max 1 (q - f)) q ≤ q) × (q ≤ cond b (max 1 (q - f)) q + f)
lowest_is true q f h = omega arith
lowest_is false q f h = omega arith

count_on : (p : BandPassActivityProfile) (n : ℕ) → Whole p n → p.count ≤ p.contig_len
count_on p n w = go p.count refl
  where
    go : (c : ℕ) → p.count ≡ c → c ≤ p.contig_len
    go zero e = omega arith
    go (suc c) e = let l = w.some (omega arith) in omega arith

kernel_is : (p : BandPassActivityProfile) (n k : ℕ) (s : ActivityProfileState) → add_verdict p n k s ≡ granted → k ≡ 2 * p.filter_size + 1
unfolding add_verdict
kernel_is p n k s e = search (eqb-true, not-false, or_right, this_not)

pub reached_is : (p : BandPassActivityProfile) (n k : ℕ) (s : ActivityProfileState) → add_verdict p n k s ≡ granted → Reached p s n k
unfolding lowest highest needed
reached_is p n k s e =
    let a = accepted_is p n k s e in
    let f = first_is p n s a in
    let l = lowest_is (spreads s) (at s) p.filter_size a.low in
    let h = high_is p n s a in
    record {
      first = f.high;
      some = f.low;
      whole = a.whole;
      asked = (a.low, a.high);
      low = l.0;
      near = l.1;
      high = h.at_high;
      far = h.high_near;
      on = h.high_on;
      room = omega (arith, a.room);
      count = omega (arith, count_on p n a.whole);
      kernel = kernel_is p n k s e;
    }

-- ---- its cells

ltb_less : (a i n : ℕ) → a ≤ i → ltb (i - a) (n - a) ≡ ltb i n
ltb_less a i n h =
    ⊎_elim
    (λ u. lt-ltb (i - a) (n - a) (omega arith) ∙ sym (lt-ltb i n u))
    (λ u. le-ltb (i - a) (n - a) (omega arith) ∙ sym (le-ltb i n u))
    (lt_or_le i n)

abbrev pub gain : BandPassActivityProfile → List Float → ActivityProfileState → ℕ → Float → Float
gain p k s = receiving (drop (off p s) k) s (super_states p (at s) s.evidence) (held p s)

-- the kernel is lent from the window's entry on
weight-drop : (k : List Float) (s : ActivityProfileState) (n j : ℕ) → weight (drop n k) s j ≡ weight k s (n + j)
unfolding weight
weight-drop k s n j = rw (get_or-drop n k j nan)

module _ (p : BandPassActivityProfile) (k : List Float) (s : ActivityProfileState) (n m : ℕ) (r : Reached p s n m) where
  same-cell : (i : ℕ) (x : Float) → within (lo p s) (hi p s) (gain p k s) i x ≡ added_cell p k s i x
  unfolding receiving added_cell received
  same-cell i x =
      ⊎_elim
      (λ u.
      let h : first_locus p s + i < lowest p s = omega arith in
      rw (lt-ltb i (lo p s) u, lt-leb (lowest p s) (first_locus p s + i) h))
      (λ u.
      let h₁ : lowest p s ≤ first_locus p s + i = omega arith in
      ⊎_elim
      (λ v.
      let h₂ : first_locus p s + i ≤ highest p s = omega (arith, r.first, r.high) in
      let e : off p s + (i - lo p s) ≡ first_locus p s + i + p.filter_size - at s = omega (arith, r.near) in
      rw (le-ltb i (lo p s) u, lt-ltb i (hi p s) v, le-leb (lowest p s) (first_locus p s + i) h₁, le-leb (first_locus p s + i) (highest p s) h₂, weight-drop k s (off p s) (i - lo p s), e, ltb_less (lo p s) i p.count u))
      (λ v.
      let h₂ : highest p s < first_locus p s + i = omega arith in
      rw (le-ltb i (lo p s) u, le-ltb i (hi p s) v, le-leb (lowest p s) (first_locus p s + i) h₁, lt-leb (first_locus p s + i) (highest p s) h₂))
      (lt_or_le i (hi p s)))
      (lt_or_le i (lo p s))

  pub window_is : (cells : List Float) → (hi p s) ≤ length cells →
      take (lo p s) cells ++ (each (gain p k s) (take ((hi p s) - (lo p s)) (drop (lo p s) cells)) ++ drop ((hi p s) - (lo p s)) (drop (lo p s) cells)) ≡ each (added_cell p k s) cells
  window_is cells h =
      each_window (gain p k s) cells (lo p s) (hi p s) nan (omega (arith, r)) h
      ∙ each_same _ _ cells same-cell

  pub window_fits : (c : ℕ) → c ≤ hi p s - lo p s → off p s + c ≤ m
  window_fits c h =
      let e : off p s + (hi p s - lo p s) ≤ 2 * p.filter_size + 1 = omega (arith, r.near, r.far, r.first, r.high) in
      omega (arith, r.kernel)
