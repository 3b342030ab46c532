-- The size of a region that is popped. Assumes nothing.
use Prim.Native.Nat.{ℕ, zero, suc, ◌≤◌, ◌<◌, min}
use mathlib.Core.Path.{◌≡◌, refl, sym, ap, ◌∙◌}
use mathlib.Core.Bool.{Bool, true, false, ◌&&◌, cond, beq}
use mathlib.Core.List.{List}
use native.Mathlib.Omega.{arith}
use lib.Dec.{eqb}
use lib.ListN.{length, take, length-take}
use lib.Seq.{get_or-take}
use lib.Ieee.{Float, nan}
use borrow.Author.Tests.{eqb-true, not-false}
use Rattle.activity_profile.specs.Loci.{cell}
use Rattle.activity_profile.specs.Pop.{above, other_side, replaces, better, best_cut_site, or_most, size_of}
use Rattle.lists.specs.Loops.{down, first_at, first_at-le, first_at_before, first_at_some}
use Rattle.lists.specs.Tests.{and_right, beq_true, beq_refl}

-- ---- the front

same_side : (t : Float) (b : Bool) (x : Float) → other_side t b x ≡ false → above t x ≡ b
same_side t b x e = beq_true (above t x) b (not-false (beq (above t x) b) e)

own_side : (t x : Float) → other_side t (above t x) x ≡ false
own_side t x = rw beq_refl

-- ---- the cut

pick_le : (b : Bool) (x y z : ℕ) → x ≤ z → y ≤ z → cond b x y ≤ z
pick_le true x y z h k = h
pick_le false x y z h k = k

down_le : (xs : List Float) (least k best top : ℕ) → best ≤ top → k ≤ top → down (better xs least) k best ≤ top
unfolding down better
down_le xs least zero best top h l = h
down_le xs least (suc k) best top h l = down_le xs least k (better xs least (suc k) best) top (pick_le (replaces xs least (suc k) best) (suc k) best top l h) (omega arith)

pub cut_le : (xs : List Float) (least n : ℕ) → best_cut_site xs least n ≤ n
unfolding best_cut_site
cut_le xs least n = down_le xs least n 0 n (omega arith) (omega arith)

or_most_is : (most c : ℕ) → 1 ≤ most → c ≤ most → (1 ≤ or_most most c) × (or_most most c ≤ most)
unfolding or_most
or_most_is most zero h k = omega arith
or_most_is most (suc c) h k = omega arith

-- ---- the size

pub record Sized (t : Float) (xs : List Float) (most size : ℕ) : Type 0 where
  pub some : 1 ≤ size
  pub few : size ≤ most
  pub held : size ≤ length xs
  pub one_side : (i : ℕ) → i < size → above t (cell xs i) ≡ above t (cell xs 0)

-- any size up to the front's
size_up_to : (t : Float) (xs : List Float) (most size : ℕ) → 1 ≤ size → size ≤ first_at (other_side t (above t (cell xs 0))) (take most xs) → Sized t xs most size
size_up_to t xs most size h k =
    let active = above t (cell xs 0) in
    let l : first_at (other_side t active) (take most xs) ≤ min most (length xs) = rw (← length-take) (first_at-le (other_side t active) (take most xs)) in
    record {
      some = h;
      few = omega arith;
      held = omega arith;
      one_side = λ i hi.
          let m : i < most = omega arith in
          ap (above t) (sym (get_or-take most xs i nan m)) ∙ same_side t active _ (first_at_before (other_side t active) (take most xs) i nan (omega arith));
    }

pub size_is : (t : Float) (xs : List Float) (least most : ℕ) → 1 ≤ most → 1 ≤ length xs → Sized t xs most (size_of t xs least most)
unfolding size_of
size_is t xs least most h k = go (above t (cell xs 0) && eqb n most) refl
  where
    n : ℕ
    n = first_at (other_side t (above t (cell xs 0))) (take most xs)

    some : 1 ≤ n
    some =
        let l : 1 ≤ length (take most xs) = rw length-take (omega arith) in
        first_at_some _ (take most xs) nan l (rw (get_or-take most xs 0 nan h) (own_side t (cell xs 0)))

    go : (c : Bool) → (above t (cell xs 0) && eqb n most) ≡ c → Sized t xs most (cond c (or_most most (best_cut_site xs least most)) n)
    go true e =
        let q = eqb-true n most (and_right (above t (cell xs 0)) (eqb n most) e) in
        let c = or_most_is most (best_cut_site xs least most) h (cut_le xs least most) in
        size_up_to t xs most (or_most most (best_cut_site xs least most)) c.0 (omega arith)
    go false e = size_up_to t xs most n some (omega arith)
