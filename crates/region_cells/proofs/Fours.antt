-- Four cells at a time: four turns of the walk for the peak, and four cells that are on one side. Assumes nothing.
use mathlib.Core.Path.{◌≡◌, ◌∙◌, ap, refl, subst}
use mathlib.Core.Bool.{Bool, false, true, ◌||◌, cond, not}
use mathlib.Core.List.{List, [], ◌∷◌, ◌++◌}
use Rattle.std.specs.List.{prefix_len}
use Rattle.std.specs.declared.slice.ChunksExact.{ChunksExact}
use Rattle.std.specs.Slice.Iter.{chunks_exact_rest, chunks_exact_size, chunks_exact_steps}
use Rattle.std.proofs.lemmas.Iterator.{YieldsList}
use Rattle.std.proofs.lemmas.Iterator.Splits.{YieldsList-from_shown_while}
use Prim.Native.Nat.{ℕ, suc, ◌+◌, ◌-◌, ◌*◌, ◌≤◌, ◌<◌}
use native.Mathlib.Omega.{arith}
use lib.ListN.{length, get_or, drop}
use lib.Ieee.{Float}
use Rattle.lists.specs.Loops.{along, along-turn, first_at}
use Rattle.lists.specs.Tests.{or_left, or_right}
use Rattle.activity_profile.specs.Peak.{leads}
use Rattle.region_cells.specs.Fours.{one_of_four, above_at}

-- what a test of four that fails says of each of them
none : (a b c d : Bool) → (((a || b) || c) || d) ≡ false → (a ≡ false) × (b ≡ false) × (c ≡ false) × (d ≡ false)
none a b c d e =
    let three = or_left ((a || b) || c) d e in
    let two = or_left (a || b) c three in
    (or_left a b two, or_right a b two, or_right (a || b) c three, or_right ((a || b) || c) d e)

-- ---- the peak

module _ (xs : List Float) (i leader : ℕ) where
  -- a cell that is strictly above the leader leads
  pub takes_lead : above_at xs leader i ≡ true → leads xs i leader ≡ i
  unfolding leads
  takes_lead h = rw h

  -- one that is not leaves it
  pub leaves_lead : above_at xs leader i ≡ false → leads xs i leader ≡ leader
  unfolding leads
  leaves_lead h = rw h

  pub four_turns : along (leads xs) i 4 leader ≡ leads xs (i + 3) (leads xs (i + 2) (leads xs (i + 1) (leads xs i leader)))
  unfolding along
  four_turns =
      let a : i + 1 ≡ suc i = omega arith in
      let b : i + 2 ≡ suc (suc i) = omega arith in
      let c : i + 3 ≡ suc (suc (suc i)) = omega arith in
      rw (a, b, c)

-- four that are not leave it
pub none-leads : (xs : List Float) (i leader : ℕ) → one_of_four (above_at xs leader) i ≡ false → along (leads xs) i 4 leader ≡ leader
none-leads xs i leader e =
    let n = none (above_at xs leader i) (above_at xs leader (i + 1)) (above_at xs leader (i + 2)) (above_at xs leader (i + 3)) e in
    four_turns xs i leader ∙ rw (leaves_lead xs i leader n.0, leaves_lead xs (i + 1) leader n.1, leaves_lead xs (i + 2) leader n.2, leaves_lead xs (i + 3) leader n.3)

-- ---- the boundary

-- The first that passes stands behind those that do not.
pub first_at-prefix : {A : Type 0} (p : A → Bool) (l : List A) → prefix_len (λ x. not (p x)) l ≡ first_at p l
unfolding first_at
first_at-prefix p [] = refl
first_at-prefix p (x ∷ l) = go (p x) (first_at-prefix p l)
  where
    go : (b : Bool) → prefix_len (λ y. not (p y)) l ≡ first_at p l → cond (not b) (1 + prefix_len (λ y. not (p y)) l) 0 ≡ cond b 0 (suc (first_at p l))
    go true e = refl
    go false e = omega arith

-- the fours of a list, from its front; what is left is no four
abbrev pub whole_fours : {A : Type 0} → List A → List (List A)
whole_fours [] = []
whole_fours (a ∷ []) = []
whole_fours (a ∷ b ∷ []) = []
whole_fours (a ∷ b ∷ c ∷ []) = []
whole_fours (a ∷ b ∷ c ∷ d ∷ l) = (a ∷ b ∷ c ∷ d ∷ []) ∷ whole_fours l

module _ {A : Type 0} where
  no_four : (l : List A) → length l < 4 → length (whole_fours l) ≡ 0
  no_four [] h = refl
  no_four (a ∷ []) h = refl
  no_four (a ∷ b ∷ []) h = refl
  no_four (a ∷ b ∷ c ∷ []) h = refl
  no_four (a ∷ b ∷ c ∷ d ∷ l) h = absurd (omega (arith, h))

  four_more : (four l : List A) → length four ≡ 4 → whole_fours (four ++ l) ≡ four ∷ whole_fours l
  four_more [] l h = absurd (omega (arith, h))
  four_more (a ∷ []) l h = absurd (omega (arith, h))
  four_more (a ∷ b ∷ []) l h = absurd (omega (arith, h))
  four_more (a ∷ b ∷ c ∷ []) l h = absurd (omega (arith, h))
  four_more (a ∷ b ∷ c ∷ d ∷ []) l h = refl
  four_more (a ∷ b ∷ c ∷ d ∷ x ∷ k) l h = absurd (omega (arith, h))

  -- They are what `chunks_exact(4)` yields.
  pub yields_fours : (s : ChunksExact A) (l : List A) → chunks_exact_size s ≡ 4 → chunks_exact_rest s ≡ l → YieldsList chunks_exact_steps (λ x. x.now) s (whole_fours l)
  yields_fours s l h e =
      subst (λ k. YieldsList chunks_exact_steps (λ x. x.now) s (whole_fours k)) e
      (YieldsList-from_shown_while chunks_exact_steps (λ x. x.now) (λ t. whole_fours (chunks_exact_rest t)) (λ t. chunks_exact_size t ≡ 4)
      (λ t u f n. no_four (chunks_exact_rest t) (rw (← f) n.1.0))
      (λ t x u f n. (n.0 ∙ f, ap whole_fours n.1.0 ∙ four_more x.now (chunks_exact_rest u) (n.1.1 ∙ f)))
      s h)

-- Behind the fours in which none passes, the first that passes is further on.
module _ {A : Type 0} (p : A → Bool) (e : A) where
  abbrev pub none_passes : List A → Bool
  none_passes four = not (one_of_four (λ k. p (get_or four k e)) 0)

  abbrev Behind : ℕ → List A → Type 0
  Behind n l = (4 * n ≤ length l) × (4 * n + first_at p (drop (4 * n) l) ≡ first_at p l)

  pub behind_fours : (l : List A) → Behind (prefix_len none_passes (whole_fours l)) l
  unfolding first_at
  behind_fours [] = (omega arith, omega arith)
  behind_fours (a ∷ []) = (omega arith, omega arith)
  behind_fours (a ∷ b ∷ []) = (omega arith, omega arith)
  behind_fours (a ∷ b ∷ c ∷ []) = (omega arith, omega arith)
  behind_fours (a ∷ b ∷ c ∷ d ∷ l) = go (((p a || p b) || p c) || p d) refl (behind_fours l)
    where
      m : ℕ
      m = prefix_len none_passes (whole_fours l)

      go : (t : Bool) → (((p a || p b) || p c) || p d) ≡ t → Behind m l → Behind (cond (not t) (1 + m) 0) (a ∷ b ∷ c ∷ d ∷ l)
      go true f h = (omega arith, omega arith)
      go false f h =
          let n = none (p a) (p b) (p c) (p d) f in
          let more : 4 * (1 + m) ≡ suc (suc (suc (suc (4 * m)))) = omega arith in
          (omega (arith, h.0), rw (more, n.0, n.1, n.2, n.3) (omega (arith, h.1)))

-- one turn more of the walk: what is left of it, with the leader after that turn, is the whole walk
pub goes_on : (cells : List Float) (from to i leader next first : ℕ) → i < to → next ≡ leads cells i leader
    → along (leads cells) i (to - i) leader ≡ along (leads cells) from (to - from) first
    → along (leads cells) (i + 1) (to - (i + 1)) next ≡ along (leads cells) from (to - from) first
goes_on cells from to i leader next first h e q = rw e (along-turn (leads cells) i to leader h ∙ q)
