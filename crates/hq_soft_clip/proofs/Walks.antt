-- Laws of the walk along a read: it may stop where the qualities end, and counts no more bases than it has passed. Assumes nothing.
use mathlib.Core.Path.{◌≡◌, refl, sym, ap, ◌∙◌}
use Rattle.std.specs.List.{fold}
use mathlib.Core.Bool.{Bool, true, false, cond}
use mathlib.Core.List.{List, [], ◌∷◌}
use Prim.Native.Nat.{ℕ, suc, ◌+◌, ◌-◌, ◌≤◌, ◌<◌, min}
use native.Mathlib.Nat.{le_refl}
use native.Mathlib.Omega.{arith}
use lib.ListN.{length, get_or, take, drop, length-take, length-drop, drop_of_length-le}
use lib.Seq.{take_all}
use Rattle.lists.specs.Loops.{fold-turn}
use Rattle.lists.specs.Window.{lt_or_le}
use mathlib.Core.Logic.{⊎_elim}
use Rattle.genome.specs.Refusals.{Outcome, refused, answered}
use Rattle.hq_soft_clip.specs.declared.Walk.{Walk}
use Rattle.hq_soft_clip.proofs.Operations.{by_arms}
use Rattle.hq_soft_clip.specs.SoftClips.{operation, span, is_high, with_base, count_high, high_of, clipped, walked, after, count_of, capped, capped_outcome}

-- ---- a count of high qualities is no longer than the list
count_le : (qs : List ℕ) (n : ℕ) → fold with_base n qs ≤ n + length qs
count_le [] n = omega arith
count_le (q ∷ qs) n = go (is_high q) (count_le qs (with_base n q))
  where
    go : (b : Bool) → fold with_base (cond b (n + 1) n) qs ≤ cond b (n + 1) n + length qs → fold with_base (cond b (n + 1) n) qs ≤ n + suc (length qs)
    go true k = omega arith
    go false k = omega arith

pub base_le : (n q : ℕ) → with_base n q ≤ n + 1
base_le n q = go (is_high q)
  where
    go : (b : Bool) → cond b (n + 1) n ≤ n + 1
    go true = omega arith
    go false = omega arith

-- of the n bases from base `at` on there are no more than there are qualities left
pub high_le : (qs : List ℕ) (at n : ℕ) → high_of qs at n ≤ min n (length qs - at)
unfolding count_high
high_le qs at n = omega (arith, count_le (take n (drop at qs)) 0, length-take n (drop at qs), length-drop at qs)

-- ---- past the last quality there is none
take_min : (n : ℕ) (xs : List ℕ) → take (min n (length xs)) xs ≡ take n xs
take_min n xs =
    ⊎_elim
    (λ h. let e : min n (length xs) ≡ n = omega arith in rw e)
    (λ h. let e : min n (length xs) ≡ length xs = omega arith in rw e (take_all (length xs) xs (le_refl (length xs)) ∙ sym (take_all n xs h)))
    (lt_or_le n (length xs))

drop_min : (at : ℕ) (xs : List ℕ) → drop (min at (length xs)) xs ≡ drop at xs
drop_min at xs =
    ⊎_elim
    (λ h. let e : min at (length xs) ≡ at = omega arith in rw e)
    (λ h. let e : min at (length xs) ≡ length xs = omega arith in rw e (drop_of_length-le xs (le_refl (length xs)) ∙ sym (drop_of_length-le xs h)))
    (lt_or_le at (length xs))

-- ---- a walk that stops where the qualities end counts the same
same-capped : (qs : List ℕ) (o : Outcome Walk) (w : ℕ) → capped_outcome (length qs) (after qs (capped_outcome (length qs) o) w) ≡ capped_outcome (length qs) (after qs o w)
same-capped qs (refused r) w = refl
same-capped qs (answered s) w =
    by_arms (λ x y. capped_outcome (length qs) x ≡ capped_outcome (length qs) y) (operation w) (span w) qs qs (capped (length qs) s) s
    (rw past)
    (rw here)
    (rw (past, drop_min s.at qs))
    refl
  where
    past : min (min s.at (length qs) + span w) (length qs) ≡ min (s.at + span w) (length qs)
    past = omega arith

    here : min (min s.at (length qs)) (length qs) ≡ min s.at (length qs)
    here = omega arith

capped_twice : (n : ℕ) (o : Outcome Walk) → capped_outcome n (capped_outcome n o) ≡ capped_outcome n o
capped_twice n (refused r) = refl
capped_twice n (answered s) = let e : min (min s.at n) n ≡ min s.at n = omega arith in rw e

capped_has_count : (n : ℕ) (o : Outcome Walk) → count_of (capped_outcome n o) ≡ count_of o
capped_has_count n (refused r) = refl
capped_has_count n (answered s) = refl

all_capped : (qs ws : List ℕ) (o p : Outcome Walk) → capped_outcome (length qs) o ≡ capped_outcome (length qs) p
    → count_of (fold (after qs) o ws) ≡ count_of (fold (after qs) p ws)
all_capped qs [] o p e = sym (capped_has_count (length qs) o) ∙ ap count_of e ∙ capped_has_count (length qs) p
all_capped qs (w ∷ ws) o p e =
    all_capped qs ws (after qs o w) (after qs p w)
    (sym (same-capped qs o w) ∙ ap (λ (x : Outcome Walk). capped_outcome (length qs) (after qs x w)) e ∙ same-capped qs p w)

pub capped_count : (qs ws : List ℕ) (o : Outcome Walk) → count_of (fold (after qs) (capped_outcome (length qs) o) ws) ≡ count_of (fold (after qs) o ws)
capped_count qs ws o = all_capped qs ws (capped_outcome (length qs) o) o (capped_twice (length qs) o)

-- the word at i, and then the rest
pub turn : (qs cigar : List ℕ) (s : Walk) (i : ℕ) (o : Outcome Walk) → i < length cigar → o ≡ capped_outcome (length qs) (walked qs s (get_or cigar i 0))
    → count_of (fold (after qs) o (drop (i + 1) cigar)) ≡ count_of (fold (after qs) (answered s) (drop i cigar))
turn qs cigar s i o h e =
    rw e
    (capped_count qs (drop (i + 1) cigar) (walked qs s (get_or cigar i 0)) ∙ ap count_of (fold-turn (after qs) (answered s) cigar i 0 h))

-- ---- it counts no more bases than it has passed, and passes no more than there are qualities
abbrev pub Within : ℕ → Outcome Walk → Type 0
Within n (refused r) = Unit
Within n (answered s) = (s.count ≤ s.at) × (s.at ≤ n)

pub walked-within : (qs : List ℕ) (s : Walk) (w : ℕ) (o : Outcome Walk) → s.count ≤ s.at → s.at ≤ length qs → o ≡ capped_outcome (length qs) (walked qs s w) → Within (length qs) o
walked-within qs s w o h k e =
    rw e
    (by_arms (λ x y. Within (length qs) (capped_outcome (length qs) x)) (operation w) (span w) qs qs s s
    (omega arith, omega arith)
    (omega arith, omega arith)
    (omega (arith, high_le qs s.at (span w)), omega arith)
    tt)

-- ---- a clip as the code works it out: the walk up to `end`, which is where the clip ends or the qualities do
pub clip_is : (qs : List ℕ) (s : Walk) (n end : ℕ) → s.at ≤ length qs → end ≡ min (s.at + n) (length qs)
    → clipped qs (end - s.at) s ≡ capped (length qs) (clipped qs n s)
clip_is qs s n end h e =
    let there : s.at + (end - s.at) ≡ min (s.at + n) (length qs) = omega arith in
    let some : end - s.at ≡ min n (length (drop s.at qs)) = simp length-drop (omega arith) in
    rw (there, some, take_min n (drop s.at qs))

-- ---- a walk that has not passed the qualities
pub capped_here : (n : ℕ) (s : Walk) → s.at ≤ n → s ≡ capped n s
capped_here n s h = let e : min s.at n ≡ s.at = omega arith in rw e

pub ruleset stays_capped = (capped_here)
