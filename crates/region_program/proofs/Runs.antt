-- One observation more of a run is acting on one event more, and so a run is acting on each of its words. Assumes nothing.
use mathlib.Core.Path.{◌≡◌, refl, sym, ap, subst, ◌∙◌}
use Rattle.std.specs.List.{fold}
use mathlib.Core.Bool.{Bool, true, false, cond}
use mathlib.Core.List.{List, [], ◌∷◌, ◌++◌}
use Prim.Native.Nat.{ℕ, zero, suc, ◌+◌, ◌%◌, ◌^◌, ◌<◌, ◌≤◌}
use native.Mathlib.Nat.{mod-add-mod, mod-eq_of_lt, add_assoc, add-zero, le_refl}
use native.Mathlib.Numerals.{add-one}
use native.Mathlib.Omega.{arith}
use lib.Dec.{ltb}
use borrow.Author.Tests.{eqb-true, le-ltb, ltb-true, ltb-false}
use lib.ListN.{length, length-set, get_or, take, set}
use lib.Seq.{length-take-le, take_all, take-suc-set}
use lib.Ieee.{Float}
use Rattle.lists.specs.Folds.{fold_more}
use Rattle.pileup_words.specs.Words.{kind_of, is_observation}
use Rattle.pileup_words.specs.Events.{event_of, events_of}
use Rattle.activity_profile.specs.declared.ActivityProfileRegion.{ActivityProfileRegion}
use Rattle.activity_scoring.specs.Score.{max_depth}
use Rattle.region_program.specs.declared.RegionStream.{RegionStream}
use Rattle.region_program.specs.declared.Phase.TheVariants.{Pile}
use Rattle.region_program.specs.Program.{Scoring, Reading, in_pile, Answer, goes, again, line, stops, next, moved, deepened, within_pile, act_at, act_by, Printed}
use Rattle.region_program.specs.Stream.{seen, pile_of, PILE, kept}
use Rattle.region_program.specs.Feeding.{FedBy, onward}
use Rattle.region_program.specs.Run.{then_act, acted_on, Kept, kept_more, kept_all, run_at}

-- ---- one observation

-- an observation of an open pile deepens it
pub act_observed : (scoring : Scoring) (w p i : ℕ) (words : List ℕ) (s : Reading) → s.place ≡ in_pile p i words → is_observation w ≡ true
    → act_by scoring (event_of w) s ≡ goes (moved s (in_pile p i (deepened words w)) (next s.index))
unfolding event_of act_at within_pile
act_observed scoring w p i words s e is = let k : kind_of w ≡ 1 = eqb-true (kind_of w) 1 is in rw (e, k)

-- the lent words with one more are those of the deeper pile
pub kept-deepened : (pile : List ℕ) (w d : ℕ) → length pile ≡ PILE → take (kept_more (record { depth = d; pile = pile }) w).depth (kept pile d w) ≡ deepened (take d pile) w
kept-deepened pile w d long = go (ltb d (length pile)) refl
  where
    go : (b : Bool) → ltb d (length pile) ≡ b → take (cond b (d + 1) d) (cond b (set pile d w) pile) ≡ deepened (take d pile) w
    go true e =
        let h = ltb-true d (length pile) e in
        let n : length (take d pile) ≡ d = length-take-le d pile (omega arith) in
        rw (n, le-ltb max_depth d (omega arith), add-one) (take-suc-set pile d w h)
    go false e =
        let all : take d pile ≡ pile = take_all d pile (ltb-false d (length pile) e) in
        rw (all, long)

-- the index goes on
index_next : (a n : ℕ) → next ((a + n) % 2 ^ 64) ≡ (a + (n + 1)) % 2 ^ 64
index_next a n = mod-add-mod (a + n) (2 ^ 64) 1 ∙ rw add_assoc

-- no word yet
run_begins : (s : RegionStream) (l i d : ℕ) → s.phase ≡ Pile (pile_of l i d) → s.index < 2 ^ 64 → run_at s l i d 0 ≡ s
run_begins s l i d e h = rw (add-zero, mod-eq_of_lt h, ← e)

-- one word more
run_more : (scoring : Scoring) (s : RegionStream) (l i d n w : ℕ) (pile : List ℕ) (kernel cells : List Float) → length pile ≡ PILE → is_observation w ≡ true
    → goes (seen (run_at s l i (kept_more (record { depth = d; pile = pile }) w).depth (n + 1)) (kept pile d w) kernel cells) ≡ act_by scoring (event_of w) (seen (run_at s l i d n) pile kernel cells)
run_more scoring s l i d n w pile kernel cells long is =
    rw (kept-deepened pile w d long, ← index_next s.index n) (sym (act_observed scoring w l i (take d pile) (seen (run_at s l i d n) pile kernel cells) refl is))

-- ---- a whole run

kept-length : (k : Kept) (words : List ℕ) → length (fold kept_more k words).pile ≡ length k.pile
kept-length k [] = refl
kept-length k (w ∷ words) = kept-length (kept_more k w) words ∙ go (ltb k.depth (length k.pile))
  where
    go : (b : Bool) → length (cond b (set k.pile k.depth w) k.pile) ≡ length k.pile
    go true = length-set k.pile k.depth w
    go false = refl

module _ (scoring : Scoring) (s : RegionStream) (l i d : ℕ) (words pile : List ℕ) (kernel cells : List Float) (long : length pile ≡ PILE) (e : s.phase ≡ Pile (pile_of l i d)) (small : s.index < 2 ^ 64) where
  abbrev TakenSo : ℕ → Type 0
  TakenSo n = goes (seen (run_at s l i (kept_all d pile (take n words)).depth n) (kept_all d pile (take n words)).pile kernel cells) ≡ acted_on scoring (seen s pile kernel cells) (take n words)

  one_more : (n : ℕ) → n < length words → is_observation (get_or words n 0) ≡ true → TakenSo n → TakenSo (n + 1)
  one_more n h is t =
      let k = kept_all d pile (take n words) in
      let deep : length k.pile ≡ PILE = kept-length (record { depth = d; pile = pile }) (take n words) ∙ long in
      rw (fold_more kept_more (record { depth = d; pile = pile }) words n 0 h)
      (run_more scoring s l i k.depth n (get_or words n 0) k.pile kernel cells deep is
      ∙ ap (λ (a : Answer). then_act scoring a (get_or words n 0)) t
      ∙ sym (fold_more (then_act scoring) (goes (seen s pile kernel cells)) words n 0 h))

  -- the first n words, all of them observations
  pub run_taken : (n : ℕ) → n ≤ length words → ((k : ℕ) → k < n → is_observation (get_or words k 0) ≡ true) → TakenSo n
  run_taken zero h all = ap (λ (t : RegionStream). goes (seen t pile kernel cells)) (run_begins s l i d e small)
  run_taken (suc n) h all = subst TakenSo (add-one n) (one_more n h (all n (le_refl (suc n))) (run_taken n (omega arith) (λ k q. all k (omega arith))))

-- ---- a caller who takes runs

-- an answer that is no `goes` stays what it is
again_stays : (scoring : Scoring) (s : Reading) (words : List ℕ) → fold (then_act scoring) (again s) words ≡ again s
again_stays scoring s [] = refl
again_stays scoring s (w ∷ words) = again_stays scoring s words

line_stays : (scoring : Scoring) (r : ActivityProfileRegion) (s : Reading) (words : List ℕ) → fold (then_act scoring) (line r s) words ≡ line r s
line_stays scoring r s [] = refl
line_stays scoring r s (w ∷ words) = line_stays scoring r s words

stop_stays : (scoring : Scoring) (n i : ℕ) (s : Reading) (words : List ℕ) → fold (then_act scoring) (stops n i s) words ≡ stops n i s
stop_stays scoring n i s [] = refl
stop_stays scoring n i s (w ∷ words) = stop_stays scoring n i s words

-- Words that were done one after the other may be taken at once: the caller prints the same.
pub fed_run : (scoring : Scoring) (remainder : Bool) (s t : Reading) (run words : List ℕ) (p : Printed) → goes t ≡ acted_on scoring s run → FedBy scoring t (events_of words remainder) p → FedBy scoring s (events_of (run ++ words) remainder) p
unfolding events_of
fed_run scoring remainder s t [] words p e f = let same : t ≡ s = cc in subst (λ (x : Reading). FedBy scoring x (events_of words remainder) p) same f
fed_run scoring remainder s t (w ∷ run) words p e f = go (act_by scoring (event_of w) s) refl (λ u h. fed_run scoring remainder u t run words p h f)
  where
    go : (a : Answer) → act_by scoring (event_of w) s ≡ a → ((u : Reading) → goes t ≡ acted_on scoring u run → FedBy scoring u (events_of (run ++ words) remainder) p)
        → FedBy scoring s (event_of w ∷ events_of (run ++ words) remainder) p
    go (goes u) h rest = onward s u (event_of w) (events_of (run ++ words) remainder) p h (rest u (e ∙ ap (λ (a : Answer). fold (then_act scoring) a run) h))
    go (again u) h rest = absurd (let g : goes t ≡ again u = e ∙ ap (λ (a : Answer). fold (then_act scoring) a run) h ∙ again_stays scoring u run in let z : ◌≡◌ {A = ℕ} 0 1 = cc in omega arith)
    go (line r u) h rest = absurd (let g : goes t ≡ line r u = e ∙ ap (λ (a : Answer). fold (then_act scoring) a run) h ∙ line_stays scoring r u run in let z : ◌≡◌ {A = ℕ} 0 1 = cc in omega arith)
    go (stops n i u) h rest = absurd (let g : goes t ≡ stops n i u = e ∙ ap (λ (a : Answer). fold (then_act scoring) a run) h ∙ stop_stays scoring n i u run in let z : ◌≡◌ {A = ℕ} 0 1 = cc in omega arith)
