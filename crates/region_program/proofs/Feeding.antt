-- An event is done after acting on it once for the open pile and once for each cell at most; so a caller that acts on each event until it is done prints what the
-- program's definition says. Assumes nothing.
use mathlib.Core.Path.{◌≡◌, refl, sym, ap, ◌∙◌}
use mathlib.Core.List.{List, [], ◌∷◌}
use Prim.Native.Nat.{ℕ, zero, suc, ◌≤◌}
use native.Mathlib.Omega.{arith}
use lib.ListN.{length}
use Rattle.pileup_words.specs.declared.StreamEvent.{StreamEvent}
use Rattle.activity_profile.specs.declared.ActivityProfileRegion.{ActivityProfileRegion}
use Rattle.region_program.specs.Program.{Reading, at_loci, Answer, goes, again, line, stops, act, Printed, printed, refused_at, finished, after, acts, run_events, Scoring, pile_score}
use Rattle.region_program.specs.Feeding.{FedBy, Fed, at_last, onward, once_more, printing, halted}
use Rattle.region_program.proofs.Tables.{act-same}
use Rattle.region_program.proofs.Acts.{again_ends, line_pops}

-- ---- acting on an event until it is done

module _ (e : StreamEvent) (rest : Reading → Printed) where
  acts_goes : (n : ℕ) (t : Reading) → acts n e rest (goes t) ≡ rest t
  unfolding acts
  acts_goes zero t = refl
  acts_goes (suc n) t = refl

  acts_stops : (n k i : ℕ) (t : Reading) → acts n e rest (stops k i t) ≡ printed [] (refused_at k i)
  unfolding acts
  acts_stops zero k i t = refl
  acts_stops (suc n) k i t = refl

  -- past a pile as often as cells are held is enough, and more give the same
  enough : (n m : ℕ) (s : Reading) → s.place ≡ at_loci → s.profile.count ≤ n → s.profile.count ≤ m → acts n e rest (act e s) ≡ acts m e rest (act e s)
  unfolding acts
  enough zero m s p f g = go (act e s) refl
    where
      go : (a : Answer) → act e s ≡ a → acts zero e rest a ≡ acts m e rest a
      go (goes t) h = acts_goes zero t ∙ sym (acts_goes m t)
      go (stops k i t) h = acts_stops zero k i t ∙ sym (acts_stops m k i t)
      go (again t) h = absurd ((again_ends pile_score e s t h).was p)
      go (line r t) h = absurd (omega (arith, f, (line_pops pile_score e s t r h).fewer_cells))
  enough (suc n) zero s p f g = go (act e s) refl
    where
      go : (a : Answer) → act e s ≡ a → acts (suc n) e rest a ≡ acts zero e rest a
      go (goes t) h = refl
      go (stops k i t) h = refl
      go (again t) h = absurd ((again_ends pile_score e s t h).was p)
      go (line r t) h = absurd (omega (arith, g, (line_pops pile_score e s t r h).fewer_cells))
  enough (suc n) (suc m) s p f g = go (λ t k u v. enough n m t k u v) (act e s) refl
    where
      go : ((t : Reading) → t.place ≡ at_loci → t.profile.count ≤ n → t.profile.count ≤ m → acts n e rest (act e t) ≡ acts m e rest (act e t)) → (a : Answer) → act e s ≡ a
          → acts (suc n) e rest a ≡ acts (suc m) e rest a
      go later (goes t) h = refl
      go later (stops k i t) h = refl
      go later (again t) h = absurd ((again_ends pile_score e s t h).was p)
      go later (line r t) h =
          let few = line_pops pile_score e s t r h in
          ap (after r) (later t few.none (omega (arith, f, few.fewer_cells)) (omega (arith, g, few.fewer_cells)))

  -- and so is once for each cell that is lent, whatever the record says of them
  roomy : (n m : ℕ) (s : Reading) → s.place ≡ at_loci → length s.cells ≤ n → length s.cells ≤ m → acts n e rest (act e s) ≡ acts m e rest (act e s)
  roomy n m s p f g = go (act e s) refl
    where
      held : (r : ActivityProfileRegion) (t : Reading) → act e s ≡ line r t → acts n e rest (act e s) ≡ acts m e rest (act e s)
      held r t h = let few = line_pops pile_score e s t r h in enough n m s p (omega (arith, few.room)) (omega (arith, few.room))

      go : (a : Answer) → act e s ≡ a → acts n e rest (act e s) ≡ acts m e rest (act e s)
      go (goes t) h = ap (acts n e rest) h ∙ acts_goes n t ∙ sym (acts_goes m t) ∙ ap (acts m e rest) (sym h)
      go (stops k i t) h = ap (acts n e rest) h ∙ acts_stops n k i t ∙ sym (acts_stops m k i t) ∙ ap (acts m e rest) (sym h)
      go (again t) h = absurd ((again_ends pile_score e s t h).was p)
      go (line r t) h = held r t h

  -- after a pile or a line the event is acted on as if for the first time
  afresh : (n : ℕ) (t : Reading) → t.place ≡ at_loci → length t.cells ≡ n → acts n e rest (act e t) ≡ acts (suc (length t.cells)) e rest (act e t)
  afresh n t p l = roomy n (suc (length t.cells)) t p (omega (arith, l)) (omega arith)

-- ---- the whole

-- What a caller prints that acts on each event until it is done is what the program's definition says of the events.
pub fed_prints : (s : Reading) (events : List StreamEvent) (p : Printed) → Fed s events p → p ≡ run_events events s
unfolding run_events acts
fed_prints _ _ _ (at_last s) = refl
fed_prints _ _ _ (onward s t e es p h f) = fed_prints t es p f ∙ ap (acts (suc (length s.cells)) e (run_events es)) (sym h)
fed_prints _ _ _ (once_more s t e es p h f) =
    let ends = again_ends pile_score e s t h in
    fed_prints t (e ∷ es) p f ∙ sym (afresh e (run_events es) (length s.cells) t ends.none ends.same) ∙ ap (acts (suc (length s.cells)) e (run_events es)) (sym h)
fed_prints _ _ _ (printing s t e es r p h f) =
    let pops = line_pops pile_score e s t r h in
    ap (after r) (fed_prints t (e ∷ es) p f ∙ sym (afresh e (run_events es) (length s.cells) t pops.none pops.same)) ∙ ap (acts (suc (length s.cells)) e (run_events es)) (sym h)
fed_prints _ _ _ (halted s t e es n i h) = ap (acts (suc (length s.cells)) e (run_events es)) (sym h)

-- Such a caller comes to an end on every list of events: none is acted on for ever.
module _ (e : StreamEvent) (es : List StreamEvent) (later : (s : Reading) → (p : Printed) × Fed s es p) where
  fed_event : (n : ℕ) (s : Reading) → s.place ≡ at_loci → s.profile.count ≤ n → (p : Printed) × Fed s (e ∷ es) p
  fed_event zero s p f = go (act e s) refl
    where
      go : (a : Answer) → act e s ≡ a → (q : Printed) × Fed s (e ∷ es) q
      go (goes t) h = let l = later t in (l.0, onward s t e es l.0 h l.1)
      go (again t) h = absurd ((again_ends pile_score e s t h).was p)
      go (line r t) h = absurd (omega (arith, f, (line_pops pile_score e s t r h).fewer_cells))
      go (stops k i t) h = (printed [] (refused_at k i), halted s t e es k i h)
  fed_event (suc n) s p f = go (λ t h k. fed_event n t h k) (act e s) refl
    where
      go : ((t : Reading) → t.place ≡ at_loci → t.profile.count ≤ n → (q : Printed) × Fed t (e ∷ es) q) → (a : Answer) → act e s ≡ a → (q : Printed) × Fed s (e ∷ es) q
      go more (goes t) h = let l = later t in (l.0, onward s t e es l.0 h l.1)
      go more (again t) h = absurd ((again_ends pile_score e s t h).was p)
      go more (line r t) h =
          let pops = line_pops pile_score e s t r h in
          let m = more t pops.none (omega (arith, f, pops.fewer_cells)) in
          (after r m.0, printing s t e es r m.0 h m.1)
      go more (stops k i t) h = (printed [] (refused_at k i), halted s t e es k i h)

  -- the first time may end a pile
  fed_first : (s : Reading) → (p : Printed) × Fed s (e ∷ es) p
  fed_first s = go (act e s) refl
    where
      go : (a : Answer) → act e s ≡ a → (p : Printed) × Fed s (e ∷ es) p
      go (goes t) h = let l = later t in (l.0, onward s t e es l.0 h l.1)
      go (again t) h =
          let m = fed_event t.profile.count t (again_ends pile_score e s t h).none (omega arith) in
          (m.0, once_more s t e es m.0 h m.1)
      go (line r t) h =
          let m = fed_event t.profile.count t (line_pops pile_score e s t r h).none (omega arith) in
          (after r m.0, printing s t e es r m.0 h m.1)
      go (stops k i t) h = (printed [] (refused_at k i), halted s t e es k i h)

pub feeding_ends : (events : List StreamEvent) (s : Reading) → (p : Printed) × Fed s events p
feeding_ends [] s = (printed [] finished, at_last s)
feeding_ends (e ∷ es) s = fed_first e es (λ t. feeding_ends es t) s

-- A scoring that agrees with document 01's on every pile prints the same.
pub fed_same : (scoring : Scoring) → ((p : ℕ) (words : List ℕ) → scoring p words ≡ pile_score p words) → (s : Reading) (es : List StreamEvent) (p : Printed) → FedBy scoring s es p → Fed s es p
fed_same scoring same _ _ _ (at_last s) = at_last s
fed_same scoring same _ _ _ (onward s t e es p h f) = onward s t e es p (sym (act-same scoring same e s) ∙ h) (fed_same scoring same t es p f)
fed_same scoring same _ _ _ (once_more s t e es p h f) = once_more s t e es p (sym (act-same scoring same e s) ∙ h) (fed_same scoring same t (e ∷ es) p f)
fed_same scoring same _ _ _ (printing s t e es r p h f) = printing s t e es r p (sym (act-same scoring same e s) ∙ h) (fed_same scoring same t (e ∷ es) p f)
fed_same scoring same _ _ _ (halted s t e es n i h) = halted s t e es n i (sym (act-same scoring same e s) ∙ h)
