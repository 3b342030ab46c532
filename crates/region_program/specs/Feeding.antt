-- What a caller does with the steps, so that the whole program can be said of them.
use Rattle.std.specs.Prelude.{◌≡◌, List, [], ◌∷◌, ℕ}
use Rattle.pileup_words.specs.declared.StreamEvent.{StreamEvent}
use Rattle.activity_profile.specs.declared.ActivityProfileRegion.{ActivityProfileRegion}
use Rattle.region_program.specs.Program.{Scoring, pile_score, Reading, goes, again, line, stops, act_by, Printed, printed, finished, refused_at, after}

-- The caller acts on each event in its order: again where the answer says so, again after a line, which it prints; at a refusal it prints that and stops. The
-- last argument is what it has printed. However piles are scored:
pub data FedBy (scoring : Scoring) : Reading → List StreamEvent → Printed → Type 0 where
  at_last : (s : Reading) → FedBy scoring s [] (printed [] finished)
  onward : (s t : Reading) (e : StreamEvent) (es : List StreamEvent) (p : Printed) → act_by scoring e s ≡ goes t → FedBy scoring t es p → FedBy scoring s (e ∷ es) p
  once_more : (s t : Reading) (e : StreamEvent) (es : List StreamEvent) (p : Printed) → act_by scoring e s ≡ again t → FedBy scoring t (e ∷ es) p → FedBy scoring s (e ∷ es) p
  printing : (s t : Reading) (e : StreamEvent) (es : List StreamEvent) (r : ActivityProfileRegion) (p : Printed) → act_by scoring e s ≡ line r t → FedBy scoring t (e ∷ es) p
      → FedBy scoring s (e ∷ es) (after r p)
  halted : (s t : Reading) (e : StreamEvent) (es : List StreamEvent) (n i : ℕ) → act_by scoring e s ≡ stops n i t → FedBy scoring s (e ∷ es) (printed [] (refused_at n i))

-- as document 01 scores them
abbrev pub Fed : Reading → List StreamEvent → Printed → Type 0
Fed = FedBy pile_score
