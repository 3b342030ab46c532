-- What feeding some words prints, whatever words follow them; and that it comes to an end: each step goes on to a later word, or leaves fewer times to act on this one.
use Rattle.std.specs.Prelude.{Result, Ok, Err, Option, Some, None, Bool, List, [], ◌∷◌, ◌++◌, ℕ, ◌+◌, ◌-◌, ◌*◌, ◌≤◌, ◌<◌, drop}
use Rattle.genome.specs.Refusals.{number_of}
use Rattle.activity_profile.specs.declared.ActivityProfileRegion.{ActivityProfileRegion}
use Rattle.pileup_words.specs.Events.{events_of}
use Rattle.region_program.specs.declared.RegionStream.{RegionStream}
use Rattle.region_program.specs.declared.Step.{Step}
use Rattle.region_program.specs.declared.Step.TheVariants.{Next, Again, Line}
use Rattle.region_program.specs.declared.RefusedStep.{RefusedStep}
use Rattle.region_program.specs.declared.StreamRefusal.{StreamRefusal}
use Rattle.region_program.specs.Program.{Scoring, Reading, Printed, printed, finished, refused_at, after}
use Rattle.region_program.specs.Feeding.{FedBy}
use Rattle.region_program.specs.Stream.{most_acts, acts_left}
use Rattle.region_feed.specs.declared.Fed.{Fed}

-- what comes of a word, or of the end of the input: a region to print, where there is one, or a refusal
abbrev pub Found : Type 0
Found = Result (Option ActivityProfileRegion) StreamRefusal

-- what a step at the word at `at` leaves
abbrev pub fed_by : Result Step RefusedStep → ℕ → Fed
fed_by (Ok (Next t)) at = record { stream = t; at = at + 1; found = Ok None }
fed_by (Ok (Again t)) at = record { stream = t; at = at; found = Ok None }
fed_by (Ok (Line r t)) at = record { stream = t; at = at; found = Ok (Some r) }
fed_by (Err e) at = record { stream = e.stream; at = at; found = Err e.why }

-- what a step at the end of the input brings
abbrev pub found_in : Result Step RefusedStep → Found
found_in (Ok (Next t)) = Ok None
found_in (Ok (Again t)) = Ok None
found_in (Ok (Line r t)) = Ok (Some r)
found_in (Err e) = Err e.why

-- from the word at `at` on to the one at `next`, or with fewer times to act on it; a refusal ends the loop
abbrev pub Nearer : Found → RegionStream → ℕ → RegionStream → ℕ → Type 0
Nearer (Ok None) s at t next = acts_left t + at * (most_acts + 1) < acts_left s + next * (most_acts + 1)
Nearer (Ok (Some r)) s at t next = acts_left t + at * (most_acts + 1) < acts_left s + next * (most_acts + 1)
Nearer (Err y) s at t next = Unit {0}

-- acting on the word at `at`
pub record Ends (s : RegionStream) (at : ℕ) (r : Fed) : Type 0 where
  pub on : at ≤ r.at
  pub near : r.at ≤ at + 1
  pub nearer : Nearer r.found s at r.stream r.at

-- a step of the loop, n words being there
pub record Closer (s : RegionStream) (n at : ℕ) (r : Fed) : Type 0 where
  pub within : at ≤ n → r.at ≤ n
  pub nearer : at < n → Nearer r.found s at r.stream r.at

-- ---- what is printed

-- From a, with `words` to come, on to b, with `rest` of them to come. Whatever else comes, and however the input ends: what is printed from a is what is found, and
-- then what is printed from b; a refusal is the last.
abbrev pub Prints : Scoring → Found → Reading → List ℕ → Reading → List ℕ → Type 0
Prints scoring (Ok None) a words b rest =
    (later : List ℕ) (remainder : Bool) (p : Printed) → FedBy scoring b (events_of (rest ++ later) remainder) p → FedBy scoring a (events_of (words ++ later) remainder) p
Prints scoring (Ok (Some r)) a words b rest =
    (later : List ℕ) (remainder : Bool) (p : Printed) → FedBy scoring b (events_of (rest ++ later) remainder) p → FedBy scoring a (events_of (words ++ later) remainder) (after r p)
Prints scoring (Err y) a words b rest =
    (later : List ℕ) (remainder : Bool) → FedBy scoring a (events_of (words ++ later) remainder) (printed [] (refused_at (number_of y.refusal) y.index))

-- acting on one word, which stands at `at`
abbrev pub PrintsWord : Scoring → ℕ → ℕ → Fed → Reading → Reading → Type 0
PrintsWord scoring w at r a b = (words : List ℕ) → Prints scoring r.found a (w ∷ words) b (drop (r.at - at) (w ∷ words))

-- all that the end of the input prints
abbrev pub closing : Found → Printed
closing (Ok None) = printed [] finished
closing (Ok (Some r)) = printed (r ∷ []) finished
closing (Err y) = printed [] (refused_at (number_of y.refusal) y.index)
