-- The text that a run prints, and that it comes to the end of its block.
use Rattle.std.specs.Prelude.{Ok, Err, Some, None, is_err, Bool, true, false, List, [], ◌∷◌, ◌++◌, ◌≡◌, ℕ, ◌+◌, ◌*◌, ◌≤◌, ◌<◌, length, take, drop}
use Rattle.genome.specs.Refusals.{number_of}
use Rattle.pileup_words.specs.Events.{events_of, last_event}
use Rattle.activity_profile.specs.declared.ActivityProfileRegion.{ActivityProfileRegion}
use Rattle.region_program.specs.Program.{Scoring, Reading, Close, finished, refused_at, Printed}
use Rattle.region_program.specs.Feeding.{FedBy}
use Rattle.region_program.specs.Stream.{most_acts, acts_left}
use Rattle.region_feed.specs.Feed.{Found}
use Rattle.region_text.specs.Text.{line_text, refusal_text}
use Rattle.region_sheet.specs.Pages.{pages_from}
use Rattle.region_print.specs.declared.Form.{Form}
use Rattle.region_print.specs.declared.Form.TheVariants.{Listing, Sheet}
use Rattle.region_print.specs.Forms.{region_text, after_region, stop_text, ended}
use Rattle.region_run.specs.declared.RegionRun.{RegionRun}

-- ---- text

unfoldable pub lines_text : List ActivityProfileRegion → List ℕ
lines_text [] = []
lines_text (r ∷ rs) = line_text r ++ lines_text rs

abbrev pub close_text : Close → List ℕ
close_text finished = []
close_text (refused_at n i) = refusal_text n i

-- The lines, and the refusal where there is one; or the rest of a sheet whose open page has so many rows, and the refusal behind its last page. From an empty page on that is
-- `sheet_text` (proofs/Texts)
abbrev pub printed_text : Form → Printed → List ℕ
printed_text Listing p = lines_text p.lines ++ close_text p.close
printed_text (Sheet rows) p = pages_from rows p.lines ++ close_text p.close

-- what is found, as text, the form of what follows, and whether it ends the run
abbrev pub found_text : Form → Found → List ℕ
found_text form (Ok None) = []
found_text form (Ok (Some r)) = region_text form r
found_text form (Err y) = stop_text form (number_of y.refusal) y.index

abbrev pub form_after : Form → Found → Form
form_after form (Ok None) = form
form_after form (Ok (Some r)) = after_region form
form_after form (Err y) = ended form

abbrev pub is_over : Found → Bool
is_over found = is_err found

-- ---- what is written

-- From a, with `words` to come, to b, with `rest` of them to come, and from one form to another: the text of what is printed from a is `new`, and then that of what is printed
-- from b, whatever else comes and however the input ends. Where the run is over, it is `new` alone.
abbrev pub Wrote : Scoring → Bool → List ℕ → Form → Reading → List ℕ → Form → Reading → List ℕ → Type 0
Wrote scoring false new form a words form' b rest =
    (later : List ℕ) (remainder : Bool) (q : Printed) → FedBy scoring b (events_of (rest ++ later) remainder) q
    → (p : Printed) × FedBy scoring a (events_of (words ++ later) remainder) p × (printed_text form p ≡ new ++ printed_text form' q)
Wrote scoring true new form a words form' b rest =
    (later : List ℕ) (remainder : Bool) → (p : Printed) × FedBy scoring a (events_of (words ++ later) remainder) p × (printed_text form p ≡ new)

-- room for a text, and for whatever one step prints
abbrev pub BLOCK : ℕ
BLOCK = 65536

abbrev pub ROOM : ℕ
ROOM = 65430

-- one step at the next word: its text stands behind that of the steps before
pub record Steps (scoring : Scoring) (r s : RegionRun) (words text text' : List ℕ) (a b : Reading) : Type 0 where
  pub new : List ℕ
  pub written : take s.used text' ≡ take r.used text ++ new
  pub wrote : Wrote scoring s.over new r.form a (drop r.at words) s.form b (drop s.at words)
  pub room : s.used ≤ BLOCK
  pub done : s.over ≡ true → s.at ≡ length words
  pub within : s.at ≤ length words
  pub nearer : acts_left s.stream + r.at * (most_acts + 1) < acts_left r.stream + s.at * (most_acts + 1)

-- a call: its text stands at the front; it comes nearer to the end of the words where there are any
pub record Feeds (scoring : Scoring) (r s : RegionRun) (words text' : List ℕ) (a b : Reading) : Type 0 where
  pub wrote : Wrote scoring s.over (take s.used text') r.form a (drop r.at words) s.form b (drop s.at words)
  pub room : s.used ≤ BLOCK
  pub within : r.at ≤ length words → s.at ≤ length words
  pub nearer : r.at < length words → acts_left s.stream + r.at * (most_acts + 1) < acts_left r.stream + s.at * (most_acts + 1)

-- the end of the input: the run is over, with all that is printed from a
pub record Finishes (scoring : Scoring) (form : Form) (remainder : Bool) (s : RegionRun) (text' : List ℕ) (a : Reading) : Type 0 where
  pub printed : Printed
  pub fed : FedBy scoring a (last_event remainder ∷ []) printed
  pub written : take s.used text' ≡ printed_text form printed
  pub room : s.used ≤ BLOCK
  pub over : s.over ≡ true

-- ---- a whole run

-- From a and in this form, with `words` to come and the input then ending: the calls of a run, one after the other, and the text of them all.
pub data Ran (scoring : Scoring) (remainder : Bool) : Form → Reading → List ℕ → List ℕ → Type 0 where
  onward : (form form' : Form) (a b : Reading) (words rest later new text : List ℕ) → Wrote scoring false new form a words form' b rest → Ran scoring remainder form' b (rest ++ later) text
      → Ran scoring remainder form a (words ++ later) (new ++ text)
  stopped : (form form' : Form) (a b : Reading) (words rest later new : List ℕ) → Wrote scoring true new form a words form' b rest → Ran scoring remainder form a (words ++ later) new
  finishing : (form : Form) (a : Reading) (p : Printed) → FedBy scoring a (last_event remainder ∷ []) p → Ran scoring remainder form a [] (printed_text form p)
