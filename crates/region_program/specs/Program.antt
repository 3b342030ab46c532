-- 01, The region program: what each event does where the stream stands, and what the program prints of a list of events.
use Rattle.std.specs.Prelude.{Bool, cond, ◌||◌, List, [], ◌∷◌, ◌++◌, ℕ, zero, suc, ◌+◌, ◌%◌, ◌^◌, ltb, eqb, length, Float}
use Rattle.genome.specs.Refusals.{Outcome, refused, answered, word_refusal, zero_size_refusal}
use Rattle.pileup_words.specs.declared.StreamEvent.{StreamEvent}
use Rattle.pileup_words.specs.declared.StreamEvent.TheVariants.{Locus, Observation, Pop, Setting, Remainder, End}
use Rattle.pileup_words.specs.Events.{events_of}
use Rattle.band_pass_kernel.specs.Kernel.{gaussian_kernel}
use Rattle.activity_profile.specs.declared.BandPassActivityProfile.{BandPassActivityProfile}
use Rattle.activity_profile.specs.declared.ActivityProfileRegion.{ActivityProfileRegion}
use Rattle.activity_profile.specs.declared.ActivityProfileState.{ActivityProfileState}
use Rattle.activity_profile.specs.Making.{making}
use Rattle.activity_profile.specs.Add.{AddAnswer, refused_add, accepted_add, add_answer, add_cells}
use Rattle.activity_profile.specs.Pop.{PopAnswer, refused_pop, empty_pop, held_pop, region_pop, pop_answer, pop_cells}
use Rattle.genotype_likelihoods.specs.Settings.{defaults as scoring_defaults}
use Rattle.activity_scoring.specs.Score.{max_depth, score_of}
use Rattle.stream_settings.specs.declared.StreamSettings.{StreamSettings}
use Rattle.stream_settings.specs.Settings.{params_of, with_field}

-- ---- what the events so far have left

-- before the first locus; past it with no pile open; or within a pile: the position, the index of the locus word, and the observations
pub data Place : Type 0 where
  at_settings : Place
  at_loci : Place
  in_pile : ℕ → ℕ → List ℕ → Place

-- the index is that of the next word; profile and kernel are made at the first locus
pub record Reading : Type 0 where
  pub settings : StreamSettings
  pub profile : BandPassActivityProfile
  pub kernel : List Float
  pub cells : List Float
  pub place : Place
  pub index : ℕ

-- acting on an event once: on to the next event; the open pile has ended, and the event is acted on again; a line is printed, and the event is acted on again;
-- or the program stops at a refusal, its number and the index that it names, with everything as it was
pub data Answer : Type 0 where
  goes : Reading → Answer
  again : Reading → Answer
  line : ActivityProfileRegion → Reading → Answer
  stops : ℕ → ℕ → Reading → Answer

-- the word index is 64-bit
abbrev pub next : ℕ → ℕ
next i = (i + 1) % 2 ^ 64

-- s at another place and index
abbrev pub moved : Reading → Place → ℕ → Reading
moved s place i = record { settings = s.settings; profile = s.profile; kernel = s.kernel; cells = s.cells; place = place; index = i }

-- s with another record and cells besides
abbrev pub carrying : Reading → BandPassActivityProfile → List Float → Place → ℕ → Reading
carrying s p cells place i = record { settings = s.settings; profile = p; kernel = s.kernel; cells = cells; place = place; index = i }

-- "Any other word .. is refused 3", at its own index
abbrev pub stray : Reading → Answer
stray s = stops word_refusal s.index s

-- ---- before the first locus

-- the buffers that the kernel is made in have room for the widest
abbrev pub buffer_size : ℕ
buffer_size = 1001

-- there is one contig, number 0
abbrev pub profile_made : StreamSettings → Outcome BandPassActivityProfile
profile_made t = making 0 t.contig_len (params_of t) buffer_size buffer_size

-- the first locus has the profile made; p is its position
unfoldable pub made_with : ℕ → Reading → Outcome BandPassActivityProfile → Answer
made_with p s (refused n) = stops n s.index s
made_with p s (answered f) = goes (record {
  settings = s.settings;
  profile = f;
  kernel = gaussian_kernel f.filter_size (params_of s.settings).sigma;
  cells = s.cells;
  place = in_pile p s.index [];
  index = next s.index;
})

-- before the first locus nothing is held: "a size of 0 is refused 11 at a pop", else nothing is printed
abbrev pub zero_size : StreamSettings → Bool
zero_size t = eqb t.min_region_size 0 || eqb t.max_region_size 0

abbrev pub pop_unmade : ℕ → Reading → Answer
pop_unmade value s = cond (ltb 1 value) (stray s) (cond (zero_size s.settings) (stops zero_size_refusal s.index s) (goes (moved s s.place (next s.index))))

unfoldable pub set_by : Reading → Outcome StreamSettings → Answer
set_by s (refused n) = stops n s.index s
set_by s (answered t) = goes (record {
  settings = t;
  profile = s.profile;
  kernel = s.kernel;
  cells = s.cells;
  place = s.place;
  index = next s.index;
})

unfoldable pub before_loci : StreamEvent → Reading → Answer
before_loci (Locus p) s = made_with p s (profile_made s.settings)
before_loci (Observation w) s = stray s
before_loci (Pop value) s = pop_unmade value s
before_loci (Setting field value) s = set_by s (with_field s.settings field value)
before_loci Remainder s = stray s
before_loci End s = goes s

-- ---- past it, with no pile open

-- one pop: a region is printed, and the word is looked at again; "held or empty" ends it
unfoldable pub popped_by : Reading → PopAnswer → List Float → Answer
popped_by s (refused_pop n p) cells = stops n s.index s
popped_by s (empty_pop p) cells = goes (carrying s p cells s.place (next s.index))
popped_by s (held_pop p) cells = goes (carrying s p cells s.place (next s.index))
popped_by s (region_pop r p) cells = line r (carrying s p cells s.place s.index)

abbrev pub pop_made : Bool → Reading → Answer
pop_made forced s =
    let extension = s.settings.assembly_region_extension in
    let least = s.settings.min_region_size in
    let most = s.settings.max_region_size in
    popped_by s (pop_answer s.profile s.cells extension least most forced) (pop_cells s.profile s.cells least most forced)

-- "Kind 2: pop until held or empty, value 0 unforced, 1 forced"
abbrev pub popped : ℕ → Reading → Answer
popped value s = cond (ltb 1 value) (stray s) (pop_made (eqb value 1) s)

-- "Kind 3, only before the first locus"; ".. kind 1 with no open pile, is refused 3"; "a remainder counts as a word"
unfoldable pub between_piles : StreamEvent → Reading → Answer
between_piles (Locus p) s = goes (moved s (in_pile p s.index []) (next s.index))
between_piles (Observation w) s = stray s
between_piles (Pop value) s = popped value s
between_piles (Setting field value) s = stray s
between_piles Remainder s = stray s
between_piles End s = goes s

-- ---- within a pile

-- the score is added: the record after it, or a refusal's number
abbrev pub added_outcome : AddAnswer → Outcome BandPassActivityProfile
added_outcome (refused_add n p) = refused n
added_outcome (accepted_add p) = answered p

unfoldable pub score_added : BandPassActivityProfile → List Float → List Float → Outcome ActivityProfileState → Outcome BandPassActivityProfile
score_added p cells kernel (refused n) = refused n
score_added p cells kernel (answered x) = added_outcome (add_answer p cells kernel x)

unfoldable pub score_cells : BandPassActivityProfile → List Float → List Float → Outcome ActivityProfileState → List Float
score_cells p cells kernel (refused n) = cells
score_cells p cells kernel (answered x) = add_cells p cells kernel x

-- how the pile of a position is scored
abbrev pub Scoring : Type 0
Scoring = ℕ → List ℕ → Outcome ActivityProfileState

-- "scoring has the Rust's defaults"
abbrev pub pile_score : Scoring
pile_score p words = score_of 0 (record { 0 = p }) words scoring_defaults

-- "its refusals name its locus word", which is i
unfoldable pub ended_with : ℕ → Reading → List Float → Outcome BandPassActivityProfile → Answer
ended_with i s cells (refused n) = stops n i s
ended_with i s cells (answered p) = again (carrying s p cells at_loci s.index)

-- "A pile is scored and added when it ends". Here and where an event is acted on the scoring is left open: the program's is `pile_score`, and the code scores
-- by tables (specs/Tables)
unfoldable pub ended_by : Scoring → ℕ → ℕ → List ℕ → Reading → Answer
ended_by scoring p i words s =
    let score = scoring p words in
    ended_with i s (score_cells s.profile s.cells s.kernel score) (score_added s.profile s.cells s.kernel score)

-- a pile with one word more; one that is too deep already stays so, whatever it is given
abbrev pub deepened : List ℕ → ℕ → List ℕ
deepened words w = cond (ltb max_depth (length words)) words (words ++ (w ∷ []))

-- "A pile .. ends, which is before the next kind 0 or 2 word, a byte remainder or the end of input is looked at"
unfoldable pub within_pile : Scoring → ℕ → ℕ → List ℕ → StreamEvent → Reading → Answer
within_pile scoring p i words (Locus q) s = ended_by scoring p i words s
within_pile scoring p i words (Observation w) s = goes (moved s (in_pile p i (deepened words w)) (next s.index))
within_pile scoring p i words (Pop value) s = ended_by scoring p i words s
within_pile scoring p i words (Setting field value) s = stray s
within_pile scoring p i words Remainder s = ended_by scoring p i words s
within_pile scoring p i words End s = ended_by scoring p i words s

-- ---- acting on an event once

unfoldable pub act_at : Scoring → StreamEvent → Reading → Place → Answer
act_at scoring e s at_settings = before_loci e s
act_at scoring e s at_loci = between_piles e s
act_at scoring e s (in_pile p i words) = within_pile scoring p i words e s

abbrev pub act_by : Scoring → StreamEvent → Reading → Answer
act_by scoring e s = act_at scoring e s s.place

abbrev pub act : StreamEvent → Reading → Answer
act e s = act_by pile_score e s

-- ---- the whole program

-- the lines, and how it ends: at the end of its input, or at a refusal with its number and word index
pub data Close : Type 0 where
  finished : Close
  refused_at : ℕ → ℕ → Close

pub record Printed : Type 0 where
  pub lines : List ActivityProfileRegion
  pub close : Close

abbrev pub printed : List ActivityProfileRegion → Close → Printed
printed lines close = record { lines = lines; close = close }

-- one line, then what follows
abbrev pub after : ActivityProfileRegion → Printed → Printed
after r rest = printed (r ∷ rest.lines) rest.close

-- an answer, and what is printed after it: where the event is done, and where it is acted on again
abbrev pub printed_by : (Reading → Printed) → (Reading → Printed) → Answer → Printed
printed_by rest more (goes s) = rest s
printed_by rest more (again s) = more s
printed_by rest more (line r s) = after r (more s)
printed_by rest more (stops n i s) = printed [] (refused_at n i)

-- An event is acted on until it is done: the open pile ends, and that is "pop until held or empty". `n` bounds how often it is acted on again; once for the
-- pile and once for each cell is enough, and more give the same (proofs/Feeding)
unfoldable pub acts : ℕ → StreamEvent → (Reading → Printed) → Answer → Printed
acts zero e rest a = printed_by rest rest a
acts (suc n) e rest a = printed_by rest (λ s. acts n e rest (act e s)) a

-- what is printed of a list of events
unfoldable pub run_events : List StreamEvent → Reading → Printed
run_events [] s = printed [] finished
run_events (e ∷ events) s = acts (suc (length s.cells)) e (run_events events) (act e s)

-- what is printed of the words and of the end of the input
abbrev pub program : List ℕ → Bool → Reading → Printed
program words remainder s = run_events (events_of words remainder) s
