-- The code's state and answers in the terms of the program's definition, and what becomes of each lent slice.
use Rattle.std.specs.Prelude.{cond, List, [], ◌≡◌, ℕ, ◌+◌, ◌-◌, ◌^◌, ◌<◌, min, ltb, length, take, set as replaced, Float, Result, Ok, Err}
use Rattle.doubles.specs.Constants.{zero_f}
use Rattle.genome.specs.declared.Refusal.{Refusal}
use Rattle.genome.specs.Refusals.{Outcome, refused, answered, number_of}
use Rattle.pileup_words.specs.declared.StreamEvent.{StreamEvent}
use Rattle.pileup_words.specs.declared.StreamEvent.TheVariants.{Locus, Observation, Pop, Setting, Remainder, End}
use Rattle.band_pass_kernel.specs.Kernel.{band, gaussian_kernel}
use Rattle.band_pass_kernel.specs.Resolve.{written_to}
use Rattle.activity_profile.specs.declared.BandPassActivityProfile.{BandPassActivityProfile}
use Rattle.activity_scoring.specs.Score.{max_depth}
use Rattle.stream_settings.specs.declared.StreamSettings.{StreamSettings}
use Rattle.stream_settings.specs.Settings.{defaults, params_of}
use Rattle.region_program.specs.declared.RegionStream.{RegionStream}
use Rattle.region_program.specs.declared.Phase.{Phase}
use Rattle.region_program.specs.declared.Phase.TheVariants.{Settings, Loci, Pile}
use Rattle.region_program.specs.declared.Step.{Step}
use Rattle.region_program.specs.declared.Step.TheVariants.{Next, Again, Line}
use Rattle.region_program.specs.declared.RefusedStep.{RefusedStep}
use Rattle.region_program.specs.declared.OpenPile.{OpenPile}
use Rattle.region_program.specs.Program.{Place, at_settings, at_loci, in_pile, Reading, Answer, goes, again, line, stops, profile_made, Scoring, ended_by, act_by}

-- ---- the state

-- the kept words are the first of the lent pile
abbrev pub place_of : Phase → List ℕ → Place
place_of Settings pile = at_settings
place_of Loci pile = at_loci
place_of (Pile o) pile = in_pile o.locus o.locus_index (take o.depth pile)

-- the kernel stands at the front of the slice that is lent for it; there is none before the first locus
abbrev pub kernel_of : Phase → ℕ → List Float → List Float
kernel_of Settings f kernel = []
kernel_of Loci f kernel = take (band f) kernel
kernel_of (Pile o) f kernel = take (band f) kernel

abbrev pub seen : RegionStream → List ℕ → List Float → List Float → Reading
seen s pile kernel cells = record {
  settings = s.settings;
  profile = s.profile;
  kernel = kernel_of s.phase s.profile.filter_size kernel;
  cells = cells;
  place = place_of s.phase pile;
  index = s.index;
}

-- no profile
abbrev pub no_profile : BandPassActivityProfile
no_profile = record {
  contig = 0;
  contig_len = 0;
  max_prob_propagation_distance = 0;
  active_prob_threshold = zero_f;
  filter_size = 0;
  region_start = 0;
  last_input_pos = 0;
  count = 0;
}

-- the state before the first event
abbrev pub new_stream : RegionStream
new_stream = record { settings = defaults; profile = no_profile; phase = Settings; index = 0 }

-- the program's start, with the cells as they are lent
abbrev pub start : List Float → Reading
start cells = record { settings = defaults; profile = no_profile; kernel = []; cells = cells; place = at_settings; index = 0 }

-- a state by its parts
abbrev pub stream_of : StreamSettings → BandPassActivityProfile → Phase → ℕ → RegionStream
stream_of settings profile phase i = record { settings = settings; profile = profile; phase = phase; index = i }

-- a pile by its parts
abbrev pub pile_of : ℕ → ℕ → ℕ → OpenPile
pile_of locus i depth = record { locus = locus; locus_index = i; depth = depth }

-- ---- answers

abbrev pub answer_of : Result Step RefusedStep → List ℕ → List Float → List Float → Answer
answer_of (Ok (Next s)) pile kernel cells = goes (seen s pile kernel cells)
answer_of (Ok (Again s)) pile kernel cells = again (seen s pile kernel cells)
answer_of (Ok (Line r s)) pile kernel cells = line r (seen s pile kernel cells)
answer_of (Err e) pile kernel cells = stops (number_of e.why.refusal) e.why.index (seen e.stream pile kernel cells)

-- a refusal at the word of an index, of the state s
abbrev pub refused_with : Refusal → ℕ → RegionStream → Result Step RefusedStep
refused_with y i s = Err (record { why = record { refusal = y; index = i }; stream = s })

-- ---- lent slices: an answer has all the cells in it, and of the pile and the kernel the part that counts

-- one word more than the deepest pile: a pile that fills the lent words is too deep
abbrev pub PILE : ℕ
PILE = max_depth + 1

-- an observation of the open pile is its next word, where there is room
abbrev pub kept : List ℕ → ℕ → ℕ → List ℕ
kept pile depth w = cond (ltb depth (length pile)) (replaced pile depth w) pile

abbrev pub pile_observed : Phase → ℕ → List ℕ → List ℕ
pile_observed Settings w pile = pile
pile_observed Loci w pile = pile
pile_observed (Pile o) w pile = kept pile o.depth w

unfoldable pub pile_after : StreamEvent → Phase → List ℕ → List ℕ
pile_after (Locus p) phase pile = pile
pile_after (Observation w) phase pile = pile_observed phase w pile
pile_after (Pop value) phase pile = pile
pile_after (Setting field value) phase pile = pile
pile_after Remainder phase pile = pile
pile_after End phase pile = pile

-- the first locus has the kernel written to the front
abbrev pub kernel_made : StreamSettings → Outcome BandPassActivityProfile → List Float → List Float
kernel_made t (refused n) kernel = kernel
kernel_made t (answered p) kernel = written_to kernel (band p.filter_size) (gaussian_kernel p.filter_size (params_of t).sigma)

abbrev pub kernel_opened : Phase → StreamSettings → List Float → List Float
kernel_opened Settings t kernel = kernel_made t (profile_made t) kernel
kernel_opened Loci t kernel = kernel
kernel_opened (Pile o) t kernel = kernel

unfoldable pub kernel_after : StreamEvent → Phase → StreamSettings → List Float → List Float
kernel_after (Locus p) phase t kernel = kernel_opened phase t kernel
kernel_after (Observation w) phase t kernel = kernel
kernel_after (Pop value) phase t kernel = kernel
kernel_after (Setting field value) phase t kernel = kernel
kernel_after Remainder phase t kernel = kernel
kernel_after End phase t kernel = kernel

-- ---- the end of a caller's loop

-- How many more times an event can be acted on: as many as cells are held; with a pile open, whose end adds to those, more than a record can count.
abbrev pub most_acts : ℕ
most_acts = 2 ^ 32

abbrev pub acts_in : Phase → ℕ → ℕ
acts_in Settings count = min count (most_acts - 1)
acts_in Loci count = min count (most_acts - 1)
acts_in (Pile o) count = most_acts

abbrev pub acts_left : RegionStream → ℕ
acts_left s = acts_in s.phase s.profile.count

-- an answer that asks to act on the event again leaves fewer; a refusal hands back the state that it was given
abbrev pub StepEnds : RegionStream → Result Step RefusedStep → Type 0
StepEnds s (Ok (Next t)) = Unit {0}
StepEnds s (Ok (Again t)) = acts_left t < acts_left s
StepEnds s (Ok (Line r t)) = acts_left t < acts_left s
StepEnds s (Err e) = e.stream ≡ s

-- ---- all that a step promises

-- s is the state that it is given; the lists are what is lent, before and after
pub record Stepped (scoring : Scoring) (e : StreamEvent) (s : RegionStream) (pile pile' : List ℕ) (kernel kernel' cells cells' : List Float) (r : Result Step RefusedStep) : Type 0 where
  pub answer : answer_of r pile' kernel' cells' ≡ act_by scoring e (seen s pile kernel cells)
  pub pile_left : pile' ≡ pile_after e s.phase pile
  pub kernel_left : kernel' ≡ kernel_after e s.phase s.settings kernel
  pub ends : StepEnds s r

-- and the end of a pile, whatever event ends it
pub record EndsPile (scoring : Scoring) (s : RegionStream) (o : OpenPile) (pile : List ℕ) (kernel cells cells' : List Float) (r : Result Step RefusedStep) : Type 0 where
  pub answer : answer_of r pile kernel cells' ≡ ended_by scoring o.locus o.locus_index (take o.depth pile) (seen s pile kernel cells)
  pub ends : StepEnds s r
