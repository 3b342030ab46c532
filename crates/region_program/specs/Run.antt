-- A run of observations taken at once: as acting on each of them in turn.
use Rattle.std.specs.Prelude.{Bool, cond, not, List, ◌≡◌, ℕ, ◌+◌, ◌%◌, ◌^◌, ◌≤◌, ltb, length, take, Float}
use Rattle.std.specs.List.{fold}
use Rattle.lists.specs.Loops.{first_at}
use Rattle.pileup_words.specs.Words.{is_observation}
use Rattle.pileup_words.specs.Events.{event_of}
use Rattle.region_program.specs.declared.RegionStream.{RegionStream}
use Rattle.region_program.specs.declared.Observed.{Observed}
use Rattle.region_program.specs.declared.Phase.{Phase}
use Rattle.region_program.specs.declared.Phase.TheVariants.{Settings, Loci, Pile}
use Rattle.region_program.specs.Program.{Scoring, Reading, Answer, goes, again, line, stops, act_by}
use Rattle.region_program.specs.Stream.{seen, stream_of, pile_of, kept, acts_left}

-- a word that is no observation
abbrev pub is_other : ℕ → Bool
is_other w = not (is_observation w)

-- how many are taken: all that stand at the front, where a pile is open
abbrev pub taken_of : Phase → List ℕ → ℕ
taken_of Settings words = 0
taken_of Loci words = 0
taken_of (Pile o) words = first_at is_other words

-- the next word is acted on where the ones before were done
abbrev pub then_act : Scoring → Answer → ℕ → Answer
then_act scoring (goes s) w = act_by scoring (event_of w) s
then_act scoring (again s) w = again s
then_act scoring (line r s) w = line r s
then_act scoring (stops n i s) w = stops n i s

-- each word in its order
abbrev pub acted_on : Scoring → Reading → List ℕ → Answer
acted_on scoring s words = fold (then_act scoring) (goes s) words

-- how many words of the lent pile are kept, and the pile
pub record Kept : Type 0 where
  pub depth : ℕ
  pub pile : List ℕ

-- one more, where there is room
abbrev pub kept_more : Kept → ℕ → Kept
kept_more k w = record {
  depth = cond (ltb k.depth (length k.pile)) (k.depth + 1) k.depth;
  pile = kept k.pile k.depth w;
}

abbrev pub kept_all : ℕ → List ℕ → List ℕ → Kept
kept_all depth pile words = fold kept_more (record { depth = depth; pile = pile }) words

-- what becomes of the lent pile: without a pile open, nothing
abbrev pub pile_run : Phase → List ℕ → List ℕ → List ℕ
pile_run Settings words pile = pile
pile_run Loci words pile = pile
pile_run (Pile o) words pile = (kept_all o.depth pile words).pile

-- the stream n words further in a pile
abbrev pub run_at : RegionStream → ℕ → ℕ → ℕ → ℕ → RegionStream
run_at s locus i depth n = stream_of s.settings s.profile (Pile (pile_of locus i depth)) ((s.index + n) % 2 ^ 64)

-- what taking the observations at the front of some words promises: how many they are, and that the state and the pile are as acting on each of them in turn
-- leaves them, however piles are scored
pub record Taken (s : RegionStream) (words pile pile' : List ℕ) (r : Observed) : Type 0 where
  pub all : r.taken ≡ taken_of s.phase words
  pub few : r.taken ≤ length words
  pub acted : (scoring : Scoring) (kernel cells : List Float)
      → goes (seen r.stream pile' kernel cells) ≡ acted_on scoring (seen s pile kernel cells) (take r.taken words)
  pub kept_pile : pile' ≡ pile_run s.phase (take r.taken words) pile
  pub same-acts : acts_left r.stream ≡ acts_left s
