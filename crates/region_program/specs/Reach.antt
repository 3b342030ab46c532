-- What has been read and what has been printed where a stream stands, so that demand 3 can be said of it.
use Rattle.std.specs.Prelude.{◌≡◌, List, [], ◌∷◌, ◌++◌, ℕ, Float}
use Rattle.genome.specs.Refusals.{answered, setting_refusal, word_refusal, depth_refusal, off_contig_refusal, not_next_refusal, cells_refusal, zero_size_refusal}
use Rattle.pileup_words.specs.declared.StreamEvent.{StreamEvent}
use Rattle.activity_profile.specs.declared.BandPassActivityProfile.{BandPassActivityProfile}
use Rattle.activity_profile.specs.declared.ActivityProfileRegion.{ActivityProfileRegion}
use Rattle.activity_profile.specs.Loci.{loci}
use Rattle.activity_profile.specs.Run.{Call, after, accepted_in, popped_in}
use Rattle.region_program.specs.Program.{Reading, Place, at_settings, at_loci, in_pile, goes, again, line, act, profile_made, Close, finished, refused_at}

-- the locus that is read where a pile ends
abbrev pub read_at : Place → List ℕ
read_at at_settings = []
read_at at_loci = []
read_at (in_pile p i words) = p ∷ []

-- from s, by acting on any events, none of them refused: the loci read, the lines printed, and where the stream then stands
pub data Reached (s : Reading) : List ℕ → List ActivityProfileRegion → Reading → Type 0 where
  nothing_yet : Reached s [] [] s
  going : (read : List ℕ) (lines : List ActivityProfileRegion) (t u : Reading) (e : StreamEvent) → Reached s read lines t → act e t ≡ goes u → Reached s read lines u
  adding : (read : List ℕ) (lines : List ActivityProfileRegion) (t u : Reading) (e : StreamEvent) → Reached s read lines t → act e t ≡ again u
      → Reached s (read ++ read_at t.place) lines u
  printing : (read : List ℕ) (lines : List ActivityProfileRegion) (t u : Reading) (e : StreamEvent) (r : ActivityProfileRegion) → Reached s read lines t
      → act e t ≡ line r u → Reached s read (lines ++ (r ∷ [])) u

-- the loci of the lines, in order
abbrev pub lines_loci : List ActivityProfileRegion → List ℕ
lines_loci [] = []
lines_loci (r ∷ rs) = loci r.start r.end ++ lines_loci rs

-- The record and the cells are as a list of calls leaves them, on a profile that was made with the stream's settings and the cells that were lent;
-- the loci read are those that the calls accepted, and the loci of the lines those that they popped.
pub record OfCalls (cells : List Float) (read : List ℕ) (lines : List ActivityProfileRegion) (s : Reading) : Type 0 where
  pub made : BandPassActivityProfile
  pub by_making : profile_made s.settings ≡ answered made
  pub calls : List Call
  pub left : after (record { profile = made; cells = cells }) calls ≡ record { profile = s.profile; cells = s.cells }
  pub accepted : accepted_in (record { profile = made; cells = cells }) calls ≡ read
  pub popped : popped_in (record { profile = made; cells = cells }) calls ≡ lines_loci lines

-- ---- how a stream can end

-- the refusals that a stream can be ended by
pub data Possible : ℕ → Type 0 where
  setting : Possible setting_refusal
  word : Possible word_refusal
  depth : Possible depth_refusal
  off_the_contig : Possible off_contig_refusal
  not_the_next : Possible not_next_refusal
  too_few_cells : Possible cells_refusal
  zero_size : Possible zero_size_refusal

abbrev pub ClosePossible : Close → Type 0
ClosePossible finished = Unit {0}
ClosePossible (refused_at n i) = Possible n
