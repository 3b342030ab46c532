-- A scoring by the tables that were filled for a stream's settings of scoring is the program's own, so every step is. Assumes nothing.
use Rattle.std.specs.Prelude.{◌≡◌, List, ℕ, Float}
use Rattle.std.proofs.Math.Path.{refl}
use Rattle.genotype_likelihoods.specs.Settings.{defaults as scoring_defaults}
use Rattle.activity_scoring.proofs.ByTables.{score_own}
use Rattle.pileup_words.specs.declared.StreamEvent.{StreamEvent}
use Rattle.pileup_words.specs.declared.StreamEvent.TheVariants.{Locus, Observation, Pop, Setting, Remainder, End}
use Rattle.region_program.specs.Program.{Scoring, pile_score, Reading, Place, at_settings, at_loci, in_pile, ended_by, within_pile, act_at, act_by, act}
use Rattle.region_program.specs.Tables.{table_score, table_filled, list_filled}

-- ---- a scoring that agrees with the program's own makes every step the program's. Assumes nothing.

module _ (scoring : Scoring) (same : (p : ℕ) (words : List ℕ) → scoring p words ≡ pile_score p words) where
  ended_same : (p i : ℕ) (words : List ℕ) (s : Reading) → ended_by scoring p i words s ≡ ended_by pile_score p i words s
  unfolding ended_by
  ended_same p i words s = rw (same p words)

  pub act-same : (e : StreamEvent) (s : Reading) → act_by scoring e s ≡ act e s
  unfolding act_at within_pile
  act-same e s = go s.place e
    where
      go : (x : Place) (e : StreamEvent) → act_at scoring e s x ≡ act_at pile_score e s x
      go at_settings e = refl
      go at_loci e = refl
      go (in_pile p i words) (Locus q) = ended_same p i words s
      go (in_pile p i words) (Observation w) = refl
      go (in_pile p i words) (Pop value) = ended_same p i words s
      go (in_pile p i words) (Setting field value) = refl
      go (in_pile p i words) Remainder = ended_same p i words s
      go (in_pile p i words) End = ended_same p i words s

-- filled tables, whatever slices they were filled into
pub score_of-filled : (l k : List Float) (p : ℕ) (words : List ℕ) → table_score (table_filled l) (list_filled k) p words ≡ pile_score p words
score_of-filled l k p words = score_own scoring_defaults l k 0 (record { 0 = p }) words

pub act-filled : (l k : List Float) (e : StreamEvent) (s : Reading) → act_by (table_score (table_filled l) (list_filled k)) e s ≡ act e s
act-filled l k e s = act-same (table_score (table_filled l) (list_filled k)) (score_of-filled l k) e s
