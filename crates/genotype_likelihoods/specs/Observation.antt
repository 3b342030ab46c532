-- 01, Scoring, and 02, U3: the quality of an observation, and which are skipped.
use Rattle.std.specs.Prelude.{ℕ, Bool, cond, not, ◌&&◌, ◌||◌, ◌==◌, nat_lt}
use Rattle.genome.specs.Ranges.{missing_quality}
use Rattle.pileup_words.specs.declared.PileupObservation.{PileupObservation}
use Rattle.pileup_words.specs.Words.{observation}
use Rattle.genotype_likelihoods.specs.declared.HaplotypeCallerActivityScoringParams.{HaplotypeCallerActivityScoringParams}

-- "a deletion takes deletion quality"
unfoldable pub effective_qual : HaplotypeCallerActivityScoringParams → PileupObservation → ℕ
effective_qual s o = cond o.is_deletion s.ref_model_deletion_qual o.qual

-- "quality 10 counts at minimum 10, 9 does not"; "with quality 255 .. like one below the minimum"
unfoldable pub lacks_quality : HaplotypeCallerActivityScoringParams → ℕ → Bool
lacks_quality s qual = nat_lt qual s.min_base_quality_score || qual == missing_quality

-- a deletion "is skipped only under the flow model when below minimum": it has the deletion quality, 1 to 254, which is never missing
unfoldable pub skips : HaplotypeCallerActivityScoringParams → PileupObservation → ℕ → Bool
skips s o qual = lacks_quality s qual && (s.flow_based_reference_model || not o.is_deletion)

-- of a word
abbrev pub qual_of : HaplotypeCallerActivityScoringParams → ℕ → ℕ
qual_of s w = effective_qual s (observation w)

abbrev pub skipped : HaplotypeCallerActivityScoringParams → ℕ → Bool
skipped s w = skips s (observation w) (qual_of s w)
