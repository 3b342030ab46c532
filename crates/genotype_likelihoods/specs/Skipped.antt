-- Words that have no quality, of which no likelihood is made.
use Rattle.std.specs.Prelude.{ℕ, Bool, not, ◌&&◌, ◌==◌}
use Rattle.genome.specs.Ranges.{missing_quality}
use Rattle.pileup_words.specs.Words.{observation}

-- "a non-deletion with quality 255"
abbrev pub is_blank : ℕ → Bool
is_blank w = not (observation w).is_deletion && (observation w).qual == missing_quality
