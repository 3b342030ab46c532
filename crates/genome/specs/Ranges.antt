-- 01, Ranges: those that more than one chapter names; and the byte of a missing quality.
use Rattle.std.specs.Prelude.{Bool, ℕ, Float}
use Rattle.numbers.specs.Ranges.{between, within}
use Rattle.doubles.specs.Constants.{zero_f, one_f}

-- the longest contig
abbrev pub max_position : ℕ
max_position = 1_073_741_823

-- "contig length 1 to 1,073,741,823"; scoring: "The position must be in 1 to 1,073,741,823"
abbrev pub is_position : ℕ → Bool
is_position n = between 1 n max_position

-- "0.0 to 1.0": a threshold, a probability
abbrev pub is_probability : Float → Bool
is_probability x = within zero_f x one_f

-- 02, U3: "The SAM specification uses byte 255 for a missing quality"
abbrev pub missing_quality : ℕ
missing_quality = 255
