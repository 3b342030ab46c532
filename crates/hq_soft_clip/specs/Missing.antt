-- A missing quality as 0.
use Rattle.std.specs.Prelude.{cond, ℕ, eqb}
use Rattle.genome.specs.Ranges.{missing_quality}

-- a quality of 0 in the place of a missing one
abbrev pub zeroed : ℕ → ℕ
zeroed q = cond (eqb q missing_quality) 0 q
