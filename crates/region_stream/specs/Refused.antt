-- The step of an event that is refused, as the functions of this crate hand it to each other.
use Rattle.std.specs.Prelude.{ℕ}
use Rattle.genome.specs.declared.Refusal.{Refusal}
use Rattle.region_program.specs.declared.RefusedStep.{RefusedStep}
use Rattle.region_program.specs.declared.RegionStream.{RegionStream}

-- what `refused_with` hands back: the refusal, the word that it names, and the stream as it was
abbrev pub refused_step : Refusal → ℕ → RegionStream → RefusedStep
refused_step y i s = record { why = record { refusal = y; index = i }; stream = s }
