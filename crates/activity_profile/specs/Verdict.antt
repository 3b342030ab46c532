-- 01, Refusals: the first that applies, in document 01's order, as a chain `cond test (refusal 5) (..)`.
use Rattle.std.specs.Prelude.{ℕ, Result, Ok, Err}
use Rattle.genome.specs.declared.Refusal.{Refusal}
use Rattle.genome.specs.Refusals.{number_of}

pub data Verdict : Type 0 where
  refusal : ℕ → Verdict
  granted : Verdict

-- a result of the code in these terms
abbrev pub verdict_of : Result Unit Refusal → Verdict
verdict_of (Ok done) = granted
verdict_of (Err r) = refusal (number_of r)
