-- An answer that is a count.
use Prim.{⊥}
use Rattle.genome.specs.Refusals.{Outcome, refused, answered}

abbrev pub Counted : {A : Type 0} → Outcome A → Type 0
Counted (refused r) = ⊥
Counted (answered n) = Unit
