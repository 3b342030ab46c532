-- `pattern_of` meets its contract: the double that the steps come to has the table's pattern.
use mathlib.Core.Path.{sym}
use Rattle.error_probabilities.proofs.BySteps.{pattern_by_steps}
use Rattle.error_probabilities.proofs.TenthPower.{steps_are_number}
use Rattle.error_table.proofs.pattern_of.Goals as goal

pub float_to_bits-result : goal.float_to_bits-result
float_to_bits-result c = rw c.error_probability_by_steps.ensures (steps_are_number _ c.requires)

pub returns : goal.returns
returns c = rw c.error_probability_by_steps.ensures (sym (pattern_by_steps _ c.requires))
