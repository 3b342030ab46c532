-- `neg_infinity` meets its contract, computed.
use mathlib.Core.Path.{refl}
use lib.Ieee.{of_bits}
use Rattle.log10_sums.proofs.sums.neg_infinity.Goals as goal

pub returns : goal.returns
unfolding of_bits
returns c = refl
