-- log10 of 1 less an error's probability, at quality 1 to 254: tried at each. Assumes nothing.
use Rattle.std.specs.Prelude.{◌≡◌, refl, Bool, true, false, ◌&&◌, ℕ, zero, suc, Float}
use Rattle.std.specs.Float.{inf, binary64}
use Rattle.std.specs.Float.Ieee.{of_bits, of_int, round, add, sub, mul, div, neg, lt}
use Rattle.lists.specs.Loops as Loops
use Rattle.doubles.specs.Constants.{zero_f, one_f}
use Rattle.elementary.specs.Exp.{exp_of, ten_to_of}
use Rattle.genotype_likelihoods.specs.Contribution.{error_prob}

unfoldable pub positive : Float → Bool
positive x = lt zero_f x && lt x (inf false)

-- n qualities from q on
unfoldable pub positives : ℕ → ℕ → Bool
unfolding positive
positives q zero = true
positives q (suc n) = positive (sub binary64 one_f (error_prob q)) && positives (suc q) n

pub from_1 : positives 1 64 ≡ true
unfolding positives positive error_prob ten_to_of exp_of Loops.down of_bits of_int round add sub mul div neg lt
from_1 = refl

pub from_65 : positives 65 64 ≡ true
unfolding positives positive error_prob ten_to_of exp_of Loops.down of_bits of_int round add sub mul div neg lt
from_65 = refl

pub from_129 : positives 129 64 ≡ true
unfolding positives positive error_prob ten_to_of exp_of Loops.down of_bits of_int round add sub mul div neg lt
from_129 = refl

pub from_193 : positives 193 62 ≡ true
unfolding positives positive error_prob ten_to_of exp_of Loops.down of_bits of_int round add sub mul div neg lt
from_193 = refl
