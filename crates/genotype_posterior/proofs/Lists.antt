-- The length of a list of priors that is read. Assumes nothing.
use Rattle.std.proofs.Common.{◌≡◌, ℕ, ◌+◌, true, false, eqb, List, length, ne_eqb, eqb-true}
use lib.Ieee.{Float}
use Rattle.lists.specs.Tests.{and_left}
use Rattle.genotype_posterior.specs.Priors.{heading, are_for}

pub for_length : (priors : List Float) (n : ℕ) (het sd : Float) → are_for priors n het sd ≡ true → length priors ≡ heading + n
unfolding are_for
for_length priors n het sd e = eqb-true _ _ (and_left (eqb (length priors) (heading + n)) _ e)

pub other_length : (priors : List Float) (n : ℕ) (het sd : Float) → (length priors ≡ heading + n → ⊥) → are_for priors n het sd ≡ false
unfolding are_for
other_length priors n het sd h = rw (ne_eqb (length priors) (heading + n) h)
