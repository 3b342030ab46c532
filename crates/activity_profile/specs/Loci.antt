-- Loci and cells, as the chapters on adding and popping name them.
use Rattle.std.specs.Prelude.{List, [], ◌∷◌, ℕ, zero, suc, ◌-◌, get_or, Float}
use Rattle.std.specs.Float.{nan}

-- n loci from a on
abbrev pub from : ℕ → ℕ → List ℕ
from a zero = []
from a (suc n) = a ∷ from (suc a) n

-- the loci a to b, both included; none where b is before a
abbrev pub loci : ℕ → ℕ → List ℕ
loci a b = from a (suc b - a)

-- cell or kernel entry i; past the end there is no number
abbrev pub cell : List Float → ℕ → Float
cell cells i = get_or cells i nan
