-- 02, U2: the peak of a region, "the largest cell among its loci": "the first cell leads, even a NaN, and a later one only if strictly above the
-- leader". The cells here are those of the region's loci, as they were lent to the pop.
use Rattle.std.specs.Prelude.{cond, List, ℕ, ◌-◌, length, Float}
use Rattle.std.specs.Float.Ieee.{lt}
use Rattle.lists.specs.Loops.{along}
use Rattle.activity_profile.specs.Loci.{cell}

-- "a later one only if strictly above the leader": which cell leads once cell i had its turn, by their indices
unfoldable pub leads : List Float → ℕ → ℕ → ℕ
leads cells i leader = cond (lt (cell cells leader) (cell cells i)) i leader

-- "the first cell leads, even a NaN": from cell 0 on, each later cell has its turn
unfoldable pub peak_index : List Float → ℕ
peak_index cells = along (leads cells) 1 (length cells - 1) 0

-- the cell itself
abbrev pub peak_of : List Float → Float
peak_of cells = cell cells (peak_index cells)
