-- 02, U5: the cells that a maker must provide. `most` is the max region size of the pops, `filter` the F of the record.
use Rattle.std.specs.Prelude.{Bool, not, ◌&&◌, cond, ℕ, ◌+◌, ◌*◌, min, eqb}
use Rattle.genome.specs.Refusals.{Outcome, refused, answered, setting_refusal, zero_size_refusal}
use Rattle.genome.specs.Ranges.{is_position}
use Rattle.band_pass_kernel.specs.Resolve.{is_distance, is_filter}

-- no "number outside its range": distance, filter size, contig length. Max region size has every value, and 0 is refusal 11
abbrev pub sizes_in_range : ℕ → ℕ → ℕ → Bool
sizes_in_range distance filter len = is_distance distance && is_filter filter && is_position len

-- "the smaller of contig length and max + distance + 2 × filter"
abbrev pub cells_for : ℕ → ℕ → ℕ → ℕ → ℕ
cells_for most distance filter len = min len (most + distance + 2 * filter)

-- "It refuses 1 for a number outside its range, then 11 for a zero max"
unfoldable pub cells_needed : ℕ → ℕ → ℕ → ℕ → Outcome ℕ
cells_needed most distance filter len =
    cond (not (sizes_in_range distance filter len)) (refused setting_refusal)
    (cond (eqb most 0) (refused zero_size_refusal)
    (answered (cells_for most distance filter len)))
