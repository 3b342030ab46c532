-- What a table holds that was filled.
use Rattle.std.specs.Prelude.{◌≡◌, ℕ, ◌<◌, List, length, slice_index_or, Float}
use Rattle.std.specs.Float.{nan}
use Rattle.genotype_likelihoods.specs.declared.HaplotypeCallerActivityScoringParams.{HaplotypeCallerActivityScoringParams}
use Rattle.contribution_table.specs.Table.{ploidy_of, table_length, cell_at}

-- the numbers of the table of t, as far as the slice goes
abbrev pub Holds : HaplotypeCallerActivityScoringParams → List Float → Type 0
Holds t table = (j : ℕ) → j < length table → j < table_length (ploidy_of t) → slice_index_or table j nan ≡ cell_at t j
