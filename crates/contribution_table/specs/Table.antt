-- What a word adds to the likelihood of each genotype depends on its quality, whether it is alternate, the genotype, the ploidy and the weight of the
-- alternate alone: a table of these numbers, which carries the two settings that it was filled for, and the likelihoods by it.
use Rattle.std.specs.Prelude.{ℕ, ◌+◌, ◌-◌, ◌*◌, ◌/◌, ◌%◌, Bool, cond, ◌&&◌, List, length, drop, pos, ◌==◌, nat_le, nat_lt, slice_index_or, Float}
use Rattle.std.specs.List.{fold}
use Rattle.std.specs.Float.{binary64, nan}
use Rattle.std.specs.Float.Ieee.{of_int, add, sub, mul}
use Rattle.lists.specs.Each.{each, tabulate}
use Rattle.doubles.specs.Constants.{zero_f}
use Rattle.numbers.specs.Same.{same_positive}
use Rattle.genome.specs.Ranges.{missing_quality}
use Rattle.genotype_likelihoods.specs.declared.HaplotypeCallerActivityScoringParams.{HaplotypeCallerActivityScoringParams}
use Rattle.pileup_words.specs.Words.{observation}
use Rattle.genotype_likelihoods.specs.Observation.{qual_of, skipped}
use Rattle.genotype_likelihoods.specs.Contribution.{contribution_of, log10_whole}
use Rattle.genotype_likelihoods.specs.Likelihoods.{weight, counted, likelihoods}

-- ---- the table

abbrev pub ploidy_of : HaplotypeCallerActivityScoringParams → ℕ
ploidy_of s = s.sample_ploidy.0

abbrev pub multiplier_of : HaplotypeCallerActivityScoringParams → Float
multiplier_of s = s.active_region_alt_multiplier

abbrev pub ploidy_number : HaplotypeCallerActivityScoringParams → Float
ploidy_number s = of_int binary64 (pos (ploidy_of s))

-- the settings that it carries: ploidy and multiplier
abbrev pub heading : ℕ
heading = 2

-- a row for each quality from 0 to 254, plain and alternate: a word that is not skipped has a quality, and the deletion quality is 254 at most
abbrev pub rows : ℕ
rows = 510

-- a row has an entry for each genotype, ploidy + 1 of them, and is as long as the next multiple of 4
abbrev pub row_length : ℕ → ℕ
row_length ploidy = ploidy / 4 * 4 + 4

-- the rows, and one number more behind them
abbrev pub rows_length : ℕ → ℕ
rows_length ploidy = rows * row_length ploidy + 1

abbrev pub table_length : ℕ → ℕ
table_length ploidy = heading + rows_length ploidy

-- row r is that of quality r / 2, alternate where r is odd; its entry i is for i copies of the alternate
abbrev pub cell_of : HaplotypeCallerActivityScoringParams → ℕ → ℕ → Float
cell_of s r i = mul binary64 (weight s (r % 2 == 1)) (contribution_of (r / 2) (r % 2 == 1) i (ploidy_of s))

-- the number behind the rows is log10 of the ploidy
unfoldable pub entry_at : HaplotypeCallerActivityScoringParams → ℕ → Float
entry_at s j =
    cond (nat_lt j (rows * row_length (ploidy_of s)))
    (cell_of s (j / row_length (ploidy_of s)) (j % row_length (ploidy_of s)))
    (log10_whole (ploidy_of s))

-- the two settings stand in front of the rows
unfoldable pub cell_at : HaplotypeCallerActivityScoringParams → ℕ → Float
cell_at s j = cond (j == 0) (ploidy_number s) (cond (j == 1) (multiplier_of s) (entry_at s (j - heading)))

-- a rule for the cells of a slice: those past the table keep what they hold
abbrev pub tabled : HaplotypeCallerActivityScoringParams → ℕ → Float → Float
tabled s j x = cond (nat_lt j (table_length (ploidy_of s))) (cell_at s j) x

-- what filling makes of a slice: one that is too short is left as it is
unfoldable pub filled : HaplotypeCallerActivityScoringParams → List Float → List Float
filled s l = cond (nat_lt (length l) (table_length (ploidy_of s))) l (each (tabled s) l)

-- ---- the likelihoods by the rows of a table, whatever they hold

-- the row of a word
abbrev pub row_of : HaplotypeCallerActivityScoringParams → ℕ → ℕ
row_of s w = qual_of s w * 2 + cond (observation w).is_alt 1 0

-- genotype i with a word more
unfoldable pub taken_at : List Float → HaplotypeCallerActivityScoringParams → ℕ → Float → ℕ → Float
taken_at rs s i x w = cond (skipped s w) x (add binary64 x (slice_index_or rs (row_of s w * row_length (ploidy_of s) + i) nan))

-- genotype i over every word in turn
abbrev pub sum_at : List Float → HaplotypeCallerActivityScoringParams → List ℕ → ℕ → Float
sum_at rs s words i = fold (taken_at rs s i) zero_f words

-- n words × log10 ploidy
abbrev pub share_of : List Float → HaplotypeCallerActivityScoringParams → ℕ → Float
share_of rs s n = mul binary64 (of_int binary64 (pos n)) (slice_index_or rs (rows * row_length (ploidy_of s)) nan)

-- genotype i, n words being counted
abbrev pub likelihood_at : List Float → HaplotypeCallerActivityScoringParams → List ℕ → ℕ → ℕ → Float
likelihood_at rs s words n i = sub binary64 (sum_at rs s words i) (share_of rs s n)

-- ---- and by a table

-- the settings that a table carries are those of the call
abbrev pub carries : List Float → HaplotypeCallerActivityScoringParams → Bool
carries table s = same_positive (slice_index_or table 0 nan) (ploidy_number s) && same_positive (slice_index_or table 1 nan) (multiplier_of s)

-- and so is its length
abbrev pub is_for : List Float → HaplotypeCallerActivityScoringParams → Bool
is_for table s = length table == table_length (ploidy_of s) && carries table s

-- n genotypes have their entries in the rows, and so do deletions
abbrev pub in_rows : HaplotypeCallerActivityScoringParams → ℕ → Bool
in_rows s n = nat_le n (row_length (ploidy_of s)) && nat_lt s.ref_model_deletion_qual missing_quality

unfoldable pub serves : List Float → HaplotypeCallerActivityScoringParams → ℕ → Bool
serves table s n = in_rows s n && is_for table s

-- a table that does not serve is not looked at
unfoldable pub likelihoods_by : List Float → HaplotypeCallerActivityScoringParams → ℕ → List ℕ → List Float
likelihoods_by table s n words =
    cond (serves table s n) (tabulate (likelihood_at (drop heading table) s words (fold (counted s) 0 words)) n) (likelihoods s n words)
