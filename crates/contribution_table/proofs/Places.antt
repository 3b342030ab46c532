-- Places in the rows of the table, and the sums of a whole slice. Assumes nothing.
use Rattle.std.proofs.Common.{◌≡◌, ℕ, zero, suc, ◌+◌, ◌*◌, ◌<◌, ◌≤◌, Bool, true, false, ◌&&◌, eqb, leb, List, length, refl, ◌∙◌, mul-le-mul_right, arith, ltb-true, ne_eqb, eqb-true, leb-true}
use Rattle.std.specs.List.{fold}
use lib.Ieee.{Float}
use Rattle.lists.specs.Each.{each, tabulate}
use Rattle.lists.specs.Folds.{each-tabulate}
use Rattle.lists.specs.Tests.{and_left, and_right}
use Rattle.genome.specs.Ranges.{missing_quality}
use Rattle.genotype_likelihoods.specs.declared.HaplotypeCallerActivityScoringParams.{HaplotypeCallerActivityScoringParams}
use Rattle.genotype_likelihoods.specs.Likelihoods.{counted, less}
use Rattle.contribution_table.specs.Table.{ploidy_of, rows, row_length, table_length, in_rows, serves, sum_at, share_of, likelihood_at}

-- four entries from i on are in their row
pub in_row : (r n i : ℕ) → r < rows → i + 4 ≤ n → r * n + i + 4 ≤ rows * n
in_row r n i h k = omega (arith, mul-le-mul_right n h)

-- a row and an entry of it are small numbers
pub row_small : (r n : ℕ) → r < rows → n ≤ 256 → r * n ≤ rows * 256
row_small r n h k = omega (arith, mul-le-mul_right n h)

pub serves_row : (table : List Float) (s : HaplotypeCallerActivityScoringParams) (n : ℕ) → serves table s n ≡ true → n ≤ row_length (ploidy_of s)
unfolding serves
serves_row table s n e = leb-true _ _ (and_left (leb n (row_length (ploidy_of s))) _ (and_left (in_rows s n) _ e))

pub serves_deletions : (table : List Float) (s : HaplotypeCallerActivityScoringParams) (n : ℕ) → serves table s n ≡ true → s.ref_model_deletion_qual < missing_quality
unfolding serves
serves_deletions table s n e = ltb-true _ _ (and_right (leb n (row_length (ploidy_of s))) _ (and_left (in_rows s n) _ e))

pub serves-length : (table : List Float) (s : HaplotypeCallerActivityScoringParams) (n : ℕ) → serves table s n ≡ true → length table ≡ table_length (ploidy_of s)
unfolding serves
serves-length table s n e = eqb-true _ _ (and_left (eqb (length table) (table_length (ploidy_of s))) _ (and_right (in_rows s n) _ e))

-- a table of another length does not serve
pub other_length : (table : List Float) (s : HaplotypeCallerActivityScoringParams) (n : ℕ) → (length table ≡ table_length (ploidy_of s) → ⊥) → serves table s n ≡ false
unfolding serves
other_length table s n h = rw (ne_eqb (length table) (table_length (ploidy_of s)) h) (and_no (in_rows s n))
  where
    and_no : (b : Bool) → (b && false) ≡ false
    and_no true = refl
    and_no false = refl

-- the sums less the share of k words, k being the words counted where there is a genotype
pub sums_less_share : (table : List Float) (s : HaplotypeCallerActivityScoringParams) (words : List ℕ) (n k : ℕ) → (0 < n → k ≡ fold (counted s) 0 words)
    → each (less (share_of table s k)) (tabulate (sum_at table s words) n) ≡ tabulate (likelihood_at table s words (fold (counted s) 0 words)) n
unfolding tabulate
sums_less_share table s words zero k h = each-tabulate (less (share_of table s k)) (sum_at table s words) 0
sums_less_share table s words (suc n) k h = each-tabulate (less (share_of table s k)) (sum_at table s words) (suc n) ∙ rw (h (omega arith))
