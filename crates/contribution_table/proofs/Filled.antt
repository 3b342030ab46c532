-- By a table that was filled, for whatever settings, the likelihoods are the plain ones of the call's settings, bit for bit: for every slice that the table was
-- filled into, every part of it from the front, every number of genotypes and every pile. A table of other settings is not read. Assumes nothing.
use Rattle.std.specs.Prelude.{◌≡◌, ℕ, zero, suc, ◌+◌, ◌-◌, ◌*◌, ◌/◌, ◌%◌, ◌<◌, ◌≤◌, Bool, true, false, cond, ◌&&◌, List, length, get_or, drop, replicate, pos, ◌==◌, nat_le, nat_lt, slice_index_or, refl, Float}
use Rattle.std.specs.List.{fold}
use Rattle.std.proofs.Math.Path.{sym}
use Rattle.std.proofs.Common.{ap, ◌∙◌, add-zero, lt-ltb, le-ltb, leb-true, ltb-true, ltb-false, eqb-true, ne_eqb, ext_get_or, get_or-drop}
use Rattle.std.proofs.Math.Nat.{mul-le-mul_right, mul-add-div_right, mul-add-mod_self_right, div-eq_of_lt, mod-eq_of_lt}
use native.Mathlib.Omega.{arith}
use Rattle.std.specs.Float.{binary64, nan}
use Rattle.std.specs.Float.Ieee.{of_int, add, mul}
use Rattle.lists.specs.Each.{each, get_or-each, length-each, tabulate, length-tabulate, get_or-tabulate}
use Rattle.lists.specs.Folds.{fold-each, fold-same, each-replicate, each-tabulate}
use Rattle.lists.specs.Tests.{and_left, and_right}
use Rattle.doubles.specs.Constants.{zero_f}
use Rattle.numbers.specs.Same.{same_positive, same_is, none_is_nan, none_is_zero, whole_is}
use Rattle.genotype_likelihoods.specs.declared.HaplotypeCallerActivityScoringParams.{HaplotypeCallerActivityScoringParams}
use Rattle.genome.specs.Ranges.{missing_quality}
use Rattle.pileup_words.specs.Words.{observation}
use Rattle.genotype_likelihoods.specs.Observation.{qual_of, skipped}
use Rattle.genotype_likelihoods.specs.Contribution.{contribution_of, log10_whole}
use Rattle.genotype_likelihoods.proofs.Skipped.{counted_has_quality}
use Rattle.genotype_likelihoods.specs.Likelihoods.{weight, gained, taken, counted, less, likelihoods}
use Rattle.contribution_table.specs.Table.{ploidy_of, multiplier_of, ploidy_number, heading, rows, row_length, rows_length, table_length, cell_of, entry_at, cell_at}
use Rattle.contribution_table.specs.Table.{tabled, filled, row_of, taken_at, likelihood_at, carries, is_for, in_rows, serves, likelihoods_by}
use Rattle.contribution_table.specs.Filled.{Holds}

-- ---- the plain likelihoods, genotype by genotype

-- genotype i with a word more
abbrev plain_at : HaplotypeCallerActivityScoringParams → ℕ → Float → ℕ → Float
plain_at s i x w = cond (skipped s w) x (gained (qual_of s w) (observation w).is_alt (weight s (observation w).is_alt) (ploidy_of s) i x)

taken-each : (s : HaplotypeCallerActivityScoringParams) (gl : List Float) (w : ℕ) → taken s gl w ≡ each (λ i x. plain_at s i x w) gl
unfolding taken
taken-each s gl w = go (skipped s w)
  where
    alt : Bool
    alt = (observation w).is_alt

    rule : ℕ → Float → Float
    rule = gained (qual_of s w) alt (weight s alt) (ploidy_of s)

    kept : (l : List Float) → l ≡ each (λ i x. x) l
    kept l = ext_get_or nan l (each (λ i x. x) l) (sym (length-each (λ i x. x) l)) (λ k h. sym (get_or-each (λ i x. x) l k nan h))

    go : (b : Bool) → cond b gl (each rule gl) ≡ each (λ i x. cond b x (rule i x)) gl
    go true = kept gl
    go false = refl

-- the words counted × log10 ploidy
abbrev plain_share : HaplotypeCallerActivityScoringParams → List ℕ → Float
plain_share s words = mul binary64 (of_int binary64 (pos (fold (counted s) 0 words))) (log10_whole (ploidy_of s))

plain_likelihoods : (s : HaplotypeCallerActivityScoringParams) (n : ℕ) (words : List ℕ)
    → likelihoods s n words ≡ tabulate (λ i. less (plain_share s words) i (fold (plain_at s i) zero_f words)) n
unfolding likelihoods
plain_likelihoods s n words =
    ap (each (less (plain_share s words)))
    (fold-same (taken s) (λ (gl : List Float) (w : ℕ). each (λ i x. plain_at s i x w) gl) (replicate n zero_f) words (taken-each s)
    ∙ fold-each (plain_at s) (replicate n zero_f) words
    ∙ each-replicate (λ i x. fold (plain_at s i) x words) n zero_f)
    ∙ each-tabulate (less (plain_share s words)) (λ i. fold (plain_at s i) zero_f words) n

-- ---- what a table that was filled holds

pub filled_holds : (t : HaplotypeCallerActivityScoringParams) (l : List Float) → table_length (ploidy_of t) ≤ length l → Holds t (filled t l)
unfolding filled
filled_holds t l long = rw (le-ltb (length l) (table_length (ploidy_of t)) long)
    (λ j h k. get_or-each (tabled t) l j nan (omega (arith, long)) ∙ rw (lt-ltb j (table_length (ploidy_of t)) k))

-- of two settings with one ploidy and one multiplier the rows are the same
entry_same : (s t : HaplotypeCallerActivityScoringParams) → ploidy_of t ≡ ploidy_of s → multiplier_of t ≡ multiplier_of s → (j : ℕ) → entry_at t j ≡ entry_at s j
unfolding entry_at
entry_same s t p m j = rw (p, m)

-- the rows of s
abbrev Rows : HaplotypeCallerActivityScoringParams → List Float → Type 0
Rows s rs = (j : ℕ) → j < rows_length (ploidy_of s) → slice_index_or rs j nan ≡ entry_at s j

behind_heading : (t : HaplotypeCallerActivityScoringParams) (j : ℕ) → cell_at t (heading + j) ≡ entry_at t j
unfolding cell_at
behind_heading t j =
    let place : heading + j - heading ≡ j = omega arith in
    rw (ne_eqb (heading + j) 0 (λ e. absurd (omega (arith, e))), ne_eqb (heading + j) 1 (λ e. absurd (omega (arith, e))), place)

module _ (s t : HaplotypeCallerActivityScoringParams) (table : List Float) (held : Holds t table) (few : ploidy_of t ≤ 255) (small : ploidy_of s ≤ 255) (for-s : is_for table s ≡ true) where
  long : length table ≡ table_length (ploidy_of s)
  long = eqb-true _ _ (and_left (length table == table_length (ploidy_of s)) _ for-s)

  carried : carries table s ≡ true
  carried = and_right (length table == table_length (ploidy_of s)) _ for-s

  one_ploidy : ploidy_of t ≡ ploidy_of s
  unfolding cell_at
  one_ploidy =
      whole_is (ploidy_of t) (ploidy_of s) (omega (arith, few)) (omega (arith, small))
      (sym (held 0 (omega (arith, long)) (omega arith)) ∙ same_is (slice_index_or table 0 nan) (ploidy_number s) (and_left (same_positive (slice_index_or table 0 nan) (ploidy_number s)) _ carried))

  one_multiplier : multiplier_of t ≡ multiplier_of s
  unfolding cell_at
  one_multiplier =
      sym (held 1 (omega (arith, long)) (omega arith)) ∙ same_is (slice_index_or table 1 nan) (multiplier_of s) (and_right (same_positive (slice_index_or table 0 nan) (ploidy_number s)) _ carried)

  rows-held : Rows s (drop heading table)
  rows-held j h =
      get_or-drop heading table j nan
      ∙ held (heading + j) (omega (arith, long, h)) (rw one_ploidy (omega (arith, h)))
      ∙ behind_heading t j
      ∙ entry_same s t one_ploidy one_multiplier j

module _ (s : HaplotypeCallerActivityScoringParams) (rs : List Float) (held : Rows s rs) where
  -- entry i of row r
  entry : (r i : ℕ) → r < rows → i < row_length (ploidy_of s) → slice_index_or rs (r * row_length (ploidy_of s) + i) nan ≡ cell_of s r i
  unfolding entry_at
  entry r i h k =
      let n = row_length (ploidy_of s) in
      let some : 0 < n = omega arith in
      let inside : r * n + i < rows * n = omega (arith, mul-le-mul_right n h) in
      let row : (r * n + i) / n ≡ r = mul-add-div_right some r i ∙ rw (div-eq_of_lt k, add-zero) in
      let place : (r * n + i) % n ≡ i = mul-add-mod_self_right r n i ∙ mod-eq_of_lt k in
      held (r * n + i) (omega (arith, inside)) ∙ rw (lt-ltb (r * n + i) (rows * n) inside, row, place)

  last : get_or rs (rows * row_length (ploidy_of s)) nan ≡ log10_whole (ploidy_of s)
  unfolding entry_at
  last = held (rows * row_length (ploidy_of s)) (omega arith) ∙ rw (le-ltb (rows * row_length (ploidy_of s)) (rows * row_length (ploidy_of s)) (omega arith))

-- ---- so the sums are the same

-- the row of a word tells its quality and whether it is alternate
cell_of_row : (s : HaplotypeCallerActivityScoringParams) (q : ℕ) (alt : Bool) (i : ℕ) → cell_of s (q * 2 + cond alt 1 0) i ≡ mul binary64 (weight s alt) (contribution_of q alt i (ploidy_of s))
cell_of_row s q true i =
    let odd : (q * 2 + 1) % 2 ≡ 1 = omega arith in
    let half : (q * 2 + 1) / 2 ≡ q = omega arith in
    rw (odd, half)
cell_of_row s q false i =
    let even : (q * 2 + 0) % 2 ≡ 0 = omega arith in
    let half : (q * 2 + 0) / 2 ≡ q = omega arith in
    rw (even, half)

row_below : (q : ℕ) (alt : Bool) → q < missing_quality → q * 2 + cond alt 1 0 < rows
row_below q true h = omega arith
row_below q false h = omega arith

taken-same : (s : HaplotypeCallerActivityScoringParams) (rs : List Float) → Rows s rs → s.ref_model_deletion_qual < missing_quality
    → (i : ℕ) → i < row_length (ploidy_of s) → (x : Float) (w : ℕ) → taken_at rs s i x w ≡ plain_at s i x w
unfolding taken_at
taken-same s rs held few i h x w = go (skipped s w) refl
  where
    alt : Bool
    alt = (observation w).is_alt

    go : (b : Bool) → skipped s w ≡ b
        → cond b x (add binary64 x (slice_index_or rs (row_of s w * row_length (ploidy_of s) + i) nan)) ≡ cond b x (gained (qual_of s w) alt (weight s alt) (ploidy_of s) i x)
    go true e = refl
    go false e = ap (add binary64 x) (entry s rs held (row_of s w) i (row_below (qual_of s w) alt (counted_has_quality s w few e)) h ∙ cell_of_row s (qual_of s w) alt i)

by_rows : (s : HaplotypeCallerActivityScoringParams) (rs : List Float) → Rows s rs → s.ref_model_deletion_qual < missing_quality
    → (n : ℕ) → n ≤ row_length (ploidy_of s) → (words : List ℕ)
    → tabulate (likelihood_at rs s words (fold (counted s) 0 words)) n ≡ likelihoods s n words
by_rows s rs held few n h words =
    let f = likelihood_at rs s words (fold (counted s) 0 words) in
    let g : ℕ → Float = λ i. less (plain_share s words) i (fold (plain_at s i) zero_f words) in
    let at : (k : ℕ) → k < length (tabulate f n) → slice_index_or (tabulate f n) k nan ≡ get_or (tabulate g n) k nan = λ k below.
    let less-n : k < n = rw (length-tabulate f n) at below in
    let same : f k ≡ g k = rw (last s rs held, fold-same (taken_at rs s k) (plain_at s k) zero_f words (taken-same s rs held few k (omega arith))) in
    get_or-tabulate f n k nan less-n ∙ same ∙ sym (get_or-tabulate g n k nan less-n) in
    ext_get_or nan (tabulate f n) (tabulate g n) (length-tabulate f n ∙ sym (length-tabulate g n)) at ∙ sym (plain_likelihoods s n words)

-- ---- the laws

-- filled for t, read for s; a ploidy is a byte
pub likelihoods_by-filled : (s t : HaplotypeCallerActivityScoringParams) (table : List Float) (n : ℕ) (words : List ℕ) → Holds t table
    → ploidy_of t ≤ 255 → ploidy_of s ≤ 255 → likelihoods_by table s n words ≡ likelihoods s n words
unfolding likelihoods_by serves
likelihoods_by-filled s t table n words held few small = go (in_rows s n && is_for table s) refl
  where
    go : (b : Bool) → (in_rows s n && is_for table s) ≡ b
        → cond b (tabulate (likelihood_at (drop heading table) s words (fold (counted s) 0 words)) n) (likelihoods s n words) ≡ likelihoods s n words
    go true e =
        let inside = and_left (in_rows s n) _ e in
        by_rows s (drop heading table) (rows-held s t table held few small (and_right (in_rows s n) _ e)) (ltb-true _ _ (and_right (nat_le n (row_length (ploidy_of s))) _ inside)) n
        (leb-true _ _ (and_left (nat_le n (row_length (ploidy_of s))) _ inside)) words
    go false e = refl

-- a table that is not for the call is not read
unread : (s : HaplotypeCallerActivityScoringParams) (table : List Float) (n : ℕ) (words : List ℕ) → is_for table s ≡ false → likelihoods_by table s n words ≡ likelihoods s n words
unfolding likelihoods_by serves
unread s table n words e = rw e (go (in_rows s n))
  where
    go : (b : Bool) → cond (b && false) (tabulate (likelihood_at (drop heading table) s words (fold (counted s) 0 words)) n) (likelihoods s n words) ≡ likelihoods s n words
    go true = refl
    go false = refl

-- filled for the call's own settings, any slice will do: one that was too short to be filled, or is too long, is not read
pub likelihoods_by_own : (s : HaplotypeCallerActivityScoringParams) (l : List Float) (n : ℕ) (words : List ℕ) → ploidy_of s ≤ 255
    → likelihoods_by (filled s l) s n words ≡ likelihoods s n words
unfolding filled
likelihoods_by_own s l n words small = go (nat_lt (length l) (table_length (ploidy_of s))) (ltb-true (length l) (table_length (ploidy_of s))) (ltb-false (length l) (table_length (ploidy_of s))) refl
  where
    go : (b : Bool) → (b ≡ true → length l < table_length (ploidy_of s)) → (b ≡ false → table_length (ploidy_of s) ≤ length l) → nat_lt (length l) (table_length (ploidy_of s)) ≡ b
        → likelihoods_by (filled s l) s n words ≡ likelihoods s n words
    go true f g e =
        let short : filled s l ≡ l = rw e in
        rw short (unread s l n words (rw (ne_eqb (length l) (table_length (ploidy_of s)) (λ same. absurd (omega (arith, same, f refl))))))
    go false f g e = likelihoods_by-filled s s (filled s l) n words (filled_holds s l (g refl)) small small

-- so it is by a slice of zeros that nothing was filled into, of any length
pub likelihoods_by_zeros : (s : HaplotypeCallerActivityScoringParams) (k n : ℕ) (words : List ℕ) → likelihoods_by (replicate k zero_f) s n words ≡ likelihoods s n words
likelihoods_by_zeros s k n words = unread s (replicate k zero_f) n words (rw (other k) (go (length (replicate k zero_f) == table_length (ploidy_of s))))
  where
    other : (k : ℕ) → same_positive (slice_index_or (replicate k zero_f) 0 nan) (ploidy_number s) ≡ false
    other zero = none_is_nan (ploidy_number s)
    other (suc k) = none_is_zero (ploidy_number s)

    go : (b : Bool) → (b && false) ≡ false
    go true = refl
    go false = refl
