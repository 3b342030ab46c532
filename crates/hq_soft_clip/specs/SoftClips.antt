-- 01, Soft-clip count, and 02, U3 and U4; with the SAM specification's CIGAR operations: 0 to 8 are M I D N S H P = X.
use Rattle.std.specs.Prelude.{Bool, cond, not, ◌&&◌, List, ℕ, ◌+◌, ◌/◌, ◌%◌, min, eqb, ltb, take, drop}
use Rattle.std.specs.List.{fold}
use Rattle.genome.specs.Ranges.{missing_quality}
use Rattle.genome.specs.Refusals.{Outcome, refused, answered, word_refusal}
use Rattle.hq_soft_clip.specs.declared.Walk.{Walk}

-- "length in the high 28 bits, operation in the low 4"
abbrev pub operation : ℕ → ℕ
operation w = w % 16

abbrev pub span : ℕ → ℕ
span w = w / 16

-- "strictly above 28"; 02, U3: "In the soft-clip count 255 is not above 28"
abbrev pub is_high : ℕ → Bool
is_high q = ltb 28 q && not (eqb q missing_quality)

-- one base more, whose quality is q
abbrev pub with_base : ℕ → ℕ → ℕ
with_base n q = cond (is_high q) (n + 1) n

-- the bases of high quality in a list of qualities
unfoldable pub count_high : List ℕ → ℕ
count_high qs = fold with_base 0 qs

-- those among the n bases that begin at base `at`; "a missing quality counts as 0"
abbrev pub high_of : List ℕ → ℕ → ℕ → ℕ
high_of qualities at n = count_high (take n (drop at qualities))

-- "M, I, S, = and X advance": a walk past n bases more
abbrev pub passed : ℕ → Walk → Walk
passed n s = record { at = s.at + n; count = s.count }

-- "S bases strictly above 28 count": a walk past n bases more that are clipped
abbrev pub clipped : List ℕ → ℕ → Walk → Walk
clipped qualities n s = record { at = s.at + n; count = s.count + high_of qualities s.at n }

-- 02, U4: "take the operations in the table's order, M I D N S H P = X, one arm each": a walk and an operation of n bases. Above each arm its row of the SAM
-- specification's table: letter, description, whether it consumes the query
unfoldable pub by_operation : ℕ → List ℕ → ℕ → Walk → Outcome Walk
by_operation op qualities n s =
    -- M: alignment match (can be a sequence match or mismatch); consumes query: yes
    cond (eqb op 0) (answered (passed n s))
    -- I: insertion to the reference; consumes query: yes
    (cond (eqb op 1) (answered (passed n s))
    -- D: deletion from the reference; consumes query: no
    (cond (eqb op 2) (answered s)
    -- N: skipped region from the reference; consumes query: no
    (cond (eqb op 3) (answered s)
    -- S: soft clipping (clipped sequences present in SEQ); consumes query: yes
    (cond (eqb op 4) (answered (clipped qualities n s))
    -- H: hard clipping (clipped sequences NOT present in SEQ); consumes query: no
    (cond (eqb op 5) (answered s)
    -- P: padding (silent deletion from padded reference); consumes query: no
    (cond (eqb op 6) (answered s)
    -- =: sequence match; consumes query: yes
    (cond (eqb op 7) (answered (passed n s))
    -- X: sequence mismatch; consumes query: yes
    (cond (eqb op 8) (answered (passed n s))
    -- "Operations 9 to 15 are refused 3"
    (refused word_refusal)))))))))

-- one word more
abbrev pub walked : List ℕ → Walk → ℕ → Outcome Walk
walked qualities s w = by_operation (operation w) qualities (span w) s

-- where a word was refused, the walk is
abbrev pub after : List ℕ → Outcome Walk → ℕ → Outcome Walk
after qualities (refused r) w = refused r
after qualities (answered s) w = walked qualities s w

abbrev pub start : Walk
start = record { at = 0; count = 0 }

abbrev pub count_of : Outcome Walk → Outcome ℕ
count_of (refused r) = refused r
count_of (answered s) = answered s.count

-- the number of a refusal, or the count
unfoldable pub clip_count : List ℕ → List ℕ → Outcome ℕ
clip_count cigar qualities = count_of (fold (after qualities) (answered start) cigar)

-- a walk that stops where the qualities end, of which there are n
abbrev pub capped : ℕ → Walk → Walk
capped n s = record { at = min s.at n; count = s.count }

abbrev pub capped_outcome : ℕ → Outcome Walk → Outcome Walk
capped_outcome n (refused r) = refused r
capped_outcome n (answered s) = answered (capped n s)
