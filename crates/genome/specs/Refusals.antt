-- 01, Refusals, and those of document 02: the number of each, and what a call that may be refused comes to.
use Rattle.std.specs.Prelude.{ℕ, Result, Ok, Err}
use Rattle.genome.specs.declared.Refusal.{Refusal}
use Rattle.genome.specs.declared.Refusal.TheVariants.{Setting, Buffer, Word, Depth, BrokenProfile, Contig, OffContig, Activity, NotNext, Cells, ZeroSize, Piles}

-- the numbers of document 01
abbrev pub setting_refusal : ℕ
setting_refusal = 1

abbrev pub buffer_refusal : ℕ
buffer_refusal = 2

abbrev pub word_refusal : ℕ
word_refusal = 3

abbrev pub depth_refusal : ℕ
depth_refusal = 4

abbrev pub broken_refusal : ℕ
broken_refusal = 5

abbrev pub contig_refusal : ℕ
contig_refusal = 6

abbrev pub off_contig_refusal : ℕ
off_contig_refusal = 7

abbrev pub activity_refusal : ℕ
activity_refusal = 8

abbrev pub not_next_refusal : ℕ
not_next_refusal = 9

abbrev pub cells_refusal : ℕ
cells_refusal = 10

abbrev pub zero_size_refusal : ℕ
zero_size_refusal = 11

-- 02, U6: "12 when a set has more than 64 piles"
abbrev pub piles_refusal : ℕ
piles_refusal = 12

abbrev pub number_of : Refusal → ℕ
number_of Setting = setting_refusal
number_of Buffer = buffer_refusal
number_of Word = word_refusal
number_of Depth = depth_refusal
number_of BrokenProfile = broken_refusal
number_of Contig = contig_refusal
number_of OffContig = off_contig_refusal
number_of Activity = activity_refusal
number_of NotNext = not_next_refusal
number_of Cells = cells_refusal
number_of ZeroSize = zero_size_refusal
number_of Piles = piles_refusal

-- a refusal's number, or the answer
pub data Outcome (A : Type 0) : Type 0 where
  refused : ℕ → Outcome A
  answered : A → Outcome A

-- a result of the code in these terms
abbrev pub outcome_of : {A : Type 0} → Result A Refusal → Outcome A
outcome_of (Ok a) = answered a
outcome_of (Err r) = refused (number_of r)
