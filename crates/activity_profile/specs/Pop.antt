-- 01, Popping. `least` and `most` are the pop's min and max region size.
use Rattle.std.specs.Prelude.{Bool, not, ◌&&◌, ◌||◌, cond, List, ℕ, zero, suc, ◌+◌, ◌-◌, min, max, leb, ltb, eqb, length, take, Float, Result, Ok, Err}
use Rattle.std.specs.Bool.{beq}
use Rattle.std.specs.Float.Ieee.{lt, le}
use Rattle.lists.specs.Each.{each}
use Rattle.lists.specs.Loops.{down, first_at}
use Rattle.doubles.specs.Constants.{zero_f}
use Rattle.genome.specs.Refusals.{number_of, broken_refusal, zero_size_refusal}
use Rattle.activity_profile.specs.declared.BandPassActivityProfile.{BandPassActivityProfile}
use Rattle.activity_profile.specs.declared.ActivityProfileRegion.{ActivityProfileRegion}
use Rattle.activity_profile.specs.declared.Popped.{Popped}
use Rattle.activity_profile.specs.declared.Popped.TheVariants.{Ready, Held, Empty}
use Rattle.activity_profile.specs.declared.RefusedCall.{RefusedCall}
use Rattle.activity_profile.specs.Loci.{cell}
use Rattle.activity_profile.specs.Verdict.{Verdict, refusal, granted}
use Rattle.activity_profile.specs.Profile.{D, holding, broken}
use Rattle.activity_profile.specs.Peak.{peak_index, peak_of}

-- ---- which answer

-- "pop 5, 11", with n cells lent
unfoldable pub pop_verdict : BandPassActivityProfile → ℕ → ℕ → ℕ → Verdict
pop_verdict p n least most =
    cond (broken p n) (refusal broken_refusal)
    (cond (eqb least 0 || eqb most 0) (refusal zero_size_refusal)
    granted)

pub data Turn : Type 0 where
  empty held ready : Turn

-- "Unforced with count below max + D"
abbrev pub too_few : BandPassActivityProfile → ℕ → Bool → Bool
too_few p most forced = not forced && ltb p.count (most + D p)

-- "Count 0 answers "empty". Unforced with count below max + D answers "held""
unfoldable pub turn : BandPassActivityProfile → ℕ → Bool → Turn
turn p most forced = cond (eqb p.count 0) empty (cond (too_few p most forced) held ready)

-- ---- the region

-- "Forced first keeps max(last − start, 0) + 1 cells at most"
unfoldable pub kept : BandPassActivityProfile → Bool → ℕ
kept p forced = cond forced (min p.count (p.last_input_pos - p.region_start + 1)) p.count

-- "strictly above the threshold"
abbrev pub above : Float → Float → Bool
above t x = lt t x

-- "on the other side" than b
abbrev pub other_side : Float → Bool → Float → Bool
other_side t b x = not (beq (above t x) b)

-- "a cell qualifies if it is neither first nor last held, at most its right neighbour and strictly below its left"
unfoldable pub qualifies : List Float → ℕ → Bool
qualifies xs i = ltb 0 i && ltb (i + 1) (length xs) && le (cell xs i) (cell xs (i + 1)) && lt (cell xs i) (cell xs (i - 1))

-- cell i is smaller than the last cell of the best size so far, 0 being none, and qualifies
unfoldable pub beats : List Float → ℕ → ℕ → Bool
beats xs i best = (eqb best 0 || lt (cell xs i) (cell xs (best - 1))) && qualifies xs i

-- a size from `least` on takes the place of the best so far
unfoldable pub replaces : List Float → ℕ → ℕ → ℕ → Bool
replaces xs least k best = leb least k && beats xs (k - 1) best

unfoldable pub better : List Float → ℕ → ℕ → ℕ → ℕ
better xs least k best = cond (replaces xs least k best) k best

-- "from index max − 1 down to min − 1 .. The smallest wins, the higher index on ties, and stays inside": the size, which is the index + 1,
-- or 0 where none qualifies
unfoldable pub best_cut_site : List Float → ℕ → ℕ → ℕ
best_cut_site xs least most = down (better xs least) most 0

-- "None qualifying leaves max"
unfoldable pub or_most : ℕ → ℕ → ℕ
or_most most zero = most
or_most most (suc n) = suc n

-- "Its end is the first cell on the other side, or max, or the count. An active region that reached max is cut": xs are the cells kept
unfoldable pub size_of : Float → List Float → ℕ → ℕ → ℕ
size_of t xs least most =
    let active = above t (cell xs 0) in
    let n = first_at (other_side t active) (take most xs) in
    cond (active && eqb n most) (or_most most (best_cut_site xs least most)) n

unfoldable pub pop_size : BandPassActivityProfile → List Float → ℕ → ℕ → Bool → ℕ
pop_size p cells least most forced = size_of p.active_prob_threshold (take (kept p forced) cells) least most

-- a region of `size` loci from region start on, whose peak is the cell at this index. "Padding subtracts and adds the extension, clamped to 1 and L"
unfoldable pub region_with : BandPassActivityProfile → Bool → ℕ → ℕ → ℕ → Float → ActivityProfileRegion
region_with p active size extension index peak = record {
  contig = p.contig;
  start = p.region_start;
  end = p.region_start + size - 1;
  is_active = active;
  padded_start = max 1 (p.region_start - extension);
  padded_end = min p.contig_len (p.region_start + size - 1 + extension);
  extension = extension;
  peak = peak;
  peak_pos = p.region_start + index;
}

-- the region of the first `size` of the cells lent. "The region is active if cell 0 is strictly above the threshold"; 02, U2: "the largest cell
-- among its loci and that cell's position"
unfoldable pub region_of : BandPassActivityProfile → List Float → ℕ → ℕ → ActivityProfileRegion
region_of p cells size extension =
    let popped = take size cells in
    region_with p (above p.active_prob_threshold (cell cells 0)) size extension (peak_index popped) (peak_of popped)

-- ---- what is left

-- "An emptied record has start and last 0": the last argument is how many cells are left
unfoldable pub rest : BandPassActivityProfile → ℕ → ℕ → BandPassActivityProfile
rest p size zero = holding p 0 0 0
rest p size (suc n) = holding p (p.region_start + size) p.last_input_pos (suc n)

-- "Remaining cells move to the front; vacated and trimmed cells become 0.0, cells past the old count keep theirs": x is what cell i holds
unfoldable pub moved_cell : List Float → ℕ → ℕ → ℕ → ℕ → Float → Float
moved_cell cells size left count i x =
    let moved = cell cells (size + i) in
    cond (ltb i left) moved (cond (ltb i count) zero_f x)

-- ---- the answer

-- what a pop answers: a refusal's number, "empty", "held" or a region, each with the record after it
pub data PopAnswer : Type 0 where
  refused_pop : ℕ → BandPassActivityProfile → PopAnswer
  empty_pop : BandPassActivityProfile → PopAnswer
  held_pop : BandPassActivityProfile → PopAnswer
  region_pop : ActivityProfileRegion → BandPassActivityProfile → PopAnswer

-- an answer of the code in these terms
abbrev pub pop_answer_of : Result Popped RefusedCall → PopAnswer
pop_answer_of (Ok (Ready r p)) = region_pop r p
pop_answer_of (Ok (Held p)) = held_pop p
pop_answer_of (Ok (Empty p)) = empty_pop p
pop_answer_of (Err e) = refused_pop (number_of e.refusal) e.profile

unfoldable pub pop_answer_by : Verdict → Turn → BandPassActivityProfile → List Float → ℕ → ℕ → ℕ → Bool → PopAnswer
pop_answer_by (refusal n) t p cells extension least most forced = refused_pop n p
pop_answer_by granted empty p cells extension least most forced = empty_pop p
pop_answer_by granted held p cells extension least most forced = held_pop p
pop_answer_by granted ready p cells extension least most forced =
    let size = pop_size p cells least most forced in
    region_pop (region_of p cells size extension) (rest p size (kept p forced - size))

unfoldable pub pop_cells_by : Verdict → Turn → BandPassActivityProfile → List Float → ℕ → ℕ → Bool → List Float
pop_cells_by (refusal n) t p cells least most forced = cells
pop_cells_by granted empty p cells least most forced = cells
pop_cells_by granted held p cells least most forced = cells
pop_cells_by granted ready p cells least most forced =
    let size = pop_size p cells least most forced in
    each (moved_cell cells size (kept p forced - size) p.count) cells

-- what a pop answers, and how it leaves the cells
unfoldable pub pop_answer : BandPassActivityProfile → List Float → ℕ → ℕ → ℕ → Bool → PopAnswer
pop_answer p cells extension least most forced =
    pop_answer_by (pop_verdict p (length cells) least most) (turn p most forced) p cells extension least most forced

unfoldable pub pop_cells : BandPassActivityProfile → List Float → ℕ → ℕ → Bool → List Float
pop_cells p cells least most forced =
    pop_cells_by (pop_verdict p (length cells) least most) (turn p most forced) p cells least most forced
