-- 01, Adding a locus.
use Rattle.std.specs.Prelude.{Bool, not, ◌&&◌, ◌||◌, cond, List, ℕ, zero, suc, ◌+◌, ◌-◌, ◌*◌, min, max, leb, ltb, eqb, length, Float, Result, Ok, Err}
use Rattle.std.specs.List.{count_by}
use Rattle.std.specs.Float.{binary64}
use Rattle.std.specs.Float.Ieee.{add, mul, lt}
use Rattle.lists.specs.Each.{each}
use Rattle.doubles.specs.Constants.{zero_f}
use Rattle.genome.specs.Refusals.{number_of, broken_refusal, contig_refusal, off_contig_refusal, activity_refusal, not_next_refusal, cells_refusal}
use Rattle.genome.specs.Ranges.{is_probability}
use Rattle.band_pass_kernel.specs.Kernel.{band}
use Rattle.activity_profile.specs.declared.BandPassActivityProfile.{BandPassActivityProfile}
use Rattle.activity_profile.specs.declared.ActivityProfileState.{ActivityProfileState}
use Rattle.activity_profile.specs.declared.ActivityEvidence.{ActivityEvidence}
use Rattle.activity_profile.specs.declared.ActivityEvidence.TheVariants.{Plain, HighQualitySoftClips}
use Rattle.activity_profile.specs.declared.RefusedCall.{RefusedCall}
use Rattle.activity_profile.specs.Loci.{from, cell}
use Rattle.activity_profile.specs.Verdict.{Verdict, refusal, granted}
use Rattle.activity_profile.specs.Profile.{D, holding, broken}

-- document 01's p
abbrev pub at : ActivityProfileState → ℕ
at s = s.pos.0

-- ---- what a position receives

-- "The number m of super states is 1 for plain evidence. For clips it is the number of offsets d from −n to n, n = min(clip count, D), with
-- p + d in 1 to L": q is p, and j is d + n
unfoldable pub super_states : BandPassActivityProfile → ℕ → ActivityEvidence → ℕ
super_states p q Plain = 1
super_states p q (HighQualitySoftClips clips) =
    let n = min clips (D p) in
    count_by (λ j. ltb n (q + j) && leb (q + j) (p.contig_len + n)) (from 0 (2 * n + 1))

-- "w .., added to itself m − 1 times, left to right"
unfoldable pub times : ℕ → Float → Float
times zero w = w
times (suc zero) w = w
times (suc (suc m)) w = add binary64 (times (suc m) w) w

-- "If the probability is above 0"
abbrev pub spreads : ActivityProfileState → Bool
spreads s = lt zero_f s.active_prob

-- "w = probability × kernel[q − p + F]"; "If it is 0, only p receives that zero": j is q − p + F
unfoldable pub weight : List Float → ActivityProfileState → ℕ → Float
weight kernel s j = cond (spreads s) (mul binary64 s.active_prob (cell kernel j)) s.active_prob

-- ".. added to itself m − 1 times"; ".. likewise m times"
unfoldable pub received : BandPassActivityProfile → List Float → ActivityProfileState → ℕ → Float
received p kernel s q = times (super_states p (at s) s.evidence) (weight kernel s (q + p.filter_size - at s))

-- ---- which positions receive

-- "with count 0, region start is first set to p"
unfoldable pub first_locus : BandPassActivityProfile → ActivityProfileState → ℕ
first_locus p s = cond (eqb p.count 0) (at s) p.region_start

-- "each position q from p − F to p + F within 1 to L"; or "only p"
unfoldable pub lowest : BandPassActivityProfile → ActivityProfileState → ℕ
lowest p s = cond (spreads s) (max 1 (at s - p.filter_size)) (at s)

unfoldable pub highest : BandPassActivityProfile → ActivityProfileState → ℕ
highest p s = cond (spreads s) (min p.contig_len (at s + p.filter_size)) (at s)

-- the cells in use after the add: up to the highest position that receives
unfoldable pub needed : BandPassActivityProfile → ActivityProfileState → ℕ
needed p s = max p.count (highest p s - first_locus p s + 1)

-- ---- the refusals

-- 5: the record breaks the rules, or "in an add the lent kernel is not 2F + 1 long"
abbrev pub broken_add : BandPassActivityProfile → ℕ → ℕ → Bool
broken_add p n k = broken p n || not (eqb k (band p.filter_size))

-- 6: "state's contig number is not the profile's"
abbrev pub other_contig : BandPassActivityProfile → ActivityProfileState → Bool
other_contig p s = not (eqb s.contig p.contig)

-- 7: "position 0 or above the contig length"
abbrev pub off_contig : BandPassActivityProfile → ActivityProfileState → Bool
off_contig p s = eqb (at s) 0 || ltb p.contig_len (at s)

-- 8: "probability not in 0.0 to 1.0, NaN included"
abbrev pub no_activity : ActivityProfileState → Bool
no_activity s = not (is_probability s.active_prob)

-- 9: "profile holds loci and position is not last input + 1"
abbrev pub not_next : BandPassActivityProfile → ActivityProfileState → Bool
not_next p s = ltb 0 p.count && not (eqb (at s) (p.last_input_pos + 1))

-- "add 5, 6, 7, 8, 9, 10", with n cells and a kernel of length k lent
unfoldable pub add_verdict : BandPassActivityProfile → ℕ → ℕ → ActivityProfileState → Verdict
add_verdict p n k s =
    cond (broken_add p n k) (refusal broken_refusal)
    (cond (other_contig p s) (refusal contig_refusal)
    (cond (off_contig p s) (refusal off_contig_refusal)
    (cond (no_activity s) (refusal activity_refusal)
    (cond (not_next p s) (refusal not_next_refusal)
    (cond (ltb n (needed p s)) (refusal cells_refusal)
    granted)))))

-- ---- the answer

-- what an add answers: a refusal's number with the record as it was, or the record after it
pub data AddAnswer : Type 0 where
  refused_add : ℕ → BandPassActivityProfile → AddAnswer
  accepted_add : BandPassActivityProfile → AddAnswer

-- an answer of the code in these terms
abbrev pub add_answer_of : Result BandPassActivityProfile RefusedCall → AddAnswer
add_answer_of (Ok p) = accepted_add p
add_answer_of (Err e) = refused_add (number_of e.refusal) e.profile

-- "Last input becomes p"
unfoldable pub added_profile : BandPassActivityProfile → ActivityProfileState → BandPassActivityProfile
added_profile p s = holding p (first_locus p s) (at s) (needed p s)

-- "A received sum goes to its cell by one addition, or becomes the next new cell; positions before region start are dropped. Only that middle
-- stretch of the cells is written": x is what cell i holds
unfoldable pub added_cell : BandPassActivityProfile → List Float → ActivityProfileState → ℕ → Float → Float
added_cell p kernel s i x =
    let q = first_locus p s + i in
    let w = received p kernel s q in
    cond (leb (lowest p s) q && leb q (highest p s)) (cond (ltb i p.count) (add binary64 x w) w) x

unfoldable pub add_answer_by : Verdict → BandPassActivityProfile → ActivityProfileState → AddAnswer
add_answer_by (refusal n) p s = refused_add n p
add_answer_by granted p s = accepted_add (added_profile p s)

unfoldable pub add_cells_by : Verdict → BandPassActivityProfile → List Float → List Float → ActivityProfileState → List Float
add_cells_by (refusal n) p cells kernel s = cells
add_cells_by granted p cells kernel s = each (added_cell p kernel s) cells

-- what an add answers, and how it leaves the cells
unfoldable pub add_answer : BandPassActivityProfile → List Float → List Float → ActivityProfileState → AddAnswer
add_answer p cells kernel s = add_answer_by (add_verdict p (length cells) (length kernel) s) p s

unfoldable pub add_cells : BandPassActivityProfile → List Float → List Float → ActivityProfileState → List Float
add_cells p cells kernel s = add_cells_by (add_verdict p (length cells) (length kernel) s) p cells kernel s
