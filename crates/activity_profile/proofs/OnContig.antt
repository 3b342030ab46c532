-- A region lies on the contig: a record whose cells do not is refused as broken, and the padding is cut at the contig's ends. Assumes nothing.
use Prim.Native.Nat.{ℕ, ◌+◌, ◌-◌, ◌≤◌}
use mathlib.Core.Path.{◌≡◌, refl, subst}
use mathlib.Core.Bool.{Bool, true}
use mathlib.Core.List.{List}
use native.Mathlib.Omega.{arith}
use borrow.Author.Tests.{leb-true}
use lib.Dec.{leb}
use lib.ListN.{length}
use lib.Ieee.{Float}
use Rattle.lists.specs.Tests.{and_left, and_right}
use Rattle.genome.specs.Ranges.{max_position}
use Rattle.activity_profile.specs.declared.BandPassActivityProfile.{BandPassActivityProfile}
use Rattle.activity_profile.specs.declared.ActivityProfileRegion.{ActivityProfileRegion}
use Rattle.activity_profile.specs.Verdict.{Verdict, refusal, granted}
use Rattle.activity_profile.specs.Profile.{settings_in_range}
use Rattle.activity_profile.specs.Pop.{PopAnswer, refused_pop, empty_pop, held_pop, region_pop, Turn, empty, held, ready, pop_verdict, turn, pop_size, region_with, region_of, pop_answer_by, pop_answer}
use Rattle.activity_profile.proofs.Cuts.{Cut, cut_is}

-- on a contig of this length
pub record OnContig (length : ℕ) (r : ActivityProfileRegion) : Type 0 where
  pub low_first : 1 ≤ r.padded_start
  pub low : r.padded_start ≤ r.start
  pub ordered : r.start ≤ r.end
  pub high : r.end ≤ r.padded_end
  pub high_last : r.padded_end ≤ length
  pub longest : length ≤ max_position

-- what a pop answers: a region that it hands out is on the contig
abbrev Hands : ℕ → PopAnswer → Type 0
Hands len (refused_pop n q) = Unit {0}
Hands len (empty_pop q) = Unit {0}
Hands len (held_pop q) = Unit {0}
Hands len (region_pop r q) = OnContig len r

region_of_lem : (p : BandPassActivityProfile) (cells : List Float) (least most extension : ℕ) (forced : Bool) → Cut p cells least most forced
    → OnContig p.contig_len (region_of p cells (pop_size p cells least most forced) extension)
unfolding region_of region_with settings_in_range
region_of_lem p cells least most extension forced c =
    let size = pop_size p cells least most forced in
    let end : p.region_start + size - 1 ≤ p.contig_len = omega (arith, c.within, c.kept_high, c.asked.placed.end_on) in
    let short : leb p.contig_len max_position ≡ true = search (and_left, and_right, c.asked.whole.settings) in
    record {
      low_first = omega arith;
      low = omega (arith, c.asked.placed.start_low);
      ordered = omega (arith, c.sized.some);
      high = omega (arith, end);
      high_last = omega arith;
      longest = leb-true p.contig_len max_position short;
    }

hands : (p : BandPassActivityProfile) (cells : List Float) (extension least most : ℕ) (forced : Bool) → Hands p.contig_len (pop_answer p cells extension least most forced)
unfolding pop_answer pop_answer_by
hands p cells extension least most forced = go (pop_verdict p (length cells) least most) (turn p most forced) refl refl
  where
    go : (v : Verdict) (t : Turn) → pop_verdict p (length cells) least most ≡ v → turn p most forced ≡ t → Hands p.contig_len (pop_answer_by v t p cells extension least most forced)
    go (refusal n) t e f = tt
    go granted empty e f = tt
    go granted held e f = tt
    go granted ready e f = region_of_lem p cells least most extension forced (cut_is p cells least most forced e f)

-- Whatever the record, the cells and the sizes are: a region that a pop answers lies on the record's contig, and its loci within its padding.
pub region_on_contig : (p : BandPassActivityProfile) (cells : List Float) (extension least most : ℕ) (forced : Bool) (r : ActivityProfileRegion) (q : BandPassActivityProfile)
    → pop_answer p cells extension least most forced ≡ region_pop r q → OnContig p.contig_len r
region_on_contig p cells extension least most forced r q e = subst (Hands p.contig_len) e (hands p cells extension least most forced)
