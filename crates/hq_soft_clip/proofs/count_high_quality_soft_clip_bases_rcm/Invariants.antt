-- The walk so far, which stops where the qualities end, with what is left of the words, comes to the whole count.
use Prim.Native.Nat.{◌≤◌}
use Rattle.std.specs.List.{fold}
use mathlib.Core.Path.{◌≡◌}
use lib.ListN.{drop, length}
use Rattle.genome.specs.Refusals.{answered}
use Rattle.hq_soft_clip.specs.SoftClips.{after, clip_count, count_of}
use Rattle.hq_soft_clip.proofs.count_high_quality_soft_clip_bases_rcm.Given as goal

abbrev pub invariant-loop-word : goal.invariant-loop-word
invariant-loop-word l =
    (l.w.count ≤ l.w.at) × (l.w.at ≤ length l.qualities) × (count_of (fold (after l.qualities) (answered l.w) (drop l.word-index l.cigar)) ≡ clip_count l.cigar l.qualities)
