-- The count so far, with what is left of the qualities, comes to the whole count.
use Prim.Native.Nat.{◌≤◌}
use Rattle.std.specs.List.{fold}
use mathlib.Core.Path.{◌≡◌}
use lib.ListN.{drop}
use Rattle.hq_soft_clip.specs.SoftClips.{count_high, with_base}
use Rattle.hq_soft_clip.proofs.count_high.Given as goal

abbrev pub invariant-loop-quality : goal.invariant-loop-quality
invariant-loop-quality l = (l.n ≤ l.quality-index) × (fold with_base l.n (drop l.quality-index l.qualities) ≡ count_high l.qualities)
