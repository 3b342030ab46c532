-- 02, U5: one cell fewer than the number that is answered. Assumes nothing.
use mathlib.Core.Path.{◌≡◌, subst}
use mathlib.Core.List.{List}
use Prim.Native.Nat.{ℕ, suc, min}
use native.Mathlib.Omega.{arith}
use lib.ListN.{length}
use lib.Ieee.{Float}
use Rattle.genome.specs.Refusals.{answered}
use Rattle.band_pass_kernel.specs.Kernel.{band}
use Rattle.band_pass_kernel.specs.declared.BandPassActivityProfileParams.{BandPassActivityProfileParams}
use Rattle.activity_profile.specs.declared.BandPassActivityProfile.{BandPassActivityProfile}
use Rattle.activity_profile.specs.Making.{making}
use Rattle.activity_profile.specs.Cells.{cells_needed}
use Rattle.activity_profile.specs.Maker.{Sizes, one_locus, TooFew}
use Rattle.activity_profile.proofs.Enough.{answered_is}
use Rattle.activity_profile.proofs.OneFewer.{fewer}

-- "Where the contig length is at least the formula, a list is shown for which one cell fewer is refused." Where it is shorter as well, so the answer is exact
-- for every max, distance, filter size and contig length.
pub one_fewer : (contig len : ℕ) (settings : BandPassActivityProfileParams) (i j : ℕ) (p : BandPassActivityProfile) → making contig len settings i j ≡ answered p
    → (most n : ℕ) → cells_needed most settings.max_prob_propagation_distance p.filter_size len ≡ answered n
    → (cells : List Float) → suc (length cells) ≡ n → (kernel : List Float) → length kernel ≡ band p.filter_size → (z : Sizes)
    → TooFew p cells kernel most (one_locus most settings.max_prob_propagation_distance p.filter_size len) z
one_fewer contig len settings i j p e most n c cells one kernel ek z =
    let a = answered_is most settings.max_prob_propagation_distance p.filter_size len n c in
    let k = one_locus most settings.max_prob_propagation_distance p.filter_size len in
    let same : min (suc (length cells)) k ≡ k = omega (arith, a.is) in
    subst (λ (q : ℕ). TooFew p cells kernel most q z) same (fewer contig len settings i j p e most n c cells (omega arith) kernel ek z)
