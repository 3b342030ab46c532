-- Laws of kernels: their length, the walk to the left of the middle, and what accepted settings tell.
-- Assumes nothing.
use Rattle.std.proofs.Common.{◌≡◌, ℕ, zero, suc, ◌+◌, ◌-◌, ◌/◌, ◌<◌, ◌≤◌, Bool, true, false, cond, not, ◌&&◌, eqb, List, [], ◌∷◌, length, get_or, take, drop, sym, refl, ◌∙◌, arith, take_at, eqb-true, leb-true}
use lib.Ieee.{Float, nan, le}
use Rattle.std.specs.Prelude.{reverse}
use Rattle.std.specs.List.{prefix_len}
use Rattle.std.proofs.Math.Seq.{take-suc}
use Rattle.std.proofs.lemmas.List.{reverse-append}
use Rattle.lists.specs.Each.{length-each, length-tabulate}
use Rattle.lists.specs.Tests.{and_left, and_right}
use Rattle.band_pass_kernel.specs.declared.BandPassActivityProfileParams.{BandPassActivityProfileParams}
use Rattle.band_pass_kernel.specs.Kernel.{over, total, densities, density, gaussian, band, gaussian_kernel, kept_left, adaptive_filter_size_of}
use Rattle.band_pass_kernel.specs.Resolve.{in_range, has_room, accepted, max_filter, filter_size_of, min_prob_to_keep_in_filter, resolution, written_to, full_after, narrow_after}
use Rattle.genome.specs.Refusals.{refused, answered}

pub length-gaussian : (f : ℕ) (sd : Float) (n : ℕ) → length (gaussian f sd n) ≡ n
unfolding gaussian densities
length-gaussian f sd n = length-each (over (total (densities f sd n))) (densities f sd n) ∙ length-tabulate (density f sd) n

-- the kernel is read back from the front of the buffer that it was written to
pub take_written : (buffer : List Float) (f : ℕ) (sd : Float) → take (band f) (written_to buffer (band f) (gaussian_kernel f sd)) ≡ gaussian_kernel f sd
take_written buffer f sd = take_at (gaussian_kernel f sd) (drop (band f) buffer) (band f) (length-gaussian f sd (band f))

-- ---- the walk to the left
-- it is the entries from the front on that are kept, once those left of place i are turned round
pub kept-reversed : (least : Float) (kernel : List Float) (i : ℕ) → i ≤ length kernel → prefix_len (λ x. le least x) (reverse (take i kernel)) ≡ kept_left least kernel i
unfolding kept_left
kept-reversed least kernel zero h = refl
kept-reversed least kernel (suc i) h =
    let below : i < length kernel = omega arith in
    let rest : i ≤ length kernel = omega arith in
    let one : 1 + kept_left least kernel i ≡ suc (kept_left least kernel i) = omega arith in
    rw (take-suc kernel i nan below, reverse-append (take i kernel) (get_or kernel i nan ∷ []), kept-reversed least kernel i rest, one)

pub kept-le : (least : Float) (kernel : List Float) (i : ℕ) → kept_left least kernel i ≤ i
unfolding kept_left
kept-le least kernel zero = omega arith
kept-le least kernel (suc i) = go (le least (get_or kernel i nan)) (kept-le least kernel i)
  where
    go : (b : Bool) → kept_left least kernel i ≤ i → cond b (suc (kept_left least kernel i)) 0 ≤ suc i
    go true h = omega arith
    go false h = omega arith

-- ---- what accepted settings tell, n and m being the buffers' lengths
pub record Accepted (s : BandPassActivityProfileParams) (n m : ℕ) : Type 0 where
  pub few : s.max_filter_size ≤ max_filter
  pub first : band s.max_filter_size ≤ n
  pub second : band s.max_filter_size ≤ m

pub accepted_is : (s : BandPassActivityProfileParams) (n m : ℕ) → accepted s n m ≡ true → Accepted s n m
unfolding accepted in_range has_room
accepted_is s n m e = record {
  few = search (leb-true, and_left, and_right);
  first = search (leb-true, and_left, and_right);
  second = search (leb-true, and_left, and_right);
}

-- "F at most max filter", for any settings
pub filter_size_of-le : (s : BandPassActivityProfileParams) → filter_size_of s ≤ s.max_filter_size
unfolding filter_size_of adaptive_filter_size_of
filter_size_of-le s = go s.adaptive_filter_size
  where
    go : (b : Bool) → cond b (kept_left min_prob_to_keep_in_filter (gaussian_kernel s.max_filter_size s.sigma) ((length (gaussian_kernel s.max_filter_size s.sigma) - 1) / 2)) s.max_filter_size ≤ s.max_filter_size
    go true =
        omega
        (arith, kept-le min_prob_to_keep_in_filter (gaussian_kernel s.max_filter_size s.sigma) ((length (gaussian_kernel s.max_filter_size s.sigma) - 1) / 2), length-gaussian s.max_filter_size s.sigma (band s.max_filter_size))
    go false = omega arith

-- ---- what resolving that is not refused tells
pub resolved_is : (s : BandPassActivityProfileParams) (n m f : ℕ) → resolution s n m ≡ answered f → (accepted s n m ≡ true) × (filter_size_of s ≡ f)
unfolding resolution accepted
resolved_is s n m f e = go (in_range s) (has_room s n m) e
  where
    go : (a b : Bool) → cond (not a) (refused 1) (cond (not b) (refused 2) (answered (filter_size_of s))) ≡ answered f → ((a && b) ≡ true) × (filter_size_of s ≡ f)
    go true true h = (refl, cc)
    go true false h = absurd (let z : ◌≡◌ {A = ℕ} 0 1 = cc in omega arith)
    go false b h = absurd (let z : ◌≡◌ {A = ℕ} 0 1 = cc in omega arith)

-- the part that `normalized_kernel` returns of the buffers as resolving left them is the kernel of that filter size
pub kernel_resolved : (s : BandPassActivityProfileParams) (full narrow : List Float) (f : ℕ) → resolution s (length full) (length narrow) ≡ answered f
    → take (band f) (cond (eqb f s.max_filter_size) (full_after s full (length narrow)) (narrow_after s (length full) narrow)) ≡ gaussian_kernel f s.sigma
unfolding full_after narrow_after
kernel_resolved s full narrow f e = let r = resolved_is s (length full) (length narrow) f e in rw (r.0, r.1) (go (eqb f s.max_filter_size) (eqb-true f s.max_filter_size))
  where
    go : (b : Bool) → (b ≡ true → f ≡ s.max_filter_size)
        → take (band f) (cond b (written_to full (band s.max_filter_size) (gaussian_kernel s.max_filter_size s.sigma)) (cond b narrow (written_to narrow (band f) (gaussian_kernel f s.sigma))))
        ≡ gaussian_kernel f s.sigma
    go true h = rw (sym (h refl)) (take_written full f s.sigma)
    go false h = take_written narrow f s.sigma
