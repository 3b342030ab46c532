-- What a making that is not refused returns: a fresh record, and a kernel of 2F + 1 entries. Assumes nothing.
use mathlib.Core.Path.{◌≡◌, refl, sym, ap, ◌∙◌}
use mathlib.Core.Bool.{Bool, true, false, cond, ◌&&◌}
use mathlib.Core.List.{List}
use Prim.Native.Nat.{ℕ, ◌<◌}
use native.Mathlib.Omega.{arith}
use lib.Dec.{T, eqb}
use lib.ListN.{length, get_or, take}
use lib.Ieee.{Float, le, nan}
use Rattle.doubles.specs.Constants.{zero_f, one_f}
use Rattle.lists.specs.Tests.{and_left, and_right}
use Rattle.genome.specs.Refusals.{Outcome, refused, answered}
use Rattle.genome.specs.Ranges.{is_position, is_probability}
use Rattle.band_pass_kernel.specs.declared.BandPassActivityProfileParams.{BandPassActivityProfileParams}
use Rattle.band_pass_kernel.specs.Kernel.{band, gaussian_kernel}
use Rattle.band_pass_kernel.specs.Resolve.{is_distance, is_filter, is_sigma, in_range, has_room, accepted, filter_size_of, resolution}
use Rattle.band_pass_kernel.proofs.Kernels.{Accepted, accepted_is, filter_size_of-le, length-gaussian, resolved_is, kernel_resolved}
use Rattle.band_pass_kernel.proofs.KernelRange.{kernel_unit}
use Rattle.activity_profile.specs.declared.BandPassActivityProfile.{BandPassActivityProfile}
use Rattle.activity_profile.specs.Making.{Fresh, fresh_profile, made_of, making, full_after_making, narrow_after_making}

-- a making that is not refused had a contig length in range, and its record is fresh with the kernel's filter size
record Resolved (contig len : ℕ) (s : BandPassActivityProfileParams) (n m : ℕ) (p : BandPassActivityProfile) : Type 0 where
  f : ℕ
  on_contig : is_position len ≡ true
  answer : resolution s n m ≡ answered f
  is : fresh_profile contig len s f ≡ p

resolved : (contig len : ℕ) (s : BandPassActivityProfileParams) (n m : ℕ) (p : BandPassActivityProfile) → making contig len s n m ≡ answered p → Resolved contig len s n m p
unfolding making
resolved contig len s n m p e = go (is_position len) refl (resolution s n m) refl e
  where
    go : (b : Bool) → is_position len ≡ b → (r : Outcome ℕ) → resolution s n m ≡ r → cond b (made_of contig len s r) (refused 1) ≡ answered p → Resolved contig len s n m p
    go true q (answered f) a h = record { f = f; on_contig = q; answer = a; is = cc }
    go true q (refused k) a h = absurd (let z : ◌≡◌ {A = ℕ} 0 1 = cc in omega arith)
    go false q r a h = absurd (let z : ◌≡◌ {A = ℕ} 0 1 = cc in omega arith)

pub fresh_is : (contig len : ℕ) (s : BandPassActivityProfileParams) (n m : ℕ) (p : BandPassActivityProfile) → making contig len s n m ≡ answered p → Fresh contig len s p
fresh_is contig len s n m p e =
    let r = resolved contig len s n m p e in
    let k = resolved_is s n m r.f r.answer in
    let a : Accepted s n m = accepted_is s n m k.0 in
    let f-is : p.filter_size ≡ filter_size_of s = sym (ap (λ (q : BandPassActivityProfile). q.filter_size) r.is) ∙ sym k.1 in
    record {
      same_contig = sym (ap (λ (q : BandPassActivityProfile). q.contig) r.is);
      same_length = sym (ap (λ (q : BandPassActivityProfile). q.contig_len) r.is);
      same_distance = sym (ap (λ (q : BandPassActivityProfile). q.max_prob_propagation_distance) r.is);
      same_threshold = sym (ap (λ (q : BandPassActivityProfile). q.active_prob_threshold) r.is);
      no_start = sym (ap (λ (q : BandPassActivityProfile). q.region_start) r.is);
      no_last = sym (ap (λ (q : BandPassActivityProfile). q.last_input_pos) r.is);
      no_cells = sym (ap (λ (q : BandPassActivityProfile). q.count) r.is);
      on_contig = r.on_contig;
      in_range_lem = unfold accepted in and_left (in_range s) (has_room s n m) k.0;
      filter_up_to_max = omega (arith, f-is, filter_size_of-le s);
      filter_up_to_500 = omega (arith, f-is, filter_size_of-le s, a.few);
    }

-- The kernel of the making's filter size stands at the front of whichever buffer holds it ..
pub kernel_made_lem : (contig len : ℕ) (s : BandPassActivityProfileParams) (full narrow : List Float) (p : BandPassActivityProfile) → making contig len s (length full) (length narrow) ≡ answered p
    → take (band p.filter_size) (cond (eqb p.filter_size s.max_filter_size) (full_after_making len s full (length narrow)) (narrow_after_making len s (length full) narrow))
    ≡ gaussian_kernel p.filter_size s.sigma
unfolding full_after_making narrow_after_making
kernel_made_lem contig len s full narrow p e =
    let r = resolved contig len s (length full) (length narrow) p e in
    let f-is : p.filter_size ≡ r.f = sym (ap (λ (q : BandPassActivityProfile). q.filter_size) r.is) in
    rw (r.on_contig, f-is) (kernel_resolved s full narrow r.f r.answer)

-- .. and is 2F + 1 long.
pub length_kernel : (f : ℕ) (sd : Float) → length (gaussian_kernel f sd) ≡ band f
length_kernel f sd = length-gaussian f sd (band f)

-- Each of its entries is in 0 to 1, so none is a NaN.
pub kernel_made_unit : (contig len : ℕ) (s : BandPassActivityProfileParams) (n m : ℕ) (p : BandPassActivityProfile) → making contig len s n m ≡ answered p → (i : ℕ) → i < band p.filter_size
    → T (le zero_f (get_or (gaussian_kernel p.filter_size s.sigma) i nan)) × T (le (get_or (gaussian_kernel p.filter_size s.sigma) i nan) one_f)
kernel_made_unit contig len s n m p e i h =
    let fresh = fresh_is contig len s n m p e in
    kernel_unit p.filter_size s.sigma fresh.filter_up_to_500 (sigma_in_range s fresh.in_range_lem) i h
  where
    sigma_in_range : (s : BandPassActivityProfileParams) → in_range s ≡ true → is_sigma s.sigma ≡ true
    sigma_in_range s r = and_right (is_distance s.max_prob_propagation_distance && is_probability s.active_prob_threshold && is_filter s.max_filter_size) (is_sigma s.sigma) (unfold in_range in r)
