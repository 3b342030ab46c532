-- 01, Refusals ("making a profile 1, 2") and Profile record: what a making answers, and what becomes of the two lent buffers.
use Rattle.std.specs.Prelude.{true, cond, List, ◌≡◌, ℕ, ◌≤◌, Float}
use Rattle.genome.specs.Refusals.{Outcome, refused, answered, setting_refusal}
use Rattle.genome.specs.Ranges.{is_position}
use Rattle.band_pass_kernel.specs.declared.BandPassActivityProfileParams.{BandPassActivityProfileParams}
use Rattle.band_pass_kernel.specs.Resolve.{max_filter, in_range, resolution, full_after, narrow_after}
use Rattle.activity_profile.specs.declared.BandPassActivityProfile.{BandPassActivityProfile}

-- "A making returns count 0 with the contig number and settings it was given and the F of its kernel"; "Count 0 has start and last 0"
abbrev pub fresh_profile : ℕ → ℕ → BandPassActivityProfileParams → ℕ → BandPassActivityProfile
fresh_profile contig len s f = record {
  contig = contig;
  contig_len = len;
  max_prob_propagation_distance = s.max_prob_propagation_distance;
  active_prob_threshold = s.active_prob_threshold;
  filter_size = f;
  region_start = 0;
  last_input_pos = 0;
  count = 0;
}

-- what the kernel comes to, as the profile's
abbrev pub made_of : ℕ → ℕ → BandPassActivityProfileParams → Outcome ℕ → Outcome BandPassActivityProfile
made_of contig len s (refused k) = refused k
made_of contig len s (answered f) = answered (fresh_profile contig len s f)

-- refusal 1 of the contig length, then those of the kernel's settings and buffers, n and m being the buffers' lengths
unfoldable pub making : ℕ → ℕ → BandPassActivityProfileParams → ℕ → ℕ → Outcome BandPassActivityProfile
making contig len s n m = cond (is_position len) (made_of contig len s (resolution s n m)) (refused setting_refusal)

-- the buffers after a making: as resolving the kernel leaves them
unfoldable pub full_after_making : ℕ → BandPassActivityProfileParams → List Float → ℕ → List Float
full_after_making len s full m = cond (is_position len) (full_after s full m) full

unfoldable pub narrow_after_making : ℕ → BandPassActivityProfileParams → ℕ → List Float → List Float
narrow_after_making len s n narrow = cond (is_position len) (narrow_after s n narrow) narrow

-- What is true of every record that a making returns: it holds nothing, its settings are those given and in their ranges, and F is at most
-- max filter, which is at most 500.
pub record Fresh (contig len : ℕ) (s : BandPassActivityProfileParams) (p : BandPassActivityProfile) : Type 0 where
  pub same_contig : p.contig ≡ contig
  pub same_length : p.contig_len ≡ len
  pub same_distance : p.max_prob_propagation_distance ≡ s.max_prob_propagation_distance
  pub same_threshold : p.active_prob_threshold ≡ s.active_prob_threshold
  pub no_start : p.region_start ≡ 0
  pub no_last : p.last_input_pos ≡ 0
  pub no_cells : p.count ≡ 0
  pub on_contig : is_position len ≡ true
  pub in_range_lem : in_range s ≡ true
  pub filter_up_to_max : p.filter_size ≤ s.max_filter_size
  pub filter_up_to_500 : p.filter_size ≤ max_filter
