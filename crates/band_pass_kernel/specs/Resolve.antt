-- 01, Kernel and Refusals 1 and 2: which filter size and kernel a profile's settings have, and what becomes of the two lent buffers.
use Rattle.std.specs.Prelude.{ℕ, Bool, cond, not, ◌&&◌, List, ◌++◌, length, drop, ◌==◌, from_bits, nat_le, nat_lt, Float}
use Rattle.std.specs.Float.{binary64}
use Rattle.numbers.specs.Ranges.{between, within}
use Rattle.genome.specs.Refusals.{Outcome, refused, answered, setting_refusal, buffer_refusal}
use Rattle.genome.specs.Ranges.{is_probability}
use Rattle.band_pass_kernel.specs.declared.BandPassActivityProfileParams.{BandPassActivityProfileParams}
use Rattle.band_pass_kernel.specs.Kernel.{band, gaussian_kernel, adaptive_filter_size_of}

-- "propagation distance 0 to 1,000,000"
abbrev pub max_distance : ℕ
max_distance = 1_000_000

abbrev pub is_distance : ℕ → Bool
is_distance n = between 0 n max_distance

-- "max filter 0 to 500"
abbrev pub max_filter : ℕ
max_filter = 500

abbrev pub is_filter : ℕ → Bool
is_filter n = between 0 n max_filter

-- "sigma 1/64 to 4,096"
abbrev pub is_sigma : Float → Bool
is_sigma x = within (from_bits binary64 0x3f90_0000_0000_0000) x (from_bits binary64 0x40b0_0000_0000_0000)

-- 0.00001
abbrev pub min_prob_to_keep_in_filter : Float
min_prob_to_keep_in_filter = from_bits binary64 0x3ee4_f8b5_88e3_68f1

-- every setting is in its range
unfoldable pub in_range : BandPassActivityProfileParams → Bool
in_range s =
    is_distance s.max_prob_propagation_distance && is_probability s.active_prob_threshold && is_filter s.max_filter_size && is_sigma s.sigma

-- no "lent kernel buffer shorter than 2 × max filter + 1", n and m being the buffers' lengths
unfoldable pub has_room : BandPassActivityProfileParams → ℕ → ℕ → Bool
has_room s n m = nat_le (band s.max_filter_size) n && nat_le (band s.max_filter_size) m

-- neither refusal applies
unfoldable pub accepted : BandPassActivityProfileParams → ℕ → ℕ → Bool
accepted s n m = in_range s && has_room s n m

-- "If adaptive, F is the number of entries left of the middle met before one below 0.00001"; else it is max filter
unfoldable pub filter_size_of : BandPassActivityProfileParams → ℕ
filter_size_of s =
    let widest = s.max_filter_size in
    cond s.adaptive_filter_size (adaptive_filter_size_of (gaussian_kernel widest s.sigma) min_prob_to_keep_in_filter) widest

-- the refusals in their order, and the filter size
unfoldable pub resolution : BandPassActivityProfileParams → ℕ → ℕ → Outcome ℕ
resolution s n m = cond (not (in_range s)) (refused setting_refusal) (cond (not (has_room s n m)) (refused buffer_refusal) (answered (filter_size_of s)))

-- a kernel written to the front of a buffer: "Other entries keep their bytes"
abbrev pub written_to : List Float → ℕ → List Float → List Float
written_to buffer n kernel = kernel ++ drop n buffer

-- "The full kernel is written to the first lent buffer"
unfoldable pub full_after : BandPassActivityProfileParams → List Float → ℕ → List Float
full_after s full m =
    let widest = s.max_filter_size in
    cond (accepted s (length full) m) (written_to full (band widest) (gaussian_kernel widest s.sigma)) full

-- "and a narrower one to the second": only where F is smaller than max filter
unfoldable pub narrow_after : BandPassActivityProfileParams → ℕ → List Float → List Float
narrow_after s n narrow =
    let f = filter_size_of s in
    cond (accepted s n (length narrow)) (cond (f == s.max_filter_size) narrow (written_to narrow (band f) (gaussian_kernel f s.sigma))) narrow

-- a kernel copied to the front of a slice; one that is too short is left as it is
unfoldable pub copied : List Float → List Float → List Float
copied kernel l = cond (nat_lt (length l) (length kernel)) l (written_to l (length kernel) kernel)

abbrev pub copied_length : ℕ → ℕ → ℕ
copied_length n room = cond (nat_lt room n) 0 n
