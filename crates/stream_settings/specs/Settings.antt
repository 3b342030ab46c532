-- 01, The region program: what kind 3 words set.
use Rattle.std.specs.Prelude.{◌≡◌, ◌⊎◌, ◌<◌, true, cond, ℕ, eqb, Result, MatchResult}
use Rattle.std.specs.Float.{binary64}
use Rattle.std.specs.Float.Ieee.{of_bits}
use Rattle.numbers.specs.Ranges.{between}
use Rattle.genome.specs.declared.Refusal.{Refusal}
use Rattle.genome.specs.declared.Refusal.TheVariants.{Word}
use Rattle.genome.specs.Refusals.{Outcome, refused, answered, setting_refusal, word_refusal}
use Rattle.genome.specs.Ranges.{max_position}
use Rattle.band_pass_kernel.specs.declared.BandPassActivityProfileParams.{BandPassActivityProfileParams}
use Rattle.band_pass_kernel.specs.Resolve.{max_distance, max_filter}
use Rattle.stream_settings.specs.declared.StreamSettings.{StreamSettings}
use Rattle.stream_settings.specs.declared.StreamField.{StreamField}
use Rattle.stream_settings.specs.declared.StreamField.TheVariants.{MaxRegionSize, MinRegionSize, AssemblyRegionExtension, MaxProbPropagationDistance, MaxFilterSize, ContigLen}

abbrev pub settings : ℕ → ℕ → ℕ → ℕ → ℕ → ℕ → StreamSettings
settings most least extension distance filter length = record {
  max_region_size = most;
  min_region_size = least;
  assembly_region_extension = extension;
  max_prob_propagation_distance = distance;
  max_filter_size = filter;
  contig_len = length;
}

-- "fields 1 max (default 300), 2 min (50), 3 extension (100), 4 distance (50), 5 max filter (50), 6 contig length (1,073,741,823)"
abbrev pub defaults : StreamSettings
defaults = settings 300 50 100 50 50 1_073_741_823

-- "Sigma 17, threshold 0.002, adaptive"
abbrev pub params_of : StreamSettings → BandPassActivityProfileParams
params_of s = record {
  max_prob_propagation_distance = s.max_prob_propagation_distance;
  active_prob_threshold = of_bits binary64 0x3f60_624d_d2f1_a9fc;
  max_filter_size = s.max_filter_size;
  sigma = of_bits binary64 0x4031_0000_0000_0000;
  adaptive_filter_size = true;
}

-- the numbers of the fields, as above
abbrev pub field_number : StreamField → ℕ
field_number MaxRegionSize = 1
field_number MinRegionSize = 2
field_number AssemblyRegionExtension = 3
field_number MaxProbPropagationDistance = 4
field_number MaxFilterSize = 5
field_number ContigLen = 6

-- the field of a number; a number that names none is one of "Any other word .. refused 3"
abbrev pub NamesField : ℕ → Result StreamField Refusal → Type 0
NamesField n r = MatchResult r (λ f. field_number f ≡ n) (λ e. (e ≡ Word) × (n ≡ 0 ⊎ 6 < n))

-- "Values are range-checked, and refused 1, at their word"
abbrev pub ranged_of : StreamSettings → ℕ → ℕ → ℕ → Outcome StreamSettings
ranged_of s low value high = cond (between low value high) (answered s) (refused setting_refusal)

-- "a repeated field replaces"; a field that there is not is one of "Any other word .. refused 3"
unfoldable pub with_field : StreamSettings → ℕ → ℕ → Outcome StreamSettings
with_field s field v =
    let most = s.max_region_size in
    let least = s.min_region_size in
    let extension = s.assembly_region_extension in
    let distance = s.max_prob_propagation_distance in
    let filter = s.max_filter_size in
    let length = s.contig_len in
    cond (eqb field 1) (answered (settings v least extension distance filter length))
    (cond (eqb field 2) (answered (settings most v extension distance filter length))
    (cond (eqb field 3) (answered (settings most least v distance filter length))
    (cond (eqb field 4) (ranged_of (settings most least extension v filter length) 0 v max_distance)
    (cond (eqb field 5) (ranged_of (settings most least extension distance v length) 0 v max_filter)
    (cond (eqb field 6) (ranged_of (settings most least extension distance filter v) 1 v max_position)
    (refused word_refusal))))))
