-- 01, Profile record and cells.
use Rattle.std.specs.Prelude.{Bool, not, ◌&&◌, ◌||◌, cond, List, [], ℕ, ◌+◌, ◌-◌, leb, ltb, eqb}
use Rattle.genome.specs.Ranges.{is_position, is_probability}
use Rattle.band_pass_kernel.specs.Resolve.{is_distance, max_filter}
use Rattle.activity_profile.specs.declared.BandPassActivityProfile.{BandPassActivityProfile}
use Rattle.activity_profile.specs.Loci.{loci}

-- "D is propagation distance + F"
abbrev pub D : BandPassActivityProfile → ℕ
D p = p.max_prob_propagation_distance + p.filter_size

-- start + count − 1: the locus of the last cell in use, where count is above 0
abbrev pub last_cell : BandPassActivityProfile → ℕ
last_cell p = p.region_start + p.count - 1

-- p with other loci
abbrev pub holding : BandPassActivityProfile → ℕ → ℕ → ℕ → BandPassActivityProfile
holding p start last count = record {
  contig = p.contig;
  contig_len = p.contig_len;
  max_prob_propagation_distance = p.max_prob_propagation_distance;
  active_prob_threshold = p.active_prob_threshold;
  filter_size = p.filter_size;
  region_start = start;
  last_input_pos = last;
  count = count;
}

-- no "setting is out of range": contig length, propagation distance, threshold
unfoldable pub settings_in_range : BandPassActivityProfile → Bool
settings_in_range p = is_position p.contig_len && is_distance p.max_prob_propagation_distance && is_probability p.active_prob_threshold

-- "Count 0 has start and last 0, meaning none"
abbrev pub vacant : BandPassActivityProfile → Bool
vacant p = eqb p.region_start 0 && eqb p.last_input_pos 0

-- "all of: start at least 1; start at most last + 1; last at least 1; last at most start + count − 1; start + count − 1 at most L and at
-- most last + F"
unfoldable pub placed : BandPassActivityProfile → Bool
placed p =
    leb 1 p.region_start && leb p.region_start (p.last_input_pos + 1) && leb 1 p.last_input_pos && leb p.last_input_pos (last_cell p)
    && leb (last_cell p) p.contig_len && leb (last_cell p) (p.last_input_pos + p.filter_size)

-- "It is broken if a setting is out of range, F is above 500, .. count exceeds the cells, count is 0 with start or last not 0, or count is
-- above 0 without all of: ..", n cells being lent. What an add asks of its kernel stands in Add
unfoldable pub broken : BandPassActivityProfile → ℕ → Bool
broken p n =
    not (settings_in_range p) || ltb max_filter p.filter_size || ltb n p.count
    || eqb p.count 0 && not (vacant p) || ltb 0 p.count && not (placed p)

-- "Those from region start to last input are read off the record .., none at count 0"
unfoldable pub waiting : BandPassActivityProfile → List ℕ
waiting p = cond (eqb p.count 0) [] (loci p.region_start p.last_input_pos)
