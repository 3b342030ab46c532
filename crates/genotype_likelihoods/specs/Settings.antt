-- 01, Ranges, and "scoring has the Rust's defaults".
use Rattle.std.specs.Prelude.{Bool, false, ◌&&◌, from_bits}
use Rattle.std.specs.Float.{binary64}
use Rattle.doubles.specs.Constants.{half_f, one_f}
use Rattle.numbers.specs.Ranges.{between, within}
use Rattle.genotype_likelihoods.specs.declared.HaplotypeCallerActivityScoringParams.{HaplotypeCallerActivityScoringParams}

-- min base quality 10, ploidy 2, SNP heterozygosity 0.001, its deviation 0.01, deletion quality 30, alt multiplier 1, no flow model
abbrev pub defaults : HaplotypeCallerActivityScoringParams
defaults = record {
  min_base_quality_score = 10;
  sample_ploidy = record { 0 = 2 };
  snp_heterozygosity = from_bits binary64 0x3f50_624d_d2f1_a9fc;
  heterozygosity_standard_deviation = from_bits binary64 0x3f84_7ae1_47ae_147b;
  ref_model_deletion_qual = 30;
  active_region_alt_multiplier = one_f;
  flow_based_reference_model = false;
}

-- "min base quality and deletion quality 1 to 254; ploidy 1 to 100; SNP heterozygosity 0.000001 to 0.5; its deviation 0.0001 to 1; alt
-- multiplier 1/1024 to 1024"
unfoldable pub settings_in_range : HaplotypeCallerActivityScoringParams → Bool
settings_in_range s =
    between 1 s.sample_ploidy.0 100 && between 1 s.min_base_quality_score 254 && between 1 s.ref_model_deletion_qual 254
    && within (from_bits binary64 0x3eb0_c6f7_a0b5_ed8d) s.snp_heterozygosity half_f
    && within (from_bits binary64 0x3f1a_36e2_eb1c_432d) s.heterozygosity_standard_deviation one_f
    && within (from_bits binary64 0x3f50_0000_0000_0000) s.active_region_alt_multiplier (from_bits binary64 0x4090_0000_0000_0000)
