-- The ranges in which the laws on priors speak.
use Rattle.std.specs.Prelude.{ℕ, T, Float}
use Rattle.std.specs.Float.{binary64}
use Rattle.std.specs.Float.Ieee.{of_bits, lt, le, fits}
use Rattle.doubles.specs.Constants.{zero_f, half_f, one_f}
use Rattle.double_ranges.specs.Size.{Size}
use Rattle.double_ranges.specs.Least.{Least}

abbrev pub least_heterozygosity : Float
least_heterozygosity = of_bits binary64 0x3eb0_c6f7_a0b5_ed8d

abbrev pub least_deviation : Float
least_deviation = of_bits binary64 0x3f1a_36e2_eb1c_432d

-- "SNP heterozygosity 0.000001 to 0.5; its deviation 0.0001 to 1"
pub record InRange (het sd : Float) : Type 0 where
  pub het_low : T (le least_heterozygosity het)
  pub het_high : T (le het half_f)
  pub sd_low : T (le least_deviation sd)
  pub sd_high : T (le sd one_f)

pub record Pseudocount (j : ℕ) (x : Float) : Type 0 where
  pub size : Size 28 x
  pub least : Least j x

pub record Argument (x : Float) : Type 0 where
  pub fit : T (fits binary64 x)
  pub above : T (lt zero_f x)
  pub size : Size 40 x
