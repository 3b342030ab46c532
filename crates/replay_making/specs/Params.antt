-- The kernel's settings in the words of an answer (docs/LISTS.md).
use Rattle.std.specs.Prelude.{List, ℕ, ◌%◌, ◌^◌, eqb, get_or}
use Rattle.std.specs.Float.{binary64}
use Rattle.std.specs.Float.Ieee.{of_bits}
use Rattle.band_pass_kernel.specs.declared.BandPassActivityProfileParams.{BandPassActivityProfileParams}

-- distance, threshold, max filter, sigma and adaptive, from word 2 on; a number is a word's low 32 bits
unfoldable pub params_of : List ℕ → BandPassActivityProfileParams
params_of words = record {
  max_prob_propagation_distance = get_or words 2 0 % 2 ^ 32;
  active_prob_threshold = of_bits binary64 (get_or words 3 0);
  max_filter_size = get_or words 4 0 % 2 ^ 32;
  sigma = of_bits binary64 (get_or words 5 0);
  adaptive_filter_size = eqb (get_or words 6 0) 1;
}
