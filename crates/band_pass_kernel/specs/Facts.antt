-- What the code's own functions ask of each other: no part of what document 01 says.
use Rattle.std.specs.Prelude.{◌≡◌, ◌≤◌, List, take, Float}
use Rattle.band_pass_kernel.specs.declared.BandPassActivityProfileParams.{BandPassActivityProfileParams}
use Rattle.band_pass_kernel.specs.Kernel.{band, gaussian_kernel}
use Rattle.band_pass_kernel.specs.Resolve.{max_filter}

-- a buffer that starts with the full kernel of settings in range
pub record FullKernel (s : BandPassActivityProfileParams) (full : List Float) : Type 0 where
  pub kernel : take (band s.max_filter_size) full ≡ gaussian_kernel s.max_filter_size s.sigma
  pub few : s.max_filter_size ≤ max_filter
