-- 01, Scoring: the probability that a base of quality q is wrong, by the steps of 'Elementary functions'.
use Rattle.std.specs.Prelude.{ℕ, pos, Float}
use Rattle.std.specs.Float.{binary64}
use Rattle.std.specs.Float.Ieee.{of_int, div, neg}
use Rattle.doubles.specs.Constants.{ten_f}
use Rattle.elementary.specs.Exp.{ten_to_of}

-- 10 to (−q / 10)
unfoldable pub error_prob : ℕ → Float
error_prob q = ten_to_of (div binary64 (neg (of_int binary64 (pos q))) ten_f)
