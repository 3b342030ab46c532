-- `adaptive_filter_size` meets its contract: the entries left of the middle, turned round, are kept from the front on.
use Rattle.std.proofs.Common.{◌≡◌, ◌/◌, ◌∙◌, arith}
use Rattle.band_pass_kernel.proofs.Kernels.{kept-reversed, kept-le}
use Rattle.band_pass_kernel.specs.Kernel.{adaptive_filter_size_of, kept_left}
use Rattle.band_pass_kernel.proofs.gaussian.adaptive_filter_size.Goals as goal

pub returns : goal.returns
unfolding adaptive_filter_size_of
returns c =
    let a = c.args in
    let middle = c.saturating_sub-middle.result / 2 in
    let e : c.kept_at_the_end.result ≡ kept_left a.min_prob_to_keep a.kernel.now middle = c.kept_at_the_end.ensures ∙ kept-reversed a.min_prob_to_keep a.kernel.now middle (omega arith) in
    (simp (← c.saturating_sub-middle.ensures) e, omega (arith, e, kept-le a.min_prob_to_keep a.kernel.now middle))
