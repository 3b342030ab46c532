-- `open_first` meets its contract: the profile is made, or its refusal handed on.
use Rattle.genome.specs.Refusals.{outcome_of}
use Rattle.region_program.proofs.Steps.{first_opened, first_refused}
use Rattle.region_stream.proofs.Mapped.{value_was, error_was}
use Rattle.region_stream.specs.Refused.{refused_step}
use Rattle.std.proofs.Common.{sym, ap, ◌∙◌, rules}
use Rattle.std.proofs.lemmas.Result.{err_from_is_err_and}
use Rattle.region_stream.proofs.open_first.Goals as goal

pub returns-in_err-p : goal.returns-in_err-p
returns-in_err-p c = λ scoring pile cells.
    let a = c.args in
    let m = c.make_profile-made.ensures in
    let y = err_from_is_err_and c.from_residual.result c.from_residual.ensures.1 in
    let x = error_was (λ e. refused_step e a.s.index a.s) _ c.make_profile-made.result _ c.in_err-p.ensures.cases (λ e h. search rules) in
    rw (y.1, y.2, x.2) (simp m.kernel_after (first_refused scoring a.s pile a.kernel.now cells c.requires a.position _ (sym m.result_value ∙ ap outcome_of x.1)))

pub returns : goal.returns
returns c = λ scoring pile cells.
    let a = c.args in
    let m = c.make_profile-made.ensures in
    let was = value_was _ _ c.make_profile-made.result _ c.in_ok-p.ensures.cases (λ e h. h) in
    simp (c.opened.ensures, m.kernel_after)
    (first_opened scoring a.s pile a.kernel.now cells c.requires a.position _ (sym m.result_value ∙ ap outcome_of was))
