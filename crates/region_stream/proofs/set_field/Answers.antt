-- `set_field` meets its contract: the settings are changed, or the refusal handed on.
use Rattle.genome.specs.Refusals.{outcome_of}
use Rattle.region_program.proofs.Steps.{set_done, set_refused}
use Rattle.region_stream.proofs.Mapped.{value_was, error_was}
use Rattle.region_stream.specs.Refused.{refused_step}
use Rattle.std.proofs.Common.{sym, ap, ◌∙◌, rules}
use Rattle.std.proofs.lemmas.Result.{err_from_is_err_and}
use Rattle.region_stream.proofs.set_field.Goals as goal

pub returns-in_err-settings : goal.returns-in_err-settings
returns-in_err-settings c = λ scoring pile kernel cells.
    let a = c.args in
    let y = err_from_is_err_and c.from_residual.result c.from_residual.ensures.1 in
    let x = error_was (λ e. refused_step e a.s.index a.s) _ c.with_field.result _ c.in_err-settings.ensures.cases (λ e h. search rules) in
    rw (y.1, y.2, x.2) (set_refused scoring a.s pile kernel cells c.requires a.field a.value _ (sym c.with_field.ensures ∙ ap outcome_of x.1))

pub returns : goal.returns
returns c = λ scoring pile kernel cells.
    let a = c.args in
    let was = value_was _ _ c.with_field.result _ c.in_ok-settings.ensures.cases (λ e h. h) in
    set_done scoring a.s pile kernel cells c.requires a.field a.value _ (sym c.with_field.ensures ∙ ap outcome_of was)
