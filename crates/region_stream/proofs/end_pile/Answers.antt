-- `end_pile` meets its contract: the pile is scored and added, or its refusal handed on.
use Rattle.genome.specs.Refusals.{outcome_of}
use Rattle.region_program.proofs.Steps.{ended_again, ended_refused}
use Rattle.region_program.specs.Tables.{table_score}
use Rattle.region_program.specs.Stream.{PILE}
use Rattle.region_stream.proofs.Mapped.{value_was, error_was}
use Rattle.region_stream.specs.Refused.{refused_step}
use Rattle.std.proofs.Common.{◌≡◌, ℕ, List, length, take, min, sym, ap, ◌∙◌, rules}
use Rattle.std.proofs.lemmas.List.{take_min}
use Rattle.std.proofs.lemmas.Result.{err_from_is_err_and}
use Rattle.region_stream.proofs.end_pile.Goals as goal

-- the words that are scored
front : (depth n : ℕ) (pile : List ℕ) → n ≡ min depth PILE → length pile ≡ PILE → take n pile ≡ take depth pile
front depth n pile e long = rw (e, ← long) (take_min depth pile)

pub returns-in_err-q-clause-ends : goal.returns-in_err-q-clause-ends
returns-in_err-q-clause-ends c =
    let a = c.args in
    let m = a.memory.now in
    let e = c.add_pile-added.ensures in
    let kernel = c.kernel_in-kernel.ensures in
    let words = front a.at.depth c.min.result m.pile c.min.ensures (search rules) in
    let score = table_score a.tables.now.contributions a.tables.now.priors in
    let y = err_from_is_err_and c.from_residual.result c.from_residual.ensures.1 in
    let x = error_was (λ why. refused_step why a.at.locus_index a.s) _ c.add_pile-added.result _ c.in_err-q.ensures.cases (λ why h. search rules) in
    rw (y.1, y.2, x.2) (simp (e.cells_after, kernel, words)
    (ended_refused score a.s m.pile m.kernel m.cells a.at c.requires _ (simp (kernel, words) at (sym e.result_value ∙ ap outcome_of x.1))))

pub returns-clause-ends : goal.returns-clause-ends
returns-clause-ends c =
    let a = c.args in
    let m = a.memory.now in
    let e = c.add_pile-added.ensures in
    let kernel = c.kernel_in-kernel.ensures in
    let words = front a.at.depth c.min.result m.pile c.min.ensures (search rules) in
    let score = table_score a.tables.now.contributions a.tables.now.priors in
    let was = value_was _ _ c.add_pile-added.result _ c.in_ok-q.ensures.cases (λ why h. h) in
    simp (c.closed.ensures, e.cells_after, kernel, words)
    (ended_again score a.s m.pile m.kernel m.cells a.at c.requires _ (simp (kernel, words) at (sym e.result_value ∙ ap outcome_of was)))
