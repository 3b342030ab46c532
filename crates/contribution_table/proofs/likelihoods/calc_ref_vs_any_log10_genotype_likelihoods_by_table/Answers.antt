-- `calc_ref_vs_any_log10_genotype_likelihoods_by_table` meets its contract: by the table where it serves, else without it.
use Rattle.std.proofs.Common.{true, ◌≡◌, ◌-◌, List, length, take, drop, sym, ap, ◌∙◌, arith, length-drop, take_all}
use Rattle.std.specs.List.{fold}
use lib.Ieee.{Float}
use Rattle.contribution_table.proofs.Places.{serves_deletions, serves-length, serves_row}
use Rattle.contribution_table.specs.Table.{heading, likelihood_at, likelihoods_by, serves}
use Rattle.genotype_likelihoods.specs.Likelihoods.{counted}
use Rattle.lists.specs.Each.{tabulate}
use Rattle.contribution_table.proofs.likelihoods.calc_ref_vs_any_log10_genotype_likelihoods_by_table.Goals as goal
use Rattle.contribution_table.proofs.likelihoods.calc_ref_vs_any_log10_genotype_likelihoods_by_table.Goals.{Else-not-is_for}

pub returns-then-not-is_for : goal.returns-then-not-is_for
unfolding likelihoods_by
returns-then-not-is_for c =
    let is = c in
    simp (← is.is_for.ensures, c.if-not-is_for.true) c.calc_ref_vs_any_log10_genotype_likelihoods.ensures

served : (c : Else-not-is_for) → serves c.args.table.now c.args.params (length c.args.gl.now) ≡ true
served c = sym c.is_for.ensures ∙ c.if-not-is_for.false

pub slice_bounds-rows-count : goal.slice_bounds-rows-count
slice_bounds-rows-count c =
    let a = c.args in
    omega (arith, serves-length a.table.now a.params (length a.gl.now) (served (goal.at.slice_bounds-rows-count c).Else-not-is_for))

pub slice_bounds-rows-start : goal.slice_bounds-rows-start
slice_bounds-rows-start c =
    let a = c.args in
    omega (arith, serves-length a.table.now a.params (length a.gl.now) (served (goal.at.slice_bounds-rows-start c).Else-not-is_for))

pub write_likelihoods-requires : goal.write_likelihoods-requires
write_likelihoods-requires c =
    let a = c.args in
    omega (arith, c.row_length-row.ensures.0, serves_row a.table.now a.params (length a.gl.now) (served (goal.at.write_likelihoods-requires c).Else-not-is_for))

pub invariant_of-rows : goal.invariant_of-rows
invariant_of-rows c =
    let a = c.args in
    let e = served (goal.at.invariant_of-rows c).Else-not-is_for in
    record {
      of_ploidy = c.row_length-row.ensures.0;
      small = c.row_length-row.ensures.1;
      whole = omega (arith, serves-length a.table.now a.params (length a.gl.now) e, length-drop heading a.table.now);
      deletions = serves_deletions a.table.now a.params (length a.gl.now) e;
    }

pub returns : goal.returns
unfolding likelihoods_by
returns c =
    let is = c in
    let a = is.args in
    let rest = drop heading a.table.now in
    let all : take (length a.table.now - heading) rest ≡ rest = take_all (length a.table.now - heading) rest (omega (arith, length-drop heading a.table.now)) in
    simp (← is.is_for.ensures, c.if-not-is_for.false)
    (c.write_likelihoods.ensures
    ∙ ap (λ (rs : List Float). tabulate (likelihood_at rs a.params a.pile.now (fold (counted a.params) 0 a.pile.now)) (length a.gl.now)) all)
