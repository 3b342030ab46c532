-- `is_for` meets its contract.
use Rattle.std.proofs.Common.{◌≡◌, arith, length, sym, eq-eqb}
use Rattle.contribution_table.proofs.Places.{other_length}
use Rattle.contribution_table.specs.Table.{ploidy_of, serves, table_length}
use Rattle.contribution_table.proofs.likelihoods.is_for.Goals as goal

pub returns-then-table-table_length : goal.returns-then-table-table_length
returns-then-table-table_length c =
    let a = c.args in
    sym (other_length a.table.now a.params a.genotypes (λ e. omega (arith, e)))

pub returns : goal.returns
unfolding serves
returns c =
    let test = c in
    let lengths = test in
    let a = lengths.args in
    let long : length a.table.now ≡ table_length (ploidy_of a.params) = omega arith in
    rw (eq-eqb (length a.table.now) (table_length (ploidy_of a.params)) long, c.same_positive-multiplier.ensures, c.same_positive-ploidy.ensures, c.from.ensures, lengths.row_length-row.ensures.0)
