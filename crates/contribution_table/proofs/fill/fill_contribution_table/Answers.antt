-- `fill_contribution_table` meets its contract: the cells before j are filled.
use Rattle.std.proofs.Common.{◌≡◌, ℕ, ◌<◌, length, sym, ◌∙◌, subst, arith, le-ltb, lt-ltb}
use Rattle.std.proofs.lemmas.List.{length-take-le}
use lib.Ieee.{nan}
use Rattle.contribution_table.specs.Table.{filled, ploidy_of, table_length, tabled}
use Rattle.lists.specs.Each.{up_to_front, up_to_put, up_to-rest, up_to_zero}
use Rattle.contribution_table.proofs.fill.fill_contribution_table.Goals as goal

pub returns-then-table-n : goal.returns-then-table-n
unfolding filled
returns-then-table-n c = simp (lt-ltb _ _ (subst (λ (m : ℕ). length c.args.table.now < m) c.table_length-n.ensures c.if-table-n.true))

pub loop-j-init : goal.loop-j-init
loop-j-init c = sym (up_to_zero _ _)

pub cell_at-requires : goal.cell_at-requires
cell_at-requires c =
    let wide = length-take-le c.table_length-n.result c.args.table.now c.if-table-n.false in
    rw (← c.table_length-n.ensures) (omega (arith, wide, c.loop-j-test.true))

pub loop-j-preserved : goal.loop-j-preserved
loop-j-preserved c =
    let at = c in
    let a = at.args in
    let wide = length-take-le at.table_length-n.result a.table.now c.if-table-n.false in
    let below : at.loop-j.j < table_length (ploidy_of a.params) = rw (← at.table_length-n.ensures) (omega (arith, wide, c.loop-j-test.true)) in
    up_to_put (tabled a.params) at.loop-j.j _ _ nan _ at.loop-j.invariant c.loop-j-test.true (simp (lt-ltb _ _ below) c.cell_at.ensures)

pub returns : goal.returns
unfolding filled
returns c =
    let at = c in
    let a = at.args in
    let n = at.table_length-n.ensures in
    let rule = tabled a.params in
    let wide = length-take-le at.table_length-n.result a.table.now at.if-table-n.false in
    let done : at.loop-j.j ≡ at.table_length-n.result = omega (arith, wide) in
    simp (le-ltb (length a.table.now) (table_length (ploidy_of a.params)) (omega (arith, n)))
    (rw (at.loop-j.invariant, done) (up_to_front rule at.table_length-n.result a.table.now)
    ∙ up_to-rest rule at.table_length-n.result a.table.now (λ k x h. simp (le-ltb k (table_length (ploidy_of a.params)) (omega (arith, n)))))
