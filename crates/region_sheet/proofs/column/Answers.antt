-- `column` meets its contract: the digits are the number's, ten at most, and end where the columns do.
use Rattle.std.proofs.Common.{◌≡◌, ◌+◌, ◌-◌, ◌≤◌, ◌++◌, ◌∙◌, [], List, ℕ, ap, arith, drop, length, rules, take}
use Rattle.std.proofs.lemmas.List.{drop-drop, length-drop, length-take-le, take_all}
use Rattle.region_text.specs.Text.{decimal}
use Rattle.region_sheet.specs.Row.{position_columns}
use Rattle.region_sheet.proofs.Columns.{aligned, decimal_few}
use Rattle.region_sheet.proofs.column.Goals as goal
use Rattle.region_sheet.proofs.column.Goals.{After-decimal_text-first}

-- the last k of the first `end`
part_long : (end k : ℕ) (l : List ℕ) → k ≤ end → end ≤ length l → length (take (end - (end - k)) (drop (end - k) l)) ≡ k
part_long end k l h room = length-take-le _ _ (simp length-drop (omega arith)) ∙ omega arith

-- what is copied
digits_are : (c : After-decimal_text-first) → let call = c.decimal_text-first in
    take (20 - call.result) (drop call.result call.new.text) ≡ decimal c.args.n []
digits_are c =
    let call = c.decimal_text-first in
    take_all _ _ (simp length-drop (omega arith)) ∙ call.ensures.text_after ∙ ap (λ n. decimal n []) c.from.ensures

pub overflow_sub-end : goal.overflow_sub-end
overflow_sub-end c = rw (digits_are (goal.at.overflow_sub-end c).After-decimal_text-first) (omega (arith, decimal_few c.args.n (omega arith)))

pub copy_from_slice-requires : goal.copy_from_slice-requires
copy_from_slice-requires c =
    let few = decimal_few c.args.n (omega arith) in
    let row = c.args.row.now in
    let long : length row ≡ 46 = search rules in
    let end = c.args.from + position_columns in
    let are = digits_are (goal.at.copy_from_slice-requires c).After-decimal_text-first in
    rw are (part_long end (length (decimal c.args.n [])) row (omega (arith, few)) (omega (arith, c.requires.position_columns_bound)))

pub returns : goal.returns
returns c =
    let digits = decimal c.args.n [] in
    let row = c.args.row.now in
    let few = decimal_few c.args.n (omega arith) in
    let are = digits_are (goal.at.returns c).After-decimal_text-first in
    let end = c.args.from + position_columns in
    let rest : drop (end - (end - length digits)) (drop (end - length digits) row) ≡ drop end row =
    drop-drop (end - (end - length digits)) (end - length digits) row ∙ ap (λ k. drop k row) (omega (arith, few))
    in
    rw (c.copy_from_slice.ensures.after, are) (ap (λ (l : List ℕ). take (end - length digits) row ++ (digits ++ l)) rest ∙ aligned c.args.from c.args.n row few c.requires.row_value)
