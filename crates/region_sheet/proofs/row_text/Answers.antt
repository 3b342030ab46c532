-- `row_text` meets its contract: the row is written from its end to its front, over blanks.
use Rattle.std.proofs.Common.{◌≡◌, ◌∙◌, Bool, true, false, refl, ap}
use mir.Val.{bool_byte}
use Rattle.region_text.specs.Text.{digit, flag}
use Rattle.region_sheet.proofs.Columns.{row_is}
use Rattle.region_sheet.proofs.row_text.Goals as goal

flag_digit : (b : Bool) → digit (bool_byte b) ≡ digit (flag b)
flag_digit true = refl
flag_digit false = refl

pub returns : goal.returns
returns c =
    row_is _ _ _ _ _ _ _ _ _ _ (ap digit c.from.ensures ∙ flag_digit c.args.is_active) c.column.ensures c.column-2.ensures c.column-3.ensures c.column-4.ensures
