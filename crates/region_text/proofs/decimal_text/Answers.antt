-- `decimal_text` meets its contract: the digits, and nothing after them.
use Rattle.std.proofs.Common.{◌≡◌, ◌∙◌, ap, length, arith, rules}
use Rattle.region_text.specs.Text.{decimal}
use Rattle.region_text.proofs.Writing.{nothing_after}
use Rattle.region_text.proofs.decimal_text.Goals as goal

pub returns : goal.returns
returns c =
    let wrote = c.digits.ensures.1 in
    let text = c.args.text.now in
    let long : length text ≡ 20 = search rules in
    record {
      text_after = wrote.text ∙ ap (decimal c.args.n) (nothing_after text 20 (omega arith));
      text_unchanged = wrote.front;
      upper_bound = wrote.low;
    }
