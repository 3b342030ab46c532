-- `line_text` meets its contract: five numbers, the last first, each before what is there, and nothing after the first.
use Rattle.std.proofs.Common.{◌≡◌, ◌∙◌, ap, length, arith, rules, Bool, true, false, refl}
use mir.Val.{bool_byte}
use Rattle.region_text.specs.Text.{flag, line_onto, line_text}
use Rattle.region_text.proofs.Writing.{both, nothing_after}
use Rattle.region_text.proofs.line_text.Goals as goal

flag_byte : (b : Bool) → bool_byte b ≡ flag b
flag_byte true = refl
flag_byte false = refl

pub returns : goal.returns
unfolding line_text
returns c =
    let w1 = simp c.from.ensures at c.number.ensures.1 in
    let w2 = simp c.from-2.ensures at c.number-2.ensures.1 in
    let w3 = simp (c.from-3.ensures, flag_byte) at c.number-3.ensures.1 in
    let w4 = simp c.from-4.ensures at c.number-4.ensures.1 in
    let w5 = simp c.from-5.ensures at c.number-5.ensures.1 in
    let all = both _ _ _ _ _ _ _ _ _ _ (both _ _ _ _ _ _ _ _ _ _ (both _ _ _ _ _ _ _ _ _ _ (both _ _ _ _ _ _ _ _ _ _ w1 w2) w3) w4) w5 in
    let text = c.args.text.now in
    let long : length text ≡ 105 = search rules in
    record {
      text_after = all.text ∙ ap (line_onto c.args.region) (nothing_after text 105 (omega arith));
      text_unchanged = all.front;
      upper_bound = all.low;
    }
