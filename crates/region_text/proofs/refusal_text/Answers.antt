-- `refusal_text` meets its contract: the index, the number and the word, the last first, and nothing after the index.
use Rattle.std.proofs.Common.{◌≡◌, ◌∙◌, ap, length, arith, rules}
use Rattle.region_text.specs.Text.{refusal_onto, refusal_text}
use Rattle.region_text.proofs.Writing.{both, nothing_after}
use Rattle.region_text.proofs.refusal_text.Goals as goal

pub returns : goal.returns
unfolding refusal_text
returns c =
    let w2 = simp (c.from.ensures, c.number-2.ensures) at c.number-3.ensures.1 in
    let all = both _ _ _ _ _ _ _ _ _ _ (both _ _ _ _ _ _ _ _ _ _ c.number.ensures.1 w2) c.refused.ensures.1 in
    let text = c.args.text.now in
    let long : length text ≡ 105 = search rules in
    record {
      text_after = all.text ∙ ap (refusal_onto _ _) (nothing_after text 105 (omega arith));
      text_unchanged = all.front;
      upper_bound = omega (arith, all.low);
    }
