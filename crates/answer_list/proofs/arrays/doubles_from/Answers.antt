-- `doubles_from` meets its contract: each call answers the double at its index.
use Rattle.std.proofs.Common.{rules}
use Rattle.answer_list.specs.Arrays.{double_at}
use Rattle.answer_list.proofs.Made.{made}
use Rattle.answer_list.proofs.arrays.doubles_from.Goals as goal

pub returns : goal.returns
unfolding double_at
returns c = made (double_at c.args.words.now c.args.at) (λ i x q call. search rules) c.from_fn.ensures.items
