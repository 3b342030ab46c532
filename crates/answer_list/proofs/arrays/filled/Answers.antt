-- `filled` meets its contract: each call answers the double of its pattern.
use Rattle.std.proofs.Common.{rules}
use Rattle.answer_list.specs.Arrays.{pattern_at}
use Rattle.answer_list.proofs.Made.{made}
use Rattle.answer_list.proofs.arrays.filled.Goals as goal

pub returns : goal.returns
unfolding pattern_at
returns c = made (pattern_at c.args.first) (λ i x q call. search rules) c.from_fn.ensures.items
