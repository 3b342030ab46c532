-- `print_refusal` meets its contract: the page ends, and the line stands behind it.
use Rattle.std.proofs.Common.{not, ap, arith}
use Rattle.region_print.proofs.Buffers.{added_then, end_few, has, room}
use Rattle.region_print.proofs.buffer.print_refusal.Goals as goal

pub returns : goal.returns
returns c =
    let there = has _ _ _ c.has_room.ensures (ap not c.if-not-has_room.false) in
    let page = c.print_end-behind.ensures.added there in
    room _ _ _ _ _ there (omega (arith, page.count, end_few c.args.form, c.refusal.ensures.upper_bound)) (added_then _ _ _ _ _ _ _ _ page c.refusal.ensures.added)
