-- `print_region` meets its contract: a row, and what stands behind it.
use Rattle.std.proofs.Common.{not, ap, arith}
use Rattle.region_print.proofs.Buffers.{added_then, has, room}
use Rattle.region_print.proofs.buffer.print_region.Goals as goal

pub returns-in-Sheet : goal.returns-in-Sheet
returns-in-Sheet c =
    let there = has _ _ _ c.has_room.ensures (ap not c.if-not-has_room.false) in
    let behind = rw c.rows_after.ensures at c.feed_where.ensures.added in
    simp c.in-Sheet.is (room _ _ _ _ _ there (omega (arith, c.row-behind.ensures.value, c.feed_where.ensures.upper_bound)) (added_then _ _ _ _ _ _ _ _ c.row-behind.ensures.added behind))
