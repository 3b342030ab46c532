-- `sums_at` meets its contract: at the first of four they are summed, within the four they are at hand.
use Rattle.std.proofs.Common.{◌≡◌, ◌*◌, ◌/◌, arith}
use Rattle.contribution_table.proofs.rows.Rows.sums_at.Goals as goal

pub sums_from-requires : goal.sums_from-requires
sums_from-requires c =
    let start = c in
    omega (arith, start.requires.0, start.args.self.now.of_ploidy, c.if-i-eq0.true)

pub returns-then-i-eq0 : goal.returns-then-i-eq0
returns-then-i-eq0 c =
    let a = c.args in
    let e : a.i / 4 * 4 ≡ a.i = omega (arith, c.if-i-eq0.true) in
    rw e c.sums_from.ensures

pub returns : goal.returns
returns c = c.requires.1 (omega (arith, c.if-i-eq0.false))
