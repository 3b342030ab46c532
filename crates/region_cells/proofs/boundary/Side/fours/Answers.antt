-- `fours` meets its contract: it counts the fours in front in which no cell is on the other side.
use Rattle.std.proofs.Common.{◌≡◌, ◌∙◌, rules, tests}
use lib.Ieee.{nan}
use Rattle.std.specs.List.{prefix_len}
use Rattle.std.proofs.lemmas.Iterator.Consumers.{YieldsList-at, count_from_yields_List}
use Rattle.std.proofs.lemmas.Iterator.Search.{YieldsList-from_take_while}
use Rattle.std.proofs.lemmas.List.Folds.{length-prefix_len}
use Rattle.activity_profile.specs.Pop.{other_side}
use Rattle.region_cells.proofs.Fours.{behind_fours, none_passes, whole_fours, yields_fours}
use Rattle.region_cells.proofs.boundary.Side.fours.Goals as goal

pub returns : goal.returns
returns c =
    let a = c.args in
    let side = other_side a.self.threshold a.self.active in
    let stays = none_passes side nan in
    let cells = YieldsList-at c.take_while.ensures.source (yields_fours c.chunks_exact.result a.cells.now c.chunks_exact.ensures.size c.chunks_exact.ensures.rest) in
    let counted : c.count.result ≡ prefix_len stays (whole_fours a.cells.now) =
    count_from_yields_List c.take_while.result c.count.result c.count.ensures.ran (YieldsList-from_take_while _ stays cells c.take_while.ensures.closure c.take_while.ensures.done (λ x b q k. search (rules, tests)))
    ∙ length-prefix_len stays (whole_fours a.cells.now)
    in
    rw counted (behind_fours side nan a.cells.now)
