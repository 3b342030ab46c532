-- `feed` meets its contract: the text of the steps so far stands at the front, and each step comes nearer to the end of the words.
use Rattle.region_run.proofs.Texts.{so_more, so_open}
use Rattle.region_run.proofs.feed.Goals as goal

pub loop-s-preserved : goal.loop-s-preserved
loop-s-preserved c =
    let inv = c.loop-s.invariant in
    so_more _ _ _ _ _ _ _ _ _ _ (so_open _ _ _ _ _ _ _ inv c.loop-s-test.true) inv c.step-s.ensures
