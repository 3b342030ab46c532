-- `end` meets its contract: what the end of the input prints, as text, and the end of the page that is open.
use Rattle.region_feed.specs.Feed.{closing}
use Rattle.region_print.proofs.Buffers.{front_added}
use Rattle.region_run.proofs.Texts.{closed_text}
use lib.ListN.{length}
use mathlib.Core.Path.{◌≡◌, refl}
use native.Mathlib.Omega.{arith}
use borrow.Author.Rules.{rules}
use Rattle.region_run.proofs.end.Goals as goal

pub returns : goal.returns
returns c =
    let found = c.finish-found.result in
    let long : length c.print-behind.new.text ≡ 65536 = search rules in
    let wrote = c.print_end-used.ensures in
    let room = c.print-behind.ensures.upper_bound in record {
      printed = closing found;
      fed = c.finish-found.ensures;
      written = closed_text _ found _ _ _ c.form_after-form.ensures c.print-behind.ensures.text_after (front_added _ _ _ _ _ (wrote.added (omega (arith, long, room))));
      room = omega (arith, wrote.few, room);
      over = refl;
    }
