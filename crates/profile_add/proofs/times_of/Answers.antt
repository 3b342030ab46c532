-- `times_of` meets its contract: one addition for each number of the range.
use mathlib.Core.Path.{◌∙◌, refl}
use lib.Ieee.{add, binary64}
use Rattle.std.proofs.Common.{rules}
use Rattle.std.proofs.lemmas.Iterator.{YieldsList-from_range}
use Rattle.std.proofs.lemmas.Iterator.Consumers.{fold_from_yields_List}
use Rattle.activity_profile.proofs.Adds.{times_by}
use Rattle.profile_add.proofs.times_of.Goals as goal

pub returns : goal.returns
returns c =
    let w = c.args.w in
    fold_from_yields_List _ (λ sum _. add binary64 sum w) w c.fold.result c.fold.ensures.ran (YieldsList-from_range 1 c.args.m _ refl refl) (λ a x b q k. search rules)
    ∙ times_by 1 c.args.m w
