-- `find_best_cut_site` meets its contract: what is left of the scan, done from here with the best so far, is the whole scan.
use Prim.Native.Nat.{◌≤◌}
use mathlib.Core.Path.{◌≡◌}
use Rattle.activity_profile.specs.Pop.{best_cut_site, better}
use Rattle.lists.specs.Loops.{down}
use Rattle.profile_pop.proofs.find_best_cut_site.Given as goal

abbrev pub invariant-loop-i : goal.invariant-loop-i
invariant-loop-i l = (l.best ≤ l.most) × (down (better l.states l.least) l.i l.best ≡ best_cut_site l.states l.least l.most)
