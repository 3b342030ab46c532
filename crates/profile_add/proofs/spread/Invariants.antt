-- `spread` meets its contract: in each part the cells before the index have received, the others are as they were.
use Rattle.std.proofs.Common.{◌≡◌, ◌+◌, ℕ}
use Rattle.activity_profile.specs.Window.{receiving}
use Rattle.lists.specs.Each.{up_to}
use Rattle.profile_add.proofs.spread.Given as goal

abbrev pub invariant-loop-j : goal.invariant-loop-j
invariant-loop-j l = l.front ≡ up_to (receiving l.kernel l.s l.m l.held) l.j l.initial.front

abbrev pub invariant-loop-k : goal.invariant-loop-k
invariant-loop-k l = l.back ≡ up_to (λ (k : ℕ). receiving l.kernel l.s l.m l.held (l.n + k)) l.k l.initial.back
