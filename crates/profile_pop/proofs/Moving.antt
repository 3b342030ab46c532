-- The move of the cells that are left, by what stands in each cell once they were copied and those behind them filled. Assumes nothing.
use Prim.Native.Nat.{ℕ, ◌+◌, ◌-◌, ◌≤◌, ◌<◌}
use mathlib.Core.Path.{◌≡◌, ◌∙◌, sym}
use mathlib.Core.List.{List, ◌++◌}
use mathlib.Core.Logic.{⊎_elim}
use native.Mathlib.Omega.{arith}
use lib.Ieee.{Float, nan}
use lib.ListN.{length, get_or, take, drop, replicate}
use borrow.Author.Tests.{le-ltb, lt-ltb}
use Rattle.std.proofs.lemmas.List.{ext_get_or}
use Rattle.doubles.specs.Constants.{zero_f}
use Rattle.lists.specs.Each.{each, each_constant, fixed, get_or-each, length-each}
use Rattle.lists.specs.Window.{within, each_window, lt_or_le}
use Rattle.activity_profile.specs.Pop.{moved_cell}

module _ (cells copied : List Float) (size left count : ℕ) where
  -- the cells from `left` up to `count`
  abbrev pub behind : List Float
  behind = take (count - left) (drop left copied)

  filled : left ≤ count → count ≤ length copied →
      take left copied ++ (replicate (length behind) zero_f ++ drop (count - left) (drop left copied)) ≡ each (within left count (fixed (λ _. zero_f))) copied
  filled low high = rw (← each_constant zero_f behind) (each_window (fixed (λ _. zero_f)) copied left count nan low high)

  pub moved : length copied ≡ length cells → left ≤ count → count ≤ length cells
      → ((k : ℕ) → k < left → get_or copied k nan ≡ get_or cells (size + k) nan) → ((k : ℕ) → left ≤ k → get_or copied k nan ≡ get_or cells k nan)
      → take left copied ++ (replicate (length behind) zero_f ++ drop (count - left) (drop left copied)) ≡ each (moved_cell cells size left count) cells
  unfolding moved_cell
  moved long low high below above =
      filled low (omega arith)
      ∙ ext_get_or nan _ _ (length-each _ copied ∙ long ∙ sym (length-each _ cells)) (λ k h.
      let inside : k < length copied = omega (arith, h, length-each (within left count (fixed (λ _. zero_f))) copied) in
      get_or-each _ copied k nan inside
      ∙ at k
      ∙ sym (get_or-each _ cells k nan (omega arith)))
    where
      at : (k : ℕ) → within left count (fixed (λ _. zero_f)) k (get_or copied k nan) ≡ moved_cell cells size left count k (get_or cells k nan)
      at k =
          ⊎_elim
          (λ u. rw (lt-ltb k left u, below k u))
          (λ u. ⊎_elim
          (λ v. rw (le-ltb k left u, lt-ltb k count v))
          (λ v. rw (le-ltb k left u, le-ltb k count v, above k u))
          (lt_or_le k count))
          (lt_or_le k left)
