-- Text that is added behind the text in a buffer.
use Rattle.std.specs.Prelude.{◌≡◌, List, ◌++◌, ℕ, ◌+◌, ◌≤◌, ◌<◌, length, take, drop}

-- the most bytes that one call adds: a form feed and a line
abbrev pub MOST : ℕ
MOST = 106

-- `new` stands behind the first `used` bytes, and n are in use then; all others are as they were
pub record Added (new : List ℕ) (text : List ℕ) (used : ℕ) (text' : List ℕ) (n : ℕ) : Type 0 where
  pub count : n ≡ used + length new
  pub within : n ≤ length text
  pub written : text' ≡ take used text ++ (new ++ drop n text)

-- where there is room for the most that a call adds, it is added; else nothing is done
pub record AddedWhereRoom (new : List ℕ) (text : List ℕ) (used : ℕ) (text' : List ℕ) (n : ℕ) : Type 0 where
  pub added : used + MOST ≤ length text → Added new text used text' n
  pub none : length text < used + MOST → (n ≡ used) × (text' ≡ text)
  pub few : n ≤ used + MOST
