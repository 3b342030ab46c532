-- Text that is written from the end of a buffer to its front: what the code's own functions promise each other.
use Rattle.std.specs.Prelude.{◌≡◌, List, ◌∷◌, ℕ, ◌+◌, ◌≤◌, length, take, drop}
use Rattle.region_text.specs.declared.line.Line.{Line}

-- `new` is `old` with at most k bytes more in front of its bytes from `at` on: they are what f makes of those, and start at r. The
-- bytes before r are as they were.
pub record Writes (k : ℕ) (f : List ℕ → List ℕ) (old : List ℕ) (at : ℕ) (new : List ℕ) (r : ℕ) : Type 0 where
  pub text : drop r new ≡ f (drop at old)
  pub front : take r new ≡ take r old
  pub same : length new ≡ length old
  pub low : r ≤ at
  pub few : at ≤ r + k

-- the same of a line, and the buffer is the one that was lent
abbrev pub Wrote : ℕ → (List ℕ → List ℕ) → Line → Line → Type 0
Wrote k f old new = (new.text.ghost_name ≡ old.text.ghost_name) × Writes k f old.text.now old.at new.text.now new.at

-- a byte before a text
abbrev pub byte_onto : ℕ → List ℕ → List ℕ
byte_onto b t = b ∷ t
