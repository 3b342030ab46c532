-- The blocks of the input, and the words in them.
use Rattle.std.specs.Prelude.{cond, not, List, ◌≡◌, ℕ, ◌+◌, ◌-◌, ◌*◌, ◌/◌, ◌%◌, ◌≤◌, ltb, eqb, get_or, take}
use Rattle.lists.specs.Each.{each}
use Rattle.standard_io.specs.declared.Input.{Input}
use Rattle.standard_io.specs.declared.Input.TheVariants.{Words, End}

abbrev pub BLOCK : ℕ
BLOCK = 65536

-- the bytes kept of a word
abbrev pub kept_of : Input → ℕ
kept_of (Words count kept) = kept
kept_of (End remainder) = 0

-- "little-endian words"
abbrev pub word_at : List ℕ → ℕ → ℕ
word_at bytes at = get_or bytes at 0 + 256 * (get_or bytes (at + 1) 0 + 256 * (get_or bytes (at + 2) 0 + 256 * get_or bytes (at + 3) 0))

-- a rule for the words of a block, of which n are read; the others keep what they hold
abbrev pub read_word : List ℕ → ℕ → ℕ → ℕ → ℕ
read_word bytes n k w = cond (ltb k n) (word_at bytes (4 * k)) w

-- a rule for the bytes of a block, of which n are read: those behind the last whole word come to the front, and the others keep what they
-- hold
abbrev pub moved_byte : List ℕ → ℕ → ℕ → ℕ → ℕ
moved_byte bytes n k b = cond (ltb k (n % 4)) (get_or bytes (n - n % 4 + k) 0) b

-- ---- what a reading leaves

-- Words came: `read` is the block as the read left it, n bytes of it in use, those that were kept in front. The words are those of its
-- bytes, and what is behind the last whole one is kept.
pub record WordsRead (from : ℕ) (bytes bytes' words words' : List ℕ) (count kept : ℕ) : Type 0 where
  pub read : List ℕ
  pub n : ℕ
  pub behind_kept : take from read ≡ take from bytes
  pub at_least_kept : from ≤ n
  pub in_block : n ≤ BLOCK
  pub all_words : count ≡ n / 4
  pub rest-kept : kept ≡ n % 4
  pub words_left : words' ≡ each (read_word read (n / 4)) words
  pub bytes_left : bytes' ≡ each (moved_byte read n) read

-- the end of the input has a remainder where bytes were kept; where no words come, those that were there stay
abbrev pub Reads : ℕ → List ℕ → List ℕ → List ℕ → List ℕ → Input → Type 0
Reads from bytes bytes' words words' (Words count kept) = WordsRead from bytes bytes' words words' count kept
Reads from bytes bytes' words words' (End remainder) = (remainder ≡ not (eqb from 0)) × (words' ≡ words)
