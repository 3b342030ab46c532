-- What a reading takes of a reader whose bytes are known: those that come are the reader's next, and the end is the reader's. Where they
-- are not known, as at a file or a pipe, it says nothing of them.
use Rattle.std.specs.Prelude.{◌≡◌, ℕ, ◌<◌, List, [], ◌++◌, length, take}
use Rattle.std.specs.Io.KnownBytes.{Consumes, IsAtEnd}
use Rattle.std.specs.declared.option.Option.{Option}
use Rattle.standard_io.specs.Words.{WordsRead}
use Rattle.standard_io.specs.declared.Input.{Input}
use Rattle.standard_io.specs.declared.Input.TheVariants.{Words, End}

-- Words came, as WordsRead says of them. In its block, behind the bytes that were kept, stand those that came, at least one, and they are
-- the reader's next.
pub record WordsTaken (left left' : Option (List ℕ)) (from : ℕ) (bytes bytes' words words' : List ℕ) (count kept : ℕ) : Type 0 where
  pub words_read : WordsRead from bytes bytes' words words' count kept
  pub came : List ℕ
  pub some : 0 < length came
  pub behind : take words_read.n words_read.read ≡ take from bytes ++ came
  pub taken : Consumes left left' came

-- the end is answered where the reader has come to it, and took nothing
abbrev pub Takes : Option (List ℕ) → Option (List ℕ) → ℕ → List ℕ → List ℕ → List ℕ → List ℕ → Input → Type 0
Takes left left' from bytes bytes' words words' (Words count kept) = WordsTaken left left' from bytes bytes' words words' count kept
Takes left left' from bytes bytes' words words' (End remainder) = Consumes left left' [] × IsAtEnd left'
