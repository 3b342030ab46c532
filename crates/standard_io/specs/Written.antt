-- What a write that failed leaves of a writer whose bytes are known: a front of the text stands behind them. Where they are not known, as
-- at a file or a pipe, it says nothing of them.
use Rattle.std.specs.Prelude.{ℕ, List, take}
use Rattle.std.specs.Io.KnownBytes.{Appends}
use Rattle.std.specs.declared.option.Option.{Option}

pub record FrontWritten (held held' : Option (List ℕ)) (text : List ℕ) : Type 0 where
  pub n : ℕ
  pub front : Appends held held' (take n text)
