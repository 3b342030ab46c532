-- What is known of an answer that was read.
use Rattle.std.specs.Prelude.{◌≡◌, ℕ, ◌-◌, ◌≤◌, List, length, drop}
use Rattle.std.specs.declared.option.Option.{Option}
use Rattle.std.specs.declared.option.Option.TheVariants.{Some, None}
use Rattle.answer_list.specs.declared.Answer.{Answer}

-- its words are no more than the slice has
abbrev pub FitsIn : ℕ → Option Answer → Type 0
FitsIn n (Some answer) = answer.count ≤ n
FitsIn n None = Unit

-- What a read that fails leaves of the slice: n words may have come by then, never all that the slice has room for, and from word n on it
-- is as it was.
pub record Begun (old new : List ℕ) : Type 0 where
  pub n : ℕ
  pub not_all : n ≤ length old - 1
  pub same_length : length new ≡ length old
  pub behind : drop n new ≡ drop n old
