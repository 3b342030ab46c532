-- `words_of` meets its contract: the words before i are read.
use Rattle.std.proofs.Common.{◌≡◌, ◌/◌}
use Rattle.lists.specs.Each.{up_to}
use Rattle.standard_io.specs.Words.{read_word}
use Rattle.standard_io.proofs.reading.words_of.Given as goal

abbrev pub invariant-loop-i : goal.invariant-loop-i
invariant-loop-i l = l.w-items ≡ up_to (read_word l.bytes (l.n / 4)) l.i l.initial.w-items
