-- `read_words`: from word w-index on the words are as they were.
use Rattle.std.proofs.Common.{◌≡◌, length, drop}
use Rattle.answer_list.proofs.read.read_words.Given as goal

abbrev pub invariant-loop-w : goal.invariant-loop-w
invariant-loop-w g l = (length l.words ≡ length l.initial.words) × (drop l.w-index l.words ≡ drop l.w-index l.initial.words)
