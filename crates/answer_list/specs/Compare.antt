-- Comparing the results of an answer word by word.
use Rattle.std.specs.Prelude.{Bool, ℕ, ◌+◌, false, cond, ◌&&◌, length, ◌==◌, nat_lt, slice_index, to_bits, Float}
use Rattle.std.specs.Float.{binary64}
use Rattle.answer_list.specs.declared.Compared.{Compared}

-- the next word is w, and all before it were the same; past the last word nothing is the same
unfoldable pub with_word : Compared → ℕ → Compared
with_word c w =
    cond (nat_lt c.at (length c.words.now)) (record c { at = c.at + 1; same = c.same && (slice_index c.words.now c.at == w) }) (record c { same = false })

unfoldable pub with_double : Compared → Float → Compared
with_double c x = with_word c (to_bits binary64 x)

-- a fact that the answer has no word for: where it does not hold, nothing is the same
unfoldable pub with_fact : Compared → Bool → Compared
with_fact c holds = record c { same = c.same && holds }
