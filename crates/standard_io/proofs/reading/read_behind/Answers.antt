-- `read_behind` meets its contract: the words and the rest are those of the block as the read left it, and the bytes that came are the
-- reader's.
use Rattle.std.proofs.Common.{◌≡◌, ℕ, ◌+◌, ◌-◌, ◌≤◌, List, ◌++◌, length, take, drop, ap, ◌∙◌, arith, length-drop}
use Rattle.std.proofs.lemmas.List.{length-take-le, take-append-le}
use Rattle.std.proofs.Math.Seq.{take-append-add, take_at}
use Rattle.standard_io.proofs.reading.read_behind.Goals as goal

seam : (p q : List ℕ) (n m : ℕ) → length p ≡ n → take (n + m) (p ++ q) ≡ p ++ take m q
seam p q n m e = rw (← e) (take-append-add p q m)

pub returns-clause-taken : goal.returns-clause-taken
returns-clause-taken g c =
    let a = c.args in
    let got = c.in_ok-got.got in
    let block = c.read_once.new.bytes in
    let front = take a.from a.bytes.now in
    let rest = drop (65536 - a.from) (drop a.from a.bytes.now) in
    let fits : got ≤ length block = c.in_ok-got.ensures.bound.0 in
    let front_length : length front ≡ a.from = length-take-le a.from a.bytes.now (omega (arith, c.requires)) in
    record {
      words_read = record {
        read = front ++ (block ++ rest);
        n = a.from + got;
        behind_kept = take_at front (block ++ rest) a.from front_length;
        at_least_kept = omega arith;
        in_block = omega (arith, fits, c.read_once.auto.bytes, length-drop a.from a.bytes.now);
        all_words = c.words_of-count.ensures.value;
        rest-kept = c.keep_rest-rest.ensures.value;
        words_left = c.words_of-count.ensures.words_after;
        bytes_left = c.keep_rest-rest.ensures.bytes_after;
      };
      came = take got block;
      some = rw (length-take-le got block fits) (omega arith);
      behind = seam front (block ++ rest) a.from got front_length ∙ ap (λ (l : List ℕ). front ++ l) (take-append-le got block rest fits);
      taken = c.in_ok-got.ensures.ok;
    }
