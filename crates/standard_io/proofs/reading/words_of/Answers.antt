-- `words_of` meets its contract: the words before i are read.
use Rattle.std.proofs.Common.{◌≡◌, ◌/◌, ◌<◌, ◌∙◌, sym, arith, le-ltb, lt-ltb, length}
use Rattle.std.proofs.lemmas.List.{length-take-le}
use Rattle.lists.specs.Each.{up_to_front, up_to_put, up_to-rest, up_to_zero}
use Rattle.standard_io.specs.Words.{read_word}
use Rattle.standard_io.proofs.Quads.{quad}
use Rattle.standard_io.proofs.reading.words_of.Goals as goal

pub loop-i-init : goal.loop-i-init
loop-i-init c = sym (up_to_zero _ _)

pub loop-i-preserved : goal.loop-i-preserved
loop-i-preserved c =
    let a = c.args in
    let wide = length-take-le (a.n / 4) a.words.now (omega (arith, c.requires)) in
    let below : c.loop-i.i < a.n / 4 = omega (arith, wide, c.loop-i-test.true) in
    let word = quad a.bytes.now (length a.bytes.now / 4) c.loop-i.i _ (omega (arith, below, c.requires)) c.as_chunks.ensures.front in
    let rule = read_word a.bytes.now (a.n / 4) in
    let read = c.from_le_bytes.ensures ∙ word in
    up_to_put rule c.loop-i.i _ _ 0 _ c.loop-i.invariant c.loop-i-test.true (simp (lt-ltb _ _ below) read)

pub returns-clause-words_after : goal.returns-clause-words_after
returns-clause-words_after c =
    let a = c.args in
    let n = a.n / 4 in
    let rule = read_word a.bytes.now n in
    let wide = length-take-le n a.words.now (omega (arith, c.requires)) in
    let done : c.loop-i.i ≡ n = omega (arith, wide) in
    rw (c.loop-i.invariant, done) (up_to_front rule n a.words.now)
    ∙ up_to-rest rule n a.words.now (λ k x h. simp (le-ltb k n (omega (arith, h))))
