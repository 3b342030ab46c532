-- `observe` meets its contract: the word is kept where there is room.
use Rattle.region_program.proofs.Steps.{observed_next}
use Rattle.region_program.specs.Stream.{PILE}
use Rattle.std.proofs.Common.{◌≡◌, length, rules}
use Rattle.region_stream.proofs.observe.Goals as goal

pub returns : goal.returns
returns c = λ scoring kernel cells.
    let a = c.args in
    let long : length a.pile.now ≡ PILE = search rules in
    simp (c.keep-depth.ensures.value, c.keep-depth.ensures.pile_after)
    (observed_next scoring a.s a.pile.now kernel cells a.at c.requires a.word long)
