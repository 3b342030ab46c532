-- `digits` meets its contract: what is left of the number, written before what is there, is the same text at each turn.
use Rattle.std.proofs.Common.{◌≡◌, ◌-◌, drop}
use Rattle.region_text.specs.Text.{decimal, digits_onto}
use Rattle.region_text.specs.Writing.{Wrote}
use Rattle.region_text.proofs.line.Line.digits.Given as goal

abbrev pub invariant-loop : goal.invariant-loop
invariant-loop l = record {
  wrote : Wrote l.counter (λ t. drop l.self.at l.self.text.now) l.initial.self l.self;
  left : digits_onto (20 - l.counter) l.rest (drop l.self.at l.self.text.now) ≡ decimal l.n (drop l.initial.self.at l.initial.self.text.now);
}
