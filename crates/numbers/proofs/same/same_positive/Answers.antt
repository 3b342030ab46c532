-- `same_positive` meets its contract: `==` of two values that a double can have.
use Rattle.std.proofs.Common.{T, sym, subst}
use Rattle.numbers.specs.Same.{test_same}
use Rattle.numbers.proofs.same.same_positive.Goals as goal

pub returns : goal.returns
returns c = test_same c.args.a c.args.b (subst T (sym c.well_formed.0.1) tt) (subst T (sym c.well_formed.1.0.1) tt)
