-- `whole_pl` meets its contract: the wider cast, cut.
use Rattle.std.proofs.Common.{arith}
use Rattle.numbers.specs.Casts.{narrower}
use Rattle.genotype_posterior.proofs.phred.whole_pl.Goals as goal

pub returns : goal.returns
returns c = omega (arith, narrower 31 c.args.x (omega arith), c.as_u64.ensures, c.min.ensures)
