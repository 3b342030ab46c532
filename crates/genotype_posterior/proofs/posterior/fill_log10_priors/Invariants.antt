-- `fill_log10_priors` meets its contract: the cells before j are filled.
use Rattle.std.proofs.Common.{◌≡◌}
use Rattle.genotype_posterior.specs.Priors.{listed}
use Rattle.lists.specs.Each.{up_to}
use Rattle.genotype_posterior.proofs.posterior.fill_log10_priors.Given as goal

abbrev pub invariant-loop-j : goal.invariant-loop-j
invariant-loop-j l = l.x-items ≡ up_to (listed l.ploidy.0 l.snp_heterozygosity l.heterozygosity_standard_deviation) l.j l.initial.x-items
