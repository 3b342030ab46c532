-- `write_unnormalized` meets its contract: the entries before this one have their prior.
use Rattle.std.proofs.Common.{◌≡◌, ◌-◌, length}
use Rattle.genotype_posterior.specs.Posterior.{ref_pseudocount, snp_pseudocount, unnormalized}
use Rattle.lists.specs.Each.{up_to}
use Rattle.genotype_posterior.proofs.posterior.write_unnormalized.Given as goal

abbrev pub invariant-loop-i : goal.invariant-loop-i
invariant-loop-i l =
    let het = l.fn.settings.snp in
    let sd = l.fn.settings.standard_deviation in
    l.gl ≡ up_to (unnormalized (length l.initial.gl - 1) (ref_pseudocount het sd) (snp_pseudocount het sd)) l.i l.initial.gl
