-- `write_unnormalized` meets its contract: the entries before this one have their prior.
use Rattle.std.proofs.Common.{◌-◌, length, sym, ◌∙◌, arith}
use lib.Ieee.{nan}
use Rattle.genotype_posterior.specs.Posterior.{ref_pseudocount, snp_pseudocount, unnormalized}
use Rattle.lists.specs.Each.{up_to_all, up_to-turn, up_to_zero}
use Rattle.genotype_posterior.proofs.posterior.write_unnormalized.Goals as goal

pub loop-i-init : goal.loop-i-init
loop-i-init c = sym (up_to_zero _ _)

pub loop-i-preserved : goal.loop-i-preserved
unfolding unnormalized
loop-i-preserved c =
    let at = c in
    let a = at.args in
    let het = a.settings.snp in
    let sd = a.settings.standard_deviation in
    simp (c.log10_prior.ensures, at.snp_pseudocount-snp_pc.ensures, at.ref_pseudocount-ref_pc.ensures)
    (up_to-turn (unnormalized (length a.gl.now - 1) (ref_pseudocount het sd) (snp_pseudocount het sd)) _ _ _ nan at.loop-i.invariant (omega arith))

pub returns : goal.returns
returns c = c.loop-i.invariant ∙ up_to_all (unnormalized _ _ _) _ _ (omega arith)
