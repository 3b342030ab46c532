-- `calculate_single_sample_biallelic_non_ref_posterior` meets its contract: an empty list of priors is not looked at.
use Rattle.std.proofs.Common.{[], length, refl, arith}
use Rattle.genotype_posterior.proofs.Lists.{other_length}
use Rattle.genotype_posterior.specs.Posterior.{posterior, posterior_written}
use Rattle.genotype_posterior.specs.Priors.{unnormalized_by, posterior_by, posterior_written_by}
use Rattle.genotype_posterior.proofs.posterior.calculate_single_sample_biallelic_non_ref_posterior.Goals as goal

pub returns : goal.returns
unfolding posterior posterior_written unnormalized_by posterior_by posterior_written_by
returns c =
    let a = c.args in
    let unread = other_length [] (length a.gl.now) a.snp_heterozygosity a.heterozygosity_standard_deviation (λ e. absurd (omega (arith, e))) in
    let by = c.calculate_single_sample_biallelic_non_ref_posterior_by_priors.ensures in
    simp (by.value, by.gl_after, unread) (record { value = refl; gl_after = refl })
