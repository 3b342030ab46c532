-- `are_for` meets its contract.
use Rattle.std.proofs.Common.{◌≡◌, ◌+◌, ◌-◌, length, sym, arith, eq-eqb}
use Rattle.genotype_posterior.proofs.Lists.{other_length}
use Rattle.genotype_posterior.specs.Priors.{are_for, heading}
use Rattle.genotype_posterior.proofs.posterior.are_for.Goals as goal

pub returns-then-priors-lt-HEADING : goal.returns-then-priors-lt-HEADING
returns-then-priors-lt-HEADING c =
    let a = c.args in
    sym (other_length a.priors.now a.genotypes a.settings.snp a.settings.standard_deviation (λ e. absurd (omega (arith, e, c.if-priors-lt-HEADING.true))))

pub returns-then-priors-genotypes : goal.returns-then-priors-genotypes
returns-then-priors-genotypes c =
    let a = c.args in
    let same : heading + a.genotypes - heading ≡ a.genotypes = omega arith in
    sym (other_length a.priors.now a.genotypes a.settings.snp a.settings.standard_deviation (λ e. absurd (c.if-priors-genotypes.true (rw e same))))

pub returns : goal.returns
unfolding are_for
returns c =
    let near = c in
    let tests = near in
    let a = tests.args in
    let long : length a.priors.now ≡ heading + a.genotypes = omega (arith, tests.if-priors-genotypes.false, tests.if-priors-lt-HEADING.false) in
    rw (eq-eqb (length a.priors.now) (heading + a.genotypes) long, c.same_positive-spread.ensures, c.same_positive-mean.ensures, c.same_positive-copies.ensures, near.nearest_u64_to_f64-ploidy.ensures)
