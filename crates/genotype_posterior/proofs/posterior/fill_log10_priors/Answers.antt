-- `fill_log10_priors` meets its contract: the cells before j are filled.
use Rattle.std.proofs.Common.{◌≡◌, ℕ, ◌<◌, length, sym, ◌∙◌, subst, arith, le-ltb, lt-ltb}
use Rattle.std.proofs.lemmas.List.{length-take-le}
use lib.Ieee.{nan}
use Rattle.genotype_posterior.specs.Priors.{listed, log10_priors, priors_length}
use Rattle.lists.specs.Each.{up_to_front, up_to_put, up_to-rest, up_to_zero}
use Rattle.genotype_posterior.proofs.posterior.fill_log10_priors.Goals as goal

pub returns-then-priors-n : goal.returns-then-priors-n
unfolding log10_priors
returns-then-priors-n c = simp (lt-ltb _ _ (subst (λ (m : ℕ). length c.args.priors.now < m) c.priors_length-n.ensures c.if-priors-n.true))

pub loop-j-init : goal.loop-j-init
loop-j-init c = sym (up_to_zero _ _)

pub loop-j-preserved : goal.loop-j-preserved
loop-j-preserved c =
    let at = c in
    let a = at.args in
    let rule = listed a.ploidy.0 a.snp_heterozygosity a.heterozygosity_standard_deviation in
    let wide = length-take-le at.priors_length-n.result a.priors.now c.if-priors-n.false in
    let below : at.loop-j.j < priors_length a.ploidy.0 = rw (← at.priors_length-n.ensures) (omega (arith, wide, c.loop-j-test.true)) in
    up_to_put rule at.loop-j.j _ _ nan _ at.loop-j.invariant c.loop-j-test.true (simp (lt-ltb _ _ below) c.prior_at.ensures)

pub returns : goal.returns
unfolding log10_priors
returns c =
    let at = c in
    let a = at.args in
    let n = at.priors_length-n.ensures in
    let rule = listed a.ploidy.0 a.snp_heterozygosity a.heterozygosity_standard_deviation in
    let wide = length-take-le at.priors_length-n.result a.priors.now at.if-priors-n.false in
    let done : at.loop-j.j ≡ at.priors_length-n.result = omega (arith, wide) in
    simp (le-ltb (length a.priors.now) (priors_length a.ploidy.0) (omega (arith, n)))
    (rw (at.loop-j.invariant, done) (up_to_front rule at.priors_length-n.result a.priors.now)
    ∙ up_to-rest rule at.priors_length-n.result a.priors.now (λ k x h. simp (le-ltb k (priors_length a.ploidy.0) (omega (arith, n)))))
