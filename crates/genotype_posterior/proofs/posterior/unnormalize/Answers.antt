-- `unnormalize` meets its contract: by the list where it is for the call, else without it.
use Rattle.std.proofs.Common.{◌≡◌, ◌-◌, List, length, take, drop, sym, ap, ◌∙◌, arith, length-drop, length-take-le, take_all}
use lib.Ieee.{Float}
use Rattle.genotype_posterior.proofs.Lists.{for_length}
use Rattle.genotype_posterior.specs.Priors.{heading, unnormalized_by, with_prior}
use Rattle.lists.specs.Each.{each}
use Rattle.genotype_posterior.proofs.posterior.unnormalize.Goals as goal

pub slice_bounds-add_priors-count : goal.slice_bounds-add_priors-count
slice_bounds-add_priors-count c =
    let are = c in
    let a = are.args in
    omega (arith, for_length a.priors.now (length a.gl.now) a.settings.snp a.settings.standard_deviation (sym are.are_for.ensures ∙ c.if-are_for.true))

pub slice_bounds-add_priors-start : goal.slice_bounds-add_priors-start
slice_bounds-add_priors-start c =
    let are = c in
    let a = are.args in
    omega (arith, for_length a.priors.now (length a.gl.now) a.settings.snp a.settings.standard_deviation (sym are.are_for.ensures ∙ c.if-are_for.true))

pub add_priors-requires : goal.add_priors-requires
add_priors-requires c =
    let are = c in
    let a = are.args in
    let long = for_length a.priors.now (length a.gl.now) a.settings.snp a.settings.standard_deviation (sym are.are_for.ensures ∙ c.if-are_for.true) in
    length-take-le (length a.priors.now - heading) (drop heading a.priors.now) (omega (arith, length-drop heading a.priors.now)) ∙ omega (arith, long)

pub returns-then-are_for : goal.returns-then-are_for
unfolding unnormalized_by
returns-then-are_for c =
    let are = c in
    let a = are.args in
    let rest = drop heading a.priors.now in
    let all : take (length a.priors.now - heading) rest ≡ rest = take_all (length a.priors.now - heading) rest (omega (arith, length-drop heading a.priors.now)) in
    simp (← are.are_for.ensures, c.if-are_for.true) (c.add_priors.ensures ∙ ap (λ (l : List Float). each (with_prior l) a.gl.now) all)

pub returns : goal.returns
unfolding unnormalized_by
returns c = simp (← c.are_for.ensures, c.if-are_for.false) c.write_unnormalized.ensures
