-- `calculate_multi_sample_any_non_ref_posterior` meets its contract: the piles from here on, begun with the product so far.
use Rattle.std.proofs.Common.{◌≡◌, drop, length}
use Rattle.std.specs.List.{fold}
use Rattle.doubles.specs.Constants.{one_f}
use Rattle.multi_sample_scoring.specs.Passed.{with_pile}
use Rattle.multi_sample_scoring.specs.Sets.{piles, total}
use Rattle.multi_sample_scoring.proofs.score.calculate_multi_sample_any_non_ref_posterior.Given as goal

abbrev pub invariant-loop-n : goal.invariant-loop-n
invariant-loop-n l =
    let step = with_pile l.tables.contributions.now l.tables.priors.now l.params in
    record {
      whole : total (drop l.n-index l.fn.set.lengths.now) ≡ length l.rest;
      product : fold step l.inactive_prob (piles l.rest (drop l.n-index l.fn.set.lengths.now)) ≡ fold step one_f (piles l.fn.set.words.now l.fn.set.lengths.now);
    }
