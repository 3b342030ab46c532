-- `take_words` meets its contract: a fold for the entries and one for the count.
use Rattle.std.proofs.Common.{◌≡◌, ◌≤◌, length, take}
use Rattle.std.specs.List.{fold}
use Rattle.genotype_likelihoods.specs.Likelihoods.{counted, taken}
use Rattle.genotype_likelihoods.proofs.likelihoods.take_words.Given as goal

abbrev pub invariant-loop-w : goal.invariant-loop-w
invariant-loop-w l = record {
  few : l.n ≤ l.w-index;
  same_length : length l.gl ≡ length l.initial.gl;
  count : l.n ≡ fold (counted l.params) 0 (take l.w-index l.pile);
  entries : l.gl ≡ fold (taken l.params) l.initial.gl (take l.w-index l.pile);
}
