-- 01, Scoring: "Likelihoods .. follow the Rust": calc_ref_vs_any_log10_genotype_likelihoods, with n entries.
use Rattle.std.specs.Prelude.{ℕ, ◌+◌, Bool, cond, List, replicate, pos, Float}
use Rattle.std.specs.List.{fold}
use Rattle.std.specs.Float.{binary64}
use Rattle.std.specs.Float.Ieee.{of_int, add, sub, mul}
use Rattle.lists.specs.Each.{each}
use Rattle.doubles.specs.Constants.{zero_f, one_f}
use Rattle.genotype_likelihoods.specs.declared.HaplotypeCallerActivityScoringParams.{HaplotypeCallerActivityScoringParams}
use Rattle.pileup_words.specs.Words.{observation}
use Rattle.genotype_likelihoods.specs.Observation.{qual_of, skipped}
use Rattle.genotype_likelihoods.specs.Contribution.{contribution_of, log10_whole}

-- the alternate has a weight of its own
abbrev pub weight : HaplotypeCallerActivityScoringParams → Bool → Float
weight s alt = cond alt s.active_region_alt_multiplier one_f

-- entry i with an observation more
abbrev pub gained : ℕ → Bool → Float → ℕ → ℕ → Float → Float
gained q alt w ploidy i x = add binary64 x (mul binary64 w (contribution_of q alt i ploidy))

-- the entries with a word more
unfoldable pub taken : HaplotypeCallerActivityScoringParams → List Float → ℕ → List Float
taken s gl w =
    let alt = (observation w).is_alt in
    cond (skipped s w) gl (each (gained (qual_of s w) alt (weight s alt) s.sample_ploidy.0) gl)

-- the words that are not skipped
unfoldable pub counted : HaplotypeCallerActivityScoringParams → ℕ → ℕ → ℕ
counted s n w = cond (skipped s w) n (n + 1)

abbrev pub less : Float → ℕ → Float → Float
less d i x = sub binary64 x d

-- every word in turn; then each entry less the words counted × log10 ploidy
unfoldable pub likelihoods : HaplotypeCallerActivityScoringParams → ℕ → List ℕ → List Float
likelihoods s n words =
    each (less (mul binary64 (of_int binary64 (pos (fold (counted s) 0 words))) (log10_whole s.sample_ploidy.0)))
    (fold (taken s) (replicate n zero_f) words)
