-- How long the likelihoods are, and how many words are counted. Assumes nothing.
use Rattle.std.specs.Prelude.{◌≡◌, ℕ, ◌+◌, ◌≤◌, Bool, true, false, cond, List, [], ◌∷◌, length, replicate, refl, Float}
use Rattle.std.specs.List.{fold}
use Rattle.std.proofs.Common.{◌∙◌, arith}
use Rattle.std.proofs.lemmas.List.{length-replicate}
use Rattle.lists.specs.Each.{each, length-each}
use Rattle.doubles.specs.Constants.{zero_f}
use Rattle.genotype_likelihoods.specs.declared.HaplotypeCallerActivityScoringParams.{HaplotypeCallerActivityScoringParams}
use Rattle.pileup_words.specs.Words.{observation}
use Rattle.genotype_likelihoods.specs.Observation.{qual_of, skipped}
use Rattle.genotype_likelihoods.specs.Likelihoods.{weight, gained, taken, counted, likelihoods}

pub length_taken : (s : HaplotypeCallerActivityScoringParams) (gl : List Float) (w : ℕ) → length (taken s gl w) ≡ length gl
unfolding taken
length_taken s gl w = go (skipped s w)
  where
    alt : Bool
    alt = (observation w).is_alt

    go : (b : Bool) → length (cond b gl (each (gained (qual_of s w) alt (weight s alt) s.sample_ploidy.0) gl)) ≡ length gl
    go true = refl
    go false = length-each _ gl

pub counted-le : (s : HaplotypeCallerActivityScoringParams) (n w : ℕ) → counted s n w ≤ n + 1
unfolding counted
counted-le s n w = go (skipped s w)
  where
    go : (b : Bool) → cond b n (n + 1) ≤ n + 1
    go true = omega arith
    go false = omega arith

length_all_taken : (s : HaplotypeCallerActivityScoringParams) (gl : List Float) (words : List ℕ) → length (fold (taken s) gl words) ≡ length gl
length_all_taken s gl [] = refl
length_all_taken s gl (w ∷ words) = length_all_taken s (taken s gl w) words ∙ length_taken s gl w

pub length-likelihoods : (s : HaplotypeCallerActivityScoringParams) (n : ℕ) (words : List ℕ) → length (likelihoods s n words) ≡ n
unfolding likelihoods
length-likelihoods s n words = length-each _ _ ∙ length_all_taken s (replicate n zero_f) words ∙ length-replicate n zero_f
