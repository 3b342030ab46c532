-- 02, U3: which words are skipped, and that they add nothing wherever they stand. Assumes nothing.
use Rattle.std.specs.Prelude.{◌≡◌, ℕ, ◌<◌, Bool, true, false, cond, not, ◌&&◌, ◌||◌, List, replicate, ◌==◌, nat_lt, refl, Float}
use Rattle.std.specs.List.{fold}
use Rattle.std.proofs.Common.{sym, ◌∙◌, true≢false, arith, ne_eqb}
use Rattle.std.proofs.lemmas.Bool.{eqb-false}
use Rattle.lists.specs.Tests.{and_left, and_right, not_true}
use Rattle.lists.specs.Without.{without, fold-without}
use Rattle.doubles.specs.Constants.{zero_f}
use Rattle.genome.specs.Ranges.{missing_quality}
use Rattle.pileup_words.specs.Words.{observation}
use Rattle.genotype_likelihoods.specs.declared.HaplotypeCallerActivityScoringParams.{HaplotypeCallerActivityScoringParams}
use Rattle.genotype_likelihoods.specs.Observation.{effective_qual, lacks_quality, skips, qual_of, skipped}
use Rattle.genotype_likelihoods.specs.Likelihoods.{taken, counted, likelihoods}
use Rattle.genotype_likelihoods.specs.Skipped.{is_blank}

-- ---- which are skipped

-- such a word is, whatever the settings
pub blank-skipped : (s : HaplotypeCallerActivityScoringParams) (w : ℕ) → is_blank w ≡ true → skipped s w ≡ true
unfolding skips lacks_quality effective_qual
blank-skipped s w e =
    rw (not_true (observation w).is_deletion (and_left _ _ e), and_right (not (observation w).is_deletion) _ e)
    (go (nat_lt (observation w).qual s.min_base_quality_score) s.flow_based_reference_model)
  where
    go : (b f : Bool) → ((b || true) && (f || true)) ≡ true
    go true true = refl
    go true false = refl
    go false true = refl
    go false false = refl

-- a deletion has the deletion quality, and is skipped by it, whatever its own
pub deletions_alike : (s : HaplotypeCallerActivityScoringParams) (v w : ℕ) → (observation v).is_deletion ≡ true → (observation w).is_deletion ≡ true
    → (qual_of s w ≡ s.ref_model_deletion_qual) × (skipped s v ≡ skipped s w)
unfolding skips effective_qual
deletions_alike s v w d e = rw (d, e) (refl, refl)

-- every word that is not blank has a quality, given that the deletion quality is one
has_quality : (s : HaplotypeCallerActivityScoringParams) (w : ℕ) → s.ref_model_deletion_qual < missing_quality → is_blank w ≡ false → qual_of s w < missing_quality
unfolding effective_qual
has_quality s w h = go (observation w).is_deletion
  where
    q : ℕ
    q = (observation w).qual

    go : (d : Bool) → (not d && q == missing_quality) ≡ false → cond d s.ref_model_deletion_qual q < missing_quality
    go true e = h
    go false e =
        let other : q ≡ missing_quality → ⊥ = eqb-false q missing_quality e in
        omega (arith, other)

-- and is skipped where document 01 has it: below the minimum, and under the flow model where it is a deletion
pub others_skipped : (s : HaplotypeCallerActivityScoringParams) (w : ℕ) → s.ref_model_deletion_qual < missing_quality → is_blank w ≡ false
    → skipped s w ≡ (nat_lt (qual_of s w) s.min_base_quality_score && (s.flow_based_reference_model || not (observation w).is_deletion))
unfolding skips lacks_quality
others_skipped s w h e = rw (ne_eqb (qual_of s w) missing_quality (λ same. absurd (omega (arith, same, has_quality s w h e)))) (go (nat_lt (qual_of s w) s.min_base_quality_score))
  where
    go : (b : Bool) → ((b || false) && (s.flow_based_reference_model || not (observation w).is_deletion)) ≡ (b && (s.flow_based_reference_model || not (observation w).is_deletion))
    go true = refl
    go false = refl

-- so a word that counts has a quality
pub counted_has_quality : (s : HaplotypeCallerActivityScoringParams) (w : ℕ) → s.ref_model_deletion_qual < missing_quality → skipped s w ≡ false → qual_of s w < missing_quality
counted_has_quality s w h e = has_quality s w h (go (is_blank w) refl)
  where
    go : (b : Bool) → is_blank w ≡ b → b ≡ false
    go true k = absurd (true≢false (sym (blank-skipped s w k) ∙ e))
    go false k = refl

-- ---- and what is skipped adds nothing

pub counted-without : (s : HaplotypeCallerActivityScoringParams) (n : ℕ) (words : List ℕ) → fold (counted s) n (without (skipped s) words) ≡ fold (counted s) n words
unfolding counted
counted-without s n words = fold-without (skipped s) (counted s) n words (λ k w e. rw e)

taken-without : (s : HaplotypeCallerActivityScoringParams) (gl : List Float) (words : List ℕ) → fold (taken s) gl (without (skipped s) words) ≡ fold (taken s) gl words
unfolding taken
taken-without s gl words = fold-without (skipped s) (taken s) gl words (λ l w e. rw e)

-- the likelihoods of a pile are those of the pile without its skipped words
pub likelihoods-without : (s : HaplotypeCallerActivityScoringParams) (n : ℕ) (words : List ℕ) → likelihoods s n (without (skipped s) words) ≡ likelihoods s n words
unfolding likelihoods
likelihoods-without s n words = rw (counted-without s 0 words, taken-without s (replicate n zero_f) words)
