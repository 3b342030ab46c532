-- A word counts once at most, a pile without clips has no mean, and the ranges bound the ploidy. Assumes nothing.
use Rattle.std.proofs.Common.{◌≡◌, ℕ, ◌+◌, ◌≤◌, Bool, true, false, cond, not, ◌&&◌, T, List, [], ◌∷◌, sym, refl, ◌∙◌, subst, arith, leb-true}
use Rattle.std.specs.List.{fold}
use Rattle.lists.specs.Tests.{and_left, and_right}
use Rattle.genome.specs.declared.GenomePosition.{GenomePosition}
use Rattle.genotype_likelihoods.specs.declared.HaplotypeCallerActivityScoringParams.{HaplotypeCallerActivityScoringParams}
use Rattle.pileup_words.specs.Words.{observation}
use Rattle.genotype_likelihoods.specs.Observation.{skipped}
use Rattle.genotype_likelihoods.specs.Settings.{settings_in_range}
use Rattle.activity_scoring.specs.declared.RunningMean.{RunningMean}
use Rattle.activity_scoring.specs.Mean.{with_count, next_to_clip, or_next_to_clip, counts, with_word}
use Rattle.activity_scoring.specs.Score.{in_range}

pub with_word_count : (s : HaplotypeCallerActivityScoringParams) (r : RunningMean) (w : ℕ) → (with_word s r w).count ≤ r.count + 1
unfolding with_word
with_word_count s r w = go (counts s w)
  where
    go : (b : Bool) → (cond b (with_count r (observation w).read_hq_soft_clip_base_count) r).count ≤ r.count + 1
    go true = omega arith
    go false = omega arith

and_false : (b : Bool) → (b && false) ≡ false
and_false true = refl
and_false false = refl

or_stays : (words : List ℕ) → fold or_next_to_clip true words ≡ true
or_stays [] = refl
or_stays (w ∷ words) = or_stays words

-- with no word next to a clip the mean stays as it is
pub no_clips : (s : HaplotypeCallerActivityScoringParams) (r : RunningMean) (words : List ℕ) → fold or_next_to_clip false words ≡ false → fold (with_word s) r words ≡ r
unfolding with_word
no_clips s r [] e = refl
no_clips s r (w ∷ words) e = go (next_to_clip w) refl (λ h. no_clips s r words h)
  where
    go : (b : Bool) → next_to_clip w ≡ b → (fold or_next_to_clip false words ≡ false → fold (with_word s) r words ≡ r) → fold (with_word s) (with_word s r w) words ≡ r
    go true h rest = absurd (subst T (sym (or_stays words) ∙ rw h at e) tt)
    go false h rest =
        let none : counts s w ≡ false = rw h (and_false (not (skipped s w))) in
        rw none (rest (rw h at e))

pub ploidy_at_most : (p : GenomePosition) (s : HaplotypeCallerActivityScoringParams) → in_range p s ≡ true → s.sample_ploidy.0 ≤ 100
unfolding settings_in_range
ploidy_at_most p s e = search (leb-true, and_left, and_right) depth 12
