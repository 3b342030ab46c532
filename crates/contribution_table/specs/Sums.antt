-- Four genotypes at once: their sums go over the words side by side, and the count of words with them.
use Rattle.std.specs.Prelude.{◌≡◌, ℕ, zero, suc, ◌+◌, ◌*◌, ◌/◌, ◌%◌, ◌<◌, cond, List, [], ◌∷◌, ◌==◌, refl, Float}
use Rattle.std.specs.List.{fold}
use Rattle.std.proofs.Common.{ap, ◌∙◌, add-zero, mod-lt, div-add-mod', arith}
use Rattle.doubles.specs.Constants.{zero_f}
use Rattle.genotype_likelihoods.specs.declared.HaplotypeCallerActivityScoringParams.{HaplotypeCallerActivityScoringParams}
use Rattle.genotype_likelihoods.specs.Likelihoods.{counted}
use Rattle.contribution_table.specs.declared.Sums.{Sums}
use Rattle.contribution_table.specs.Table.{taken_at, sum_at}

abbrev pub no_sums : Sums
no_sums = record { count = 0; a = zero_f; b = zero_f; c = zero_f; d = zero_f }

-- genotypes i to i + 3, and the count, with a word more
abbrev pub all_taken : List Float → HaplotypeCallerActivityScoringParams → ℕ → Sums → ℕ → Sums
all_taken table s i r w = record {
  count = counted s r.count w;
  a = taken_at table s i r.a w;
  b = taken_at table s (i + 1) r.b w;
  c = taken_at table s (i + 2) r.c w;
  d = taken_at table s (i + 3) r.d w;
}

abbrev pub sums_from : List Float → HaplotypeCallerActivityScoringParams → List ℕ → ℕ → Sums
sums_from table s words i = fold (all_taken table s i) no_sums words

-- the sum of the genotype at a place in its four
unfoldable pub sum_in : Sums → ℕ → Float
sum_in r k = cond (k == 0) r.a (cond (k == 1) r.b (cond (k == 2) r.c r.d))

-- each is the sum of its genotype
abbrev pub four : List Float → HaplotypeCallerActivityScoringParams → List ℕ → ℕ → Sums → Sums
four table s words i r = record {
  count = fold (counted s) r.count words;
  a = fold (taken_at table s i) r.a words;
  b = fold (taken_at table s (i + 1)) r.b words;
  c = fold (taken_at table s (i + 2)) r.c words;
  d = fold (taken_at table s (i + 3)) r.d words;
}

sums_apart : (table : List Float) (s : HaplotypeCallerActivityScoringParams) (words : List ℕ) (i : ℕ) (r : Sums) → fold (all_taken table s i) r words ≡ four table s words i r
sums_apart table s [] i r = refl
sums_apart table s (w ∷ words) i r = sums_apart table s words i (all_taken table s i r w)

in_four : (table : List Float) (s : HaplotypeCallerActivityScoringParams) (words : List ℕ) (i k : ℕ) → k < 4 → sum_in (four table s words i no_sums) k ≡ sum_at table s words (i + k)
unfolding sum_in
in_four table s words i zero h = rw add-zero
in_four table s words i (suc zero) h = refl
in_four table s words i (suc (suc zero)) h = refl
in_four table s words i (suc (suc (suc zero))) h = refl
in_four table s words i (suc (suc (suc (suc k)))) h = absurd (omega arith)

-- genotype i is at place i % 4 of the four that begin at i / 4 * 4
pub sum_in-four : (table : List Float) (s : HaplotypeCallerActivityScoringParams) (words : List ℕ) (i : ℕ) → sum_in (sums_from table s words (i / 4 * 4)) (i % 4) ≡ sum_at table s words i
sum_in-four table s words i =
    ap (λ (r : Sums). sum_in r (i % 4)) (sums_apart table s words (i / 4 * 4) no_sums)
    ∙ in_four table s words (i / 4 * 4) (i % 4) (mod-lt i (omega arith))
    ∙ ap (sum_at table s words) (div-add-mod' i 4)

pub count_in_four : (table : List Float) (s : HaplotypeCallerActivityScoringParams) (words : List ℕ) (i : ℕ) → (sums_from table s words i).count ≡ fold (counted s) 0 words
count_in_four table s words i = ap (λ (r : Sums). r.count) (sums_apart table s words i no_sums)
