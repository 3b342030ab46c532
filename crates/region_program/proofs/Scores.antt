-- What a pile scores to: the state of its locus, or one of three refusals; and the places past the first locus. Assumes nothing.
use mathlib.Core.Path.{◌≡◌, refl, sym, subst, ◌∙◌}
use mathlib.Core.Bool.{Bool, true, false, cond, not}
use mathlib.Core.List.{List}
use Prim.Native.Nat.{ℕ}
use native.Mathlib.Omega.{arith}
use lib.Dec.{ltb, eqb}
use lib.ListN.{length}
use Rattle.genome.specs.Refusals.{Outcome, refused, answered}
use Rattle.doubles.specs.Constants.{zero_f}
use Rattle.activity_profile.specs.declared.ActivityProfileState.{ActivityProfileState}
use Rattle.activity_profile.specs.declared.ActivityEvidence.TheVariants.{Plain}
use Rattle.activity_profile.specs.Add.{at}
use Rattle.genotype_likelihoods.specs.Settings.{defaults}
use Rattle.activity_scoring.specs.Mean.{mean_of}
use Rattle.activity_scoring.specs.Score.{in_range, max_depth, all_observations, evidence_of, activity_of, state, state_with, state_of, score_with}
use Rattle.region_program.specs.Program.{Reading, Place, at_settings, at_loci, in_pile, pile_score}
use Rattle.region_program.specs.Reach.{Possible, setting, word, depth}

-- ---- a score

-- it is that of its locus, on contig 0
pub record ScoreOf (p : ℕ) (x : ActivityProfileState) : Type 0 where
  pub position : at x ≡ p
  pub contig : x.contig ≡ 0

state_of_lem : (p : ℕ) (words : List ℕ) → ScoreOf p (state_of 0 (record { 0 = p }) words defaults)
unfolding state_with
state_of_lem p words = go (eqb (length words) 0)
  where
    go : (b : Bool) → ScoreOf p (cond b (state 0 (record { 0 = p }) (record { probability = zero_f; original = zero_f }) Plain) (state 0 (record { 0 = p }) (activity_of words defaults) (evidence_of (mean_of defaults words))))
    go true = record { position = refl; contig = refl }
    go false = record { position = refl; contig = refl }

pub score_of_lem : (p : ℕ) (words : List ℕ) (x : ActivityProfileState) → pile_score p words ≡ answered x → ScoreOf p x
unfolding score_with
score_of_lem p words x = go (not (in_range (record { 0 = p }) defaults)) (ltb max_depth (length words)) (not (all_observations words))
  where
    go : (a b c : Bool) → cond a (refused 1) (cond b (refused 4) (cond c (refused 3) (answered (state_of 0 (record { 0 = p }) words defaults)))) ≡ answered x → ScoreOf p x
    go true b c e = absurd (let z : ◌≡◌ {A = ℕ} 0 1 = cc in omega arith)
    go false true c e = absurd (let z : ◌≡◌ {A = ℕ} 0 1 = cc in omega arith)
    go false false true e = absurd (let z : ◌≡◌ {A = ℕ} 0 1 = cc in omega arith)
    go false false false e = let z : state_of 0 (record { 0 = p }) words defaults ≡ x = cc in subst (ScoreOf p) z (state_of_lem p words)

pub score_refused : (p : ℕ) (words : List ℕ) (n : ℕ) → pile_score p words ≡ refused n → Possible n
unfolding score_with
score_refused p words n = go (not (in_range (record { 0 = p }) defaults)) (ltb max_depth (length words)) (not (all_observations words))
  where
    of : (m : ℕ) → Possible m → ◌≡◌ {A = Outcome ActivityProfileState} (refused m) (refused n) → Possible n
    of m q e = subst Possible (let z : m ≡ n = cc in z) q

    go : (a b c : Bool) → cond a (refused 1) (cond b (refused 4) (cond c (refused 3) (answered (state_of 0 (record { 0 = p }) words defaults)))) ≡ refused n → Possible n
    go true b c e = of 1 setting e
    go false true c e = of 4 depth e
    go false false true e = of 3 word e
    go false false false e = absurd (let z : ◌≡◌ {A = ℕ} 0 1 = cc in omega arith)

-- ---- past the first locus

pub past : (s : Reading) (x : Place) → s.place ≡ x → (x ≡ at_settings → ⊥) → s.place ≡ at_settings → ⊥
past s x e n f = n (sym e ∙ f)

pub loci_past : at_loci ≡ at_settings → ⊥
loci_past e = let z : ◌≡◌ {A = ℕ} 0 1 = cc in absurd (omega arith)

pub pile_past : (p i : ℕ) (words : List ℕ) → in_pile p i words ≡ at_settings → ⊥
pile_past p i words e = let z : ◌≡◌ {A = ℕ} 0 1 = cc in absurd (omega arith)
