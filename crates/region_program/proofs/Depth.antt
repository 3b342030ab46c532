-- Words past the first that is too many need not be kept: the pile's score is that of all its words. Assumes nothing.
use mathlib.Core.Path.{◌≡◌, refl, sym, ap, ◌∙◌}
use Rattle.std.specs.List.{fold}
use mathlib.Core.Bool.{Bool, true, false, cond, not}
use mathlib.Core.List.{List, [], ◌∷◌, ◌++◌, append-nil, append_assoc}
use Prim.Native.Nat.{ℕ, ◌<◌}
use native.Mathlib.Omega.{arith}
use borrow.Author.Tests.{lt-ltb, ltb-true}
use lib.Dec.{ltb}
use lib.ListN.{length, length-append}
use Rattle.genome.specs.Refusals.{refused}
use Rattle.genotype_likelihoods.specs.Settings.{defaults}
use Rattle.activity_scoring.specs.Score.{in_range, max_depth, score_with}
use Rattle.region_program.specs.Program.{pile_score, deepened}

too_deep : (p : ℕ) (words : List ℕ) → max_depth < length words → pile_score p words ≡ cond (not (in_range (record { 0 = p }) defaults)) (refused 1) (refused 4)
unfolding score_with
too_deep p words h = rw (lt-ltb max_depth (length words) h)

kept_score : (p : ℕ) (words more : List ℕ) → pile_score p (fold deepened words more) ≡ pile_score p (words ++ more)
kept_score p words [] = ap (pile_score p) (sym (append-nil words))
kept_score p words (w ∷ more) = go (ltb max_depth (length words)) refl (kept_score p words more) (kept_score p (words ++ (w ∷ [])) more)
  where
    go : (b : Bool) → ltb max_depth (length words) ≡ b → pile_score p (fold deepened words more) ≡ pile_score p (words ++ more) → pile_score p (fold deepened (words ++ (w ∷ [])) more) ≡ pile_score p ((words ++ (w ∷ [])) ++ more)
        → pile_score p (fold deepened (cond b words (words ++ (w ∷ []))) more) ≡ pile_score p (words ++ (w ∷ more))
    go true e f g =
        let deep = ltb-true max_depth (length words) e in
        f ∙ too_deep p (words ++ more) (rw length-append (omega arith)) ∙ sym (too_deep p (words ++ (w ∷ more)) (rw length-append (omega arith)))
    go false e f g = g ∙ ap (pile_score p) (append_assoc words (w ∷ []) more)

-- the words that a pile keeps of its observations have the score of all of them
pub pile_score_lem : (p : ℕ) (observations : List ℕ) → pile_score p (fold deepened [] observations) ≡ pile_score p observations
pile_score_lem p observations = kept_score p [] observations
