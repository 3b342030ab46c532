-- `lacks_quality` meets its contract: one compare does for both tests, since one more than 255 is 0 as a byte.
use Rattle.std.proofs.Common.{◌≡◌, ℕ, suc, ◌+◌, ◌%◌, ◌≤◌, Bool, true, false, ◌||◌, eqb, ltb, leb, refl, arith, eqb-true, le-leb}
use borrow.Author.Tests.{eqb-false}
use Rattle.genome.specs.Ranges.{missing_quality}
use Rattle.genotype_likelihoods.specs.Observation.{lacks_quality}
use Rattle.genotype_likelihoods.proofs.observation.lacks_quality.Goals as goal

as_byte : (q m : ℕ) → q ≤ 255 → leb ((q + 1) % 256) m ≡ (ltb q m || eqb q missing_quality)
as_byte q m h = go (eqb q missing_quality) (eqb-true q missing_quality) (eqb-false q missing_quality)
  where
    or-true : (b : Bool) → true ≡ (b || true)
    or-true true = refl
    or-true false = refl

    or-false : (b : Bool) → b ≡ (b || false)
    or-false true = refl
    or-false false = refl

    go : (b : Bool) → (b ≡ true → q ≡ missing_quality) → (b ≡ false → q ≡ missing_quality → ⊥) → leb ((q + 1) % 256) m ≡ (ltb q m || b)
    go true f g =
        let none : (q + 1) % 256 ≡ 0 = omega (arith, f refl) in
        rw (none, le-leb 0 m (omega arith)) (or-true (ltb q m))
    go false f g =
        let other : q ≡ missing_quality → ⊥ = g refl in
        let more : (q + 1) % 256 ≡ suc q = omega (arith, other) in
        rw more (or-false (ltb q m))

pub returns : goal.returns
unfolding lacks_quality
returns c =
    let a = c.args in
    rw (c.from.ensures, c.from-2.ensures) (as_byte a.qual a.params.min_base_quality_score (omega arith))
