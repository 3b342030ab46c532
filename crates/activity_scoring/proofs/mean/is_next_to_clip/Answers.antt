-- `is_next_to_clip` meets its contract: the bit of the alternate stands right above that of the clip.
-- the lowest two bits of n
use Rattle.std.proofs.Common.{◌≡◌, ℕ, ◌/◌, ◌%◌, Bool, true, false, ◌&&◌, eqb, refl, ap, ◌∙◌, arith, eq-eqb, ne_eqb, eqb-true}
use native.Mathlib.Nat.{div-div-eq-div-mul}
use borrow.Author.Tests.{eqb-false}
use Rattle.pileup_words.specs.Words.{NEXT_TO_CLIP}
use Rattle.activity_scoring.proofs.mean.is_next_to_clip.Goals as goal

both : (n : ℕ) → eqb (n % 4) 3 ≡ (eqb (n / 2 % 2) 1 && eqb (n % 2) 1)
both n = go (eqb (n / 2 % 2) 1) (eqb (n % 2) 1) (eqb-true (n / 2 % 2) 1) (eqb-false (n / 2 % 2) 1) (eqb-true (n % 2) 1) (eqb-false (n % 2) 1)
  where
    go : (a b : Bool) → (a ≡ true → n / 2 % 2 ≡ 1) → (a ≡ false → n / 2 % 2 ≡ 1 → ⊥) → (b ≡ true → n % 2 ≡ 1) → (b ≡ false → n % 2 ≡ 1 → ⊥) → eqb (n % 4) 3 ≡ (a && b)
    go true true f f' g g' = eq-eqb (n % 4) 3 (omega (arith, f refl, g refl))
    go true false f f' g g' = ne_eqb (n % 4) 3 (λ e. g' refl (omega (arith, e)))
    go false b f f' g g' = ne_eqb (n % 4) 3 (λ e. f' refl (omega (arith, e)))

pub returns : goal.returns
returns c =
    let w = c.args.w in
    both (w / NEXT_TO_CLIP) ∙ ap (λ (n : ℕ). eqb (n % 2) 1 && eqb (w / NEXT_TO_CLIP % 2) 1) (div-div-eq-div-mul w NEXT_TO_CLIP 2)
