-- What a `map_err` tells of the result that it was called on, from what its clause `cases` says of the closure.
use mathlib.Core.Bool.{true≢false}
use Rattle.std.proofs.Common.{◌≡◌, sym, refl, ap, Result, Ok, Err}
use Rattle.std.specs.Result.{MatchResult, is_ok}

-- the value, and x for an error
ok_or : {T E : Type 0} → T → Result T E → T
ok_or x (Ok y) = y
ok_or x (Err e) = x

module _ {T E : Type 0} where
  -- where a value comes, it was there
  pub value_was : (D : Type 0) (Q : E → Type 0) (r : Result T E) (x : T) → MatchResult r (λ y. ◌≡◌ {A = Result T D} (Ok x) (Ok y)) Q
      → ((e : E) → Q e → ⊥) → r ≡ Ok x
  unfolding ok_or
  value_was D Q (Ok y) x h n = ap (λ v. Ok v) (sym (ap (ok_or x) h))
  value_was D Q (Err e) x h n = absurd (n e h)

  -- where an error comes, it is made of the one that was there
  pub error_was : {D : Type 0} (of : E → D) (Q : E → Type 0) (r : Result T E) (d : D) → MatchResult r (λ y. ◌≡◌ {A = Result T D} (Err d) (Ok y)) Q
      → ((e : E) → Q e → d ≡ of e) → (e : E) × (r ≡ Err e) × d ≡ of e
  error_was of Q (Ok y) d h n = absurd (true≢false (sym (ap is_ok h)))
  error_was of Q (Err e) d h n = (e, refl, n e h)
