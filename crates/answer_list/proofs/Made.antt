-- What `std::array::from_fn` makes, where each call answers a rule of its index and leaves what the closure holds as it was.
use Rattle.std.specs.Prelude.{◌≡◌, List, ℕ, zero, suc, ◌+◌, ◌<◌, get_or}
use Rattle.std.specs.Array.{IsFromFnResultFrom, IsFromFnResult}
use Rattle.std.proofs.Common.{sym, subst, ◌∙◌, arith, ext_get_or}
use denote.Param.Members.{Mut, Called}
use Rattle.lists.specs.Each.{tabulate, length-tabulate, get_or-tabulate}

module _ {F A : Type 0} {g : Mut F (ℕ × Unit {0}) A} {p : F} (f : ℕ → A)
    (answers : (i : ℕ) (x : A) (q : F) → Called g p (i, tt) x q → (x ≡ f i) × (q ≡ p)) where
  -- the element at m, which one of the n calls from index i on made
  element : (xs : List A) (i n k m : ℕ) (d : A) → IsFromFnResultFrom g p xs i n → k < n → m ≡ i + k → get_or xs m d ≡ f m
  element xs i zero k m d none h e = absurd (omega arith)
  element xs i (suc n) zero m d (q, x, at, call, rest) h e = let same : m ≡ i = omega arith in rw same (at.1 d ∙ (answers i x q call).0)
  element xs i (suc n) (suc k) m d (q, x, at, call, rest) h e =
      let rest' = subst (λ (r : F). IsFromFnResultFrom g r xs (i + 1) n) (answers i x q call).1 rest in
      element xs (i + 1) n k m d rest' (omega arith) (omega arith)

  pub made : {xs : List A} {n : ℕ} → IsFromFnResult g p xs n → xs ≡ tabulate f n
  made {xs} {n} m =
      let at = λ (k : ℕ) (b : k < n). element xs 0 n k k (f 0) m.each b (omega arith) ∙ sym (get_or-tabulate f n k (f 0) b) in
      ext_get_or (f 0) _ _ (m.long ∙ sym (length-tabulate f n)) (λ k h. at k (rw m.long at h))
