-- A loop that writes every element of a slice from the front: element k becomes f k of what it was.
use Rattle.std.specs.Prelude.{◌≡◌, ◌++◌, length, get_or, set, take, drop, replicate}
use Rattle.std.proofs.Math.Path.{refl, ap}
use mathlib.Core.List.{List, [], ◌∷◌}
use Prim.Native.Nat.{ℕ, zero, suc, ◌+◌, ◌<◌, ◌≤◌, zero-le, suc-le-suc}
use Rattle.std.proofs.Common.{not-suc-le-zero, le_of_suc-le-suc, le_refl, add-one}

module _ {A : Type 0} where
  -- the first n elements rewritten, the others as they are
  unfoldable pub up_to : (ℕ → A → A) → ℕ → List A → List A
  up_to f zero l = l
  up_to f (suc n) [] = []
  up_to f (suc n) (x ∷ l) = f 0 x ∷ up_to (λ k. f (suc k)) n l

  -- every element rewritten
  unfoldable pub each : (ℕ → A → A) → List A → List A
  each f l = up_to f (length l) l

  pub up_to_zero : (f : ℕ → A → A) (l : List A) → up_to f 0 l ≡ l
  unfolding up_to
  up_to_zero f l = refl

  pub length-up_to : (f : ℕ → A → A) (n : ℕ) (l : List A) → length (up_to f n l) ≡ length l
  unfolding up_to
  length-up_to f zero l = refl
  length-up_to f (suc n) [] = refl
  length-up_to f (suc n) (x ∷ l) = ap suc (length-up_to (λ k. f (suc k)) n l)

  pub length-each : (f : ℕ → A → A) (l : List A) → length (each f l) ≡ length l
  unfolding each
  length-each f l = length-up_to f (length l) l

  -- from n on nothing is written yet
  pub get_or-up_to-above : (f : ℕ → A → A) (n : ℕ) (l : List A) (k : ℕ) (d : A) → n ≤ k → get_or (up_to f n l) k d ≡ get_or l k d
  unfolding up_to
  get_or-up_to-above f zero l k d h = refl
  get_or-up_to-above f (suc n) [] k d h = refl
  get_or-up_to-above f (suc n) (x ∷ l) zero d h = absurd (not-suc-le-zero h)
  get_or-up_to-above f (suc n) (x ∷ l) (suc k) d h = get_or-up_to-above (λ j. f (suc j)) n l k d (le_of_suc-le-suc h)

  -- one turn of the loop, at suc n and at the code's n + 1
  up_to_suc : (f : ℕ → A → A) (n : ℕ) (l : List A) (d : A) → n < length l → set (up_to f n l) n (f n (get_or l n d)) ≡ up_to f (suc n) l
  unfolding up_to
  up_to_suc f n [] d h = absurd (not-suc-le-zero h)
  up_to_suc f zero (x ∷ l) d h = refl
  up_to_suc f (suc n) (x ∷ l) d h = ap (λ (t : List A). f 0 x ∷ t) (up_to_suc (λ k. f (suc k)) n l d (le_of_suc-le-suc h))

  pub up_to_more : (f : ℕ → A → A) (n : ℕ) (l : List A) (d : A) → n < length l → set (up_to f n l) n (f n (get_or l n d)) ≡ up_to f (n + 1) l
  up_to_more f n l d h = rw add-one (up_to_suc f n l d h)

  -- the loop's end
  pub up_to_all : (f : ℕ → A → A) (n : ℕ) (l : List A) → n ≡ length l → up_to f n l ≡ each f l
  unfolding each
  up_to_all f n l e = rw e

  pub get_or-each : (f : ℕ → A → A) (l : List A) (k : ℕ) (d : A) → k < length l → get_or (each f l) k d ≡ f k (get_or l k d)
  unfolding each up_to
  get_or-each f [] k d h = absurd (not-suc-le-zero h)
  get_or-each f (x ∷ l) zero d h = refl
  get_or-each f (x ∷ l) (suc k) d h = get_or-each (λ j. f (suc j)) l k d (le_of_suc-le-suc h)

  -- one turn of a loop that reads the element and writes it: l' is the slice as it is now
  pub up_to-turn : (f : ℕ → A → A) (n : ℕ) (l l' : List A) (d : A) → l' ≡ up_to f n l → n < length l → set l' n (f n (get_or l' n d)) ≡ up_to f (n + 1) l
  up_to-turn f n l l' d e h = rw (e, get_or-up_to-above f n l n d (le_refl n)) (up_to_more f n l d h)

  -- one turn that writes v, where v is what f says of the element as it was
  pub up_to_put : (f : ℕ → A → A) (n : ℕ) (l l' : List A) (d v : A) → l' ≡ up_to f n l → n < length l → v ≡ f n (get_or l n d) → set l' n v ≡ up_to f (n + 1) l
  up_to_put f n l l' d v e h q = rw (e, q) (up_to_more f n l d h)

  -- a rule that leaves the elements from n on as they are
  pub up_to-rest : (f : ℕ → A → A) (n : ℕ) (l : List A) → ((k : ℕ) (x : A) → n ≤ k → f k x ≡ x) → up_to f n l ≡ each f l
  unfolding each up_to
  up_to-rest f zero [] h = refl
  up_to-rest f zero (x ∷ l) h = rw (h 0 x (zero-le)) (ap (λ (t : List A). x ∷ t) (up_to-rest (λ k. f (suc k)) zero l (λ k y _. h (suc k) y (zero-le))))
  up_to-rest f (suc n) [] h = refl
  up_to-rest f (suc n) (x ∷ l) h = ap (λ (t : List A). f 0 x ∷ t) (up_to-rest (λ k. f (suc k)) n l (λ k y q. h (suc k) y (suc-le-suc q)))

  -- the first n elements rewritten, with what is behind them
  pub up_to_front : (f : ℕ → A → A) (n : ℕ) (l : List A) → up_to f n (take n l) ++ drop n l ≡ up_to f n l
  unfolding up_to
  up_to_front f zero l = refl
  up_to_front f (suc n) [] = refl
  up_to_front f (suc n) (x ∷ l) = ap (λ (t : List A). f 0 x ∷ t) (up_to_front (λ k. f (suc k)) n l)

  -- two rules that agree
  pub each_same : (f g : ℕ → A → A) (l : List A) → ((k : ℕ) (x : A) → f k x ≡ g k x) → each f l ≡ each g l
  unfolding each up_to
  each_same f g [] h = refl
  each_same f g (x ∷ l) h = rw (h 0 x) (ap (λ (t : List A). g 0 x ∷ t) (each_same (λ k. f (suc k)) (λ k. g (suc k)) l (λ k y. h (suc k) y)))

  -- one rule behind another
  pub each-each : (f g : ℕ → A → A) (l : List A) → each g (each f l) ≡ each (λ k x. g k (f k x)) l
  unfolding each up_to
  each-each f g [] = refl
  each-each f g (x ∷ l) = ap (λ (t : List A). g 0 (f 0 x) ∷ t) (each-each (λ k. f (suc k)) (λ k. g (suc k)) l)

  -- a part of an array of one value
  pub take-replicate : (n m : ℕ) (a : A) → n ≤ m → take n (replicate m a) ≡ replicate n a
  take-replicate zero m a h = refl
  take-replicate (suc n) zero a h = absurd (not-suc-le-zero h)
  take-replicate (suc n) (suc m) a h = ap (λ (t : List A). a ∷ t) (take-replicate n m a (le_of_suc-le-suc h))

  -- f 0, f 1 .. f (n - 1)
  unfoldable pub tabulate : (ℕ → A) → ℕ → List A
  tabulate f zero = []
  tabulate f (suc n) = f 0 ∷ tabulate (λ k. f (suc k)) n

  -- a rule that does not look at the element as it was
  abbrev pub fixed : (ℕ → A) → ℕ → A → A
  fixed f k x = f k

  pub each-fixed : (f : ℕ → A) (l : List A) → each (fixed f) l ≡ tabulate f (length l)
  unfolding each up_to tabulate
  each-fixed f [] = refl
  each-fixed f (x ∷ l) = ap (λ (t : List A). f 0 ∷ t) (each-fixed (λ k. f (suc k)) l)

  pub each_constant : (a : A) (l : List A) → each (fixed (λ _. a)) l ≡ replicate (length l) a
  unfolding each up_to
  each_constant a [] = refl
  each_constant a (x ∷ l) = ap (λ (t : List A). a ∷ t) (each_constant a l)

  pub length-tabulate : (f : ℕ → A) (n : ℕ) → length (tabulate f n) ≡ n
  unfolding tabulate
  length-tabulate f zero = refl
  length-tabulate f (suc n) = ap suc (length-tabulate (λ k. f (suc k)) n)

  pub get_or-tabulate : (f : ℕ → A) (n k : ℕ) (d : A) → k < n → get_or (tabulate f n) k d ≡ f k
  unfolding tabulate
  get_or-tabulate f zero k d h = absurd (not-suc-le-zero h)
  get_or-tabulate f (suc n) zero d h = refl
  get_or-tabulate f (suc n) (suc k) d h = get_or-tabulate (λ j. f (suc j)) n k d (le_of_suc-le-suc h)

  -- a rule that leaves the first n elements as they are
  pub up_to-kept : (f : ℕ → A → A) (n : ℕ) (l : List A) → ((k : ℕ) (x : A) → k < n → f k x ≡ x) → up_to f n l ≡ l
  unfolding up_to
  up_to-kept f zero l h = refl
  up_to-kept f (suc n) [] h = refl
  up_to-kept f (suc n) (x ∷ l) h = rw (h 0 x (suc-le-suc zero-le)) (ap (λ (t : List A). x ∷ t) (up_to-kept (λ k. f (suc k)) n l (λ k y q. h (suc k) y (suc-le-suc q))))

  -- the first n elements by f, and then the others by a rule that leaves those and does as f from there on
  pub each_after : (f g : ℕ → A → A) (n : ℕ) (l : List A) → ((k : ℕ) (x : A) → k < n → g k x ≡ x) → ((k : ℕ) (x : A) → n ≤ k → k < length l → g k x ≡ f k x)
      → each g (up_to f n l) ≡ each f l
  unfolding each up_to
  each_after f g zero [] h j = refl
  each_after f g zero (x ∷ l) h j =
      rw (j 0 x zero-le (suc-le-suc zero-le))
      (ap (λ (t : List A). f 0 x ∷ t) (each_after (λ k. f (suc k)) (λ k. g (suc k)) zero l (λ k y q. absurd (not-suc-le-zero q)) (λ k y q r. j (suc k) y zero-le (suc-le-suc r))))
  each_after f g (suc n) [] h j = refl
  each_after f g (suc n) (x ∷ l) h j =
      rw (h 0 (f 0 x) (suc-le-suc zero-le))
      (ap (λ (t : List A). f 0 x ∷ t) (each_after (λ k. f (suc k)) (λ k. g (suc k)) n l (λ k y q. h (suc k) y (suc-le-suc q)) (λ k y q r. j (suc k) y (suc-le-suc q) (suc-le-suc r))))
