-- Texts written one before the other. Assumes nothing.
use mathlib.Core.Path.{◌≡◌, refl, sym, ap, ◌∙◌}
use mathlib.Core.List.{List, [], ◌∷◌}
use Prim.Native.Nat.{ℕ, zero, suc, ◌+◌, ◌-◌, ◌/◌, ◌%◌, ◌≤◌, ◌<◌}
use native.Mathlib.Omega.{arith}
use native.Mathlib.Numerals.{sub-one}
use borrow.Author.Tests.{lt-ltb, le-ltb}
use lib.ListN.{length, take, drop, drop_of_length-le}
use lib.Seq.{take-take}
use Rattle.region_text.specs.Text.{digit, digits_onto}
use Rattle.region_text.specs.Writing.{Writes}

-- f of the text, then g of that
pub both : (k l : ℕ) (f g : List ℕ → List ℕ) (old : List ℕ) (at : ℕ) (mid : List ℕ) (m : ℕ) (new : List ℕ) (r : ℕ)
    → Writes k f old at mid m → Writes l g mid m new r → Writes (k + l) (λ t. g (f t)) old at new r
both k l f g old at mid m new r a b =
    record {
      text = b.text ∙ ap g a.text;
      front = b.front ∙ sym (take-take r m mid b.low) ∙ ap (take r) a.front ∙ take-take r m old b.low;
      same = b.same ∙ a.same;
      low = omega (arith, a.low, b.low);
      few = omega (arith, a.few, b.few);
    }

-- the same bytes said in another way
pub said : (k l : ℕ) (f g : List ℕ → List ℕ) (old : List ℕ) (at : ℕ) (new : List ℕ) (r : ℕ) → k ≤ l → drop r new ≡ g (drop at old) → Writes k f old at new r → Writes l g old at new r
said k l f g old at new r h e a = record { text = e; front = a.front; same = a.same; low = a.low; few = omega (arith, a.few) }

-- nothing stands after a buffer's end
pub nothing_after : (old : List ℕ) (at : ℕ) → length old ≤ at → drop at old ≡ []
nothing_after old at h = drop_of_length-le old h

-- ---- the digits of a number

pub digits_last : (k n : ℕ) (t : List ℕ) → 0 < k → n < 10 → digits_onto k n t ≡ digit n ∷ t
unfolding digits_onto
digits_last zero n t h e = absurd (omega arith)
digits_last (suc k) n t h e = rw (lt-ltb n 10 e)

pub digits-turn : (k n : ℕ) (t : List ℕ) → 0 < k → 10 ≤ n → digits_onto (k - 1) (n / 10) (digit (n % 10) ∷ t) ≡ digits_onto k n t
unfolding digits_onto
digits-turn zero n t h e = absurd (omega arith)
digits-turn (suc k) n t h e = rw (le-ltb n 10 e, sub-one)

pub digits_end : (k n : ℕ) (t : List ℕ) → k ≤ 0 → digits_onto k n t ≡ t
unfolding digits_onto
digits_end zero n t h = refl
digits_end (suc k) n t h = absurd (omega arith)
