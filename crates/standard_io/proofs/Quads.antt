-- The bytes of a block four by four: those of the word at k stand from byte 4 k on.
use Rattle.std.specs.Prelude.{◌≡◌, refl, List, [], ℕ, zero, suc, ◌+◌, ◌*◌, ◌<◌, get_or, drop}
use Rattle.std.specs.Simd.{first_chunks}
use Rattle.std.proofs.Common.{◌∙◌, arith, get_or-take, get_or-drop}
use Rattle.standard_io.specs.Words.{word_at}

byte : (l : List ℕ) (n k j m : ℕ) → k < n → j < 4 → m ≡ 4 * k + j → get_or (get_or (first_chunks 4 n l) k []) j 0 ≡ get_or l m 0
byte l zero k j m h below e = absurd (omega arith)
byte l (suc n) zero j m h below e = let first : m ≡ j = omega arith in rw first (get_or-take 4 l j 0 below)
byte l (suc n) (suc k) j m h below e =
    let next : m ≡ 4 + (4 * k + j) = omega arith in
    rw next (byte (drop 4 l) n k j (4 * k + j) (omega arith) below refl ∙ get_or-drop 4 l (4 * k + j) 0)

pub quad : (l : List ℕ) (n k : ℕ) (qs : List (List ℕ)) → k < n → qs ≡ first_chunks 4 n l → let q = get_or qs k [] in
    get_or q 0 0 + get_or q 1 0 * 256 + get_or q 2 0 * 65536 + get_or q 3 0 * 16777216 ≡ word_at l (4 * k)
quad l n k qs h e =
    let first = byte l n k 0 (4 * k) h (omega arith) (omega arith) in
    let second = byte l n k 1 (4 * k + 1) h (omega arith) refl in
    let third = byte l n k 2 (4 * k + 2) h (omega arith) refl in
    let fourth = byte l n k 3 (4 * k + 3) h (omega arith) refl in
    rw (e, first, second, third, fourth) (omega arith)
