-- 01, The region program: the text of a line, in ASCII.
use Rattle.std.specs.Prelude.{Bool, cond, List, [], ◌∷◌, ℕ, zero, suc, ◌+◌, ◌/◌, ◌%◌, ltb}
use Rattle.activity_profile.specs.declared.ActivityProfileRegion.{ActivityProfileRegion}

abbrev pub blank : ℕ
blank = 32

abbrev pub line_feed : ℕ
line_feed = 10

-- the digit d, as text: 0 is 48 in ASCII
abbrev pub digit_zero : ℕ
digit_zero = 48

abbrev pub digit : ℕ → ℕ
digit d = digit_zero + d

-- the last k digits of n at most, and no zero in front, before the text t
unfoldable pub digits_onto : ℕ → ℕ → List ℕ → List ℕ
digits_onto zero n t = t
digits_onto (suc k) n t =
    let more = digits_onto k (n / 10) (digit (n % 10) ∷ t) in
    cond (ltb n 10) (digit n ∷ t) more

-- "in decimal": n before the text t; 20 digits hold every 64-bit number (proofs/Decimal)
unfoldable pub decimal : ℕ → List ℕ → List ℕ
decimal n t = digits_onto 20 n t

-- "1 active or 0"
abbrev pub flag : Bool → ℕ
flag b = cond b 1 0

-- a number and the byte after it, before the text t
abbrev pub number_onto : ℕ → ℕ → List ℕ → List ℕ
number_onto n then t = decimal n (then ∷ t)

-- "A line is start, end, 1 active or 0, padded start, padded end, in decimal with single blanks"
abbrev pub line_onto : ActivityProfileRegion → List ℕ → List ℕ
line_onto r t =
    number_onto r.start blank
    (number_onto r.end blank
    (number_onto (flag r.is_active) blank
    (number_onto r.padded_start blank
    (number_onto r.padded_end line_feed t))))

unfoldable pub line_text : ActivityProfileRegion → List ℕ
line_text r = line_onto r []

-- the letter at a place of the alphabet, a being 0, as text: a is 97 in ASCII
abbrev pub letter : ℕ → ℕ
letter n = 97 + n

-- r e f u s e d, and a blank
abbrev pub refused_word : List ℕ → List ℕ
refused_word t = letter 17 ∷ letter 4 ∷ letter 5 ∷ letter 20 ∷ letter 18 ∷ letter 4 ∷ letter 3 ∷ blank ∷ t

-- "A refusal prints `refused`, number and word index"
abbrev pub refusal_onto : ℕ → ℕ → List ℕ → List ℕ
refusal_onto n i t = refused_word (number_onto n blank (number_onto i line_feed t))

unfoldable pub refusal_text : ℕ → ℕ → List ℕ
refusal_text n i = refusal_onto n i []
