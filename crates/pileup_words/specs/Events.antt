-- 01, The region program: the event that each word is, and those of a whole input.
use Rattle.std.specs.Prelude.{Bool, cond, List, [], ◌∷◌, ℕ, eqb}
use Rattle.pileup_words.specs.declared.StreamEvent.{StreamEvent}
use Rattle.pileup_words.specs.declared.StreamEvent.TheVariants.{Locus, Observation, Pop, Setting, Remainder, End}
use Rattle.pileup_words.specs.Words.{kind_of, bits_of, field_of, value_of}

-- "Kind 0: locus, position below. Kind 1: observation of that locus. Kind 2: pop .. value. Kind 3 ..: bits 29-24 field, 23-0 value"
unfoldable pub event_of : ℕ → StreamEvent
event_of w =
    cond (eqb (kind_of w) 0) (Locus (bits_of w))
    (cond (eqb (kind_of w) 1) (Observation w)
    (cond (eqb (kind_of w) 2) (Pop (bits_of w))
    (Setting (field_of w) (value_of w))))

-- what comes behind the last word: "a remainder counts as a word"
abbrev pub last_event : Bool → StreamEvent
last_event remainder = cond remainder Remainder End

-- the events of an input of whole words and, where `remainder` says so, of bytes left over
unfoldable pub events_of : List ℕ → Bool → List StreamEvent
events_of [] remainder = last_event remainder ∷ []
events_of (w ∷ words) remainder = event_of w ∷ events_of words remainder
