-- 01, The region program and Scoring: the kinds and fields of a stream's words. A field is said by the number that its lowest bit stands for.
use Rattle.std.specs.Prelude.{Bool, ℕ, ◌/◌, ◌%◌, ◌^◌, eqb}
use Rattle.pileup_words.specs.declared.PileupObservation.{PileupObservation}

-- bits 31-30
abbrev pub KIND : ℕ
KIND = 2 ^ 30

abbrev pub kind_of : ℕ → ℕ
kind_of w = w / KIND

-- the bits below the kind
abbrev pub bits_of : ℕ → ℕ
bits_of w = w % KIND

-- ---- observations

-- "bits 31-30 kind 1, 29-22 quality, 21 deletion, 20 alt, 19 next to soft clip, 18-0 clip count"
abbrev pub QUALITY : ℕ
QUALITY = 2 ^ 22

abbrev pub DELETION : ℕ
DELETION = 2 ^ 21

abbrev pub ALTERNATE : ℕ
ALTERNATE = 2 ^ 20

abbrev pub NEXT_TO_CLIP : ℕ
NEXT_TO_CLIP = 2 ^ 19

abbrev pub is_observation : ℕ → Bool
is_observation w = eqb (kind_of w) 1

abbrev pub observation : ℕ → PileupObservation
observation w = record {
  qual = w / QUALITY % 256;
  is_deletion = eqb (w / DELETION % 2) 1;
  is_alt = eqb (w / ALTERNATE % 2) 1;
  is_next_to_soft_clip = eqb (w / NEXT_TO_CLIP % 2) 1;
  read_hq_soft_clip_base_count = w % NEXT_TO_CLIP;
}

-- ---- settings

-- "bits 29-24 field, 23-0 value"
abbrev pub FIELD : ℕ
FIELD = 2 ^ 24

abbrev pub field_of : ℕ → ℕ
field_of w = bits_of w / FIELD

abbrev pub value_of : ℕ → ℕ
value_of w = w % FIELD
