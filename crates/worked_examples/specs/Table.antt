-- P1 to P15 of document 01, and examples of document 02, against the definitions. Assumes nothing.
use Rattle.std.specs.Prelude.{◌≡◌, refl, Bool, true, false, cond, List, [], ◌∷◌, ◌++◌, map, ℕ, ◌+◌, ◌*◌, length, get_or, replicate, Float}
use Rattle.std.specs.List.{fold}
use Rattle.std.proofs.Common.{arith}
use Rattle.std.specs.Float.{binary64, nan}
use Rattle.std.specs.Float.Ieee.{neg, round, of_bits, to_bits, of_int, to_unsigned, add, sub, mul, div, lt, le, ne}
use Rattle.lists.specs.Each.{each, up_to}
use Rattle.lists.specs.Loops.{along, down, first_at}
use Rattle.lists.specs.Without.{without}
use Rattle.activity_profile.specs.declared.BandPassActivityProfile.{BandPassActivityProfile}
use Rattle.activity_profile.specs.declared.ActivityProfileState.{ActivityProfileState}
use Rattle.activity_profile.specs.declared.ActivityEvidence.{ActivityEvidence}
use Rattle.activity_profile.specs.declared.ActivityEvidence.TheVariants.{Plain, HighQualitySoftClips}
use Rattle.activity_profile.specs.Profile.{settings_in_range, placed, broken}
use Rattle.activity_profile.specs.Add.{super_states, first_locus, highest, needed, add_verdict, added_profile, AddAnswer, refused_add, accepted_add, add_answer_by, add_answer, add_cells_by, add_cells}
use Rattle.activity_profile.specs.Pop.{PopAnswer, refused_pop, empty_pop, held_pop, region_pop, pop_answer, pop_answer_by, pop_cells_by, pop_cells, pop_verdict, turn, kept, qualifies, beats, replaces, better, best_cut_site, or_most, size_of, pop_size, region_with, region_of, rest}
use Rattle.activity_profile.specs.Peak.{leads, peak_index}
use Rattle.activity_profile.specs.Run.{Lent, step, after}
use Rattle.activity_profile.specs.Cells.{cells_needed}
use Rattle.activity_profile.specs.Maker.{Sizes, plain_at, zeros_from}
use Rattle.genome.specs.declared.GenomePosition.{GenomePosition}
use Rattle.genome.specs.Refusals.{Outcome, refused, answered}
use Rattle.genotype_likelihoods.specs.declared.HaplotypeCallerActivityScoringParams.{HaplotypeCallerActivityScoringParams}
use Rattle.genotype_likelihoods.specs.Settings.{defaults}
use Rattle.genotype_likelihoods.specs.Observation.{effective_qual, lacks_quality, skips, qual_of, skipped}
use Rattle.genotype_likelihoods.specs.Likelihoods.{counted}
use Rattle.genotype_posterior.specs.Phred.{min_f, pl_of}
use Rattle.activity_scoring.specs.Mean.{with_word, mean_of}
use Rattle.activity_scoring.specs.declared.Activity.{Activity}
use Rattle.activity_scoring.specs.Score.{evidence_of, state_with}
use Rattle.multi_sample_scoring.specs.Sets.{piles, total, piles_left, clamped, any_non_ref, stratified_mean, set_state_with, set_score_with}
use Rattle.hq_soft_clip.specs.SoftClips.{clip_count, count_high, by_operation}
use Rattle.worked_examples.specs.Rows.{Row, same, all_right}

-- n tenths: the double nearest to that
tenths : ℕ → Float
unfolding round
tenths n = round binary64 false n 10

-- "Threshold 0.05, .., L 100"
pub profile : ℕ → ℕ → ℕ → ℕ → ℕ → BandPassActivityProfile
unfolding round
profile distance filter start last count = record {
  contig = 1;
  contig_len = 100;
  max_prob_propagation_distance = distance;
  active_prob_threshold = round binary64 false 5 100;
  filter_size = filter;
  region_start = start;
  last_input_pos = last;
  count = count;
}

-- an answer as numbers: 0 and the refusal's number; 1, empty; 2, held; 3, start and end of a region
told : PopAnswer → List ℕ
told (refused_pop n p) = 0 ∷ n ∷ []
told (empty_pop p) = 1 ∷ []
told (held_pop p) = 2 ∷ []
told (region_pop r p) = 3 ∷ r.start ∷ r.end ∷ []

-- 0 and the refusal's number, or 1 and the number answered
numbered : Outcome ℕ → List ℕ
numbered (refused n) = 0 ∷ n ∷ []
numbered (answered n) = 1 ∷ n ∷ []

-- 0 and the refusal's number, or 1 and the count after the add
count_told : AddAnswer → List ℕ
count_told (refused_add n p) = 0 ∷ n ∷ []
count_told (accepted_add p) = 1 ∷ p.count ∷ []

-- zeros at 1 to 3, each popped unforced with max 2, and 1.0 at 4, with n cells; distance 1, F 1
one_behind_zeros : ℕ → List ℕ
unfolding profile
one_behind_zeros n =
    let kernel = replicate 3 (tenths 3) in
    let sizes : Sizes = record { extension = 0; least = 1; floor = omega arith } in
    let fresh : Lent = record { profile = profile 1 1 0 0 0; cells = replicate n (tenths 7) } in
    let l = after fresh (zeros_from 1 kernel 2 sizes 1 3) in
    count_told (add_answer l.profile l.cells kernel (plain_at 1 4 (tenths 10)))

-- cells in tenths; "max 4, min 2, distance 1, F 0, .., start 1, last input at the last cell"
pop_of : List ℕ → ℕ → Bool → List ℕ
unfolding told pop_answer tenths profile
pop_of cells least forced = told (pop_answer (profile 1 0 1 (length cells) (length cells)) (map tenths cells) 0 least 4 forced)

-- 02, U2, of a region that was popped: its end, the position of its peak and the bits of the peak; of another answer nothing
peak_told : PopAnswer → List ℕ
peak_told (refused_pop n p) = []
peak_told (empty_pop p) = []
peak_told (held_pop p) = []
peak_told (region_pop r p) = r.end ∷ r.peak_pos ∷ to_bits binary64 r.peak ∷ []

-- the peak of these cells, popped forced by a record as above
peak_of : List Float → List ℕ
unfolding peak_told pop_answer profile
peak_of cells = peak_told (pop_answer (profile 1 0 1 (length cells) (length cells)) cells 0 2 4 true)

-- n hundredths, on the side that is not active up to 5
hundredths : ℕ → Float
unfolding round
hundredths n = round binary64 false n 100

-- an observation word: quality, deletion, alt, next to soft clip, clip count
word : ℕ → ℕ → ℕ → ℕ → ℕ → ℕ
word qual deletion alt near clips = 0x4000_0000 + qual * 0x40_0000 + deletion * 0x20_0000 + alt * 0x10_0000 + near * 0x8_0000 + clips

-- the Rust's settings with another minimum, with the flow model or without
minimum : ℕ → Bool → HaplotypeCallerActivityScoringParams
minimum least flow = record {
  min_base_quality_score = least;
  sample_ploidy = defaults.sample_ploidy;
  snp_heterozygosity = defaults.snp_heterozygosity;
  heterozygosity_standard_deviation = defaults.heterozygosity_standard_deviation;
  ref_model_deletion_qual = defaults.ref_model_deletion_qual;
  active_region_alt_multiplier = defaults.active_region_alt_multiplier;
  flow_based_reference_model = flow;
}

-- 1 for a word that is skipped
skipped_of : HaplotypeCallerActivityScoringParams → ℕ → ℕ
skipped_of s w = cond (skipped s w) 1 0

-- 0, plain; 1 and the clip count
evidence_told : ActivityEvidence → List ℕ
evidence_told Plain = 0 ∷ []
evidence_told (HighQualitySoftClips n) = 1 ∷ n ∷ []

-- of alt bases next to a clip with these counts
clips_of : List ℕ → List ℕ
unfolding evidence_told evidence_of mean_of word
clips_of counts = evidence_told (evidence_of (mean_of defaults (map (word 30 0 1 1) counts)))

-- two bases of an operation and 1S, over qualities of 40, 40 and 20: the clip has the 20 where the operation consumes the query, and a 40 where it does not
then_clip : ℕ → List ℕ
unfolding numbered clip_count
then_clip op = numbered (clip_count ((2 * 16 + op) ∷ (1 * 16 + 4) ∷ []) (40 ∷ 40 ∷ 20 ∷ []))

-- 0 and the refusal's number; or 1, the bits of both probabilities, and the evidence
score_told : Outcome ActivityProfileState → List ℕ
unfolding evidence_told
score_told (refused n) = 0 ∷ n ∷ []
score_told (answered x) = 1 ∷ to_bits binary64 x.active_prob ∷ to_bits binary64 x.original_active_prob ∷ evidence_told x.evidence

-- a set at position 9, in which a pile of n words has a probability of n quarters alone and an original probability of 1.5
set_of : HaplotypeCallerActivityScoringParams → List ℕ → List ℕ → List ℕ
unfolding score_told round
set_of s words lengths =
    let p : GenomePosition = record { 0 = 9 } in
    let quarters : List ℕ → List Float = λ pile. round binary64 false (length pile) 4 ∷ [] in
    let activity : List Float → Activity = λ gl. record { probability = get_or gl 0 nan; original = tenths 15 } in
    score_told (set_score_with (set_state_with quarters activity 1 p s (piles_left words lengths)) p words lengths s)

-- alt bases next to a clip with these counts
near_clips : List ℕ → List ℕ
unfolding word
near_clips = map (word 30 0 1 1)

pub table : List Row
unfolding set_of score_told near_clips pop_of told peak_told peak_of pop_answer tenths hundredths profile super_states kept numbered clip_count then_clip word minimum skipped_of clips_of evidence_told evidence_of mean_of pl_of
table =
    record { number = 1; given = pop_of (9 ∷ 5 ∷ 2 ∷ 5 ∷ 9 ∷ []) 2 false; wanted = 3 ∷ 1 ∷ 3 ∷ [] }
    ∷ record { number = 2; given = pop_of (9 ∷ 2 ∷ 5 ∷ 2 ∷ 9 ∷ []) 2 false; wanted = 3 ∷ 1 ∷ 4 ∷ [] }
    ∷ record { number = 3; given = pop_of (2 ∷ 3 ∷ 4 ∷ 5 ∷ 6 ∷ []) 2 false; wanted = 3 ∷ 1 ∷ 4 ∷ [] }
    ∷ record { number = 4; given = pop_of (9 ∷ 3 ∷ 3 ∷ 9 ∷ 9 ∷ []) 2 false; wanted = 3 ∷ 1 ∷ 2 ∷ [] }
    ∷ record { number = 5; given = pop_of (9 ∷ 5 ∷ 2 ∷ 5 ∷ 9 ∷ []) 9 false; wanted = 3 ∷ 1 ∷ 4 ∷ [] }
    ∷ record { number = 6; given = pop_of (9 ∷ 5 ∷ 2 ∷ 1 ∷ []) 2 true; wanted = 3 ∷ 1 ∷ 4 ∷ [] }
    ∷ record { number = 7; given = told (pop_answer (profile 2 0 1 5 5) (map tenths (9 ∷ 5 ∷ 2 ∷ 5 ∷ 9 ∷ [])) 0 2 4 false); wanted = 2 ∷ [] }
    ∷ record { number = 7; given = told (pop_answer (profile 2 0 1 6 6) (map tenths (9 ∷ 5 ∷ 2 ∷ 5 ∷ 9 ∷ 9 ∷ [])) 0 2 4 false); wanted = 3 ∷ 1 ∷ 3 ∷ [] }
    ∷ record { number = 8; given = kept (profile 1 2 10 12 5) true ∷ []; wanted = 3 ∷ [] }
    ∷ record { number = 9; given = told (pop_answer (profile 0 2 13 12 2) (map tenths (9 ∷ 5 ∷ [])) 0 2 4 true); wanted = 3 ∷ 13 ∷ 13 ∷ [] }
    ∷ record {
      number = 10;
      given = super_states (record {
        contig = 1;
        contig_len = 10;
        max_prob_propagation_distance = 1;
        active_prob_threshold = tenths 5;
        filter_size = 1;
        region_start = 0;
        last_input_pos = 0;
        count = 0;
      }) 1 (HighQualitySoftClips 3) ∷ [];
      wanted = 3 ∷ [];
    }
    ∷ record { number = 11; given = skipped_of (minimum 10 false) (word 10 0 1 0 0) ∷ skipped_of (minimum 10 false) (word 9 0 1 0 0) ∷ []; wanted = 0 ∷ 1 ∷ [] }
    ∷ record { number = 12; given = qual_of defaults (word 60 1 1 0 0) ∷ qual_of defaults (word 60 0 1 0 0) ∷ []; wanted = 30 ∷ 60 ∷ [] }
    ∷ record {
      number = 12;
      given = skipped_of (minimum 31 true) (word 60 1 1 0 0) ∷ skipped_of (minimum 31 false) (word 60 1 1 0 0) ∷ skipped_of (minimum 30 true) (word 60 1 1 0 0) ∷ [];
      wanted = 1 ∷ 0 ∷ 0 ∷ [];
    }
    ∷ record { number = 13; given = clips_of (6 ∷ 8 ∷ []); wanted = 1 ∷ 7 ∷ [] }
    ∷ record { number = 13; given = clips_of (6 ∷ []); wanted = 0 ∷ [] }
    ∷ record { number = 14; given = pl_of (tenths 25) ∷ []; wanted = 3 ∷ [] }
    ∷ record { number = 15; given = numbered (clip_count ((3 * 16 + 4) ∷ (2 * 16 + 0) ∷ []) (28 ∷ 29 ∷ 30 ∷ 40 ∷ 40 ∷ [])); wanted = 1 ∷ 2 ∷ [] }
    -- 200 + n is an example of document 02's Un. U2: of equals the first; a NaN in front leads, and one further on does not; 0.0 does not overtake -0.0; the cut and the
    -- trim leave out what is higher
    ∷ record { number = 202; given = peak_of (map tenths (5 ∷ 9 ∷ 9 ∷ 7 ∷ [])); wanted = 4 ∷ 2 ∷ to_bits binary64 (tenths 9) ∷ [] }
    ∷ record { number = 202; given = peak_of (nan ∷ map hundredths (1 ∷ 4 ∷ [])); wanted = 3 ∷ 1 ∷ to_bits binary64 nan ∷ [] }
    ∷ record { number = 202; given = peak_of (hundredths 1 ∷ nan ∷ hundredths 4 ∷ []); wanted = 3 ∷ 3 ∷ to_bits binary64 (hundredths 4) ∷ [] }
    ∷ record { number = 202; given = peak_of (neg (tenths 0) ∷ tenths 0 ∷ []); wanted = 2 ∷ 1 ∷ 0x8000_0000_0000_0000 ∷ [] }
    ∷ record { number = 202; given = peak_of (tenths 6 ∷ []); wanted = 1 ∷ 1 ∷ to_bits binary64 (tenths 6) ∷ [] }
    ∷ record { number = 202; given = peak_of (map tenths (5 ∷ 3 ∷ 2 ∷ 9 ∷ 9 ∷ [])); wanted = 3 ∷ 1 ∷ to_bits binary64 (tenths 5) ∷ [] }
    ∷ record {
      number = 202;
      given = peak_told (pop_answer (profile 1 2 10 12 5) (map tenths (2 ∷ 4 ∷ 3 ∷ 8 ∷ 9 ∷ [])) 0 2 4 true);
      wanted = 12 ∷ 11 ∷ to_bits binary64 (tenths 4) ∷ [];
    }
    -- U3: a base of quality 255 is skipped at every minimum, with the flow model too, and one of 254 at none; a deletion of 255 has deletion quality; neither the count of
    -- reads, the clip mean nor the soft-clip count has it
    ∷ record {
      number = 203;
      given = map (λ s. skipped_of s (word 255 0 1 0 0)) (minimum 1 false ∷ minimum 1 true ∷ minimum 254 false ∷ minimum 254 true ∷ []);
      wanted = 1 ∷ 1 ∷ 1 ∷ 1 ∷ [];
    }
    ∷ record { number = 203; given = skipped_of (minimum 254 false) (word 254 0 1 0 0) ∷ skipped_of (minimum 254 true) (word 254 0 1 0 0) ∷ []; wanted = 0 ∷ 0 ∷ [] }
    ∷ record {
      number = 203;
      given = qual_of defaults (word 255 1 1 0 0) ∷ map (λ s. skipped_of s (word 255 1 1 0 0)) (minimum 30 true ∷ minimum 31 true ∷ minimum 31 false ∷ []);
      wanted = 30 ∷ 0 ∷ 1 ∷ 0 ∷ [];
    }
    ∷ record { number = 203; given = fold (counted defaults) 0 (word 255 0 1 0 0 ∷ word 30 0 1 0 0 ∷ word 255 1 1 0 0 ∷ word 255 0 0 0 0 ∷ []) ∷ []; wanted = 2 ∷ [] }
    ∷ record { number = 203; given = evidence_told (evidence_of (mean_of defaults (word 255 0 1 1 40 ∷ word 30 0 1 1 6 ∷ word 255 0 1 1 0 ∷ word 30 0 1 1 8 ∷ []))); wanted = 1 ∷ 7 ∷ [] }
    ∷ record { number = 203; given = numbered (clip_count ((3 * 16 + 4) ∷ (2 * 16 + 0) ∷ (2 * 16 + 4) ∷ []) (255 ∷ 29 ∷ 254 ∷ 40 ∷ 40 ∷ 40 ∷ 255 ∷ [])); wanted = 1 ∷ 3 ∷ [] }
    -- U4: M I D N S H P = X, and past the table. S counts both of its bases
    ∷ record { number = 204; given = then_clip 0; wanted = 1 ∷ 0 ∷ [] }
    ∷ record { number = 204; given = then_clip 1; wanted = 1 ∷ 0 ∷ [] }
    ∷ record { number = 204; given = then_clip 2; wanted = 1 ∷ 1 ∷ [] }
    ∷ record { number = 204; given = then_clip 3; wanted = 1 ∷ 1 ∷ [] }
    ∷ record { number = 204; given = then_clip 4; wanted = 1 ∷ 2 ∷ [] }
    ∷ record { number = 204; given = then_clip 5; wanted = 1 ∷ 1 ∷ [] }
    ∷ record { number = 204; given = then_clip 6; wanted = 1 ∷ 1 ∷ [] }
    ∷ record { number = 204; given = then_clip 7; wanted = 1 ∷ 0 ∷ [] }
    ∷ record { number = 204; given = then_clip 8; wanted = 1 ∷ 0 ∷ [] }
    ∷ record { number = 204; given = then_clip 9; wanted = 0 ∷ 3 ∷ [] }
    ∷ record { number = 204; given = then_clip 15; wanted = 0 ∷ 3 ∷ [] }
    -- U5: the defaults on a long contig, and on contigs of about as many loci; a sum past 32 bits; max 1, distance 0, filter size 0
    ∷ record { number = 205; given = numbered (cells_needed 300 50 50 1_073_741_823); wanted = 1 ∷ 450 ∷ [] }
    ∷ record { number = 205; given = numbered (cells_needed 300 50 50 451); wanted = 1 ∷ 450 ∷ [] }
    ∷ record { number = 205; given = numbered (cells_needed 300 50 50 449); wanted = 1 ∷ 449 ∷ [] }
    ∷ record { number = 205; given = numbered (cells_needed 4_294_967_295 1_000_000 500 1_073_741_823); wanted = 1 ∷ 1_073_741_823 ∷ [] }
    ∷ record { number = 205; given = numbered (cells_needed 1 0 0 1); wanted = 1 ∷ 1 ∷ [] }
    -- "1 for a number outside its range, then 11 for a zero max"
    ∷ record { number = 205; given = numbered (cells_needed 0 50 50 1000); wanted = 0 ∷ 11 ∷ [] }
    ∷ record { number = 205; given = numbered (cells_needed 0 1_000_001 50 1000); wanted = 0 ∷ 1 ∷ [] }
    ∷ record { number = 205; given = numbered (cells_needed 300 50 501 1000); wanted = 0 ∷ 1 ∷ [] }
    ∷ record { number = 205; given = numbered (cells_needed 300 50 50 0); wanted = 0 ∷ 1 ∷ [] }
    -- max 2, distance 1, filter size 1: 5 cells, and with one fewer the 1.0 at locus 4 is refused
    ∷ record { number = 205; given = numbered (cells_needed 2 1 1 100); wanted = 1 ∷ 5 ∷ [] }
    ∷ record { number = 205; given = one_behind_zeros 5; wanted = 1 ∷ 5 ∷ [] }
    ∷ record { number = 205; given = one_behind_zeros 4; wanted = 0 ∷ 10 ∷ [] }
    -- U6: piles of 2 words and 1, 1 - (1 - 1/2) (1 - 1/4) is 5/8, the mean of 4, 4 and 11 is 19/3, and the original probability is 0.0
    ∷ record { number = 206; given = set_of defaults (near_clips (4 ∷ 4 ∷ 11 ∷ [])) (2 ∷ 1 ∷ []); wanted = 1 ∷ 0x3fe4_0000_0000_0000 ∷ 0 ∷ 1 ∷ 6 ∷ [] }
    -- "One pile left over scores as it does today", and "a set with none left scores 0.0 and is plain"
    ∷ record { number = 206; given = set_of defaults (near_clips (4 ∷ 4 ∷ 11 ∷ [])) (0 ∷ 3 ∷ 0 ∷ []); wanted = 1 ∷ 0x3fe8_0000_0000_0000 ∷ 0x3ff8_0000_0000_0000 ∷ 1 ∷ 6 ∷ [] }
    ∷ record { number = 206; given = set_of defaults [] (0 ∷ 0 ∷ []); wanted = 1 ∷ 0 ∷ 0 ∷ 0 ∷ [] }
    ∷ record { number = 206; given = set_of defaults [] []; wanted = 1 ∷ 0 ∷ 0 ∷ 0 ∷ [] }
    -- a pile of skipped words is left: 1 - (1 - 1/4) (1 - 1/4) is 7/16
    ∷ record { number = 206; given = set_of defaults (word 255 0 1 0 0 ∷ word 30 0 1 0 0 ∷ []) (1 ∷ 1 ∷ []); wanted = 1 ∷ 0x3fdc_0000_0000_0000 ∷ 0 ∷ 0 ∷ [] }
    -- 12, before every other check; then 1, 4, 3 for the lengths, 3 for a word
    ∷ record { number = 206; given = set_of (minimum 0 false) (near_clips (4 ∷ [])) (replicate 65 0); wanted = 0 ∷ 12 ∷ [] }
    ∷ record { number = 206; given = set_of (minimum 0 false) (near_clips (4 ∷ [])) (replicate 63 0 ++ 16_385 ∷ []); wanted = 0 ∷ 1 ∷ [] }
    ∷ record { number = 206; given = set_of defaults (7 ∷ []) (1 ∷ 16_385 ∷ []); wanted = 0 ∷ 4 ∷ [] }
    ∷ record { number = 206; given = set_of defaults (near_clips (4 ∷ 4 ∷ [])) (2 ∷ 16_384 ∷ []); wanted = 0 ∷ 3 ∷ [] }
    ∷ record { number = 206; given = set_of defaults (near_clips (4 ∷ 4 ∷ [])) (1 ∷ []); wanted = 0 ∷ 3 ∷ [] }
    ∷ record { number = 206; given = set_of defaults (word 30 0 1 0 0 ∷ 7 ∷ []) (1 ∷ 1 ∷ []); wanted = 0 ∷ 3 ∷ [] }
    ∷ []

-- the one proof
pub table_right : all_right table ≡ true
unfolding table all_right same set_of score_told near_clips piles without total set_state_with any_non_ref clamped stratified_mean set_score_with state_with mul Rattle.genotype_likelihoods.specs.Settings.settings_in_range cells_needed one_behind_zeros count_told after step add_answer add_answer_by add_cells add_cells_by pop_cells pop_cells_by add_verdict added_profile first_locus highest needed pop_of told peak_told peak_of tenths hundredths profile pop_answer pop_answer_by pop_verdict turn kept broken settings_in_range placed qualifies beats replaces better best_cut_site or_most size_of pop_size region_with region_of leads peak_index along rest super_states numbered clip_count count_high by_operation then_clip word minimum skipped_of clips_of evidence_told effective_qual lacks_quality skips counted evidence_of mean_of with_word pl_of min_f to_unsigned of_int add sub div ne down first_at each up_to lt le neg of_bits to_bits round
table_right = refl
