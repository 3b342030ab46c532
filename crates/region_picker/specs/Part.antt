-- The part's numbers: a record, a region and a score as fixed fields, and answers as one number.
use Rattle.std.specs.Prelude.{Bool, cond, ◌||◌, List, [], ◌∷◌, ◌≡◌, refl, ℕ, eqb, ltb, length, get_or, take, Float}
use Rattle.genome.specs.Refusals.{Outcome, refused, answered, buffer_refusal}
use Rattle.band_pass_kernel.specs.Kernel.{band}
use Rattle.band_pass_kernel.specs.Resolve.{written_to}
use Rattle.band_pass_kernel.specs.declared.BandPassActivityProfileParams.{BandPassActivityProfileParams}
use Rattle.activity_profile.specs.declared.BandPassActivityProfile.{BandPassActivityProfile}
use Rattle.activity_profile.specs.declared.ActivityProfileRegion.{ActivityProfileRegion}
use Rattle.activity_profile.specs.declared.ActivityProfileState.{ActivityProfileState}
use Rattle.activity_profile.specs.declared.ActivityEvidence.{ActivityEvidence}
use Rattle.activity_profile.specs.declared.ActivityEvidence.TheVariants.{Plain, HighQualitySoftClips}
use Rattle.activity_profile.specs.Verdict.{Verdict, refusal, granted}
use Rattle.activity_profile.specs.Add.{AddAnswer, refused_add, accepted_add}
use Rattle.activity_profile.specs.Pop.{PopAnswer, refused_pop, empty_pop, held_pop, region_pop}
use Rattle.genotype_likelihoods.specs.declared.HaplotypeCallerActivityScoringParams.{HaplotypeCallerActivityScoringParams}

-- ---- the record: seven numbers, and the threshold apart

abbrev pub record_of : BandPassActivityProfile → List ℕ
record_of p = p.contig ∷ p.contig_len ∷ p.max_prob_propagation_distance ∷ p.filter_size ∷ p.region_start ∷ p.last_input_pos ∷ p.count ∷ []

abbrev pub profile_of : List ℕ → Float → BandPassActivityProfile
profile_of r threshold = record {
  contig = get_or r 0 0;
  contig_len = get_or r 1 0;
  max_prob_propagation_distance = get_or r 2 0;
  active_prob_threshold = threshold;
  filter_size = get_or r 3 0;
  region_start = get_or r 4 0;
  last_input_pos = get_or r 5 0;
  count = get_or r 6 0;
}

-- what is written is what the next call reads
pub record_read : (p : BandPassActivityProfile) → profile_of (record_of p) p.active_prob_threshold ≡ p
record_read p = refl

-- ---- a region, a state, and settings

abbrev pub region_fields : ActivityProfileRegion → List ℕ
region_fields r = r.contig ∷ r.start ∷ r.end ∷ cond r.is_active 1 0 ∷ r.padded_start ∷ r.padded_end ∷ r.extension ∷ r.peak_pos ∷ []

-- clip evidence or none
abbrev pub evidence_from : Bool → ℕ → ActivityEvidence
evidence_from clips n = cond clips (HighQualitySoftClips n) Plain

abbrev pub state_from : ℕ → ℕ → Float → Float → Bool → ℕ → ActivityProfileState
state_from contig p probability original clips n = record {
  contig = contig;
  pos = record { 0 = p };
  active_prob = probability;
  original_active_prob = original;
  evidence = evidence_from clips n;
}

abbrev pub activity_fields : ActivityProfileState → List Float
activity_fields s = s.active_prob ∷ s.original_active_prob ∷ []

abbrev pub evidence_fields : ActivityEvidence → List ℕ
evidence_fields Plain = 0 ∷ 0 ∷ []
evidence_fields (HighQualitySoftClips n) = 1 ∷ n ∷ []

abbrev pub params_from : ℕ → Float → ℕ → Float → Bool → BandPassActivityProfileParams
params_from distance threshold filter sigma adaptive = record {
  max_prob_propagation_distance = distance;
  active_prob_threshold = threshold;
  max_filter_size = filter;
  sigma = sigma;
  adaptive_filter_size = adaptive;
}

abbrev pub scoring_from : ℕ → ℕ → Float → Float → ℕ → Float → Bool → HaplotypeCallerActivityScoringParams
scoring_from least ploidy het sd deletion multiplier flow = record {
  min_base_quality_score = least;
  sample_ploidy = record { 0 = ploidy };
  snp_heterozygosity = het;
  heterozygosity_standard_deviation = sd;
  ref_model_deletion_qual = deletion;
  active_region_alt_multiplier = multiplier;
  flow_based_reference_model = flow;
}

-- ---- answers: 0, or a refusal's number; nothing is written with a refusal

abbrev pub outcome_number : {A : Type 0} → Outcome A → ℕ
outcome_number (refused n) = n
outcome_number (answered x) = 0

abbrev pub outcome_written : {A B : Type 0} → (A → B) → Outcome A → B → B
outcome_written f (refused n) old = old
outcome_written f (answered x) old = f x

abbrev pub state_evidence : ActivityProfileState → List ℕ
state_evidence s = evidence_fields s.evidence

abbrev pub add_number : AddAnswer → ℕ
add_number (refused_add n p) = n
add_number (accepted_add p) = 0

abbrev pub add_record : AddAnswer → List ℕ → List ℕ
add_record (refused_add n p) old = old
add_record (accepted_add p) old = record_of p

-- a pop has two answers more: 100 is held, 101 empty
abbrev pub pop_number : PopAnswer → ℕ
pop_number (refused_pop n p) = n
pop_number (empty_pop p) = 101
pop_number (held_pop p) = 100
pop_number (region_pop r p) = 0

-- "held" and "empty" leave the record as it was
abbrev pub pop_record : PopAnswer → List ℕ → List ℕ
pop_record (refused_pop n p) old = old
pop_record (empty_pop p) old = record_of p
pop_record (held_pop p) old = record_of p
pop_record (region_pop r p) old = record_of p

abbrev pub pop_region : PopAnswer → List ℕ → List ℕ
pop_region (refused_pop n p) old = old
pop_region (empty_pop p) old = old
pop_region (held_pop p) old = old
pop_region (region_pop r p) old = region_fields r

abbrev pub pop_peak : PopAnswer → Float → Float
pop_peak (refused_pop n p) old = old
pop_peak (empty_pop p) old = old
pop_peak (held_pop p) old = old
pop_peak (region_pop r p) old = r.peak

-- the kernel that a making left, at the front of whichever buffer holds it
abbrev pub kernel_of : ℕ → ℕ → List Float → List Float → List Float
kernel_of f widest full narrow = take (band f) (cond (eqb f widest) full narrow)

-- one of three slices is too short for 2F + 1 numbers
abbrev pub short_for : ℕ → List Float → List Float → List Float → Bool
short_for f kernel full narrow = ltb (length kernel) (band f) || (ltb (length full) (band f) || ltb (length narrow) (band f))

-- 2 then, and nothing is written; else the kernel is copied to the front
pub record Copies (f widest : ℕ) (kernel kernel' full narrow : List Float) (r : ℕ) : Type 0 where
  pub number : r ≡ cond (short_for f kernel full narrow) buffer_refusal 0
  pub written : kernel' ≡ cond (short_for f kernel full narrow) kernel (written_to kernel (band f) (kernel_of f widest full narrow))

-- a filling's verdict
abbrev pub verdict_number : Verdict → ℕ
verdict_number (refusal n) = n
verdict_number granted = 0

-- ---- what a call promises of its answer and of what it writes

pub record Answers {A B : Type 0} (written_as : A → B) (outcome : Outcome A) (old new : B) (r : ℕ) : Type 0 where
  pub number : r ≡ outcome_number outcome
  pub written : new ≡ outcome_written written_as outcome old

pub record Adds (answer : AddAnswer) (old new : List ℕ) (r : ℕ) : Type 0 where
  pub number : r ≡ add_number answer
  pub written : new ≡ add_record answer old

pub record Pops (answer : PopAnswer) (old new region region' : List ℕ) (peak peak' : Float) (r : ℕ) : Type 0 where
  pub number : r ≡ pop_number answer
  pub written : new ≡ pop_record answer old
  pub handed_out : region' ≡ pop_region answer region
  pub peak_written : peak' ≡ pop_peak answer peak

pub record Scores (outcome : Outcome ActivityProfileState) (activity activity' : List Float) (evidence evidence' : List ℕ) (r : ℕ) : Type 0 where
  pub number : r ≡ outcome_number outcome
  pub activity_written : activity' ≡ outcome_written activity_fields outcome activity
  pub evidence_written : evidence' ≡ outcome_written state_evidence outcome evidence
