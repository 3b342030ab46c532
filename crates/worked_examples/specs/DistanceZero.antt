-- Why demand 3 asks for a propagation distance of at least 1 (beside P9). With distance 0 and filter size 1: one add at locus 1, an unforced pop
-- of max 1, which answers 1 to 1, and a forced one, which answers 2 to 2, a locus that was never read. Assumes nothing.
use Rattle.std.specs.Prelude.{◌≡◌, refl, true, false, List, [], ◌∷◌}
use Rattle.std.specs.Float.Ieee.{of_bits, lt, le, add, mul}
use Rattle.lists.specs.Each.{each, up_to}
use Rattle.lists.specs.Loops.{down, first_at}
use Rattle.doubles.specs.Constants.{zero_f, half_f, one_f}
use Rattle.genome.specs.Refusals.{answered}
use Rattle.band_pass_kernel.specs.declared.BandPassActivityProfileParams.{BandPassActivityProfileParams}
use Rattle.band_pass_kernel.specs.Resolve.{in_range, has_room, filter_size_of, resolution}
use Rattle.activity_profile.specs.declared.BandPassActivityProfile.{BandPassActivityProfile}
use Rattle.activity_profile.specs.declared.ActivityEvidence.TheVariants.{Plain}
use Rattle.activity_profile.specs.Making.{making, fresh_profile}
use Rattle.activity_profile.specs.Profile.{settings_in_range, placed, broken}
use Rattle.activity_profile.specs.Add.{super_states, times, weight, received, first_locus, lowest, highest, needed, add_verdict, added_profile, added_cell, add_answer_by, add_cells_by, add_answer, add_cells}
use Rattle.activity_profile.specs.Pop.{pop_verdict, turn, kept, qualifies, beats, replaces, better, best_cut_site, or_most, size_of, pop_size, region_with, region_of, rest, moved_cell, pop_answer_by, pop_cells_by, pop_answer, pop_cells}
use Rattle.activity_profile.specs.Run.{Call, Add, Pop, Lent, step, accepted_by, popped_by, accepted_in, popped_in}

pub settings : BandPassActivityProfileParams
settings = record {
  max_prob_propagation_distance = 0;
  active_prob_threshold = half_f;
  max_filter_size = 1;
  sigma = one_f;
  adaptive_filter_size = false;
}

pub fresh : BandPassActivityProfile
unfolding settings
fresh = fresh_profile 1 100 settings 1

pub made : making 1 100 settings 3 3 ≡ answered fresh
unfolding fresh settings making resolution in_range has_room filter_size_of le of_bits
made = refl

pub lent : Lent
unfolding fresh
lent = record { profile = fresh; cells = zero_f ∷ zero_f ∷ [] }

pub calls : List Call
calls =
    Add (record { contig = 1; pos = record { 0 = 1 }; active_prob = one_f; original_active_prob = one_f; evidence = Plain }) (one_f ∷ one_f ∷ one_f ∷ [])
    ∷ Pop 0 1 1 false
    ∷ Pop 0 1 1 true
    ∷ []

pub accepted_1 : accepted_in lent calls ≡ 1 ∷ []
unfolding accepted_in lent calls fresh settings step accepted_by add_answer add_cells pop_answer pop_cells add_answer_by add_cells_by add_verdict added_profile added_cell received times weight super_states first_locus lowest highest needed broken settings_in_range placed pop_answer_by pop_cells_by pop_verdict turn kept qualifies beats replaces better best_cut_site down first_at or_most size_of pop_size region_with region_of rest moved_cell each up_to lt le of_bits add mul
accepted_1 = refl

pub popped_1_and_2 : popped_in lent calls ≡ 1 ∷ 2 ∷ []
unfolding popped_in lent calls fresh settings step popped_by add_answer add_cells pop_answer pop_cells add_answer_by add_cells_by add_verdict added_profile added_cell received times weight super_states first_locus lowest highest needed broken settings_in_range placed pop_answer_by pop_cells_by pop_verdict turn kept qualifies beats replaces better best_cut_site down first_at or_most size_of pop_size region_with region_of rest moved_cell each up_to lt le of_bits add mul
popped_1_and_2 = refl
