-- What every call leaves as it was: the settings, the number of cells, and a record that is not broken. Assumes nothing.
use mathlib.Core.Path.{◌≡◌, refl, ◌∙◌}
use mathlib.Core.List.{List, [], ◌∷◌}
use Prim.Native.Nat.{ℕ, zero, suc, ◌-◌}
use lib.ListN.{length}
use lib.Ieee.{Float}
use Rattle.lists.specs.Each.{length-each}
use Rattle.genome.specs.Refusals.{answered}
use Rattle.band_pass_kernel.specs.declared.BandPassActivityProfileParams.{BandPassActivityProfileParams}
use Rattle.activity_profile.specs.declared.BandPassActivityProfile.{BandPassActivityProfile}
use Rattle.activity_profile.specs.declared.ActivityProfileState.{ActivityProfileState}
use Rattle.activity_profile.specs.Verdict.{Verdict, refusal, granted}
use Rattle.activity_profile.specs.Making.{making}
use Rattle.activity_profile.specs.Add.{add_verdict, added_profile, add_answer_by, add_answer, add_cells_by, add_cells}
use Rattle.activity_profile.specs.Pop.{Turn, empty, held, ready, pop_verdict, turn, kept, pop_size, rest, pop_answer_by, pop_answer, pop_cells_by, pop_cells}
use Rattle.activity_profile.specs.Run.{Call, Add, Pop, Lent, after_add, after_pop, step, after}
use Rattle.activity_profile.proofs.Facts.{Whole}
use Rattle.activity_profile.proofs.Unbroken.{step-whole, fresh_whole}

pub record SameSettings (made p : BandPassActivityProfile) : Type 0 where
  pub contig : p.contig ≡ made.contig
  pub len : p.contig_len ≡ made.contig_len
  pub distance : p.max_prob_propagation_distance ≡ made.max_prob_propagation_distance
  pub filter : p.filter_size ≡ made.filter_size

rest-same : (made p : BandPassActivityProfile) (size left : ℕ) → SameSettings made p → SameSettings made (rest p size left)
unfolding rest
rest-same made p size zero s = record { contig = s.contig; len = s.len; distance = s.distance; filter = s.filter }
rest-same made p size (suc n) s = record { contig = s.contig; len = s.len; distance = s.distance; filter = s.filter }

added_same : (made p : BandPassActivityProfile) (s : ActivityProfileState) → SameSettings made p → SameSettings made (added_profile p s)
unfolding added_profile
added_same made p s e = record { contig = e.contig; len = e.len; distance = e.distance; filter = e.filter }

-- with n cells lent
pub record Same (made : BandPassActivityProfile) (n : ℕ) (l : Lent) : Type 0 where
  pub settings : SameSettings made l.profile
  pub cells : length l.cells ≡ n
  pub whole : Whole l.profile (length l.cells)

step-settings : (made : BandPassActivityProfile) (n : ℕ) (l : Lent) (c : Call) → SameSettings made l.profile → length l.cells ≡ n
    → SameSettings made (step l c).profile × (length (step l c).cells ≡ n)
unfolding step add_answer add_answer_by add_cells add_cells_by pop_answer pop_answer_by pop_cells pop_cells_by
step-settings made n l (Add s k) e h = go (add_verdict l.profile (length l.cells) (length k) s)
  where
    go : (a : Verdict) → SameSettings made (after_add (add_answer_by a l.profile s)) × (length (add_cells_by a l.profile l.cells k s) ≡ n)
    go (refusal m) = (e, h)
    go granted = (added_same made l.profile s e, length-each _ _ ∙ h)
step-settings made n l (Pop x least most forced) e h = go (pop_verdict l.profile (length l.cells) least most) (turn l.profile most forced)
  where
    go : (a : Verdict) (t : Turn) → SameSettings made (after_pop (pop_answer_by a t l.profile l.cells x least most forced))
        × (length (pop_cells_by a t l.profile l.cells least most forced) ≡ n)
    go (refusal m) t = (e, h)
    go granted empty = (e, h)
    go granted held = (e, h)
    go granted ready =
        let size = pop_size l.profile l.cells least most forced in
        (rest-same made l.profile size (kept l.profile forced - size) e, length-each _ _ ∙ h)

pub step_same : (made : BandPassActivityProfile) (n : ℕ) (l : Lent) (c : Call) → Same made n l → Same made n (step l c)
step_same made n l c s =
    let t = step-settings made n l c s.settings s.cells in
    record { settings = t.0; cells = t.1; whole = step-whole l c s.whole }

pub run_same : (made : BandPassActivityProfile) (n : ℕ) (l : Lent) (calls : List Call) → Same made n l → Same made n (after l calls)
unfolding after
run_same made n l [] s = s
run_same made n l (c ∷ calls) s = run_same made n (step l c) calls (step_same made n l c s)

pub fresh_same : (contig len : ℕ) (s : BandPassActivityProfileParams) (i j : ℕ) (p : BandPassActivityProfile) → making contig len s i j ≡ answered p
    → (cells : List Float) → Same p (length cells) (record { profile = p; cells = cells })
fresh_same contig len s i j p e cells = record {
  settings = record { contig = refl; len = refl; distance = refl; filter = refl };
  cells = refl;
  whole = fresh_whole contig len s i j p e (length cells);
}
