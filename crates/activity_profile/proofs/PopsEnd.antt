-- 02, U5: popping unforced until "held" or "empty" ends, whatever sizes are chosen, since every region takes a cell at least; so for every list of adds there
-- is such a maker. Assumes nothing.
use mathlib.Core.Path.{◌≡◌, refl}
use mathlib.Core.Bool.{false}
use mathlib.Core.List.{List, [], ◌∷◌, ◌++◌}
use Prim.Native.Nat.{ℕ, zero, suc, ◌-◌, ◌<◌, ◌≤◌}
use native.Mathlib.Omega.{arith}
use lib.ListN.{length}
use lib.Ieee.{Float}
use Rattle.genome.specs.Refusals.{answered}
use Rattle.band_pass_kernel.specs.declared.BandPassActivityProfileParams.{BandPassActivityProfileParams}
use Rattle.activity_profile.specs.declared.BandPassActivityProfile.{BandPassActivityProfile}
use Rattle.activity_profile.specs.declared.ActivityProfileState.{ActivityProfileState}
use Rattle.activity_profile.specs.Verdict.{granted}
use Rattle.activity_profile.specs.Making.{making}
use Rattle.activity_profile.specs.Pop.{Turn, empty, held, ready, pop_verdict, turn, kept, pop_size, region_of, rest, region_pop, pop_answer_by, pop_answer}
use Rattle.activity_profile.specs.Run.{Call, Add, Lent, step, after}
use Rattle.activity_profile.specs.Maker.{Sizes, pop_of, at_held, at_empty, past_region, none, more, pops_by, PopsEnd, adds_in, FedWith}
use Rattle.activity_profile.proofs.Facts.{Whole}
use Rattle.activity_profile.proofs.Cuts.{cut_is}
use Rattle.activity_profile.proofs.Unbroken.{step-whole, run_whole, fresh_whole}
use Rattle.activity_profile.proofs.Draining.{granted_is}
use Rattle.activity_profile.proofs.Idle.{rest_count}

module _ (most : ℕ) (some : 1 ≤ most) where
  -- a region takes at least one cell
  fewer : (l : Lent) (z : Sizes) → pop_verdict l.profile (length l.cells) z.least most ≡ granted → turn l.profile most false ≡ ready
      → (step l (pop_of most z)).profile.count < l.profile.count
  unfolding step pop_answer pop_answer_by
  fewer l z e t =
      let c = cut_is l.profile l.cells z.least most false e t in
      rw (e, t, rest_count) (omega (arith, c.sized.some, c.kept_low, c.kept_high))

  one_pop : (choose : ℕ → Sizes) (l : Lent) → Whole l.profile (length l.cells)
      → ((step l (pop_of most (choose 0))).profile.count < l.profile.count → PopsEnd most (λ i. choose (suc i)) (step l (pop_of most (choose 0)))) → PopsEnd most choose l
  unfolding pop_answer pop_answer_by
  one_pop choose l w later = go (turn l.profile most false) refl
    where
      z : Sizes
      z = choose 0

      e : pop_verdict l.profile (length l.cells) z.least most ≡ granted
      e = granted_is z.extension z.least most z.floor some l.profile (length l.cells) w

      go : (t : Turn) → turn l.profile most false ≡ t → PopsEnd most choose l
      go empty f = record { pops = 1; few = omega arith; until-held = at_empty l z l.profile (rw (e, f)) }
      go held f = record { pops = 1; few = omega arith; until-held = at_held l z l.profile (rw (e, f)) }
      go ready f =
          let less = fewer l z e f in
          let r = later less in
          let size = pop_size l.profile l.cells z.least most false in
          let g : pop_answer l.profile l.cells z.extension z.least most false
          ≡ region_pop (region_of l.profile l.cells size z.extension) (rest l.profile size (kept l.profile false - size)) = rw (e, f) in
          record { pops = suc r.pops; few = omega (arith, r.few, less); until-held = past_region l z _ _ (pops_by most (λ i. choose (suc i)) r.pops) g r.until-held }

  -- by induction on a bound of the cells in use
  stops : (n : ℕ) (choose : ℕ → Sizes) (l : Lent) → Whole l.profile (length l.cells) → l.profile.count ≤ n → PopsEnd most choose l
  stops zero choose l w few = one_pop choose l w (λ h. absurd (omega arith))
  stops (suc n) choose l w few =
      one_pop choose l w (λ h. stops n (λ i. choose (suc i)) (step l (pop_of most (choose 0))) (step-whole l (pop_of most (choose 0)) w) (omega arith))

  -- ---- every list of adds

  pops_add_none : (choose : ℕ → Sizes) (n : ℕ) (calls : List Call) → adds_in (pops_by most choose n ++ calls) ≡ adds_in calls
  pops_add_none choose zero calls = refl
  pops_add_none choose (suc n) calls = pops_add_none (λ i. choose (suc i)) n calls

  fed_all : (choose : ℕ → Sizes) (adds : List (ActivityProfileState × List Float)) (l : Lent) → Whole l.profile (length l.cells) → FedWith most l adds
  unfolding after
  fed_all choose [] l w = record { calls = []; fed = none l; same_adds = refl }
  fed_all choose (a ∷ adds) l w =
      let m = step l (Add a.0 a.1) in
      let v = step-whole l (Add a.0 a.1) w in
      let t = stops m.profile.count choose m v (omega arith) in
      let pops = pops_by most choose t.pops in
      let r = fed_all choose adds (after m pops) (run_whole m pops v) in
      record {
        calls = Add a.0 a.1 ∷ pops ++ r.calls;
        fed = more l a.0 a.1 pops r.calls t.until-held r.fed;
        same_adds = rw (pops_add_none choose t.pops r.calls, r.same_adds);
      }

-- ---- from a making

-- After any list of calls, and whatever sizes are chosen, unforced pops come to "held" or "empty" after one more than the cells in use at most.
pub pops_end : (contig len : ℕ) (settings : BandPassActivityProfileParams) (i j : ℕ) (p : BandPassActivityProfile) → making contig len settings i j ≡ answered p
    → (cells : List Float) (calls : List Call) (most : ℕ) → 1 ≤ most → (choose : ℕ → Sizes)
    → PopsEnd most choose (after (record { profile = p; cells = cells }) calls)
pops_end contig len settings i j p e cells calls most some choose =
    let fresh : Lent = record { profile = p; cells = cells } in
    let l = after fresh calls in
    stops most some l.profile.count choose l (run_whole fresh calls (fresh_whole contig len settings i j p e (length cells))) (omega arith)

-- So every list of adds, whatever their states and kernels, is that of such a maker.
pub every_list : (contig len : ℕ) (settings : BandPassActivityProfileParams) (i j : ℕ) (p : BandPassActivityProfile) → making contig len settings i j ≡ answered p
    → (cells : List Float) (most : ℕ) → 1 ≤ most → (choose : ℕ → Sizes) (adds : List (ActivityProfileState × List Float))
    → FedWith most (record { profile = p; cells = cells }) adds
every_list contig len settings i j p e cells most some choose adds =
    fed_all most some choose adds (record { profile = p; cells = cells }) (fresh_whole contig len settings i j p e (length cells))
