-- What a step promises in each case, said of the code's state: the functions that act on events cite these. Assumes nothing.
use mathlib.Core.Path.{◌≡◌, refl, sym, ap, ◌∙◌}
use mathlib.Core.Bool.{false, cond}
use mathlib.Core.List.{List}
use Rattle.std.specs.Prelude.{Ok}
use Prim.Native.Nat.{ℕ, ◌≤◌, ◌<◌}
use native.Mathlib.Omega.{arith}
use borrow.Author.Tests.{le-ltb}
use lib.Dec.{ltb, eqb}
use lib.ListN.{length, take}
use lib.Ieee.{Float}
use Rattle.genome.specs.Refusals.{Outcome, refused, answered, number_of}
use Rattle.genome.specs.declared.Refusal.{Refusal}
use Rattle.pileup_words.specs.declared.StreamEvent.{StreamEvent}
use Rattle.pileup_words.specs.declared.StreamEvent.TheVariants.{Locus, Observation, Pop, Setting}
use Rattle.band_pass_kernel.specs.Kernel.{band}
use Rattle.band_pass_kernel.specs.Resolve.{copied}
use Rattle.band_pass_kernel.proofs.Kernels.{take_written}
use Rattle.activity_profile.specs.declared.BandPassActivityProfile.{BandPassActivityProfile}
use Rattle.activity_profile.specs.declared.ActivityProfileRegion.{ActivityProfileRegion}
use Rattle.activity_profile.specs.Making.{making, full_after_making, narrow_after_making}
use Rattle.activity_profile.specs.Pop.{PopAnswer, refused_pop, empty_pop, held_pop, region_pop, pop_answer, pop_cells}
use Rattle.activity_profile.specs.Run.{after_pop}
use Rattle.activity_profile.proofs.Fresh.{fresh_is, kernel_made_lem, length_kernel}
use Rattle.stream_settings.specs.declared.StreamSettings.{StreamSettings}
use Rattle.stream_settings.specs.Settings.{params_of, with_field}
use Rattle.region_program.specs.declared.RegionStream.{RegionStream}
use Rattle.region_program.specs.declared.Phase.{Phase}
use Rattle.region_program.specs.declared.Phase.TheVariants.{Settings, Loci, Pile}
use Rattle.region_program.specs.declared.Step.TheVariants.{Next, Again, Line}
use Rattle.region_program.specs.declared.OpenPile.{OpenPile}
use Rattle.region_program.specs.Program.{Reading, goes, again, line, stops, next, buffer_size, profile_made, made_with, zero_size, set_by, before_loci, popped_by, between_piles}
use Rattle.region_program.specs.Program.{Scoring, score_added, score_cells, ended_with, ended_by, within_pile, act_at, act_by}
use Rattle.region_program.specs.Stream.{place_of, kernel_of, seen, stream_of, pile_of, refused_with, most_acts, acts_in, acts_left, pile_after, kernel_made, kernel_after, Stepped, EndsPile, PILE, kept}
use Rattle.region_program.specs.Run.{kept_more}
use Rattle.region_program.proofs.Counts.{fewer}
use Rattle.region_program.proofs.Kept.{filter-popped, cells_popped, filter_scored, cells_scored}
use Rattle.region_program.proofs.Refusing.{pile_kept, kernel_kept}
use Rattle.region_program.proofs.Runs.{kept-deepened}

-- the kernel that a making left in its buffers, copied to the front of a slice that has room for the widest
pub kernel_copied : (t : StreamSettings) (full narrow kernel : List Float) (p : BandPassActivityProfile) → length full ≡ buffer_size → length narrow ≡ buffer_size → length kernel ≡ buffer_size
    → profile_made t ≡ answered p
    → copied (take (band p.filter_size) (cond (eqb p.filter_size (params_of t).max_filter_size) (full_after_making t.contig_len (params_of t) full (length narrow)) (narrow_after_making t.contig_len (params_of t) (length full) narrow))) kernel
    ≡ kernel_made t (profile_made t) kernel
unfolding copied
kernel_copied t full narrow kernel p f n k m =
    let made : making 0 t.contig_len (params_of t) (length full) (length narrow) ≡ answered p = rw (f, n) m in
    let is = kernel_made_lem 0 t.contig_len (params_of t) full narrow p made in
    let few = (fresh_is 0 t.contig_len (params_of t) buffer_size buffer_size p m).filter_up_to_500 in
    rw (is, m, length_kernel p.filter_size (params_of t).sigma, k, le-ltb buffer_size (band p.filter_size) (omega (arith, few)))

module _ (scoring : Scoring) (s : RegionStream) (pile : List ℕ) (kernel cells : List Float) where
  -- a refusal leaves everything as it was
  pub refuses : (e : StreamEvent) (y : Refusal) (i : ℕ) → act_by scoring e (seen s pile kernel cells) ≡ stops (number_of y) i (seen s pile kernel cells)
      → Stepped scoring e s pile pile kernel kernel cells cells (refused_with y i s)
  refuses e y i h =
      record {
        answer = sym h;
        pile_left = sym (pile_kept scoring s pile kernel cells (number_of y) i (seen s pile kernel cells) e h);
        kernel_left = sym (kernel_kept scoring s pile kernel cells (number_of y) i (seen s pile kernel cells) e h);
        ends = refl;
      }

  -- a reading with another record, whose kernel is that of filter size f
  abbrev filtered : BandPassActivityProfile → Phase → List Float → ℕ → ℕ → Reading
  filtered q phase left i f = record { settings = s.settings; profile = q; kernel = kernel_of phase f kernel; cells = left; place = place_of phase pile; index = i }

  -- what is done at each place
  pub at-settings : (e : StreamEvent) → s.phase ≡ Settings → act_by scoring e (seen s pile kernel cells) ≡ before_loci e (seen s pile kernel cells)
  unfolding act_at
  at-settings e p = rw p

  pub at-loci : (e : StreamEvent) → s.phase ≡ Loci → act_by scoring e (seen s pile kernel cells) ≡ between_piles e (seen s pile kernel cells)
  unfolding act_at
  at-loci e p = rw p

  pub in_pile_lem : (e : StreamEvent) (o : OpenPile) → s.phase ≡ Pile o → act_by scoring e (seen s pile kernel cells) ≡ within_pile scoring o.locus o.locus_index (take o.depth pile) e (seen s pile kernel cells)
  unfolding act_at
  in_pile_lem e o p = rw p

  -- ---- before the first locus

  module _ (p : s.phase ≡ Settings) where
    pub first_opened : (position : ℕ) (q : BandPassActivityProfile) → profile_made s.settings ≡ answered q
        → Stepped scoring (Locus position) s pile pile kernel (kernel_made s.settings (profile_made s.settings) kernel) cells cells
        (Ok (Next (stream_of s.settings q (Pile (pile_of position s.index 0)) (next s.index))))
    unfolding before_loci made_with pile_after kernel_after
    first_opened position q m =
        record {
          answer = rw (m, take_written kernel q.filter_size (params_of s.settings).sigma) (sym (at-settings (Locus position) p ∙ rw m));
          pile_left = refl;
          kernel_left = rw p;
          ends = tt;
        }

    pub first_refused : (position : ℕ) (y : Refusal) → profile_made s.settings ≡ refused (number_of y)
        → Stepped scoring (Locus position) s pile pile kernel (kernel_made s.settings (profile_made s.settings) kernel) cells cells (refused_with y s.index s)
    unfolding before_loci made_with
    first_refused position y m = rw m (refuses (Locus position) y s.index (at-settings (Locus position) p ∙ rw m))

    pub set_done : (field value : ℕ) (t : StreamSettings) → with_field s.settings field value ≡ answered t
        → Stepped scoring (Setting field value) s pile pile kernel kernel cells cells (Ok (Next (stream_of t s.profile s.phase (next s.index))))
    unfolding before_loci set_by pile_after kernel_after
    set_done field value t m = record { answer = sym (at-settings (Setting field value) p ∙ rw m); pile_left = refl; kernel_left = refl; ends = tt }

    pub set_refused : (field value : ℕ) (y : Refusal) → with_field s.settings field value ≡ refused (number_of y)
        → Stepped scoring (Setting field value) s pile pile kernel kernel cells cells (refused_with y s.index s)
    unfolding before_loci set_by
    set_refused field value y m = refuses (Setting field value) y s.index (at-settings (Setting field value) p ∙ rw m)

    pub unmade_done : (value : ℕ) → ltb 1 value ≡ false → zero_size s.settings ≡ false
        → Stepped scoring (Pop value) s pile pile kernel kernel cells cells (Ok (Next (stream_of s.settings s.profile s.phase (next s.index))))
    unfolding before_loci pile_after kernel_after
    unmade_done value v z = record { answer = sym (at-settings (Pop value) p ∙ rw (v, z)); pile_left = refl; kernel_left = refl; ends = tt }

  -- ---- past it, with no pile open

  module _ (p : s.phase ≡ Loci) where
    pub opened_next : (position : ℕ) → Stepped scoring (Locus position) s pile pile kernel kernel cells cells (Ok (Next (stream_of s.settings s.profile (Pile (pile_of position s.index 0)) (next s.index))))
    unfolding between_piles pile_after kernel_after
    opened_next position = record { answer = sym (at-loci (Locus position) p ∙ rw p); pile_left = refl; kernel_left = rw p; ends = tt }

    module _ (value : ℕ) (v : ltb 1 value ≡ false) where
      abbrev answered_so : PopAnswer
      answered_so = pop_answer s.profile cells s.settings.assembly_region_extension s.settings.min_region_size s.settings.max_region_size (eqb value 1)

      abbrev left_so : List Float
      left_so = pop_cells s.profile cells s.settings.min_region_size s.settings.max_region_size (eqb value 1)

      -- the record that the pop leaves has the filter size that it had
      same-filter : (a : PopAnswer) → answered_so ≡ a → (after_pop a).filter_size ≡ s.profile.filter_size
      same-filter a e = filter-popped s.profile cells s.settings.assembly_region_extension s.settings.min_region_size s.settings.max_region_size (eqb value 1) a e

      pub pop_line : (r : ActivityProfileRegion) (q : BandPassActivityProfile) → answered_so ≡ region_pop r q → s.profile.count < most_acts
          → Stepped scoring (Pop value) s pile pile kernel kernel cells left_so (Ok (Line r (stream_of s.settings q s.phase s.index)))
      unfolding between_piles popped_by pile_after kernel_after
      pop_line r q e small =
          let few = fewer s.profile cells s.settings.assembly_region_extension s.settings.min_region_size s.settings.max_region_size (eqb value 1) r q e in
          record {
            answer = ap (λ (f : ℕ). line r (filtered q s.phase left_so s.index f)) (same-filter (region_pop r q) e) ∙ sym (at-loci (Pop value) p ∙ rw (v, e));
            pile_left = refl;
            kernel_left = refl;
            ends = rw p (omega (arith, few.0));
          }

      pub pop_held : (q : BandPassActivityProfile) → answered_so ≡ held_pop q
          → Stepped scoring (Pop value) s pile pile kernel kernel cells left_so (Ok (Next (stream_of s.settings q s.phase (next s.index))))
      unfolding between_piles popped_by pile_after kernel_after
      pop_held q e =
          record {
            answer = ap (λ (f : ℕ). goes (filtered q s.phase left_so (next s.index) f)) (same-filter (held_pop q) e) ∙ sym (at-loci (Pop value) p ∙ rw (v, e));
            pile_left = refl;
            kernel_left = refl;
            ends = tt;
          }

      pub pop_empty : (q : BandPassActivityProfile) → answered_so ≡ empty_pop q
          → Stepped scoring (Pop value) s pile pile kernel kernel cells left_so (Ok (Next (stream_of s.settings q s.phase (next s.index))))
      unfolding between_piles popped_by pile_after kernel_after
      pop_empty q e =
          record {
            answer = ap (λ (f : ℕ). goes (filtered q s.phase left_so (next s.index) f)) (same-filter (empty_pop q) e) ∙ sym (at-loci (Pop value) p ∙ rw (v, e));
            pile_left = refl;
            kernel_left = refl;
            ends = tt;
          }

      pub pop_refused : (y : Refusal) (q : BandPassActivityProfile) → answered_so ≡ refused_pop (number_of y) q
          → Stepped scoring (Pop value) s pile pile kernel kernel cells left_so (refused_with y s.index s)
      unfolding between_piles popped_by
      pop_refused y q e =
          rw (cells_popped s.profile cells s.settings.assembly_region_extension s.settings.min_region_size s.settings.max_region_size (eqb value 1) (number_of y) q e)
          (refuses (Pop value) y s.index (at-loci (Pop value) p ∙ rw (v, e)))

  -- ---- within a pile

  module _ (o : OpenPile) (p : s.phase ≡ Pile o) where
    pub observed_next : (w : ℕ) → length pile ≡ PILE
        → Stepped scoring (Observation w) s pile (kept pile o.depth w) kernel kernel cells cells
        (Ok (Next (stream_of s.settings s.profile (Pile (pile_of o.locus o.locus_index (kept_more (record { depth = o.depth; pile = pile }) w).depth)) (next s.index))))
    unfolding within_pile pile_after kernel_after
    observed_next w long =
        record { answer = rw (kept-deepened pile w o.depth long) (sym (in_pile_lem (Observation w) o p ∙ rw p)); pile_left = rw p; kernel_left = refl; ends = tt }

    abbrev scored_so : Outcome BandPassActivityProfile
    scored_so = score_added s.profile cells (take (band s.profile.filter_size) kernel) (scoring o.locus (take o.depth pile))

    abbrev scored_cells : List Float
    scored_cells = score_cells s.profile cells (take (band s.profile.filter_size) kernel) (scoring o.locus (take o.depth pile))

    pub ended_again : (q : BandPassActivityProfile) → scored_so ≡ answered q
        → EndsPile scoring s o pile kernel cells scored_cells (Ok (Again (stream_of s.settings q Loci s.index)))
    unfolding ended_by ended_with
    ended_again q e =
        let same = filter_scored s.profile cells (take (band s.profile.filter_size) kernel) (scoring o.locus (take o.depth pile)) q e in
        record {
          answer = ap (λ (f : ℕ). again (filtered q Loci scored_cells s.index f)) same ∙ rw (p, e);
          ends = rw p (omega arith);
        }

    pub ended_refused : (y : Refusal) → scored_so ≡ refused (number_of y) → EndsPile scoring s o pile kernel cells scored_cells (refused_with y o.locus_index s)
    unfolding ended_by ended_with
    ended_refused y e = rw (cells_scored s.profile cells (take (band s.profile.filter_size) kernel) (scoring o.locus (take o.depth pile)) (number_of y) e) (record { answer = rw (p, e); ends = refl })

-- ---- the end of a caller's loop

pub acts_few : (s : RegionStream) → acts_left s ≤ most_acts
acts_few s = go s.phase s.profile.count
  where
    go : (x : Phase) (n : ℕ) → acts_in x n ≤ most_acts
    go Settings n = omega arith
    go Loci n = omega arith
    go (Pile o) n = omega arith
