-- `pop_ready` meets its contract: what a granted pop was handed bounds the size, and each part is the definition's.
use Prim.Native.Nat.{◌<◌, ◌≤◌}
use mathlib.Core.Path.{◌∙◌, ◌≡◌, refl, sym}
use native.Mathlib.Omega.{arith}
use lib.Ieee.{nan}
use lib.ListN.{length, length-take, take}
use lib.Seq.{get_or-take, length-take-le}
use Rattle.activity_profile.proofs.Cuts.{Cut, cut_is}
use Rattle.activity_profile.proofs.Peak.{peak_leads}
use Rattle.activity_profile.specs.Loci.{cell}
use Rattle.activity_profile.specs.Pop.{kept, pop_answer_by, pop_cells_by, above, pop_size, region_of, region_with}
use Rattle.profile_pop.proofs.pop_ready.Goals as goal
use Rattle.profile_pop.proofs.pop_ready.Goals.{After-kept_cells-keep, After-peak_index-index, After-region_size-size, After-region_with-region, Start}

-- what the pop was handed, and how the size lies in the cells
cut : (c : Start) → Cut c.args.p c.args.cells.now c.args.least c.args.most c.args.forced
cut c = cut_is _ _ _ _ _ c.requires.0 c.requires.1

keep-is : (c : After-kept_cells-keep) → c.kept_cells-keep.result ≡ kept c.args.p c.args.forced
keep-is c = c.kept_cells-keep.ensures

size_is : (c : After-region_size-size) →
    let a = c.args in
    c.region_size-size.result ≡ pop_size a.p a.cells.now a.least a.most a.forced
unfolding pop_size
size_is c = simp (c.region_size-size.ensures, c.kept_cells-keep.ensures)

-- the cells of the region are lent
popped-fits : (c : After-region_size-size) → c.region_size-size.result ≤ length c.args.cells.now
popped-fits c =
    let a = c.args in
    let f = cut_is a.p a.cells.now a.least a.most a.forced c.requires.0 c.requires.1 in
    omega (arith, f.within, f.kept_high, f.asked.whole.cells, size_is c, c.kept_cells-keep.ensures)

-- the peak is one of them
peak-inside : (c : After-peak_index-index) →
    let a = c.args in
    c.region_size-size.result ≡ pop_size a.p a.cells.now a.least a.most a.forced → c.region_size-size.result ≤ length a.cells.now
    → c.peak_index-index.result < c.region_size-size.result
peak-inside c size fits =
    let a = c.args in
    let f = cut_is a.p a.cells.now a.least a.most a.forced c.requires.0 c.requires.1 in
    let n = c.region_size-size.result in
    let l = a.cells.now in
    let long : length (take n l) ≡ n = length-take-le n l fits in
    omega (arith, c.peak_index-index.ensures, (peak_leads (take n l) (omega (arith, f.sized.some, size))).inside)

peak-is : (c : After-peak_index-index) → c.peak_index-index.result < c.region_size-size.result →
    let l = c.args.cells.now in
    cell l c.peak_index-index.result ≡ cell (take c.region_size-size.result l) c.peak_index-index.result
peak-is c inside = sym (get_or-take _ _ _ nan inside)

region_is : (c : After-region_with-region) →
    let a = c.args in
    let l = a.cells.now in
    let k = c.peak_index-index.result in
    cell l k ≡ cell (take c.region_size-size.result l) k → c.region_with-region.result ≡ region_of a.p l c.region_size-size.result a.extension
unfolding region_of
region_is c peak =
    let a = c.args in
    let l = a.cells.now in
    let k = c.peak_index-index.result in
    let given : c.region_with-region.result ≡ region_with a.p (above a.p.active_prob_threshold (cell l 0)) c.region_size-size.result a.extension k (cell l k) = c.region_with-region.ensures in
    given ∙ rw (peak, c.peak_index-index.ensures)

pub bounds-cells-0 : goal.bounds-cells-0
bounds-cells-0 c = let f = cut (goal.at.bounds-cells-0 c).Start in omega (arith, f.asked.whole.cells)

pub slice_bounds-region_size-end : goal.slice_bounds-region_size-end
slice_bounds-region_size-end c =
    let f = cut (goal.at.slice_bounds-region_size-end c).Start in
    omega (arith, f.asked.whole.cells, keep-is (goal.at.slice_bounds-region_size-end c).After-kept_cells-keep)

pub slice_bounds-region_size-end-2 : goal.slice_bounds-region_size-end-2
slice_bounds-region_size-end-2 c =
    let f = cut (goal.at.slice_bounds-region_size-end-2 c).Start in
    sym (length-take-le _ _ (omega (arith, f.asked.whole.cells, keep-is (goal.at.slice_bounds-region_size-end-2 c).After-kept_cells-keep)))

pub region_size-size-requires : goal.region_size-size-requires
region_size-size-requires c =
    let f = cut (goal.at.region_size-size-requires c).Start in
    simp length-take (omega (arith, f.asked.whole.cells, keep-is (goal.at.region_size-size-requires c).After-kept_cells-keep))

pub overflow_sub-left : goal.overflow_sub-left
overflow_sub-left c =
    let f = cut (goal.at.overflow_sub-left c).Start in
    omega (arith, f.within, size_is (goal.at.overflow_sub-left c).After-region_size-size, keep-is (goal.at.overflow_sub-left c).After-kept_cells-keep)

pub slice_bounds-peak_index-end : goal.slice_bounds-peak_index-end
slice_bounds-peak_index-end c = popped-fits (goal.at.slice_bounds-peak_index-end c).After-region_size-size

pub slice_bounds-peak_index-end-2 : goal.slice_bounds-peak_index-end-2
slice_bounds-peak_index-end-2 c = sym (length-take-le _ _ (popped-fits (goal.at.slice_bounds-peak_index-end-2 c).After-region_size-size))

pub offset_bounds-cells-index : goal.offset_bounds-cells-index
offset_bounds-cells-index c = omega (arith, peak-inside (goal.at.offset_bounds-cells-index c).After-peak_index-index (size_is (goal.at.offset_bounds-cells-index c).After-region_size-size) (popped-fits (goal.at.offset_bounds-cells-index c).After-region_size-size), popped-fits (goal.at.offset_bounds-cells-index c).After-region_size-size)

pub bounds-cells-index : goal.bounds-cells-index
bounds-cells-index c = omega (arith, peak-inside (goal.at.bounds-cells-index c).After-peak_index-index (size_is (goal.at.bounds-cells-index c).After-region_size-size) (popped-fits (goal.at.bounds-cells-index c).After-region_size-size), popped-fits (goal.at.bounds-cells-index c).After-region_size-size)

pub region_with-region-requires : goal.region_with-region-requires
region_with-region-requires c =
    let f = cut (goal.at.region_with-region-requires c).Start in
    omega (arith, f.within, f.kept_high, f.asked.placed, f.sized.some, size_is (goal.at.region_with-region-requires c).After-region_size-size, keep-is (goal.at.region_with-region-requires c).After-kept_cells-keep, peak-inside (goal.at.region_with-region-requires c).After-peak_index-index (size_is (goal.at.region_with-region-requires c).After-region_size-size) (popped-fits (goal.at.region_with-region-requires c).After-region_size-size))

pub rest_of-next-requires : goal.rest_of-next-requires
rest_of-next-requires c =
    let f = cut (goal.at.rest_of-next-requires c).Start in
    omega (arith, f.within, f.kept_high, f.asked.placed, size_is (goal.at.rest_of-next-requires c).After-region_size-size, keep-is (goal.at.rest_of-next-requires c).After-kept_cells-keep)

pub move_to_front-requires : goal.move_to_front-requires
move_to_front-requires c =
    let f = cut (goal.at.move_to_front-requires c).Start in
    omega (arith, f.within, f.kept_high, f.asked.whole.cells, size_is (goal.at.move_to_front-requires c).After-region_size-size, keep-is (goal.at.move_to_front-requires c).After-kept_cells-keep)

pub returns : goal.returns
unfolding pop_answer_by pop_cells_by
returns c =
    simp (
      c.move_to_front.ensures,
      c.rest_of-next.ensures,
      region_is (goal.at.returns c).After-region_with-region
          (peak-is (goal.at.returns c).After-peak_index-index
          (peak-inside (goal.at.returns c).After-peak_index-index (size_is (goal.at.returns c).After-region_size-size) (popped-fits (goal.at.returns c).After-region_size-size))),
      size_is (goal.at.returns c).After-region_size-size,
      keep-is (goal.at.returns c).After-kept_cells-keep,
    ) record { result_value = refl; cells_after = refl }
