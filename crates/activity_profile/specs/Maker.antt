-- 02, U5: "a maker who pops unforced, with one max, until "held" or "empty" after every add", what it is that refusal 10 never occurs, and the
-- list for which one cell fewer is refused.
use Rattle.std.specs.Prelude.{◌≡◌, Bool, false, List, [], ◌∷◌, ◌++◌, ℕ, zero, suc, ◌+◌, ◌-◌, ◌≤◌, min, length, Float}
use Prim.{⊥}
use Rattle.doubles.specs.Constants.{zero_f, one_f}
use Rattle.genome.specs.Refusals.{cells_refusal}
use Rattle.activity_profile.specs.declared.BandPassActivityProfile.{BandPassActivityProfile}
use Rattle.activity_profile.specs.declared.ActivityProfileState.{ActivityProfileState}
use Rattle.activity_profile.specs.declared.ActivityProfileRegion.{ActivityProfileRegion}
use Rattle.activity_profile.specs.declared.ActivityEvidence.TheVariants.{Plain}
use Rattle.activity_profile.specs.Loci.{from}
use Rattle.activity_profile.specs.Add.{refused_add, add_answer}
use Rattle.activity_profile.specs.Pop.{empty_pop, held_pop, region_pop, pop_answer}
use Rattle.activity_profile.specs.Run.{Call, Add, Pop, Lent, step, after, accepted_in}

-- ---- such a maker's calls

-- what may be another from pop to pop: the extension, and a min of at least 1. A min of 0 is refused 11, and answers "held" never
pub record Sizes : Type 0 where
  pub extension : ℕ
  pub least : ℕ
  pub floor : 1 ≤ least

-- an unforced pop with the one max
abbrev pub pop_of : ℕ → Sizes → Call
pop_of most z = Pop z.extension z.least most false

-- "pops unforced, with one max, until "held" or "empty"": the pops from l on. All but the last answer a region
pub data UntilHeld (most : ℕ) : Lent → List Call → Type 0 where
  at_held : (l : Lent) (z : Sizes) (q : BandPassActivityProfile) → pop_answer l.profile l.cells z.extension z.least most false ≡ held_pop q
      → UntilHeld most l (pop_of most z ∷ [])
  at_empty : (l : Lent) (z : Sizes) (q : BandPassActivityProfile) → pop_answer l.profile l.cells z.extension z.least most false ≡ empty_pop q
      → UntilHeld most l (pop_of most z ∷ [])
  past_region : (l : Lent) (z : Sizes) (r : ActivityProfileRegion) (q : BandPassActivityProfile) (pops : List Call)
      → pop_answer l.profile l.cells z.extension z.least most false ≡ region_pop r q → UntilHeld most (step l (pop_of most z)) pops
      → UntilHeld most l (pop_of most z ∷ pops)

-- ".. after every add", whatever its state and kernel are, accepted or refused: the calls from l on
pub data Fed (most : ℕ) : Lent → List Call → Type 0 where
  none : (l : Lent) → Fed most l []
  -- the add after which they have not popped yet
  last : (l : Lent) (s : ActivityProfileState) (kernel : List Float) → Fed most l (Add s kernel ∷ [])
  more : (l : Lent) (s : ActivityProfileState) (kernel : List Float) (pops calls : List Call) → UntilHeld most (step l (Add s kernel)) pops
      → Fed most (after l (Add s kernel ∷ pops)) calls → Fed most l (Add s kernel ∷ pops ++ calls)
  -- more than document 02 asks: a refused add, which changes nothing, needs no pops after it
  refused_add_lem : (l : Lent) (s : ActivityProfileState) (kernel : List Float) (n : ℕ) (q : BandPassActivityProfile) (calls : List Call)
      → add_answer l.profile l.cells kernel s ≡ refused_add n q → Fed most (step l (Add s kernel)) calls → Fed most l (Add s kernel ∷ calls)
  -- and further pops, of any sizes, forced or not, may come between, as they do at the end of a stretch
  besides : (l : Lent) (extension least max : ℕ) (forced : Bool) (calls : List Call) → Fed most (step l (Pop extension least max forced)) calls
      → Fed most l (Pop extension least max forced ∷ calls)

-- "refusal 10 never occurs": not to an add of the calls from l on, those before it being `before`
abbrev pub NeverLacksCells : Lent → List Call → Type 0
NeverLacksCells l calls =
    (before rest : List Call) (s : ActivityProfileState) (kernel : List Float) → calls ≡ before ++ Add s kernel ∷ rest →
    let lent = after l before in
    (q : BandPassActivityProfile) → add_answer lent.profile lent.cells kernel s ≡ refused_add cells_refusal q → ⊥

-- "With that many cells": that many or more, of any content, lent with the fresh record p
abbrev pub Enough : BandPassActivityProfile → ℕ → ℕ → Type 0
Enough p most n =
    (cells : List Float) → n ≤ length cells → (calls : List Call) →
    let fresh : Lent = record { profile = p; cells = cells } in
    Fed most fresh calls → NeverLacksCells fresh calls

-- ---- that there is such a maker

-- n pops, of the sizes that are chosen for the first, the second and so on
abbrev pub pops_by : ℕ → (ℕ → Sizes) → ℕ → List Call
pops_by most choose zero = []
pops_by most choose (suc n) = pop_of most (choose 0) ∷ pops_by most (λ i. choose (suc i)) n

-- popping from l on ends: so many pops, of the sizes chosen, come to "held" or "empty", one more than the cells in use at most
pub record PopsEnd (most : ℕ) (choose : ℕ → Sizes) (l : Lent) : Type 0 where
  pub pops : ℕ
  pub few : pops ≤ suc l.profile.count
  pub until-held : UntilHeld most l (pops_by most choose pops)

-- the adds among calls, in order: the state and the kernel of each
abbrev pub adds_in : List Call → List (ActivityProfileState × List Float)
adds_in [] = []
adds_in (Add s kernel ∷ calls) = (s, kernel) ∷ adds_in calls
adds_in (Pop extension least most forced ∷ calls) = adds_in calls

-- such a maker's calls with just these adds
pub record FedWith (most : ℕ) (l : Lent) (adds : List (ActivityProfileState × List Float)) : Type 0 where
  pub calls : List Call
  pub fed : Fed most l calls
  pub same_adds : adds_in calls ≡ adds

-- ---- "a list is shown for which one cell fewer is refused"

-- a locus of plain evidence
abbrev pub plain_at : ℕ → ℕ → Float → ActivityProfileState
plain_at contig q x = record {
  contig = contig;
  pos = record { 0 = q };
  active_prob = x;
  original_active_prob = x;
  evidence = Plain;
}

-- probability 0.0 at the n loci from a on, and a pop of the sizes z after each
abbrev pub zeros_from : ℕ → List Float → ℕ → Sizes → ℕ → ℕ → List Call
zeros_from contig kernel most z a zero = []
zeros_from contig kernel most z a (suc n) = Add (plain_at contig a zero_f) kernel ∷ pop_of most z ∷ zeros_from contig kernel most z (suc a) n

-- .. and then 1.0 at this locus: max + D, or the end of the contig
abbrev pub one_locus : ℕ → ℕ → ℕ → ℕ → ℕ
one_locus most distance filter len = min len (most + distance + filter)

-- lent with the fresh record p, these cells are too few: of such a maker's adds the zeros before locus k are accepted, each, and the 1.0 at k is refused 10
pub record TooFew (p : BandPassActivityProfile) (cells kernel : List Float) (most k : ℕ) (z : Sizes) : Type 0 where
  pub fed : Fed most (record { profile = p; cells = cells }) (zeros_from p.contig kernel most z 1 (k - 1))
  pub accepted : accepted_in (record { profile = p; cells = cells }) (zeros_from p.contig kernel most z 1 (k - 1)) ≡ from 1 (k - 1)
  pub full :
      let l = after (record { profile = p; cells = cells }) (zeros_from p.contig kernel most z 1 (k - 1)) in
      add_answer l.profile l.cells kernel (plain_at p.contig k one_f) ≡ refused_add cells_refusal l.profile
