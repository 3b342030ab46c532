-- `within_pile` meets its contract: all events but an observation and a setting end the pile.
use Rattle.std.proofs.Common.{◌≡◌, ◌⊎◌, ap, ℕ, List, [], ◌∷◌, sym, refl, ◌∙◌, inl, inr, arith, Result}
use denote.Enum.Declared.{tag_of}
use types.Run.{OneOf}
use lib.Ieee.{Float}
use Rattle.genome.specs.declared.Refusal.TheVariants.{Word}
use Rattle.pileup_words.specs.declared.StreamEvent.{StreamEvent}
use Rattle.pileup_words.specs.declared.StreamEvent.TheVariants.{Locus, Observation, Pop, Setting, Remainder, End}
use Rattle.pileup_words.specs.contracts.StreamEvent.{the_type}
use Rattle.region_program.specs.declared.Phase.TheVariants.{Pile}
use Rattle.region_program.specs.declared.RegionStream.{RegionStream}
use Rattle.region_program.specs.declared.Step.{Step}
use Rattle.region_program.specs.declared.OpenPile.{OpenPile}
use Rattle.region_program.specs.declared.RefusedStep.{RefusedStep}
use Rattle.region_program.specs.Program.{Scoring, within_pile}
use Rattle.region_program.specs.Stream.{EndsPile, Stepped, kernel_after, pile_after}
use Rattle.region_program.specs.Tables.{table_score}
use Rattle.region_program.proofs.Steps.{in_pile_lem, refuses}
use Rattle.region_stream.proofs.within_pile.Goals as goal

-- the keys of the arm are neither an observation's nor a setting's
other : (n : ℕ) → OneOf (0 ∷ 2 ∷ 4 ∷ 5 ∷ []) n → (n ≡ 1 → ⊥) × (n ≡ 3 → ⊥)
other n (inl e) = (λ f. absurd (omega arith), λ f. absurd (omega arith))
other n (inr (inl e)) = (λ f. absurd (omega arith), λ f. absurd (omega arith))
other n (inr (inr (inl e))) = (λ f. absurd (omega arith), λ f. absurd (omega arith))
other n (inr (inr (inr e))) = (λ f. absurd (omega arith), λ f. absurd (omega arith))

-- the events of the arm have these keys
keyed : (e : StreamEvent) → ((q : ℕ) × e ≡ Locus q) ⊎ ((value : ℕ) × e ≡ Pop value) ⊎ e ≡ Remainder ⊎ e ≡ End → OneOf (0 ∷ 2 ∷ 4 ∷ 5 ∷ []) (tag_of the_type e)
keyed e (inl (q, h)) = inl (ap (tag_of the_type) h)
keyed e (inr (inl (value, h))) = inr (inl (ap (tag_of the_type) h))
keyed e (inr (inr (inl h))) = inr (inr (inl (ap (tag_of the_type) h)))
keyed e (inr (inr (inr h))) = inr (inr (inr (ap (tag_of the_type) h)))

-- the end of a pile, as the step of each event that ends it
module _ (scoring : Scoring) (s : RegionStream) (o : OpenPile) (p : s.phase ≡ Pile o) (pile : List ℕ) (kernel cells cells' : List Float) (r : Result Step RefusedStep) (ended : EndsPile scoring s o pile kernel cells cells' r) where
  stepped : (e : StreamEvent) → OneOf (0 ∷ 2 ∷ 4 ∷ 5 ∷ []) (tag_of the_type e) → Stepped scoring e s pile pile kernel kernel cells cells' r
  unfolding within_pile pile_after kernel_after
  stepped (Locus q) h = record { answer = ended.answer ∙ sym (in_pile_lem scoring s pile kernel cells (Locus q) o p); pile_left = refl; kernel_left = rw p; ends = ended.ends }
  stepped (Pop value) h = record { answer = ended.answer ∙ sym (in_pile_lem scoring s pile kernel cells (Pop value) o p); pile_left = refl; kernel_left = refl; ends = ended.ends }
  stepped Remainder h = record { answer = ended.answer ∙ sym (in_pile_lem scoring s pile kernel cells Remainder o p); pile_left = refl; kernel_left = refl; ends = ended.ends }
  stepped End h = record { answer = ended.answer ∙ sym (in_pile_lem scoring s pile kernel cells End o p); pile_left = refl; kernel_left = refl; ends = ended.ends }
  stepped (Observation w) h = absurd ((other 1 h).0 refl)
  stepped (Setting field value) h = absurd ((other 3 h).1 refl)

pub returns-in-Observation : goal.returns-in-Observation
returns-in-Observation c = rw c.in-Observation.is (c.observe.ensures _ _ _)

pub returns-in-Setting : goal.returns-in-Setting
unfolding within_pile
returns-in-Setting c =
    let a = c.args in
    let m = a.memory.now in
    let score = table_score a.tables.now.contributions a.tables.now.priors in
    rw (c.in-Setting.is, c.refused.ensures)
    (refuses score a.s m.pile m.kernel m.cells _ Word _ (in_pile_lem score a.s m.pile m.kernel m.cells _ a.at c.requires))

pub returns-in-Locus : goal.returns-in-Locus
returns-in-Locus c =
    let a = c.args in
    let e = c.end_pile.ensures in
    rw (e.pile_left, e.kernel_left) (stepped _ a.s a.at c.requires _ _ _ _ _ e.ends a.event (keyed a.event c.in-Locus.is))
