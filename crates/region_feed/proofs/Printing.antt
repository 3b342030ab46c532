-- What one step at a word prints, what two do, and what the end of the input does. Assumes nothing.
use mathlib.Core.Path.{◌≡◌, refl, sym, ap, subst, ◌∙◌}
use mathlib.Core.Bool.{Bool, true, false}
use mathlib.Core.List.{List, [], ◌∷◌, ◌++◌, append_assoc}
use Rattle.std.specs.Prelude.{Result, Ok, Err, Some, None}
use Prim.Native.Nat.{ℕ, suc, ◌+◌, ◌-◌, ◌≤◌, ◌<◌}
use native.Mathlib.Omega.{arith}
use lib.ListN.{length, length-drop, get_or, take, drop, take-append-drop}
use lib.Seq.{take_all, drop-cons, drop-drop}
use lib.Ieee.{Float}
use Rattle.pileup_words.specs.Events.{event_of, events_of, last_event}
use Rattle.genome.specs.Refusals.{number_of, Outcome, refused, answered}
use Rattle.activity_profile.specs.declared.BandPassActivityProfile.{BandPassActivityProfile}
use Rattle.region_program.specs.declared.RegionStream.{RegionStream}
use Rattle.region_program.specs.declared.Step.{Step}
use Rattle.region_program.specs.declared.Step.TheVariants.{Next, Again, Line}
use Rattle.region_program.specs.declared.RefusedStep.{RefusedStep}
use Rattle.region_program.specs.Program.{Scoring, Reading, Place, at_settings, at_loci, in_pile, Answer, goes, again, line, stops, before_loci, between_piles, score_added, score_cells, ended_with, ended_by, within_pile}
use Rattle.region_program.specs.Program.{act_at, act_by, Printed, printed, finished, after}
use Rattle.region_program.specs.Feeding.{FedBy, at_last, onward, once_more, printing, halted}
use Rattle.region_program.specs.Run.{acted_on}
use Rattle.region_program.specs.Stream.{seen, answer_of}
use Rattle.region_program.proofs.Runs.{fed_run}
use Rattle.region_program.proofs.Acts.{again_ends}
use Rattle.region_feed.specs.declared.Fed.{Fed}
use Rattle.region_feed.specs.Feed.{Found, fed_by, found_in, closing, Prints, PrintsWord}

-- ---- a word

module _ (scoring : Scoring) (w at : ℕ) (a : Reading) (pile : List ℕ) (kernel cells : List Float) where
  pub step_prints : (step : Result Step RefusedStep) → answer_of step pile kernel cells ≡ act_by scoring (event_of w) a
      → PrintsWord scoring w at (fed_by step at) a (seen (fed_by step at).stream pile kernel cells)
  unfolding events_of
  step_prints (Ok (Next t)) e words =
      let one : at + 1 - at ≡ 1 = omega arith in
      rw one (λ later remainder p f. onward a (seen t pile kernel cells) (event_of w) (events_of (words ++ later) remainder) p (sym e) f)
  step_prints (Ok (Again t)) e words =
      let none : at - at ≡ 0 = omega arith in
      rw none (λ later remainder p f. once_more a (seen t pile kernel cells) (event_of w) (events_of (words ++ later) remainder) p (sym e) f)
  step_prints (Ok (Line r t)) e words =
      let none : at - at ≡ 0 = omega arith in
      rw none (λ later remainder p f. printing a (seen t pile kernel cells) (event_of w) (events_of (words ++ later) remainder) r p (sym e) f)
  step_prints (Err y) e words = λ later remainder. halted a (seen y.stream pile kernel cells) (event_of w) (events_of (words ++ later) remainder) (number_of y.why.refusal) y.why.index (sym e)

-- where the first step ended a pile, what is found is that of the second
pub again_prints : (scoring : Scoring) (w : ℕ) (a b c : Reading) (f : Found) (words rest : List ℕ) → act_by scoring (event_of w) a ≡ again b
    → Prints scoring f b (w ∷ words) c rest → Prints scoring f a (w ∷ words) c rest
unfolding events_of
again_prints scoring w a b c (Ok None) words rest h g = λ later remainder p q. once_more a b (event_of w) (events_of (words ++ later) remainder) p h (g later remainder p q)
again_prints scoring w a b c (Ok (Some r)) words rest h g = λ later remainder p q. once_more a b (event_of w) (events_of (words ++ later) remainder) (after r p) h (g later remainder p q)
again_prints scoring w a b c (Err y) words rest h g = λ later remainder. once_more a b (event_of w) (events_of (words ++ later) remainder) _ h (g later remainder)

-- ---- words that were taken before

pub taken_prints : (scoring : Scoring) (a b c : Reading) (f : Found) (run words rest : List ℕ)
    → ((remainder : Bool) (more : List ℕ) (p : Printed) → FedBy scoring b (events_of more remainder) p → FedBy scoring a (events_of (run ++ more) remainder) p)
    → Prints scoring f b words c rest → Prints scoring f a (run ++ words) c rest
taken_prints scoring a b c (Ok None) run words rest h g = λ later remainder p q. rw (append_assoc run words later) (h remainder (words ++ later) p (g later remainder p q))
taken_prints scoring a b c (Ok (Some r)) run words rest h g = λ later remainder p q. rw (append_assoc run words later) (h remainder (words ++ later) (after r p) (g later remainder p q))
taken_prints scoring a b c (Err y) run words rest h g = λ later remainder. rw (append_assoc run words later) (h remainder (words ++ later) _ (g later remainder))

module _ (scoring : Scoring) (a b : Reading) (words : List ℕ) (at n : ℕ) (few : n ≤ length words - at) (acted : goes b ≡ acted_on scoring a (take n (take (length words - at) (drop at words)))) where
  run : List ℕ
  run = take n (take (length words - at) (drop at words))

  -- the words that were taken, and behind them those that are left
  all_words : run ++ drop (at + n) words ≡ drop at words
  unfolding run
  all_words =
      let all : take (length words - at) (drop at words) ≡ drop at words = take_all (length words - at) (drop at words) (omega (arith, length-drop at words)) in
      ap (λ (l : List ℕ). take n l ++ drop (at + n) words) all
      ∙ ap (λ (l : List ℕ). take n (drop at words) ++ l) (sym (drop-drop n at words))
      ∙ take-append-drop n (drop at words)

  behind : (f : Found) (c : Reading) (rest : List ℕ) → Prints scoring f b (drop (at + n) words) c rest → Prints scoring f a (drop at words) c rest
  unfolding run
  behind f c rest g =
      subst (λ (l : List ℕ). Prints scoring f a l c rest) all_words
      (taken_prints scoring a b c f run (drop (at + n) words) rest (λ remainder more p q. fed_run scoring remainder a b run more p acted q) g)

  -- all the words were taken
  pub taken_only : Prints scoring (Ok None) a (drop at words) b (drop (at + n) words)
  taken_only = behind (Ok None) b (drop (at + n) words) (λ later remainder p q. q)

  -- the word behind them was acted on
  pub advanced : (c : Reading) (r : Fed) → at + n < length words → at + n ≤ r.at → PrintsWord scoring (get_or words (at + n) 0) (at + n) r b c
      → Prints scoring r.found a (drop at words) c (drop r.at words)
  advanced c r below on g =
      let next = at + n in
      let here : drop next words ≡ get_or words next 0 ∷ drop (suc next) words = drop-cons words next 0 below in
      let place : next + (r.at - next) ≡ r.at = omega (arith, on) in
      let there : drop (r.at - next) (drop next words) ≡ drop r.at words = drop-drop (r.at - next) next words ∙ ap (λ (k : ℕ). drop k words) place in
      behind r.found c (drop r.at words)
      (subst (λ (l : List ℕ). Prints scoring r.found b (drop next words) c l) there
      (subst (λ (l : List ℕ). Prints scoring r.found b l c (drop (r.at - next) l)) (sym here) (g (drop (suc next) words))))

-- ---- the end of the input

-- neither the end nor a remainder prints a line
abbrev NoLine : Answer → Type 0
NoLine (goes t) = Unit {0}
NoLine (again t) = Unit {0}
NoLine (line r t) = ⊥
NoLine (stops n i t) = Unit {0}

ended_no_line : (scoring : Scoring) (p i : ℕ) (words : List ℕ) (s : Reading) → NoLine (ended_by scoring p i words s)
unfolding ended_by ended_with
ended_no_line scoring p i words s = go (score_added s.profile s.cells s.kernel (scoring p words))
  where
    go : (o : Outcome BandPassActivityProfile) → NoLine (ended_with i s (score_cells s.profile s.cells s.kernel (scoring p words)) o)
    go (refused n) = tt
    go (answered q) = tt

no_line : (scoring : Scoring) (remainder : Bool) (s : Reading) → NoLine (act_by scoring (last_event remainder) s)
unfolding act_at before_loci between_piles within_pile
no_line scoring remainder s = go remainder s.place
  where
    go : (b : Bool) (x : Place) → NoLine (act_at scoring (last_event b) s x)
    go true at_settings = tt
    go false at_settings = tt
    go true at_loci = tt
    go false at_loci = tt
    go true (in_pile p i words) = ended_no_line scoring p i words s
    go false (in_pile p i words) = ended_no_line scoring p i words s

module _ (scoring : Scoring) (remainder : Bool) (a : Reading) (pile : List ℕ) (kernel cells : List Float) where
  -- a step that does not end a pile is the last
  pub last_prints : (step : Result Step RefusedStep) → answer_of step pile kernel cells ≡ act_by scoring (last_event remainder) a → ((t : RegionStream) → step ≡ Ok (Again t) → ⊥)
      → FedBy scoring a (last_event remainder ∷ []) (closing (found_in step))
  last_prints (Ok (Next t)) e n = onward a (seen t pile kernel cells) (last_event remainder) [] (printed [] finished) (sym e) (at_last (seen t pile kernel cells))
  last_prints (Ok (Again t)) e n = absurd (n t refl)
  last_prints (Ok (Line r t)) e n = absurd (subst NoLine (sym e) (no_line scoring remainder a))
  last_prints (Err y) e n = halted a (seen y.stream pile kernel cells) (last_event remainder) [] (number_of y.why.refusal) y.why.index (sym e)

  -- and so is the one behind the end of a pile, from z on to a, since none is open then
  pub last_again : (z : Reading) (step : Result Step RefusedStep) → act_by scoring (last_event remainder) z ≡ again a → answer_of step pile kernel cells ≡ act_by scoring (last_event remainder) a
      → FedBy scoring z (last_event remainder ∷ []) (closing (found_in step))
  last_again z step h e =
      once_more z a (last_event remainder) [] (closing (found_in step)) h
      (last_prints step e (λ t g.
      (again_ends scoring (last_event remainder) a (seen t pile kernel cells) (sym e ∙ ap (λ (x : Result Step RefusedStep). answer_of x pile kernel cells) g)).was (again_ends scoring (last_event remainder) z a h).none))
