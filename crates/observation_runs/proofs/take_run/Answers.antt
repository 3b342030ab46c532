-- `take_run` meets its contract: every word that is taken is an observation, and is kept.
use Rattle.std.proofs.Common.{◌≡◌, ℕ, ◌^◌, ◌<◌, true, length, get_or, ◌∙◌, arith, rules}
use Rattle.pileup_words.specs.Words.{is_observation}
use Rattle.lists.specs.Loops.{first_at, first_at_before}
use Rattle.lists.specs.Tests.{not_false}
use Rattle.region_program.proofs.Runs.{run_taken}
use Rattle.region_program.specs.Run.{is_other}
use Rattle.region_program.specs.Stream.{PILE}
use Rattle.observation_runs.proofs.Front.{run_first}
use Rattle.observation_runs.proofs.take_run.Goals as goal

pub returns : goal.returns
returns c =
    let a = c.args in
    let n = c.run_length-taken.result in
    let r = c.run_length-taken.ensures in
    let first : n ≡ first_at is_other a.words.now = r.all ∙ run_first a.words.now in
    let seen_all : (k : ℕ) → k < n → is_observation (get_or a.words.now k 0) ≡ true = λ k h. not_false (is_observation (get_or a.words.now k 0)) (first_at_before is_other a.words.now k 0 (rw (← first) h)) in
    let e = c.keep_all-depth.ensures in
    let small : a.s.index < 2 ^ 64 = omega (arith, c.well_formed) in
    let long : length a.pile.now ≡ PILE = search rules in
    simp (c.run_of.ensures, e.value, e.pile_after)
    (record {
      all = rw c.requires first;
      few = r.few;
      acted = λ scoring kernel cells. run_taken scoring a.s a.at.locus a.at.locus_index a.at.depth a.words.now a.pile.now kernel cells long c.requires small n r.few seen_all;
      kept_pile = rw c.requires;
      same-acts = rw c.requires;
    })
