-- `step` meets its contract: what is found is written as its text, and a refusal is at the end of the block.
use lib.ListN.{drop}
use mathlib.Core.Bool.{false≢true}
use mathlib.Core.List.{[]}
use mathlib.Core.Path.{◌∙◌, refl, sym}
use native.Mathlib.Omega.{arith}
use Rattle.region_program.proofs.Steps.{acts_few}
use Rattle.region_program.specs.Stream.{seen}
use Rattle.region_program.specs.Tables.{table_score}
use Rattle.region_run.proofs.Texts.{found_goes, found_stopped, goes_nearer}
use Rattle.region_run.specs.Run.{found_text}
use Rattle.region_run.proofs.step.Goals as goal

pub returns-then-over : goal.returns-then-over
returns-then-over c =
    let a = c.args in
    let f = c.advance-fed.result in
    let e = c.advance-fed.ensures in
    let left = c.advance-fed.new.memory in
    let after = seen f.stream left.pile left.kernel left.cells in
    let stops = sym c.is_err-over.ensures.value ∙ c.if-over.true in
    let scoring = table_score a.tables.now.contributions a.tables.now.priors in record {
      new = found_text a.r.form f.found;
      written = c.print-used.ensures.text_after;
      wrote = rw c.if-over.true (found_stopped scoring f.found a.r.form c.form_after-form.result _ after after _ (drop f.at a.words.now) [] stops e.prints);
      room = omega (arith, c.print-used.ensures.upper_bound, c.requires.1);
      done = λ h. refl;
      within = omega arith;
      nearer = omega (arith, c.requires.0, acts_few f.stream);
    }

pub returns : goal.returns
returns c =
    let a = c.args in
    let f = c.advance-fed.result in
    let e = c.advance-fed.ensures in
    let goes = sym c.is_err-over.ensures.value ∙ c.if-over.false in
    let scoring = table_score a.tables.now.contributions a.tables.now.priors in
    simp c.form_after-form.ensures (record {
      new = found_text a.r.form f.found;
      written = c.print-used.ensures.text_after;
      wrote = rw c.if-over.false (found_goes scoring f.found a.r.form _ _ _ _ goes e.prints);
      room = omega (arith, c.print-used.ensures.upper_bound, c.requires.1);
      done = λ h. absurd (false≢true (sym c.if-over.false ∙ h));
      within = e.closer.within (omega (arith, c.requires.0));
      nearer = goes_nearer f.found _ _ _ _ goes (e.closer.nearer c.requires.0);
    })
