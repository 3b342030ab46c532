-- `with_word` meets its contract: skipped, or four entries of the word's row.
use Rattle.std.proofs.Common.{◌≡◌, false, sym, ap, ◌∙◌, add_assoc}
use Rattle.contribution_table.specs.Table.{taken_at}
use Rattle.genotype_likelihoods.specs.Likelihoods.{counted}
use Rattle.genotype_likelihoods.specs.Observation.{effective_qual, qual_of, skipped}
use Rattle.genotype_likelihoods.proofs.Skipped.{counted_has_quality}
use Rattle.contribution_table.proofs.rows.Rows.with_word.Goals as goal

pub returns-then-skip_observation : goal.returns-then-skip_observation
unfolding taken_at counted
returns-then-skip_observation c =
    let at = c in
    simp (← at.from_word-obs.ensures, ← at.effective_qual-qual.ensures, sym at.skip_observation.ensures ∙ c.if-skip_observation.true)

pub place_of-at-requires : goal.place_of-at-requires
place_of-at-requires c =
    let at = c in
    let a = at.args in
    let rows = a.self.now in
    let o = at.from_word-obs.ensures in
    let q : at.effective_qual-qual.result ≡ qual_of a.self.now.params a.w = at.effective_qual-qual.ensures ∙ ap (effective_qual a.self.now.params) o in
    let left : skipped a.self.now.params a.w ≡ false = simp (← o, ← at.effective_qual-qual.ensures) (sym at.skip_observation.ensures ∙ c.if-skip_observation.false) in
    (rw q (counted_has_quality rows.params a.w rows.deletions left), rows.small, at.requires.1)

pub returns : goal.returns
unfolding taken_at counted
returns c =
    let place = c in
    let at = place in
    let a = at.args in
    let o = at.from_word-obs.ensures in
    let q : at.effective_qual-qual.result ≡ qual_of a.self.now.params a.w = at.effective_qual-qual.ensures ∙ ap (effective_qual a.self.now.params) o in
    let left : skipped a.self.now.params a.w ≡ false = simp (← o, ← at.effective_qual-qual.ensures) (sym at.skip_observation.ensures ∙ place.if-skip_observation.false) in
    let e = place.place_of-at.ensures.0 in
    simp (left, e, q, o, a.self.now.of_ploidy, add_assoc)
