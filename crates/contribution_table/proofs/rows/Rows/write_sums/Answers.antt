-- `write_sums` meets its contract: the genotypes before i are written, and within four the sums are at hand.
use Rattle.std.proofs.Common.{◌≡◌, ◌+◌, ◌*◌, ◌/◌, ◌%◌, length, sym, ap, ◌∙◌, arith}
use lib.Ieee.{nan}
use Rattle.contribution_table.specs.Sums.{count_in_four, sum_in-four, sum_in}
use Rattle.contribution_table.specs.Table.{sum_at}
use Rattle.contribution_table.specs.declared.Sums.{Sums}
use Rattle.lists.specs.Each.{each-fixed, fixed, up_to_all, up_to_put, up_to_zero}
use Rattle.contribution_table.proofs.rows.Rows.write_sums.Goals as goal

pub loop-i-init : goal.loop-i-init
loop-i-init c = record { written = sym (up_to_zero _ _); at_hand = λ h. absurd (omega (arith, h)); count = λ h. absurd (omega (arith, h)) }

pub sums_at-sums-requires : goal.sums_at-sums-requires
sums_at-sums-requires c =
    let at = c in
    (omega (arith, at.requires), at.loop-i.invariant.at_hand)

pub loop-i-preserved : goal.loop-i-preserved
loop-i-preserved c =
    let at = c in
    let a = at.args in
    let entries = a.self.now.entries.now in
    let s = a.self.now.params in
    let i = at.loop-i.i in
    let now = c.sums_at-sums.ensures in
    let e : c.sum_in.result ≡ sum_at entries s a.pile.now i = c.sum_in.ensures ∙ ap (λ (r : Sums). sum_in r (i % 4)) now ∙ sum_in-four entries s a.pile.now i in
    record {
      written = up_to_put (fixed (sum_at entries s a.pile.now)) i _ _ nan _ at.loop-i.invariant.written (omega arith) e;
      at_hand = λ h. let same : (i + 1) / 4 * 4 ≡ i / 4 * 4 = omega (arith, h) in rw same now;
      count = λ h. ap (λ (r : Sums). r.count) now ∙ count_in_four entries s a.pile.now (i / 4 * 4);
    }

pub returns : goal.returns
returns c =
    let at = c in
    let a = at.args in
    let n : at.loop-i.i ≡ length a.gl.now = omega arith in
    let sum = sum_at a.self.now.entries.now a.self.now.params a.pile.now in
    record { value = λ h. at.loop-i.invariant.count (omega (arith, n, h)); gl_after = at.loop-i.invariant.written ∙ up_to_all (fixed sum) at.loop-i.i a.gl.now n ∙ each-fixed sum a.gl.now }
