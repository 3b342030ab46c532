-- `make_profile` meets its contract: the kernel that the making left in its buffers is copied.
use borrow.Author.Rules.{rules}
use lib.Ieee.{Float}
use lib.ListN.{length, replicate}
use mathlib.Core.List.{List}
use mathlib.Core.Path.{◌∙◌, ◌≡◌, ap, refl, sym}
use Rattle.genome.specs.Refusals.{outcome_of}
use Rattle.doubles.specs.Constants.{zero_f}
use Rattle.region_program.specs.Program.{buffer_size, profile_made}
use Rattle.region_program.proofs.Steps.{kernel_copied}
use Rattle.stream_profile.proofs.make_profile.Goals as goal

-- the buffers that the making is lent
abbrev zeros : List Float
zeros = replicate buffer_size zero_f

pub returns-clause-kernel_after : goal.returns-clause-kernel_after
returns-clause-kernel_after c =
    let copy = c.copy_kernel.ensures in
    let part = c.normalized_kernel-part.ensures in
    let e = c.new.ensures in
    let a = c.args in
    let long : length a.kernel.now ≡ buffer_size = search rules in
    let m : outcome_of c.new.result ≡ profile_made a.settings = e.result_value ∙ simp c.params-params.ensures in
    simp (copy.to_after, part, e.full_after, e.narrow_after, c.params-params.ensures)
    (kernel_copied a.settings zeros zeros a.kernel.now _ refl refl long (sym m ∙ ap outcome_of c.in_ok-p.was))
