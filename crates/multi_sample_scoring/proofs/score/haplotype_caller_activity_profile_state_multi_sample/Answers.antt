-- `haplotype_caller_activity_profile_state_multi_sample` meets its contract: the score without tables.
use mathlib.Core.Path.{◌∙◌}
use Rattle.multi_sample_scoring.proofs.Tables.{set_zeros}
use Rattle.multi_sample_scoring.proofs.score.haplotype_caller_activity_profile_state_multi_sample.Goals as goal

pub returns : goal.returns
returns c =
    let a = c.args in
    c.haplotype_caller_activity_profile_state_multi_sample_by_tables.ensures ∙ set_zeros a.params 0 0 a.contig a.pos a.words.now a.lengths.now
