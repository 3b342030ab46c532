-- `haplotype_caller_activity_profile_state_single_sample` meets its contract: the score without tables.
use Rattle.std.proofs.Common.{◌∙◌}
use Rattle.activity_scoring.proofs.ByTables.{score_zeros}
use Rattle.activity_scoring.proofs.score.haplotype_caller_activity_profile_state_single_sample.Goals as goal

pub returns : goal.returns
returns c =
    let a = c.args in
    c.haplotype_caller_activity_profile_state_by_tables.ensures ∙ score_zeros a.params 0 0 a.contig a.pos a.pile.now
