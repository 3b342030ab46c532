-- The scoring of a stream by tables that are lent. By those that were filled for its settings of scoring it is the program's own, so every step is.
use Rattle.std.specs.Prelude.{List, Float}
use Rattle.genotype_likelihoods.specs.Settings.{defaults as scoring_defaults}
use Rattle.contribution_table.specs.Table.{filled}
use Rattle.activity_scoring.specs.Tables.{priors_filled, score_by}
use Rattle.region_program.specs.Program.{Scoring}

abbrev pub table_score : List Float → List Float → Scoring
table_score table priors p words = score_by table priors 0 (record { 0 = p }) words scoring_defaults

-- what filling makes of the slices that a stream is lent
abbrev pub table_filled : List Float → List Float
table_filled l = filled scoring_defaults l

abbrev pub list_filled : List Float → List Float
list_filled l = priors_filled scoring_defaults l
