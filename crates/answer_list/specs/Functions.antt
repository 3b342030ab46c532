-- docs/LISTS.md: the functions that an answer may be of, by their numbers and names.
use Rattle.std.specs.Prelude.{◌≡◌, refl, ◌⊎◌, ◌<◌, ℕ, suc, List, map, Result, MatchResult, codes}
use Rattle.lists.specs.Each.{tabulate}
use Rattle.answer_list.specs.declared.functions.TheConstants.Function.{ALL}
use Rattle.answer_list.specs.declared.functions.Function.{Function}
use Rattle.answer_list.specs.declared.functions.UnknownFunction.{UnknownFunction}
use Rattle.answer_list.specs.declared.functions.Function.TheVariants.{Exp, Ln, Log10, TenTo, LnGamma, NormalDistribution, MakeGaussianKernel, AdaptiveFilterSize, Making, Add, Pop, Run, ClipCount, Score, PairSum, Log10Sum, RegionProgram, Sheet, CellsNeeded, SetScore}

abbrev pub function_number : Function → ℕ
function_number Exp = 1
function_number Ln = 2
function_number Log10 = 3
function_number TenTo = 4
function_number LnGamma = 5
function_number NormalDistribution = 6
function_number MakeGaussianKernel = 7
function_number AdaptiveFilterSize = 8
function_number Making = 9
function_number Add = 10
function_number Pop = 11
function_number Run = 12
function_number ClipCount = 13
function_number Score = 14
function_number PairSum = 15
function_number Log10Sum = 16
function_number RegionProgram = 17
function_number Sheet = 18
function_number CellsNeeded = 19
function_number SetScore = 20

-- the function of a number; 0 and what is past 20 are no function's
abbrev pub NamesFunction : ℕ → Result Function UnknownFunction → Type 0
NamesFunction n r = MatchResult r (λ f. function_number f ≡ n) (λ e. n ≡ 0 ⊎ 20 < n)

-- the name by which a replay tells how many answers agree, as bytes
abbrev pub function_name : Function → List ℕ
function_name Exp = codes "exp"
function_name Ln = codes "ln"
function_name Log10 = codes "log10"
function_name TenTo = codes "ten_to"
function_name LnGamma = codes "ln_gamma"
function_name NormalDistribution = codes "normal_distribution"
function_name MakeGaussianKernel = codes "make_gaussian_kernel"
function_name AdaptiveFilterSize = codes "adaptive_filter_size"
function_name Making = codes "making"
function_name Add = codes "add"
function_name Pop = codes "pop"
function_name Run = codes "run"
function_name ClipCount = codes "clip count"
function_name Score = codes "score"
function_name PairSum = codes "approximate_log10_sum_log10_pair"
function_name Log10Sum = codes "log10_sum_log10"
function_name RegionProgram = codes "region program"
function_name Sheet = codes "sheet"
function_name CellsNeeded = codes "cells needed"
function_name SetScore = codes "score of a set"

-- `Function::ALL` has each of the twenty functions at its place: number k + 1 at k
pub all_in_order : map function_number ALL ≡ tabulate suc 20
unfolding tabulate
all_in_order = refl
