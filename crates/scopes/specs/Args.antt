-- The build arguments: a finite map from names to values.
use Rattle.std.specs.Prelude.{ℕ, List}
use Rattle.std.specs.Coded.{Coded, coded_list, coded_ℕ}
use Rattle.std.specs.Ordering.{nat_cmp}
use Rattle.std.specs.Cmp.Lexicographic.{slice_cmp}
use Rattle.std.specs.FinMap.{FinMap, code}

abbrev pub BuildArguments : Type 0
BuildArguments = FinMap (slice_cmp nat_cmp) (List ℕ)

abbrev pub build_arguments_code : Coded BuildArguments
build_arguments_code = code (coded_list coded_ℕ) (coded_list coded_ℕ)
