-- What build arguments are seen as: the finite map of their rows.
use Rattle.std.specs.FinMap.{from_entries}
use Rattle.scopes.specs.Args.{BuildArguments}
use Rattle.scopes.specs.declared.args.Args.TheInside.{Inside}

abbrev pub build_arguments_of : Inside → BuildArguments
build_arguments_of a = from_entries a.values
