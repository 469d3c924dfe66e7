use Rattle.std.proofs.Common.{◌≡◌, ◌++◌, drop}
use Rattle.std.specs.FinMap.{get as arg_value}
use Rattle.warnings.specs.PrivateKnown.{given_by}
use Rattle.std.specs.List.{filter_map}
use Rattle.warnings.specs.Warnings.{argument_warning}
use Rattle.warnings.proofs.finding.push_arguments.Given as goal

-- the warnings so far and those that are left are all
abbrev pub invariant-loop-argument : goal.invariant-loop-argument
invariant-loop-argument l = l.found ++ filter_map (argument_warning (arg_value l.args) (given_by l.given) l.line) (drop l.argument-index l.arguments) ≡ l.fn.found ++ filter_map (argument_warning (arg_value l.args) (given_by l.given) l.line) l.arguments
