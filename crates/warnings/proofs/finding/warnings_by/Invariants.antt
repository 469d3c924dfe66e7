use Rattle.std.proofs.Common.{◌≡◌, ◌++◌, drop}
use Rattle.std.specs.FinMap.{get as arg_value}
use Rattle.warnings.specs.Warnings.{warnings_in, warnings_from}
use Rattle.warnings.specs.PrivateKnown.{known_by}
use Rattle.warnings.proofs.finding.warnings_by.Given as goal

-- the warnings so far and those that are left are all
abbrev pub invariant-loop-index : goal.invariant-loop-index
invariant-loop-index l = l.found ++ warnings_from (known_by (arg_value l.args) l.known) l.place (drop l.index l.lines) (drop l.index l.instructions)
    ≡ warnings_in (known_by (arg_value l.args) l.known) l.lines l.instructions
