use Rattle.std.specs.FinMap.{get as arg_value}
use Rattle.warnings.proofs.WarningFacts.{by_known}
use Rattle.warnings.proofs.finding.warnings_of.Goals as goal

pub returns : goal.returns
returns c =
    by_known (arg_value c.args.args.now) c.args.lines.now c.args.instructions.now c.in_ok-known.known c.warnings_by-found.result c.in_ok-known.ensures
    c.warnings_by-found.ensures
