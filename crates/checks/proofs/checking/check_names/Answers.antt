use Rattle.checks.proofs.CheckFacts.{names_refused, names_sound}
use Rattle.checks.proofs.checking.check_names.Goals as goal

pub check_named-requires : goal.check_named-requires
check_named-requires c = names_sound c.args.faults _ c.is_empty.result c.requires c.is_empty.ensures c.if-is_empty.true

pub returns-else-is_empty : goal.returns-else-is_empty
returns-else-is_empty c = names_refused c.args.bundle c.args.file c.args.faults c.is_empty.result c.requires c.is_empty.ensures c.if-is_empty.false
