use Rattle.std.specs.FinMap.{get}
use Rattle.stages.specs.Naming.{names_in}
use Rattle.checks.proofs.CheckFacts.{names_lead, never_refused}
use Rattle.checks.proofs.checking.check_named.Goals as goal

pub returns-in-Ok : goal.returns-in-Ok
returns-in-Ok c = names_lead c.args.bundle _ c.args.file c.in-Ok.table c.check_table.result c.as_ref.ensures.value c.in-Ok.ensures.table c.check_table.ensures

pub unreachable-requires : goal.unreachable-requires
unreachable-requires c =
    let b = c.args.bundle in
    never_refused c.the_first_fault_is_the_refusal.ensures.free (names_in b.images) (get b.args) b.target _ c.args.file c.in-Err-Because.field-0
    c.in-Err-Because.field-0-0 c.requires c.as_ref.ensures.value c.in-Err-Because.field-0-is c.in-Err-Because.ensures.table
