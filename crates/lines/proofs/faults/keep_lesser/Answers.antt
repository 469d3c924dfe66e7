use Rattle.std.proofs.Common.{subst}
use Rattle.lines.specs.Faults.{IsLeastIfAny}
use Rattle.lines.proofs.FaultLaws.{IsLeast-stays, IsLeast-yields}
use Rattle.lines.proofs.faults.keep_lesser.Goals as goal

pub returns-then-is_before : goal.returns-then-is_before
returns-then-is_before c before h = IsLeast-yields before c.in-Some.found c.args.other (subst (IsLeastIfAny before) c.in-Some.is h) c.if-is_before.ensures

pub returns-else-is_before : goal.returns-else-is_before
returns-else-is_before c before h = IsLeast-stays before c.in-Some.found c.args.other (subst (IsLeastIfAny before) c.in-Some.is h) c.if-is_before.ensures
