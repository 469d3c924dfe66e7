use Rattle.std.proofs.Common.{length, ap, sym, ◌∙◌, rules}
use Rattle.warnings.proofs.WarningFacts.{as_long}
use Rattle.warnings.proofs.finding.find_warnings.Goals as goal

pub warnings_of-found-requires : goal.warnings_of-found-requires
warnings_of-found-requires c =
    ap length c.as_slice.ensures ∙ (as_long c.in-Ok.lines c.in-Ok.file (search rules) ∙ sym (ap length c.instructions.ensures.list))
