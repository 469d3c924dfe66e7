use Rattle.std.proofs.Common.{◌∙◌, sym}
use Rattle.instructions.specs.PrivateLent.{lent_arguments}
use Rattle.instructions.proofs.InstructionLaws.{arguments_named}
use Rattle.instructions.proofs.arg.read_arg.Goals as goal

pub named-requires : goal.named-requires
named-requires c = arguments_named c.args.escape (lent_arguments c.as_slice-cuts.result.now) c.in_ok-drafts.drafts (sym c.has_bad_name.ensures ∙ c.if-has_bad_name.false) c.in_ok-drafts.ensures
