use Rattle.std.proofs.Common.{◌∙◌, sym}
use Rattle.instructions.specs.PrivateLent.{lent_pairs}
use Rattle.instructions.proofs.InstructionLaws.{assignments_named}
use Rattle.instructions.proofs.env.read_env.Goals as goal

pub named-requires : goal.named-requires
named-requires c = assignments_named c.args.escape (lent_pairs c.as_slice-pairs.result.now) c.in_ok-drafts.drafts (sym c.has_bad_name.ensures ∙ c.if-has_bad_name.false) c.in_ok-drafts.ensures
