use Rattle.std.proofs.Common.{ap, ◌∙◌}
use Rattle.wire.specs.Messages.{message_bytes}
use Rattle.llbmessages.proofs.DefinitionBack.{definition_read}
use Rattle.llbmessages.proofs.definition.Definition.to_bytes.Goals as goal

pub returns-clause-back : goal.returns-clause-back
returns-clause-back c = definition_read c.args.self.now c.into_bytes.result (c.into_bytes.ensures ∙ ap message_bytes c.in_ok-encode.ensures)
