use Rattle.std.proofs.Common.{ap, ◌∙◌}
use Rattle.wire.specs.Messages.{message_bytes}
use Rattle.llbmessages.proofs.OpBack.{op_read}
use Rattle.llbmessages.proofs.op.Op.to_bytes.Goals as goal

pub returns-clause-back : goal.returns-clause-back
returns-clause-back c =
    op_read c.args.self.now c.into_bytes.result c.look_at_op.ensures (c.into_bytes.ensures ∙ ap message_bytes c.in_ok-encode.ensures)
