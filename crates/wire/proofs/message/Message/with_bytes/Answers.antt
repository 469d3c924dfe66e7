use Rattle.std.proofs.Common.{◌≡◌, ◌++◌, subst, IfOk, sym, ◌∙◌}
use Rattle.wire.proofs.KindLemmas.{bytes_none, bytes_some}
use Rattle.wire.proofs.message.Message.with_bytes.Goals as goal

pub returns-then-is_empty : goal.returns-then-is_empty
returns-then-is_empty c = bytes_none c.args.self c.args.field c.args.value.now (sym c.is_empty.ensures ∙ c.if-is_empty.true)

pub returns : goal.returns
returns c =
    subst (λ fields. IfOk c.with_set_bytes.result (λ message. message ≡ c.args.self ++ fields))
    (bytes_some c.args.field c.args.value.now (sym c.is_empty.ensures ∙ c.if-is_empty.false)) c.with_set_bytes.ensures
