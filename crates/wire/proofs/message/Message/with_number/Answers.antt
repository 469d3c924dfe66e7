use Rattle.std.proofs.Common.{◌≡◌, ◌++◌, subst, IfOk}
use Rattle.wire.proofs.KindLemmas.{number_none, number_some}
use Rattle.wire.proofs.message.Message.with_number.Goals as goal

pub returns-then-value-eq0 : goal.returns-then-value-eq0
returns-then-value-eq0 c = number_none c.args.self c.args.field c.args.value c.if-value-eq0.true

pub returns : goal.returns
returns c =
    subst (λ fields. IfOk c.with_set_number.result (λ message. message ≡ c.args.self ++ fields))
    (number_some c.args.field c.args.value c.if-value-eq0.false) c.with_set_number.ensures
