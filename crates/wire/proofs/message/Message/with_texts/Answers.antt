use Rattle.std.proofs.Common.{◌≡◌, ◌++◌, ◌∷◌, [], subst, ◌∙◌}
use Rattle.wire.specs.Fields.{block}
use Rattle.wire.specs.Kinds.{texts_field}
use Rattle.wire.proofs.KindLemmas.{appended_none, texts_more}
use Rattle.wire.proofs.message.Message.with_texts.Goals as goal

pub loop-value-init : goal.loop-value-init
unfolding texts_field
loop-value-init c = appended_none c.args.self

pub loop-value-preserved : goal.loop-value-preserved
loop-value-preserved c =
    texts_more c.args.self c.loop-value.message c.in_ok-message.message c.args.field c.loop-value.value-index c.args.values.now c.value-item.result
    c.loop-value.invariant
    (subst (λ bytes. c.in_ok-message.message ≡ c.loop-value.message ++ block c.args.field bytes ∷ [])
    (c.as_bytes.ensures.value ∙ c.as_str.ensures) c.in_ok-message.ensures)
    c.loop-value-test.true c.value-item.is
