use Rattle.std.proofs.Common.{◌≡◌, ◌++◌, ◌∷◌, [], subst}
use Rattle.wire.specs.Fields.{block}
use Rattle.wire.specs.PrivateMessage.{fields_in}
use Rattle.wire.proofs.MessageLemmas.{grown-view, grown-invariant}
use Rattle.wire.proofs.message.Message.with_set_bytes.Goals as goal

pub invariant_of-result : goal.invariant_of-result
invariant_of-result c = grown-invariant _ _ (block c.args.field c.args.value.now) c.self.invariant c.in_ok-push_block.ensures

pub returns : goal.returns
returns c =
    subst (λ fields. fields_in c.push_block.new.out.items ≡ fields ++ block c.args.field c.args.value.now ∷ []) c.self.view_is
    (grown-view _ _ (block c.args.field c.args.value.now) c.self.invariant c.in_ok-push_block.ensures)
