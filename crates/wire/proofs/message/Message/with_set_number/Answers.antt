use Rattle.std.proofs.Common.{◌≡◌, ◌++◌, ◌∷◌, [], subst}
use Rattle.wire.specs.Fields.{number}
use Rattle.wire.specs.PrivateMessage.{fields_in}
use Rattle.wire.proofs.MessageLemmas.{grown-view, grown-invariant}
use Rattle.wire.proofs.message.Message.with_set_number.Goals as goal

pub invariant_of-result : goal.invariant_of-result
invariant_of-result c = grown-invariant _ _ (number c.args.field c.args.value) c.self.invariant c.in_ok-push_number.ensures

pub returns : goal.returns
returns c =
    subst (λ fields. fields_in c.push_number.new.out.items ≡ fields ++ number c.args.field c.args.value ∷ []) c.self.view_is
    (grown-view _ _ (number c.args.field c.args.value) c.self.invariant c.in_ok-push_number.ensures)
