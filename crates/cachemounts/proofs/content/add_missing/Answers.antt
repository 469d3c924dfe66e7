use Rattle.std.proofs.Common.{◌≡◌, ◌++◌, ◌∷◌, [], subst, sym, true}
use Rattle.cachemounts.specs.Content.{have_contents}
use Rattle.cachemounts.proofs.ContentLemmas.{AreEmpty-append, missing-then, missing-some}
use Rattle.cachemounts.specs.PrivateContent.{AreEmpty}
use Rattle.cachemounts.proofs.content.add_missing.Goals as goal

pub returns-in-Some-clause-have : goal.returns-in-Some-clause-have
returns-in-Some-clause-have c = λ holds e. missing-some c.args.contents.now c.args.more.now.items holds c.args.hold.now c.slot_of-slot.result c.in-Some._at c.slot_of-slot.ensures c.in-Some.ensures.found e

pub returns-clause-empty : goal.returns-clause-empty
returns-clause-empty c = λ e. subst AreEmpty (sym c.in_ok-push.ensures.items) (AreEmpty-append c.args.more.now.items _ e (c.empty.ensures, tt))

pub returns-clause-have : goal.returns-clause-have
returns-clause-have c = λ holds e.
    subst (λ cs. have_contents (c.args.contents.now ++ cs) (holds ++ c.args.hold.now ∷ []) ≡ true) (sym c.in_ok-push.ensures.items) (missing-then c.args.contents.now c.args.more.now.items holds c.args.hold.now _ e c.in_ok-id.ensures c.slot_of-slot.ensures)
