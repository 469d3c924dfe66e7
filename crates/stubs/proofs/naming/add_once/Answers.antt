use Rattle.stubs.proofs.NameFacts.{once_new, once_old}
use Rattle.stubs.proofs.naming.add_once.Goals as goal

pub returns-in_ok-push-clause-once : goal.returns-in_ok-push-clause-once
returns-in_ok-push-clause-once c =
    once_new c.args.seen.now c.in_ok-copy.field-0 c.in_ok-copy-2.field-0 c.args.name.now c.args.once.now c.push.new.self c.in_ok-is_new.is_new c.in_ok-copy.ensures c.in_ok-copy-2.ensures
    c.in_ok-is_new.ensures.added c.if-is_new.true c.requires c.in_ok-push.ensures.ok

pub returns-else-is_new-clause-once : goal.returns-else-is_new-clause-once
returns-else-is_new-clause-once c =
    once_old c.args.seen.now c.in_ok-copy.field-0 c.args.name.now c.args.once.now c.in_ok-is_new.is_new c.in_ok-copy.ensures c.in_ok-is_new.ensures.added c.if-is_new.false c.requires
