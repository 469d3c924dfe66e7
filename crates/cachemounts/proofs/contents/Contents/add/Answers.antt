use Rattle.std.proofs.Common.{◌≡◌, ◌++◌, List, length, subst, rules}
use Rattle.cachemounts.specs.declared.content.Content.{Content}
use Rattle.cachemounts.specs.PrivateIndex.{AreEntered}
use Rattle.cachemounts.proofs.IndexLemmas.{added-indexed, kept-indexed, cut-back}
use Rattle.cachemounts.proofs.contents.Contents.add.Goals as goal

pub invariant_of-self-in-Ok : goal.invariant_of-self-in-Ok
invariant_of-self-in-Ok c =
    let list : c.append.new.self.items ≡ c.self.inside.list.items ++ c.args.more.items = search rules in
    let from : c.len-from.result ≡ length c.self.inside.list.items = search rules in
    let entered = subst (λ (contents : List Content). AreEntered c.enter_from.new.self.places.entries c.len-from.result contents) c.as_slice.ensures.value c.in-Ok.ensures.entered in
    added-indexed c.self.inside.list.items c.args.more.items c.append.new.self.items c.len-from.result c.self.inside.index.places.entries c.enter_from.new.self.places.entries list from c.self.invariant c.in-Ok.ensures.grows entered

pub invariant_of-self-in-Err : goal.invariant_of-self-in-Err
invariant_of-self-in-Err c =
    let list : c.append.new.self.items ≡ c.self.inside.list.items ++ c.args.more.items = search rules in
    let from : c.len-from.result ≡ length c.self.inside.list.items = search rules in
    let back = cut-back c.self.inside.list.items c.args.more.items c.append.new.self.items c.truncate.new.self.items c.len-from.result list from c.truncate.ensures.items in
    kept-indexed c.self.inside.list.items c.truncate.new.self.items c.self.inside.index.places.entries c.enter_from.new.self.places.entries back c.self.invariant c.in-Err.ensures.grows
