use Rattle.cachemounts.proofs.IndexLemmas.{put-into, put-stays, set-indexed}
use Rattle.cachemounts.proofs.contents.Contents.put.Goals as goal

pub invariant_of-self : goal.invariant_of-self
invariant_of-self c =
    rw c.replace.ensures.after (set-indexed c.self.inside.list.items c.args.self.now c.args.id.now c.args.slot c.in-Some.at c.index_mut.result.now c.args.tree c.self.inside.index.places.entries c.self.view_is c.in-Some.ensures.found c.index_mut.ensures.value c.self.invariant)

pub returns-clause-contents : goal.returns-clause-contents
returns-clause-contents c =
    rw c.replace.ensures.after (put-into c.self.inside.list.items c.args.self.now c.args.id.now c.args.slot c.in-Some.at c.index_mut.result.now c.args.tree c.self.view_is c.in-Some.ensures.found c.index_mut.ensures.value)

pub returns-clause-kept : goal.returns-clause-kept
returns-clause-kept c =
    rw c.replace.ensures.after (put-stays c.self.inside.list.items c.args.self.now c.args.id.now c.args.slot c.in-Some.at c.index_mut.result.now c.args.tree c.self.view_is c.in-Some.ensures.found c.index_mut.ensures.value)
