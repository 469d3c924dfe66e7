use Rattle.cachemounts.proofs.IndexLemmas.{position-found, position-none}
use Rattle.cachemounts.proofs.contents.Contents.position_of.Goals as goal

pub returns-clause-found : goal.returns-clause-found
returns-clause-found c =
    position-found c.as_slice.result.now c.self.inside.list.items c.args.self.now c.self.inside.index.places.entries c.args.id.now c.args.slot c.under.result.now c.first_among.result c.as_slice.ensures.value c.self.view_is c.under.ensures c.self.invariant c.first_among.ensures

pub returns-clause-none : goal.returns-clause-none
returns-clause-none c =
    position-none c.as_slice.result.now c.self.inside.list.items c.args.self.now c.self.inside.index.places.entries c.args.id.now c.args.slot c.under.result.now c.first_among.result c.as_slice.ensures.value c.self.view_is c.under.ensures c.self.invariant c.first_among.ensures
