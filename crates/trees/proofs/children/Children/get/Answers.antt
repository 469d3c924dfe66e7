use Rattle.trees.proofs.PartSteps.{get-found, get-none}
use Rattle.trees.proofs.children.Children.get.Goals as goal

pub returns-in-Some : goal.returns-in-Some
returns-in-Some c =
    record { value = get-found c.args.name.now c.as_slice.result.now c.self.inside.parts.items c.deref.result.now c.args.self.now c.place-at.result c.in-Some.part.now c.deref-in-Some.result.now _ c.self.view_is c.place-at.ensures c.as_slice.ensures.value c.deref.ensures.value c.in-Some.ensures.lookup.3.0 c.in-Some.ensures.lookup.1 c.deref-in-Some.ensures c.get-in-Some.ensures.value }

pub returns-in-None : goal.returns-in-None
returns-in-None c =
    record { value = get-none c.args.name.now c.as_slice.result.now c.self.inside.parts.items c.deref.result.now c.args.self.now c.place-at.result c.self.view_is c.place-at.ensures c.as_slice.ensures.value c.deref.ensures.value c.in-None.ensures.lookup.3 }
