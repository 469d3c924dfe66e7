use Rattle.std.proofs.Common.{◌≡◌, ◌∙◌, List, IfNone, sym, ap, subst, rules}
use Rattle.trees.specs.TreeMap.{TreeMap}
use Rattle.memo.specs.Key.{key_of}
use Rattle.memo.specs.Memo.{Lacks}
use Rattle.memo.specs.PrivateGeneration.{IsIndexed, entries_at}
use Rattle.memo.specs.PrivateIndex.{under}
use Rattle.memo.specs.PrivateSought.{inputs_of}
use Rattle.memo.proofs.GenerationLemmas.{lacks-none}
use Rattle.memo.proofs.generation.Generation.find.Goals as goal

pub returns-clause-none : goal.returns-clause-none
returns-clause-none c = λ walks.
    let op = c.args.sought.now.op.now in
    let inputs : List TreeMap = inputs_of c.args.sought.now in
    let index = c.self.inside.index in
    let trees : c.as_slice.result.now ≡ c.self.inside.trees.items = search rules in
    let steps : c.as_slice-2.result.now ≡ c.self.inside.steps.items = search rules in
    let numbers : c.under.result.now ≡ under index (key_of op) = c.under.ensures ∙ ap (under index) c.requires.key in
    let indexed : IsIndexed c.as_slice-2.result.now index = subst (λ ss. IsIndexed ss index) (sym steps) c.self.invariant.1 in
    let lacks : IfNone c.find_hit.result (Lacks (entries_at c.as_slice.result.now c.as_slice-2.result.now) op inputs) =
    lacks-none c.as_slice.result.now c.as_slice-2.result.now index op inputs c.under.result.now c.find_hit.result indexed numbers (c.find_hit.ensures.none walks) in
    let inside : IfNone c.find_hit.result (Lacks (entries_at c.self.inside.trees.items c.self.inside.steps.items) op inputs) =
    subst (λ ts. IfNone c.find_hit.result (Lacks (entries_at ts c.self.inside.steps.items) op inputs)) trees
    (subst (λ ss. IfNone c.find_hit.result (Lacks (entries_at c.as_slice.result.now ss) op inputs)) steps lacks) in
    subst (λ g. IfNone c.find_hit.result (Lacks g.entries op inputs)) c.self.view_is inside
