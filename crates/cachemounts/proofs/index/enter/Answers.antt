use Rattle.std.proofs.Common.{ap, subst, refl, IsSome, Option, List, ℕ}
use Rattle.cachemounts.proofs.IndexLemmas.{pushed-grows, pushed-there, first-grows, first-there}
use Rattle.cachemounts.proofs.index.enter.Goals as goal

pub returns-in-Some-clause-grows : goal.returns-in-Some-clause-grows
returns-in-Some-clause-grows c =
    let changed = ((c.get_mut.follows.holds c.push.new.self).3 (subst (λ (o : Option (List ℕ)). IsSome o) c.in-Some.ensures.value refl)).0 in
    pushed-grows c.push.result _ _ c.args.id.now _ _ c.args.place c.in-Some.ensures.value changed c.push.ensures.ok c.push.ensures.err

pub returns-in-Some-clause-entered : goal.returns-in-Some-clause-entered
returns-in-Some-clause-entered c =
    let changed = ((c.get_mut.follows.holds c.push.new.self).3 (subst (λ (o : Option (List ℕ)). IsSome o) c.in-Some.ensures.value refl)).0 in
    pushed-there c.push.result _ _ c.args.id.now _ _ c.args.place changed c.push.ensures.ok

pub returns-in-None-clause-grows : goal.returns-in-None-clause-grows
returns-in-None-clause-grows c =
    first-grows c.enter_first.result _ _ _ c.args.id.now c.args.place (ap (λ m. m.entries) c.get_mut.follows.holds-at-none) c.in-None.ensures.value c.enter_first.ensures.ok c.enter_first.ensures.err

pub returns-in-None-clause-entered : goal.returns-in-None-clause-entered
returns-in-None-clause-entered c = first-there c.enter_first.result _ _ c.args.id.now c.args.place c.enter_first.ensures.ok
