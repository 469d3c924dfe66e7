use Rattle.std.proofs.Common.{◌≡◌, ◌∙◌, ◌+◌, ◌∷◌, ◌++◌, [], Some, take, get_or, refl, ap, sym, rules}
use Rattle.std.proofs.lemmas.List.{take_more}
use Rattle.plans.specs.Value.{trees_at}
use Rattle.memo.specs.Kept.{kept_trees}
use Rattle.memo.specs.Memo.{GenerationValue}
use Rattle.memo.specs.Numbers.{generation_of}
use Rattle.solver.proofs.RecallLemmas.{numbers-push}
use Rattle.solver.proofs.recall.Recall.numbers_of.Goals as goal

pub loop-at-init : goal.loop-at-init
loop-at-init g c = rw c.in_ok-numbers.ensures.items refl

pub loop-at-preserved : goal.loop-at-preserved
loop-at-preserved g c =
    let values = g.N.Numbering.values in
    let generation : GenerationValue = generation_of c.args.self.now c.args.age in
    let ids = c.args.vertex.now.inputs in
    let at = c.loop-at.at in
    let id = get_or ids at 0 in
    let more : take (at + 1) ids ≡ take at ids ++ id ∷ [] = take_more ids at 0 (search rules) in
    let pushed = numbers-push values (take at ids) id generation c.loop-at.numbers.items c.in-Some.number c.loop-at.invariant c.in-Some.ensures in
    ap (trees_at values) more ∙ (pushed ∙ ap (λ ns. Some (kept_trees generation ns)) (sym c.in_ok-push.ensures.items))
