use Rattle.std.proofs.Common.{◌≡◌, ◌∙◌, ◌+◌, ◌∷◌, ◌++◌, [], List, map, take, get_or, sym, ap, rules}
use Rattle.std.proofs.lemmas.List.{map_push, take_more}
use Rattle.trees.specs.TreeMap.{TreeMap}
use Rattle.memo.specs.PrivateGeneration.{IsMore}
use Rattle.memo.proofs.GenerationLemmas.{more-on, numbers-push, below-push}
use Rattle.memo.proofs.generation.keep_all.Goals as goal

pub loop-tree-preserved : goal.loop-tree-preserved
loop-tree-preserved c =
    let added = c.args.added.now in
    let at = c.loop-tree.tree-index in
    let item = c.tree-item.result in
    let here : get_or added at item ≡ item = search rules in
    let next : take (at + 1) added ≡ take at added ++ item ∷ [] = take_more added at item (search rules) ∙ ap (λ x. take at added ++ x ∷ []) here in
    let old = c.loop-tree.trees.items in
    let new = c.keep.new.trees.items in
    let numbers = c.loop-tree.numbers.items in
    let number = c.in_ok-keep.field-0 in
    let before : List TreeMap = map (λ lent. lent.now) (take at added) in
    let all : map (λ lent. lent.now) (take (at + 1) added) ≡ before ++ item.now ∷ [] = ap (λ ts. map (λ lent. lent.now) ts) next ∙ map_push (λ lent. lent.now) (take at added) item in
    let one : IsMore old new = record { more = item.now ∷ []; is = c.in_ok-keep.ensures.ok } in
    let after = c.push.new.self.items in (
      more-on c.args.trees.now.items old new c.loop-tree.invariant.0 one,
      numbers-push old new item.now numbers after number before c.in_ok-keep.ensures.ok c.in_ok-keep.ensures.number c.in_ok-push.ensures.items c.loop-tree.invariant.2 c.loop-tree.invariant.1 ∙ sym all,
      below-push old new item.now numbers after number c.in_ok-keep.ensures.ok c.in_ok-keep.ensures.number c.in_ok-push.ensures.items c.loop-tree.invariant.2,
    )
