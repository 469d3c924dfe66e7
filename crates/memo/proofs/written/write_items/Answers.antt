use Rattle.std.proofs.Common.{◌≡◌, ◌∙◌, ◌+◌, ◌∷◌, ◌++◌, [], take, get_or, sym, ap, subst, rules}
use Rattle.std.specs.List.{flat_map}
use Rattle.std.proofs.lemmas.List.{append-nil, take_more}
use Rattle.std.proofs.lemmas.List.Concat.{flat_map-append}
use Rattle.memo.specs.Key.{Takes}
use Rattle.memo.proofs.WrittenLemmas.{takes_then}
use Rattle.memo.proofs.written.write_items.Goals as goal

pub loop-item-preserved : goal.loop-item-preserved
loop-item-preserved g c =
    let writes = g.T.Written.writes in
    let items = c.args.items.now in
    let at = c.loop-item.item-index in
    let item = c.item-item.result in
    let here : get_or items at item ≡ item = search rules in
    let next : take (at + 1) items ≡ take at items ++ item ∷ [] = take_more items at item (search rules) ∙ ap (λ x. take at items ++ x ∷ []) here in
    let more : flat_map writes (take (at + 1) items) ≡ flat_map writes (take at items) ++ writes item =
    ap (flat_map writes) next ∙ (flat_map-append writes (take at items) (item ∷ []) ∙ ap (λ rest. flat_map writes (take at items) ++ rest) (append-nil (writes item))) in
    subst (Takes c.write_to.new.hasher c.write_to-in-loop-item.new.hasher) (sym more)
    (takes_then c.write_to.new.hasher c.loop-item.hasher c.write_to-in-loop-item.new.hasher (flat_map writes (take at items)) (writes item) c.loop-item.invariant c.write_to-in-loop-item.ensures)
