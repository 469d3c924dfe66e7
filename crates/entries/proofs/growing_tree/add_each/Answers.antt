use Rattle.std.proofs.Common.{◌++◌, ◌∷◌, [], append_assoc, ap, sym, ◌∙◌}
use Rattle.std.specs.Vec.Iter.{into_iter_items}
use Rattle.trees.specs.Row.{Row}
use Rattle.entries.proofs.GrowingFacts.{row-built}
use Rattle.entries.proofs.growing_tree.add_each.Goals as goal

pub adding-preserved : goal.adding-preserved
adding-preserved c =
    let seen = c.adding.invariant in
    let row : Row = (c.in-Some.path, c.in-Some.entry) in
    let added = c.in_ok-add.ensures in (
      seen.0 ++ row ∷ [],
      seen.1 ∙ ap (λ l. seen.0 ++ l) c.in-Some.ensures.steps.0 ∙ sym (append_assoc seen.0 (row ∷ []) (into_iter_items c.next.new.self)),
      λ rows built. row-built rows seen.0 row c.adding.builder c.add.new.self c.in_ok-add.field-0 (seen.2 rows built) added.0 added.1 c.if-not-branch.false,
    )
