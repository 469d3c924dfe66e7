use Rattle.std.proofs.Common.{◌∙◌, ◌↔◌, IsTrue, Bool, List, sym, ap, subst, length}
use Rattle.ignorefile.specs.Kept.{Kept}
use Rattle.trees.specs.Row.{Row}
use Rattle.contexts.proofs.Joining.{Flags}
use Rattle.contexts.proofs.Rows.{zip-length}
use Rattle.contexts.proofs.Whole.{apart, is-context}
use Rattle.contexts.proofs.context.Context.build.Goals as goal

pub place_rows-requires-clause-flagged : goal.place_rows-requires-clause-flagged
place_rows-requires-clause-flagged g c =
    ap (λ l. length l) c.as_slice-2.ensures.value ∙ zip-length (λ row flag. IsTrue flag ↔ Kept c.args.ignore row.0) c.as_slice.result.now c.in_ok-flags.flags.items c.in_ok-flags.ensures ∙ ap (λ l. length l) c.as_slice.ensures.value

pub set_modes-requires : goal.set_modes-requires
set_modes-requires g c = apart c.args.rows.items c.as_slice-2.result.now c.requires c.in_ok-tree.tree c.in_ok-tree.ensures.tree c.in_ok-tree.folders.items c.in_ok-tree.ensures.folders

pub returns : goal.returns
returns g c =
    let flags : Flags c.args.ignore c.args.rows.items c.as_slice-2.result.now =
    subst (λ (l : List Bool). Flags c.args.ignore c.args.rows.items l) (sym c.as_slice-2.ensures.value)
    (subst (λ (l : List Row). Flags c.args.ignore l c.in_ok-flags.flags.items) c.as_slice.ensures.value c.in_ok-flags.ensures) in
    is-context c.args.rows.items c.as_slice-2.result.now c.requires c.in_ok-tree.tree c.in_ok-tree.ensures.tree c.in_ok-tree.folders.items c.in_ok-tree.ensures.folders c.args.ignore flags c.in_ok-tree-2.tree
    c.in_ok-tree-2.ensures
