-- A memo may be lent to several threads.
use denote.RattleType.{RattleType}
use denote.Ref.{NamedLft}
use denote.Param.Send.{IsSync, AllSync, sendable}
use denote.Struct.Declared.{fields}
use Rattle.std.proofs.Crossing as any
use Rattle.std.proofs.MapsCrossing as maps
use Rattle.plain.proofs.items.Items.TheSendSync as items
use Rattle.plain.proofs.text.Text.TheSendSync as text
use Rattle.trees.proofs.entry.Entry.TheSendSync as entry
use Rattle.trees.proofs.children.Children.TheLaws.TheKnot as knot
use Rattle.trees.specs.contracts.tree.Tree as Tree
use Rattle.llb.proofs.op.Op.TheSendSync as op
use Rattle.executor.specs.declared.executor.Executor.{Ghosts}
use Rattle.memo.proofs.index.Index.TheSendSync as index
use Rattle.memo.specs.contracts.step.Step as Step
use Rattle.memo.specs.contracts.generation.Generation as Generation
use Rattle.memo.specs.contracts.generation.Generation.TheInside as GenerationInside
use Rattle.memo.specs.contracts.memo.Memo as Memo
use Rattle.memo.specs.contracts.memo.Memo.TheInside as MemoInside

pub tree_sync : IsSync Tree.the_row
tree_sync = search (knot.both_send-Node, knot.both_sync-Node, entry.the_field_send, entry.the_field_sync, text.the_send, text.the_sync, sendable, any.crosses, maps.crosses) depth 20

pub step_sync : IsSync Step.the_field.row
step_sync = search (op.the_field_sync, items.the_sync, sendable, any.crosses) depth 20

pub generation_sync : IsSync Generation.the_row
generation_sync =
    let all : AllSync (fields GenerationInside.the_type) =
    (search (tree_sync, sendable, any.crosses) depth 20, (search (step_sync, sendable, any.crosses) depth 20, (search (index.the_field_sync, sendable, any.crosses, maps.crosses) depth 20, (search (index.the_field_sync, sendable, any.crosses, maps.crosses) depth 20, tt)))) in
    search (all, sendable) depth 20

pub memo_sync : (κ : NamedLft) (E : RattleType) (g : Ghosts E.Denot) → IsSync E → IsSync (Memo.the_row κ E g)
memo_sync κ E g e =
    let all : AllSync (fields (MemoInside.the_type κ E g)) =
    (search (e, sendable) depth 20, (search (generation_sync, sendable) depth 20, (search (generation_sync, sendable) depth 20, (search sendable depth 20, tt)))) in
    search (all, sendable) depth 20
