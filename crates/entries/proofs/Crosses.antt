-- What prints side by side, and a tree that grows, may go from thread to thread, piece by piece: a search that goes down through all of it runs
-- out of steps.
use denote.Ref.{NamedLft}
use denote.RattleType.{RattleType}
use denote.Param.{param}
use denote.Struct.Tuple.{TupleAt}
use denote.Struct.Field as field
use mathlib.Core.List.{List, [], ◌∷◌}
use Prim.Native.Nat.{ℕ}
use denote.Param.Send.{IsSend, IsSync, AllSend, sendable}
use denote.Struct.Declared.{fields}
use Rattle.std.proofs.Crossing as any
use Rattle.std.proofs.MapsCrossing as maps
use Rattle.plain.proofs.text.Text.TheSendSync as text
use Rattle.trees.proofs.content.Content.TheSendSync as content
use Rattle.trees.proofs.entry.Entry.TheSendSync as entry
use Rattle.trees.proofs.children.Children.TheLaws.TheKnot as knot
use Rattle.std.specs.contracts.alloc.Global as Heap
use Rattle.trees.specs.contracts.walk.Walk as Walk
use Rattle.trees.specs.contracts.walk.Walk.TheInside as WalkInside
use Rattle.trees.specs.contracts.kids.Kids as Kids
use Rattle.trees.specs.contracts.kids.Kids.TheInside as KidsInside
use Rattle.trees.specs.contracts.spine.OpenFolder as Folder
use Rattle.trees.specs.contracts.spine.OpenFolder.TheInside as FolderInside
use Rattle.trees.specs.contracts.builder.TreeBuilder as Builder
use Rattle.entries.specs.contracts.growing_tree.GrowingTree as Growing
use Rattle.entries.specs.contracts.growing_tree.GrowingTree.TheInside as GrowingInside
use Rattle.entries.specs.contracts.together.Share as Share

kids_send : (κ : NamedLft) → IsSend (Kids.the_row κ)
kids_send κ =
    let all : AllSend (fields (KidsInside.the_type κ)) =
    (search (knot.both_send-Node, knot.both_sync-Node, knot.both_send-Names, knot.both_sync-Names, entry.the_field_send, entry.the_field_sync, text.the_send, text.the_sync, sendable, any.crosses, maps.crosses) depth 20, (search (knot.both_send-Node, knot.both_sync-Node, knot.both_send-Names, knot.both_sync-Names, entry.the_field_send, entry.the_field_sync, text.the_send, text.the_sync, sendable, any.crosses, maps.crosses) depth 20, (search (sendable, any.crosses) depth 20, tt))) in
    search (all, sendable) depth 20

walk_send : (κ : NamedLft) → IsSend (Walk.the_row κ)
walk_send κ =
    let all : AllSend (fields (WalkInside.the_type κ)) =
    (search (content.the_sync, sendable, any.crosses) depth 20, (search (kids_send, sendable, any.crosses) depth 20, (search (kids_send, sendable, any.crosses) depth 20, (search (text.the_sync, sendable, any.crosses) depth 20, (search sendable depth 20, tt))))) in
    search (all, sendable) depth 20

pub share_send : (κ : NamedLft) → IsSend (Share.the_row κ)
share_send κ = search (walk_send, sendable, any.crosses) depth 20

-- so may the closure that has all shares print, by what it holds
pub print_send : {ν : List ℕ} (ℓ ℓ' ℓ'' κ : NamedLft) (R : RattleType) → IsSync (param 1 R)
    → IsSend (TupleAt ν ((field.shr_ref_field ℓ Heap.the_row tt).row ∷ ((field.shr_ref_field ℓ' (param 1 R) tt).row ∷ ((field.mut_slice_field ℓ'' (Share.the_row κ) tt).row ∷ []))))
print_send {ν} ℓ ℓ' ℓ'' κ R sync =
    let all : AllSend ((field.shr_ref_field ℓ Heap.the_row tt).row ∷ ((field.shr_ref_field ℓ' (param 1 R) tt).row ∷ ((field.mut_slice_field ℓ'' (Share.the_row κ) tt).row ∷ []))) =
    (search sendable depth 20, (search (sync, sendable) depth 20, (search (share_send, sendable) depth 20, tt))) in
    search (all, sendable) depth 20

folder_send : IsSend Folder.the_row
folder_send =
    let all : AllSend (fields FolderInside.the_type) =
    (search (text.the_send, sendable) depth 20, (search (entry.the_field_send, sendable, any.crosses) depth 20, (search (knot.both_send-Names, knot.both_sync-Names, entry.the_field_send, entry.the_field_sync, text.the_send, text.the_sync, sendable, any.crosses, maps.crosses) depth 20, (search (knot.both_send-Node, entry.the_field_send, entry.the_field_sync, text.the_send, text.the_sync, sendable, any.crosses, maps.crosses) depth 20, (search sendable depth 20, tt))))) in
    search (all, sendable) depth 20

builder_send : IsSend Builder.the_row
builder_send = search (folder_send, sendable, any.crosses) depth 20

pub growing_send : IsSend Growing.the_row
growing_send =
    let all : AllSend (fields GrowingInside.the_type) =
    (search (sendable, any.crosses) depth 20, (search (builder_send, sendable) depth 20, tt)) in
    search (all, sendable) depth 20
