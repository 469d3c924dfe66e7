-- A board may go from thread to thread, and its lock may be lent to several, piece by piece: a search that goes down through all of a board runs out of
-- steps.
use denote.RattleType.{RattleType}
use denote.Ref.{NamedLft}
use denote.Param.Send.{IsSend, IsSync, AllSend, AllSync, sendable}
use denote.Struct.Declared.{fields}
use Rattle.std.proofs.Crossing as any
use Rattle.std.proofs.MapsCrossing as maps
use Rattle.std.specs.contracts.result.Result as result
use Rattle.plain.proofs.items.Items.TheSendSync as items
use Rattle.plain.proofs.text.Text.TheSendSync as text
use Rattle.trees.proofs.cause.Cause.TheSendSync as cause
use Rattle.trees.proofs.entry.Entry.TheSendSync as entry
use Rattle.trees.proofs.children.Children.TheLaws.TheKnot as knot
use Rattle.trees.specs.contracts.cause.Cause as cause_row
use Rattle.trees.specs.contracts.tree.Tree as Tree
use Rattle.llb.proofs.graph.Graph.TheSendSync as graph
use Rattle.llb.proofs.vertex.VertexId.TheSendSync as id
use Rattle.plans.specs.contracts.sources.Sources as Sources
use Rattle.executor.specs.declared.executor.Executor.{Ghosts}
use Rattle.cells.specs.declared.place.Place.{Ghosts as PlaceGhosts}
use Rattle.cells.proofs.known.KnownCell.TheSendSync as known
use Rattle.cells.proofs.row.Row.TheSendSync as row
use Rattle.board.specs.contracts.shelf.Shelf as Shelf
use Rattle.board.proofs.shelf.Shelf.TheSendSync as shelf
use Rattle.cachemounts.proofs.holds.Hold.TheSendSync as hold
use Rattle.cachemounts.specs.contracts.content.Content as Content
use Rattle.cachemounts.specs.contracts.contents.Contents as Contents
use Rattle.cachemounts.specs.contracts.contents.Contents.TheInside as ContentsInside
use Rattle.cachemounts.specs.contracts.store.CacheStore as CacheStore
use Rattle.cachemounts.specs.contracts.store.CacheStore.TheInside as CacheStoreInside
use Rattle.board.proofs.claim.ClaimOut.TheSendSync as claim
use Rattle.board.proofs.frontier.Frontier.TheSendSync as frontier
use Rattle.board.specs.contracts.event.Happened as Happened
use Rattle.board.specs.contracts.job.Job as Job
use Rattle.board.specs.contracts.job.Job.TheInside as JobInside
use Rattle.board.specs.contracts.board.Board as Board
use Rattle.board.specs.contracts.board.Board.TheInside as BoardInside
use Rattle.rolls.specs.declared.room.Room.{Ghosts as RoomGhosts}
use Rattle.rolls.proofs.roll.Roll.TheSendSync as roll
use Rattle.sites.specs.declared.case.Case.{Ghosts as CaseGhosts}
use Rattle.sites.specs.contracts.held.Held as Held
use Rattle.sites.specs.contracts.held.Held.TheInside as HeldInside
use Rattle.sites.specs.contracts.site.Desk as Desk

pub tree_send : IsSend Tree.the_row
tree_send = search (knot.both_send-Node, knot.both_sync-Node, entry.the_field_send, entry.the_field_sync, text.the_send, text.the_sync, sendable, any.crosses, maps.crosses) depth 20

pub tree_sync : IsSync Tree.the_row
tree_sync = search (knot.both_send-Node, knot.both_sync-Node, entry.the_field_send, entry.the_field_sync, text.the_send, text.the_sync, sendable, any.crosses, maps.crosses) depth 20

pub sources_sync : IsSync Sources.the_row
sources_sync = search (tree_sync, sendable, any.crosses, maps.crosses, text.the_sync) depth 20

pub value_send : IsSend (result.the_row Tree.the_row cause_row.the_row)
value_send = search (tree_send, cause.the_send, sendable) depth 20

pub value_sync : IsSync (result.the_row Tree.the_row cause_row.the_row)
value_sync = search (tree_sync, cause.the_sync, sendable) depth 20

pub happened_send : IsSend Happened.the_field.row
happened_send = search (tree_send, sendable, any.crosses, id.the_send, items.the_send) depth 20

pub content_send : IsSend Content.the_field.row
content_send = search (tree_send, text.the_send, sendable, any.crosses) depth 20

pub contents_send : IsSend Contents.the_row
contents_send =
    let all : AllSend (fields ContentsInside.the_type) =
    (search (content_send, sendable, any.crosses) depth 20, (search (text.the_send, items.the_send, sendable, any.crosses, maps.crosses) depth 20, tt)) in
    search (all, sendable) depth 20

pub caches_send : IsSend CacheStore.the_row
caches_send =
    let all : AllSend (fields CacheStoreInside.the_type) =
    (search (contents_send, sendable) depth 20, (search (hold.the_field_send, sendable, any.crosses) depth 20, tt)) in
    search (all, sendable) depth 20

pub job_send : (κ : NamedLft) (E : RattleType) (g : Ghosts E.Denot) → IsSync E → IsSend (Job.the_row κ E g)
job_send κ E g e =
    let all : AllSend (fields (JobInside.the_type κ E g)) =
    (search (e, sendable) depth 20, (search (graph.the_sync, sendable) depth 20, (search (sources_sync, sendable) depth 20, (search (id.the_send, sendable) depth 20, tt)))) in
    search (all, sendable) depth 20

-- a job may also be lent to several threads
pub job_sync : (κ : NamedLft) (E : RattleType) (g : Ghosts E.Denot) → IsSync E → IsSync (Job.the_row κ E g)
job_sync κ E g e =
    let all : AllSync (fields (JobInside.the_type κ E g)) =
    (search (e, sendable) depth 20, (search (graph.the_sync, sendable) depth 20, (search (sources_sync, sendable) depth 20, (search (id.the_sync, sendable) depth 20, tt)))) in
    search (all, sendable) depth 20

pub shelf_send : (P : RattleType) (p : PlaceGhosts P.Denot (result.the_row Tree.the_row cause_row.the_row).Denot) → IsSend P → IsSend (Shelf.the_row P p)
shelf_send P p s = search (s, shelf.the_send, sendable, any.crosses) depth 20

pub board_send : (κ : NamedLft) (E P : RattleType) (g : Ghosts E.Denot) (p : PlaceGhosts P.Denot (result.the_row Tree.the_row cause_row.the_row).Denot) → IsSync E → IsSend P → IsSend (Board.the_row κ E P g p)
board_send κ E P g p e s =
    let all : AllSend (fields (BoardInside.the_type κ E P g p)) =
    (search (job_send κ E g e, sendable) depth 20, (search (shelf_send P p s, sendable) depth 20, (search (claim.the_field_send, sendable, any.crosses) depth 20, (search (happened_send, sendable, any.crosses) depth 20, (search (content_send, sendable, any.crosses) depth 20, (search (caches_send, sendable) depth 20, (search (frontier.the_field_send, sendable, any.crosses) depth 20, tt))))))) in
    search (all, sendable) depth 20

pub held_send : (κ : NamedLft) (E J : RattleType) (g : Ghosts E.Denot) (j : CaseGhosts J.Denot) (r : RoomGhosts J.Denot) → IsSync E → IsSend J → IsSync J → IsSend (Held.the_row κ E J g j r)
held_send κ E J g j r e s t =
    let board : (P : RattleType) (p : PlaceGhosts P.Denot (result.the_row Tree.the_row cause_row.the_row).Denot) → IsSend P → IsSend (Board.the_row κ E P g p) = λ P p. board_send κ E P g p e in
    let all : AllSend (fields (HeldInside.the_type κ E J g j r)) =
    (search (board, value_send, value_sync, known.the_send, sendable, any.crosses) depth 30, (search (roll.the_send, sendable) depth 20, (search sendable depth 20, tt))) in
    search (all, sendable) depth 20

-- so workers may share a desk
pub desk_sync : (κ : NamedLft) (E J : RattleType) (g : Ghosts E.Denot) (j : CaseGhosts J.Denot) (r : RoomGhosts J.Denot) → IsSync E → IsSend J → IsSync J → IsSync (Desk.the_row κ E J g j r)
desk_sync κ E J g j r e s t =
    let held : (κ : NamedLft) → IsSend (Held.the_row κ E J g j r) = λ κ. held_send κ E J g j r e s t in
    search (held, value_send, value_sync, row.the_sync, sendable, any.crosses) depth 30
