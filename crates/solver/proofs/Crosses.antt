-- A memo that is asked, with what was found in it, may be lent to several threads.
use denote.RattleType.{RattleType}
use denote.Ref.{NamedLft}
use denote.Param.Send.{IsSend, IsSync, AllSync, sendable}
use denote.Struct.Declared.{fields}
use Rattle.std.proofs.Crossing as any
use Rattle.executor.specs.declared.executor.Executor.{Ghosts}
use Rattle.cells.proofs.row.Row.TheSendSync as row
use Rattle.memo.proofs.Crosses.{memo_sync}
use Rattle.solver.proofs.finding.Finding.TheSendSync as finding
use Rattle.solver.specs.declared.numbering.Numbering.{Ghosts as NumberingGhosts}
use Rattle.solver.specs.contracts.recall.Recall as Recall
use Rattle.solver.specs.contracts.recall.Recall.TheInside as RecallInside

pub recall_sync : (μ κ : NamedLft) (E N : RattleType) (g : Ghosts E.Denot) (n : NumberingGhosts N.Denot) → IsSync E → IsSend N → IsSync N → IsSync (Recall.the_row μ κ E N g n)
recall_sync μ κ E N g n e s t =
    let all : AllSync (fields (RecallInside.the_type μ κ E N g n)) =
    (search (memo_sync κ E g e, sendable) depth 20, (search (finding.the_send, finding.the_sync, row.the_sync, sendable, any.crosses) depth 30, tt)) in
    search (all, sendable) depth 20
