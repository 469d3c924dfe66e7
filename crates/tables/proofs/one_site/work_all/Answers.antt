use denote.Param.{param}
use denote.RattleType.{RattleType}
use denote.Ref.{NamedLft}
use denote.Param.Send.{IsSync, AllSync, sendable}
use denote.Struct.Declared.{fields}
use Rattle.executor.specs.declared.executor.Executor.{Ghosts}
use Rattle.std.proofs.Crossing as any
use Rattle.sites.specs.contracts.site.Desk as Desk
use Rattle.sites.proofs.Crosses.{desk_sync, job_sync}
use Rattle.tables.specs.contracts.one_site.Tools as Tools
use Rattle.tables.proofs.one_site.work_all.Goals as goal

-- what the two workers share may be lent to several threads.
tools_sync : (κ : NamedLft) (E : RattleType) (g : Ghosts E.Denot) → IsSync E → IsSync (Tools.the_row κ E g)
tools_sync κ E g e =
    let all : AllSync (fields (Tools.the_type κ E g)) = (search (sendable, any.crosses) depth 20, (search (job_sync κ E g e, sendable) depth 20, tt)) in
    search (all, sendable) depth 20

-- each entry of the search is a function, since it doesn't open a record
pub for_each_mut-requires-sync-F : goal.for_each_mut-requires-sync-F
for_each_mut-requires-sync-F g c κs within =
    let b = c.type_bounds in
    let tools : (κ : NamedLft) → IsSync (Tools.the_row κ (param 0 g.row.E) g.E.Executor) = λ κ. tools_sync κ (param 0 g.row.E) g.E.Executor b.sync-E in
    let desk : (κ : NamedLft) → IsSync (Desk.the_row κ (param 0 g.row.E) (param 1 g.row.J) g.E.Executor g.J.Case g.J.Room) = λ κ. desk_sync κ (param 0 g.row.E) (param 1 g.row.J) g.E.Executor g.J.Case g.J.Room b.sync-E b.send-J b.sync-J in
    search (tools, desk, sendable) depth 30
