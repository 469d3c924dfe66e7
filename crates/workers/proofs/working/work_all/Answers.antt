use denote.Param.{param}
use denote.Ref.{NamedLft}
use denote.Param.Send.{IsSync, sendable}
use Rattle.sites.specs.contracts.site.Desk as Desk
use Rattle.sites.proofs.Crosses.{desk_sync}
use Rattle.workers.specs.contracts.working.Tools as Tools
use Rattle.workers.proofs.Crosses.{tools_sync}
use Rattle.workers.proofs.working.work_all.Goals as goal

-- each entry of the search is a function, since it doesn't open a record
pub for_each_mut-requires-sync-F : goal.for_each_mut-requires-sync-F
for_each_mut-requires-sync-F g c κs _ =
    let b = c.type_bounds in
    let tools : (κ β ρ μ ν γ : NamedLft) → IsSync (Tools.the_row κ β ρ μ ν γ (param 0 g.row.E) (param 1 g.row.M) (param 2 g.row.G) (param 3 g.row.J) g.E.Executor g.M.Executor g.J.Numbering) =
    λ κ β ρ μ ν γ. tools_sync κ β ρ μ ν γ (param 0 g.row.E) (param 1 g.row.M) (param 2 g.row.G) (param 3 g.row.J) g.E.Executor g.M.Executor g.J.Numbering b.sync-E b.sync-M b.sync-G b.send-J b.sync-J in
    let desk : (κ : NamedLft) → IsSync (Desk.the_row κ (param 0 g.row.E) (param 3 g.row.J) g.E.Executor g.J.Case g.J.Room) = λ κ. desk_sync κ (param 0 g.row.E) (param 3 g.row.J) g.E.Executor g.J.Case g.J.Room b.sync-E b.send-J b.sync-J in
    search (tools, desk, sendable) depth 30
