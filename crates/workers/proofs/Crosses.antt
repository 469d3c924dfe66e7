-- What the workers share may be lent to several threads.
use denote.RattleType.{RattleType}
use denote.Ref.{NamedLft}
use denote.Param.Send.{IsSend, IsSync, AllSync, sendable}
use denote.Struct.Declared.{fields}
use Rattle.executor.specs.declared.executor.Executor.{Ghosts}
use Rattle.std.proofs.Crossing as any
use Rattle.sites.proofs.Crosses.{job_sync}
use Rattle.solver.proofs.Crosses.{recall_sync}
use Rattle.solver.specs.declared.numbering.Numbering.{Ghosts as NumberingGhosts}
use Rattle.workers.specs.contracts.working.Tools as Tools

pub tools_sync : (κ β ρ μ ν γ : NamedLft) (E M G J : RattleType) (g : Ghosts E.Denot) (m : Ghosts M.Denot) (n : NumberingGhosts J.Denot) → IsSync E → IsSync M → IsSync G → IsSend J → IsSync J → IsSync (Tools.the_row κ β ρ μ ν γ E M G J g m n)
tools_sync κ β ρ μ ν γ E M G J g m n e f t s j =
    let all : AllSync (fields (Tools.the_type κ β ρ μ ν γ E M G J g m n)) =
    (search sendable depth 20, (search (job_sync β E g e, sendable) depth 20, (search (recall_sync μ ν M J m n f s j, sendable, any.crosses) depth 20, (search (t, sendable) depth 20, (search (sendable, any.crosses) depth 20, tt))))) in
    search (all, sendable) depth 20
