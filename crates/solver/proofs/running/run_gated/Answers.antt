use Rattle.std.proofs.Common.{◌≡◌, ◌∙◌, map, ap, rules}
use Rattle.board.specs.Job.{job_problem}
use Rattle.solver.proofs.RunLemmas.{claim-formed}
use Rattle.solver.proofs.running.run_gated.Goals as goal

pub vertex_result-requires-clause-well_formed : goal.vertex_result-requires-clause-well_formed
vertex_result-requires-clause-well_formed g c κs within =
    let vertex = c.vertex_at-vertex in
    let lent : map (λ tree. tree.now) c.as_slice.result.now ≡ c.args.claim.now.inputs = ap (λ trees. map (λ tree. tree.now) trees) c.as_slice.ensures.value ∙ c.in_ok-inputs.ensures in
    claim-formed (λ tree. tree.now) c.as_slice.result.now (job_problem g.E.Executor.out c.args.job.now) c.args.claim.now vertex.result.now vertex.ensures.problem c.requires (search rules) lent
