use Rattle.std.proofs.Common.{◌≡◌, ◌∙◌, Some, ap, sym, subst, arith}
use Rattle.std.specs.Prelude.{slice_get}
use Rattle.std.proofs.lemmas.Option.{slice_get-get_or}
use Rattle.board.specs.Job.{job_problem}
use Rattle.solver.proofs.RecallLemmas.{claim-tree}
use Rattle.solver.proofs.recall.Recall.number_at.Goals as goal

pub sought-requires : goal.sought-requires
sought-requires g c =
    let problem = job_problem g.X.Executor.out c.args.job.now in
    let claim = c.args.claim.now in
    let id = c.in-Some.input.now in
    let tree = c.input.result.now in
    let at = c.in-Some.ensures.lookup.4 (omega arith) 0 in
    let read : slice_get c.as_slice.result.now c.args.at ≡ Some id = slice_get-get_or c.as_slice.result.now c.args.at 0 c.in-Some.ensures.lookup.3.0 ∙ ap Some (sym at) in
    let there : slice_get c.args.vertex.now.inputs c.args.at ≡ Some id = subst (λ ids. slice_get ids c.args.at ≡ Some id) c.as_slice.ensures read in
    (c.type_bounds.sync-E, (c.type_bounds.sync-X, claim-tree problem claim c.args.vertex.now c.args.at id tree g.N.Numbering.out g.N.Numbering.values c.requires.of c.requires.named c.requires.vertex there c.input.ensures))
