use Rattle.std.proofs.Common.{◌≡◌, ◌∙◌, Some, ap, sym, subst, rules}
use Rattle.std.specs.Prelude.{IfSome, slice_get}
use Rattle.plans.specs.Value.{trees_at}
use Rattle.board.specs.Job.{job_problem}
use Rattle.memo.specs.Kept.{Keeps, kept_tree, kept_trees}
use Rattle.runs.specs.declared.run.RunRequest.{RunRequest}
use Rattle.memo.specs.Memo.{GenerationValue, entry_of, IsLawful, Has, Knows}
use Rattle.memo.specs.Numbers.{generation_of}
use Rattle.solver.proofs.RecallLemmas.{lawful-kept, found-stays}
use Rattle.solver.proofs.recall.Recall.result_number.Goals as goal

pub returns-clause-value : goal.returns-clause-value
returns-clause-value g c =
    let out = g.E.Executor.out in
    let memo = c.args.self.now in
    let problem = job_problem g.X.Executor.out c.args.job.now in
    let id = c.args.claim.now.vertex in
    let vertex = c.vertex_at-vertex.result.now in
    let generation : GenerationValue = generation_of memo c.args.age in
    let numbers = c.as_slice.result.now in
    let found = c.find_kept.result in
    let there : slice_get problem.vertices id ≡ Some vertex = search rules in
    let known = rw c.in-Some.is at c.in_ok-inputs.ensures in
    let trees : trees_at g.N.Numbering.values vertex.inputs ≡ Some (kept_trees generation numbers) = known ∙ ap (λ ns. Some (kept_trees generation ns)) (sym c.as_slice.ensures.value) in
    let same : out memo.executor ≡ g.N.Numbering.out = subst (λ m. out m.executor ≡ g.N.Numbering.out) c.self.view_is c.self.invariant.0 in
    let keeps : IfSome found (Keeps generation) = subst (λ m. IfSome found (Keeps (generation_of m c.args.age))) c.self.view_is c.find_kept.ensures.keeps in
    let lawful : IfSome found (λ number. IsLawful (out memo.executor) (entry_of vertex.op (kept_trees generation numbers) (kept_tree generation number))) =
    subst (λ m. IfSome found (λ number. IsLawful (out m.executor) (entry_of vertex.op (kept_trees (generation_of m c.args.age) numbers) (kept_tree (generation_of m c.args.age) number)))) c.self.view_is c.find_kept.ensures.lawful in
    lawful-kept problem id vertex (out memo.executor) g.N.Numbering.out g.N.Numbering.values generation numbers found c.vertex_at-vertex.ensures.problem there same c.requires.named trees keeps lawful

pub returns-clause-known : goal.returns-clause-known
returns-clause-known g c =
    let memo = c.args.self.now in
    let age = c.args.age in
    let problem = job_problem g.X.Executor.out c.args.job.now in
    let claim = c.args.claim.now in
    let vertex = c.vertex_at-vertex.result.now in
    let generation : GenerationValue = generation_of memo age in
    let numbers = c.as_slice.result.now in
    let there : slice_get problem.vertices claim.vertex ≡ Some vertex = search rules in
    let known = rw c.in-Some.is at c.in_ok-inputs.ensures in
    let trees : trees_at g.N.Numbering.values vertex.inputs ≡ Some (kept_trees generation numbers) = known ∙ ap (λ ns. Some (kept_trees generation ns)) (sym c.as_slice.ensures.value) in
    let all = subst (λ m. (request : RunRequest) → Knows m request → g.N.Numbering.knows request) c.self.view_is c.self.invariant.3 in
    let has = subst (λ m. IfSome c.find_kept.result (λ number. Has (generation_of m age).entries vertex.op (kept_trees (generation_of m age) numbers) (kept_tree (generation_of m age) number))) c.self.view_is c.find_kept.ensures.found in
    found-stays memo age g.N.Numbering.knows problem claim vertex g.N.Numbering.out g.N.Numbering.values numbers c.find_kept.result c.requires.of c.requires.named there trees all has
