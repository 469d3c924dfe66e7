use Rattle.std.proofs.Common.{◌≡◌, Some, Ok, sym, subst}
use Rattle.std.specs.Prelude.{slice_get}
use Rattle.board.specs.Job.{job_problem}
use Rattle.solver.specs.declared.finding.Finding.{Finding}
use Rattle.board.specs.Leaving.{IsLeftFor}
use Rattle.board.specs.Claim.{IsResult}
use Rattle.solver.specs.Recall.{IsFinding, stays}
use Rattle.solver.proofs.RecallLemmas.{kept-named, kept-result, finding-of, some-there, some-all}
use Rattle.solver.proofs.recall.Recall.tree.Goals as goal

pub write-requires : goal.write-requires
write-requires g c =
    let memo = c.args.self.now in
    let vertex = c.args.claim.now.vertex in
    let values = g.N.Numbering.values in
    let recent : memo.recent.trees ≡ g.N.Numbering.recent = subst (λ m. m.recent.trees ≡ g.N.Numbering.recent) c.self.view_is c.self.invariant.1 in
    let earlier : memo.earlier.trees ≡ g.N.Numbering.earlier = subst (λ m. m.earlier.trees ≡ g.N.Numbering.earlier) c.self.view_is c.self.invariant.2 in
    let finding : Finding = record { recent = c.in_ok-recent.recent; earlier = c.in_ok-earlier.earlier; is_remembered = c.is_some.result } in
    let is : IsFinding values g.N.Numbering.recent g.N.Numbering.earlier vertex finding =
    finding-of values g.N.Numbering.recent g.N.Numbering.earlier vertex c.in_ok-recent.recent c.in_ok-earlier.earlier c.is_some.result
    (kept-named values memo.recent.trees g.N.Numbering.recent vertex c.in_ok-recent.recent recent c.in_ok-recent.ensures.value)
    (kept-named values memo.earlier.trees g.N.Numbering.earlier vertex c.in_ok-earlier.earlier earlier c.in_ok-earlier.ensures.value) in
    (c.type_bounds.sync-E, subst (λ id. IsFinding values g.N.Numbering.recent g.N.Numbering.earlier id finding) (sym c.vertex.ensures) is)

pub returns-in-Some-clause-value : goal.returns-in-Some-clause-value
returns-in-Some-clause-value g c =
    let memo = c.args.self.now in
    let problem = job_problem g.X.Executor.out c.args.job.now in
    let claim = c.args.claim.now in
    let number = c.in-Some.number in
    let kept = rw c.in-Some.is at c.in_ok-recent.ensures.value in
    some-there (λ tree. tree.now) (λ tree. IsResult problem claim (Ok tree.now)) c.tree.result _ c.tree.ensures
    (λ tree there. kept-result problem claim g.N.Numbering.out g.N.Numbering.values memo.recent.trees number tree.now c.graph-known.ensures.problem c.requires.of c.requires.named kept (subst (λ m. slice_get m.recent.trees number ≡ Some tree.now) c.self.view_is there))

pub returns-in-Some-clause-known : goal.returns-in-Some-clause-known
returns-in-Some-clause-known g c =
    let problem = job_problem g.X.Executor.out c.args.job.now in
    let claim = c.args.claim.now in
    some-all (IsLeftFor (stays g.N.Numbering.knows) problem claim claim.caches) c.tree.result (rw c.in-Some.is at c.in_ok-recent.ensures.known)

pub returns-in-Some-earlier-clause-value : goal.returns-in-Some-earlier-clause-value
returns-in-Some-earlier-clause-value g c =
    let memo = c.args.self.now in
    let problem = job_problem g.X.Executor.out c.args.job.now in
    let claim = c.args.claim.now in
    let number = c.in-Some-earlier.number in
    let kept = rw c.in-Some-earlier.is at c.in_ok-earlier.ensures.value in
    some-there (λ tree. tree.now) (λ tree. IsResult problem claim (Ok tree.now)) c.tree-in-Some-earlier.result _ c.tree-in-Some-earlier.ensures
    (λ tree there. kept-result problem claim g.N.Numbering.out g.N.Numbering.values memo.earlier.trees number tree.now c.graph-known.ensures.problem c.requires.of c.requires.named kept (subst (λ m. slice_get m.earlier.trees number ≡ Some tree.now) c.self.view_is there))

pub returns-in-Some-earlier-clause-known : goal.returns-in-Some-earlier-clause-known
returns-in-Some-earlier-clause-known g c =
    let problem = job_problem g.X.Executor.out c.args.job.now in
    let claim = c.args.claim.now in
    some-all (IsLeftFor (stays g.N.Numbering.knows) problem claim claim.caches) c.tree-in-Some-earlier.result (rw c.in-Some-earlier.is at c.in_ok-earlier.ensures.known)
