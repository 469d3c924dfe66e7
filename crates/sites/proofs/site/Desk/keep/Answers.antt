use Rattle.std.proofs.Common.{sym, ◌∙◌, subst}
use Rattle.plans.specs.Plan.{IsValue}
use Rattle.board.specs.Problem.{IsProblem}
use Rattle.board.proofs.SoundLemmas.{result-is}
use Rattle.sites.proofs.KeepLemmas.{kept-is}
use Rattle.sites.proofs.site.Desk.keep.Goals as goal

pub keep-requires-clause-means : goal.keep-requires-clause-means
keep-requires-clause-means g c =
    let problem = g.J.Case.problem in
    let is : IsProblem problem = subst IsProblem c.requires.job c.graph-known.ensures.problem in
    let worth = result-is problem c.args.claim.now c.args.value is c.requires.of c.requires.value in
    subst (λ v. IsValue problem v c.args.value) (sym (c.number.ensures ∙ c.vertex.ensures)) worth

pub returns : goal.returns
returns g c =
    let problem = g.J.Case.problem in
    let is : IsProblem problem = subst IsProblem c.requires.job c.graph-known.ensures.problem in
    let worth = result-is problem c.args.claim.now c.args.value is c.requires.of c.requires.value in
    kept-is problem c.args.claim.now c.args.value c.number.result c.keep.result (c.number.ensures ∙ c.vertex.ensures) worth c.requires.value c.keep.ensures.number c.keep.ensures.means
