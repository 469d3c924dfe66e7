use Rattle.std.proofs.Common.{◌≡◌, rules, arith, ◌==◌, not, ap, length}
use Rattle.std.proofs.lemmas.Fn.{filter_same}
use Rattle.board.specs.Play.{without}
use Rattle.board.proofs.ListLemmas.{without-shorter}
use Rattle.board.proofs.state.drop_claim.Goals as goal

pub returns-clause-kept : goal.returns-clause-kept
returns-clause-kept c =
    filter_same _ (λ claim. not (claim.worker == c.args.worker)) _ (λ x b q h. search rules) _ _ c.retain.ensures.filtered

pub returns-clause-fewer : goal.returns-clause-fewer
returns-clause-fewer c = λ claim e.
    let kept : c.retain.new.self.items ≡ without c.args.worker c.args.claims.now.items = filter_same _ (λ claim. not (claim.worker == c.args.worker)) _ (λ x b q h. search rules) _ _ c.retain.ensures.filtered in
    let shorter = without-shorter c.args.worker c.args.claims.now.items claim e in
    omega (arith, shorter, ap length kept, c.args.claims.now.ok.0, c.retain.new.self.ok.0)
