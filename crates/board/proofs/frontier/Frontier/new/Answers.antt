use Rattle.std.proofs.Common.{◌∙◌, ◌==◌, [], None, map, length, replicate, ap, subst, refl}
use Rattle.board.specs.PrivateFrontier.{IsFrontier}
use Rattle.board.specs.declared.frontier.Frontier.{Frontier}
use Rattle.board.proofs.FrontierSteps.{frontier-begun}
use Rattle.board.proofs.frontier.Frontier.new.Goals as goal

pub returns : goal.returns
returns c =
    let frontier : Frontier = record { users = c.in_ok-users.users; waiting = c.in_ok-waiting.waiting; available = c.in_ok-available.available; failed = None } in
    let vertices = c.vertices-vertices.result.now in
    let places = c.args.graph.now.places in
    subst (λ vs. IsFrontier vs places (replicate (length vs) None) [] frontier) c.vertices-vertices.ensures.value
    (frontier-begun vertices places frontier c.in_ok-users.ensures c.in_ok-waiting.ensures (c.in_ok-available.ensures ∙ ap (map (λ n. n == 0)) c.as_slice.ensures.value) refl)
