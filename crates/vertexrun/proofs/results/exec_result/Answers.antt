use Rattle.std.proofs.Common.{◌≡◌, ◌∙◌, sym, ap, length, subst, IfOk}
use Rattle.plans.proofs.RequestLaws.{request_of-fits, request_of-caches}
use Rattle.vertexrun.proofs.results.exec_result.Goals as goal

pub run_result-requires-clause-mounts : goal.run_result-requires-clause-mounts
run_result-requires-clause-mounts g c κs within =
    request_of-fits c.args.exec.now _ _ c.in-Ok.request c.requires.well_formed (sym c.in_ok-request.ensures ∙ c.in-Ok.is)

pub run_result-requires-clause-lent : goal.run_result-requires-clause-lent
run_result-requires-clause-lent g c κs within =
    let caches = request_of-caches c.args.exec.now _ _ c.in-Ok.request (sym c.in_ok-request.ensures ∙ c.in-Ok.is) in
    ap length c.in_ok-given.ensures ∙ c.requires.copies ∙ ap length (sym caches)

pub returns-in-Ok-clause-given : goal.returns-in-Ok-clause-given
returns-in-Ok-clause-given g c =
    subst (λ cs. IfOk c.run_result.result (λ ran. length ran.given.items ≡ length cs))
    (request_of-caches c.args.exec.now _ _ c.in-Ok.request (sym c.in_ok-request.ensures ∙ c.in-Ok.is)) c.run_result.ensures.given
