use Rattle.expand.proofs.ExpandLemmas.{gives_unsought, refuses_found, refuses_fault}
use Rattle.expand.proofs.expanding.expand_tokens.Goals as goal

pub returns-in-None : goal.returns-in-None
returns-in-None g c = gives_unsought c.args.limit (g.S.Lookup.value_of c.args.scope.now) c.args.tokens.now (λ r. r.now) c.sought.result c.joined.result c.sought.ensures c.in-None.is c.joined.ensures

pub returns-in-Ok : goal.returns-in-Ok
returns-in-Ok g c = refuses_found c.args.limit (g.S.Lookup.value_of c.args.scope.now) c.args.tokens.now (λ r. r.now) c.sought.result c.in-Some.refusing c.joined-in-Some.result c.in-Ok.text c.sought.ensures c.in-Some.is c.in-Ok.is c.joined-in-Some.ensures

pub returns-in-Err : goal.returns-in-Err
returns-in-Err g c = refuses_fault c.args.limit (g.S.Lookup.value_of c.args.scope.now) c.args.tokens.now (λ r. r.now) c.sought.result c.in-Some.refusing c.joined-in-Some.result c.in-Err.fault c.sought.ensures c.in-Some.is c.in-Err.is c.joined-in-Some.ensures
