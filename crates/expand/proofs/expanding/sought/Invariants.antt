use Rattle.std.proofs.Common.{drop, ◌≡◌, ◌≤◌, ◌+◌}
use Rattle.std.specs.Prelude.{None, option_map}
use Rattle.expand.specs.PrivateExpanding.{sought}
use Rattle.expand.proofs.expanding.sought.Given as goal

abbrev pub invariant-loop-token : goal.invariant-loop-token
invariant-loop-token g l = record {
  few : l.skipped + l.open ≤ l.token-index;
  rest : l.rest ≡ drop l.token-index l.tokens;
  found : sought (g.S.Lookup.value_of l.scope) l.skipped l.open (option_map (λ r. r.now) l.found) (drop l.token-index l.tokens) ≡ sought (g.S.Lookup.value_of l.scope) 0 0 None l.tokens;
}
