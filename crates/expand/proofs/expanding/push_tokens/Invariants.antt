use Rattle.std.proofs.Common.{drop, ◌≡◌, ◌≤◌, ◌+◌, ◌++◌}
use Rattle.std.specs.String.{string_bytes, string_len}
use Rattle.expand.specs.PrivateExpanding.{run}
use Rattle.expand.proofs.expanding.push_tokens.Given as goal

abbrev pub invariant-loop-token : goal.invariant-loop-token
invariant-loop-token g l = record {
  within : string_len l.text ≤ l.limit;
  few : l.skipped + l.open ≤ l.token-index;
  found : string_bytes l.text ++ run (g.S.Lookup.value_of l.scope) l.skipped l.open (drop l.token-index l.tokens) ≡ string_bytes l.initial.text ++ run (g.S.Lookup.value_of l.scope) 0 0 l.tokens;
}
