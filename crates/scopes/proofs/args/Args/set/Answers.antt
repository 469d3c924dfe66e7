use Rattle.std.proofs.Common.{◌∙◌}
use Rattle.scopes.proofs.ArgLemmas.{args-set}
use Rattle.scopes.proofs.args.Args.set.Goals as goal

pub returns-clause-ok : goal.returns-clause-ok
returns-clause-ok c =
    args-set c.set.result _ _ c.in_ok-name.name c.in_ok-value.value c.args.name.now c.args.value.now _ c.set.ensures.ok c.in_ok-name.ensures (c.in_ok-value.ensures ∙ c.in_ok-copied.ensures) c.self.view_is
