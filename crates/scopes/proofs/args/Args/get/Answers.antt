use Rattle.std.proofs.Common.{ap, sym, ◌∙◌}
use Rattle.std.specs.FinMap.{get}
use Rattle.scopes.specs.Args.{BuildArguments}
use Rattle.scopes.proofs.ArgLemmas.{get-args_of}
use Rattle.scopes.proofs.args.Args.get.Goals as goal

pub returns : goal.returns
returns c = c.get.ensures ∙ sym (get-args_of c.args.name.now c.self.inside.values) ∙ ap (λ (m : BuildArguments). get m c.args.name.now) c.self.view_is
