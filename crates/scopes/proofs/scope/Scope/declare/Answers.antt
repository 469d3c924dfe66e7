use Rattle.std.specs.FinMap.{get as arg_value}
use Rattle.scopes.specs.Scope.{value_in}
use Rattle.scopes.proofs.LineLemmas.{given-line}
use Rattle.scopes.proofs.scope.Scope.declare.Goals as goal

pub returns : goal.returns
returns c =
    (given-line (value_in c.args.self.now) (arg_value c.args.args.now) (value_in c.args.outer.now) c.args.arguments.now c.in_ok-rows.rows c.args.self.now c.give.new.self c.in_ok-rows.ensures.rows.0 c.in_ok-give.ensures.ok, c.in_ok-rows.ensures.rows.1)
