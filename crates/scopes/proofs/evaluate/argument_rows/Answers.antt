use Rattle.std.proofs.Common.{arith}
use Rattle.std.proofs.lemmas.List.{drop_all}
use Rattle.std.specs.FinMap.{get as arg_value}
use Rattle.scopes.specs.Scope.{value_in}
use Rattle.scopes.proofs.EvaluateLemmas.{rows_named}
use Rattle.scopes.proofs.evaluate.argument_rows.Goals as goal

pub returns-in-None-clause-names : goal.returns-in-None-clause-names
returns-in-None-clause-names c =
    let over = drop_all c.loop-argument.argument-index c.args.arguments.now (omega (arith, c.loop-argument-test.false)) in
    rows_named (value_in c.args.before.now) (arg_value c.args.args.now) (value_in c.args.outer.now) _ c.args.arguments.now _ c.loop-argument.saying.line _ over c.loop-argument.invariant.0 c.loop-argument.invariant.1
    c.in-None.is
