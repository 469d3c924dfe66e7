use Rattle.std.proofs.Common.{sym, ◌∙◌, arith}
use Rattle.std.proofs.lemmas.Bool.{le-ltb}
use Rattle.entries.proofs.FrontFacts.{front-is, front-not}
use Rattle.entries.proofs.apart.is_front.Goals as goal

pub returns-then-depth : goal.returns-then-depth
returns-then-depth c = front-is c.args.front.now c.args.path.now _ (sym c.is_at_or_under.ensures) (omega arith)

pub returns-else-depth : goal.returns-else-depth
returns-else-depth c = le-ltb c.depth.result c.depth-2.result (omega arith) ∙ front-not c.args.front.now c.args.path.now (omega arith)
