use Rattle.std.proofs.Common.{◌∙◌, sym}
use Rattle.trees.specs.PrivateNode.{map_of}
use Rattle.trees.proofs.OverSteps.{over-file, over-bare}
use Rattle.trees.proofs.lent_node.LentNode.hides.Goals as goal

pub returns-then-not-is_directory : goal.returns-then-not-is_directory
returns-then-not-is_directory c = λ _. over-file (map_of c.args.lower.now) c.args.self.now (sym c.is_directory.ensures ∙ c.if-not-is_directory.true)

pub returns-else-not-is_directory : goal.returns-else-not-is_directory
returns-else-not-is_directory c = λ bare. over-bare c.args.lower.now c.args.self.now (c.is_bare.ensures.bare bare)
