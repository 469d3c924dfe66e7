use Rattle.std.proofs.Common.{◌∙◌, sym, ap, subst, ℕ, List}
use Rattle.std.specs.FinMap.{get}
use Rattle.trees.specs.PrivateNode.{NodeValue, map_of, IsBelow}
use Rattle.trees.proofs.FolderDone.{free-none, free-bare}
use Rattle.trees.proofs.folder.is_free_below.Goals as goal

pub returns-in-None-clause-free : goal.returns-in-None-clause-free
returns-in-None-clause-free c = λ t. free-none (map_of c.args.root.now) c.args.path.now c.requires (ap (get (map_of c.args.root.now)) (sym c.components.ensures.value) ∙ ap (λ (n : NodeValue). get (map_of n) c.components.result.now) (sym c.lent.ensures) ∙ c.in-None.ensures)

pub returns-in-Some-clause-free : goal.returns-in-Some-clause-free
returns-in-Some-clause-free c = λ t. free-bare (map_of c.args.root.now) c.args.path.now c.in-Some.node (subst (λ (p : List (List ℕ)). IsBelow (map_of c.args.root.now) p (map_of c.in-Some.node)) c.components.ensures.value (subst (λ (n : NodeValue). IsBelow (map_of n) c.components.result.now (map_of c.in-Some.node)) c.lent.ensures c.in-Some.ensures)) (c.is_bare.ensures.bare t)
