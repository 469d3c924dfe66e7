use Rattle.std.proofs.Common.{sym, ◌∙◌}
use Rattle.trees.proofs.GrowingSteps.{comes-folder, comes-name}
use Rattle.trees.proofs.growing.comes_next.Goals as goal

pub returns-in-None : goal.returns-in-None
returns-in-None c = λ _. comes-folder c.args.path.now c.components-names.result.now c.args.folder.now c.args.kids.now c.components-names.ensures.value (sym c.starts_with.ensures.value ∙ c.if-not-starts_with.false) c.in-None.ensures.lookup.3

pub returns-in-Some : goal.returns-in-Some
returns-in-Some c = λ t. comes-name c.args.path.now c.components-names.result.now c.args.folder.now c.args.kids.now c.components-names.ensures.value (sym c.starts_with.ensures.value ∙ c.if-not-starts_with.false) c.in-Some.name.now c.in-Some.ensures.lookup.1 (c.begins_past.ensures t)
