use Rattle.std.proofs.Common.{ap, ◌∙◌}
use Rattle.std.specs.Prelude.{not}
use Rattle.trees.proofs.BuilderSteps.{not-begun, begun}
use Rattle.trees.proofs.spine.begin.Goals as goal

pub returns-then-is_root_file : goal.returns-then-is_root_file
returns-then-is_root_file c = not-begun c.args.folders.now.items c.args.path.now c.args.entry c.requires (c.is_root_file.ensures ∙ ap not c.if-is_root_file.true)

pub returns : goal.returns
returns c = begun c.args.folders.now.items c.open_down.new.folders.items _ c.args.path.now c.args.entry c.requires (c.is_root_file.ensures ∙ ap not c.if-is_root_file.false) c.in_ok-open_down.ensures
