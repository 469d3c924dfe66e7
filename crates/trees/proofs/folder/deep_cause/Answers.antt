use Rattle.std.proofs.Common.{◌∙◌, ap, Some}
use Rattle.std.specs.Option.{option_or}
use Rattle.trees.specs.declared.cause.Cause.TheVariants.{F5}
use Rattle.trees.specs.PrivateNode.{map_of}
use Rattle.trees.proofs.FolderDone.{deep-told}
use Rattle.trees.proofs.folder.deep_cause.Goals as goal

pub returns-in-Some : goal.returns-in-Some
returns-in-Some c = λ meta changes sunk free.
    deep-told meta (map_of c.args.root.now) c.args.dest.now c.components.result.now changes c.make_cause.result c.make_cause.ensures c.components.ensures.value sunk free ∙ ap (λ x. option_or x (Some F5)) c.in-Some.is

pub returns-in-None : goal.returns-in-None
returns-in-None c = λ meta changes sunk free.
    deep-told meta (map_of c.args.root.now) c.args.dest.now c.components.result.now changes c.make_cause.result c.make_cause.ensures c.components.ensures.value sunk free ∙ ap (λ x. option_or x (Some F5)) c.in-None.is
