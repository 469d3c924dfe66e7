use Rattle.std.proofs.Common.{subst}
use Rattle.trees.specs.Copy.{parent_meta, changes_of, goes_into}
use Rattle.trees.specs.PrivateCopy.{IsFoundOf}
use Rattle.trees.specs.PrivateNode.{map_of}
use Rattle.trees.proofs.FolderDone.{whole-applies}
use Rattle.trees.proofs.folder.place_sources.Goals as goal

pub returns-in-Folder : goal.returns-in-Folder
returns-in-Folder c =
    let into = goes_into (map_of c.args.root.now) c.args.dest.now c.args.options.now in
    let changes = changes_of c.args.options.now into c.args.from.now c.args.dest.now c.args.sources.now in
    whole-applies c.parent_meta-parent.result (parent_meta c.args.options.now) (map_of c.args.root.now) c.args.dest.now changes (map_of c.in-Folder.folder) (map_of c.hang_in.new.root) c.hang_in.result
    c.requires c.parent_meta-parent.ensures
    (subst (IsFoundOf (map_of c.args.root.now) c.args.dest.now changes) c.in-Folder.is (c.in_ok-folder.ensures into)) c.hang_in.ensures

pub returns-in-Deep : goal.returns-in-Deep
returns-in-Deep c =
    let into = goes_into (map_of c.args.root.now) c.args.dest.now c.args.options.now in
    let changes = changes_of c.args.options.now into c.args.from.now c.args.dest.now c.args.sources.now in
    let found = subst (IsFoundOf (map_of c.args.root.now) c.args.dest.now changes) c.in-Deep.is (c.in_ok-folder.ensures into) in
    c.deep_cause.ensures (parent_meta c.args.options.now) changes found.0 found.1
