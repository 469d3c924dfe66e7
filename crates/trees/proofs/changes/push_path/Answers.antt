use Rattle.std.proofs.lemmas.Result.{on_ok_weaker}
use Rattle.std.proofs.Common.{◌∙◌, ap, refl}
use Rattle.trees.specs.PrivateNode.{NodeValue}
use Rattle.trees.proofs.CopyRows.{directory-match, file-match}
use Rattle.trees.proofs.changes.push_path.Goals as goal

pub returns-then-is_directory : goal.returns-then-is_directory
returns-then-is_directory c =
    on_ok_weaker _ (directory-match c.args.options.now c.args.into c.args.from.now c.args.dest.now c.args.path.now c.in_ok-copy.field-0 c.in_ok-of.field-0 c.in-Some.node c.is_directory.result c.args.changes.now.items c.push.new.self.items c.push_changes-then-is_directory.new.changes.items c.in-Some.ensures.at c.is_directory.ensures c.if-is_directory.true c.in_ok-copy.ensures c.in_ok-of.ensures c.in_ok-push.ensures.items) c.push_changes-then-is_directory.ensures

pub returns : goal.returns
returns c =
    file-match c.args.options.now c.args.into c.args.from.now c.args.dest.now c.args.path.now c.in_ok-place.place c.in-Some.node c.in_ok-to_entry.field-0 c.in-Some.node.top c.is_directory.result c.args.changes.now.items c.push-2.new.self.items c.in-Some.ensures.at c.is_directory.ensures c.if-is_directory.false c.in_ok-place.ensures refl (c.in_ok-to_entry.ensures ∙ c.entry.ensures ∙ ap (λ (n : NodeValue). n.top) c.placed.ensures) c.in_ok-push-2.ensures.items
