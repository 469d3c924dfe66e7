use Rattle.bundle.proofs.FoundFacts.{put_config, put_digest, put_tree}
use Rattle.borrowed.specs.Seen.{data_of}
use Rattle.bundle.proofs.pulling.FoundImage.pull.Goals as goal

pub returns-in_ok-config-in-config : goal.returns-in_ok-config-in-config
returns-in_ok-config-in-config g c =
    let v = c.in_ok-config-in-config.config in
    (data_of v, c.in_ok-config-in-config.ensures, λ ms h. put_config c.args.self.now c.replace.new.self v c.args.key.now ms c.in-config.is c.replace.ensures.after h)

pub returns-in_ok-digest-in-digest : goal.returns-in_ok-digest-in-digest
returns-in_ok-digest-in-digest g c =
    let v = c.in_ok-digest-in-digest.digest in
    (data_of v, c.in_ok-digest-in-digest.ensures, λ ms h. put_digest c.args.self.now c.replace-in-digest.new.self v c.args.key.now ms c.in-digest.is c.replace-in-digest.ensures.after h)

pub returns-in_ok-tree-in-tree : goal.returns-in_ok-tree-in-tree
returns-in_ok-tree-in-tree g c =
    let pulled = c.in_ok-tree-in-tree.ensures in
    (pulled.0, pulled.1, λ ms h. put_tree c.args.self.now c.replace-in-tree.new.self c.in_ok-tree-in-tree.tree pulled.0 c.args.key.now ms c.in-tree.is c.replace-in-tree.ensures.after pulled.2 h)
