use Rattle.packing.proofs.PlainFacts.{own_child}
use Rattle.packing.proofs.folder.path_at_root.Goals as goal

pub child-requires : goal.child-requires
child-requires c = own_child _ _ _ c.root.ensures c.in_ok-name.ensures c.requires
