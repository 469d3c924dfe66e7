use Rattle.packing.proofs.PlainFacts.{plain_changed}
use Rattle.packing.proofs.folder.Folder.add_directory.Goals as goal

pub invariant_of-self : goal.invariant_of-self
invariant_of-self c = plain_changed _ _ _ _ _ c.self.invariant c.directory.ensures c.put.ensures
