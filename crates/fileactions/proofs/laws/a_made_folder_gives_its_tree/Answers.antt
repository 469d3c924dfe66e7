use Rattle.fileactions.proofs.Gives.{folder-gives}
use Rattle.fileactions.proofs.laws.a_made_folder_gives_its_tree.Goals as goal

pub returns : goal.returns
returns c = folder-gives
