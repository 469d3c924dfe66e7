use Rattle.std.proofs.Common.{inr, refl, subst}
use Rattle.trees.specs.Cause.{ChangesTree}
use Rattle.trees.specs.declared.entry.Entry.TheVariants.{File}
use Rattle.trees.specs.Put.{put_into}
use Rattle.trees.specs.TreeMap.{file_meta}
use Rattle.packing.specs.Leaving.{Place}
use Rattle.packing.proofs.folder.Folder.add_ignore_file.Goals as goal

pub path_at_root-requires : goal.path_at_root-requires
path_at_root-requires c = inr refl

pub returns : goal.returns
returns c =
    subst (λ (p : Place). ChangesTree (put_into c.args.self.now p (File file_meta c.args.bytes)) c.args.self.now c.add_file.new.self c.add_file.result) c.in_ok-path.ensures
    c.add_file.ensures
