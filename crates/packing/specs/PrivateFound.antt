-- What is found for what is asked (own).
use Rattle.std.specs.Prelude.{◌≡◌, true, is_some, List, ℕ, Option}
use Rattle.ignorefile.specs.declared.line.Line.{Line}
use Rattle.trees.specs.TreeMap.{TreeMap}
use Rattle.packing.specs.Images.{are_images, names_of}
use Rattle.packing.specs.Leaving.{AreApplied, Gathers, HasIgnore, keeping_of}
use Rattle.packing.specs.Packed.{Asked, IsPlain}
use Rattle.packing.specs.PrivateImages.{image_rows}
use Rattle.packing.specs.declared.finding.Found.{Found}

-- a folder's tree has what is asked, by this ignore file, or by none
pub record IsContext (asked : Asked) (ignore : Option (List ℕ)) (tree : TreeMap) : Type 0 where
  pub lines : List Line
  pub has_ignore : HasIgnore ignore tree
  pub applied : AreApplied asked.apply_ignore ignore lines
  pub gathers : Gathers (keeping_of asked lines) tree

-- the same, by the ignore file that counts, which is the machine's
pub record IsFoundContext (asked : Asked) (tree : TreeMap) : Type 0 where
  pub ignore : Option (List ℕ)
  pub is : IsContext asked ignore tree

pub record IsFound (asked : Asked) (found : Found) : Type 0 where
  pub plain : IsPlain found.files.folder
  pub context : IsFoundContext asked found.files.folder
  pub has_file : is_some found.files.file ≡ asked.has_file
  pub names : names_of (image_rows found.images) ≡ asked.images
  pub are_images : are_images (image_rows found.images) ≡ true
