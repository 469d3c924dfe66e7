-- The bundle of a folder (own).
use Rattle.std.specs.Prelude.{◌≡◌, ℕ, List, [], ◌∷◌, Option, Some, None, codes, Bool, false}
use Rattle.std.specs.Coded.{Coded}
use Rattle.std.specs.Option.{option_map}
use Rattle.std.specs.FinMap.{get, entries}
use Rattle.hex.specs.Hex.{encode_lower}
use Rattle.serde_json.specs.Data.{Data, Members, string, object, no_members, member, put}
use Rattle.serde_json.specs.Written.{compact_text}
use Rattle.trees.specs.TreeMap.{TreeMap, directory_meta, file_meta}
use Rattle.trees.specs.declared.entry.Entry.{Entry}
use Rattle.trees.specs.declared.entry.Entry.TheVariants.{Directory, File}
use Rattle.trees.specs.contracts.tree.Tree as tree
use Rattle.trees.specs.Row.{Row}
use Rattle.entries.specs.Written.{tree_data}
use Rattle.packing.specs.Images.{ImageRow}

-- a folder in plain data, for generic code
abbrev pub folder_code : Coded TreeMap
folder_code = tree.the_row.coded

-- a file, 0644, or a directory, 0755, of 0:0
abbrev pub IsPlainEntry : Entry → Type 0
IsPlainEntry (Directory meta) = meta ≡ directory_meta
IsPlainEntry (File meta content) = meta ≡ file_meta

-- all that stands in a tree is such a file or directory
abbrev pub IsPlain : TreeMap → Type 0
IsPlain tree = (path : List (List ℕ)) (entry : Entry) → get tree path ≡ Some entry → IsPlainEntry entry

-- the path of the Dockerfile in its folder
abbrev pub dockerfile_path : List (List ℕ)
dockerfile_path = codes "Dockerfile" ∷ []

-- the bytes of a file, if this is one
abbrev pub bytes_in : Option Entry → Option (List ℕ)
bytes_in None = None
bytes_in (Some (Directory meta)) = None
bytes_in (Some (File meta content)) = Some content

-- the bytes of a folder's Dockerfile, if it has one
abbrev pub dockerfile_of : TreeMap → Option (List ℕ)
dockerfile_of tree = bytes_in (get tree dockerfile_path)

-- the Dockerfile of a bundle: the file that is named, or else the folder's
abbrev pub dockerfile_among : TreeMap → Option (List ℕ) → Option (List ℕ)
dockerfile_among tree None = dockerfile_of tree
dockerfile_among tree (Some file) = Some file

-- what is asked for beside a folder: whether a Dockerfile is named, the names of images, the bundle's target, and its build arguments; and whether
-- what the ignore file leaves out isn't packed, whether files are packed without their bytes, and whether links and devices are passed over
pub record Asked : Type 0 where
  pub has_file : Bool
  pub images : List (List ℕ)
  pub target : Option (List ℕ)
  pub args : List (List ℕ × List ℕ)
  pub apply_ignore : Bool
  pub names : Bool
  pub pass : Bool

abbrev pub nothing_asked : Asked
nothing_asked = record {
  has_file = false;
  images = [];
  target = None;
  args = [];
  apply_ignore = false;
  names = false;
  pass = false;
}

-- what stands in a bundle beside a folder and its Dockerfile: images, the target, and build arguments
pub record Given : Type 0 where
  pub images : List ImageRow
  pub target : Option (List ℕ)
  pub args : List (List ℕ × List ℕ)

-- the same, of these images
abbrev pub given_with : Asked → List ImageRow → Given
given_with asked images = record { images = images; target = asked.target; args = asked.args }

-- texts as members of an object; of a name twice the last counts
abbrev pub put_texts : List (List ℕ × List ℕ) → Members → Members
put_texts [] members = members
put_texts (row ∷ rows) members = put_texts rows (put row.0 (string row.1) members)

-- the target and the build arguments, as members of a bundle where they are given
abbrev pub put_target : Option (List ℕ) → Members → Members
put_target None members = members
put_target (Some target) members = put (codes "target") (string target) members

abbrev pub put_args : List (List ℕ × List ℕ) → Members → Members
put_args [] members = members
put_args (arg ∷ args) members = put (codes "args") (object (put_texts (arg ∷ args) no_members)) members

-- images as members of an object, each under its name, and that object as a member of a bundle where there are images
abbrev pub put_values : List ImageRow → Members → Members
put_values [] members = members
put_values (image ∷ images) members = put_values images (put image.0 image.1 members)

abbrev pub put_images : List ImageRow → Members → Members
put_images [] members = members
put_images (image ∷ images) members = put (codes "images") (object (put_values (image ∷ images) no_members)) members

-- the context and the Dockerfile, whose bytes are in hexadecimal
abbrev pub files_members : List Row → List ℕ → Members
files_members rows dockerfile =
    member (codes "context") (tree_data rows)
    (member (codes "dockerfile") (object (member (codes "hex") (string (encode_lower dockerfile)) no_members)) no_members)

-- the members of a bundle beside its images
abbrev pub members_beside : List Row → List ℕ → Option (List ℕ) → List (List ℕ × List ℕ) → Members
members_beside rows dockerfile target args = put_target target (put_args args (files_members rows dockerfile))

-- the bundle of these entries and this Dockerfile, with what is given
unfoldable pub packed_data : List Row → List ℕ → Given → Data
packed_data rows dockerfile given = object (put_images given.images (members_beside rows dockerfile given.target given.args))

-- the bundle of a folder: all its entries, in path order, its Dockerfile, or the one that is named, and what is given; none where there is no
-- Dockerfile
abbrev pub bundle_of : TreeMap → Option (List ℕ) → Given → Option Data
bundle_of tree file given = option_map (λ dockerfile. packed_data (entries tree) dockerfile given) (dockerfile_among tree file)

-- its text, one line of compact JSON
abbrev pub packed_of : TreeMap → Option (List ℕ) → Given → Option (List ℕ)
packed_of tree file given = option_map compact_text (bundle_of tree file given)
