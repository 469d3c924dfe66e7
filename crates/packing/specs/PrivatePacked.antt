-- What the functions that make a bundle's text answer (own).
use Rattle.std.specs.Prelude.{◌≡◌, ◌≤◌, ℕ, false, List, Option, Some}
use Rattle.std.specs.Option.{option_map}
use Rattle.std.specs.FinMap.{entries}
use Rattle.serde_json.specs.Data.{Data, Members, depth}
use Rattle.serde_json.specs.Read.{max_depth, read}
use Rattle.serde_json.specs.Written.{compact_text, has_float}
use Rattle.trees.specs.Row.{Row}
use Rattle.trees.specs.TreeMap.{TreeMap}
use Rattle.packing.specs.Packed.{Asked, dockerfile_among, members_beside}

-- the members beside the images, by what is asked for
abbrev pub beside : List Row → List ℕ → Asked → Members
beside rows dockerfile asked = members_beside rows dockerfile asked.target asked.args

-- the same of a folder with this Dockerfile, if there is one
abbrev pub beside_of : TreeMap → Option (List ℕ) → Asked → Option Members
beside_of tree found asked = option_map (λ dockerfile. beside (entries tree) dockerfile asked) found

-- the same with the Dockerfile that is named, or the folder's own
abbrev pub beside_among : TreeMap → Option (List ℕ) → Asked → Option Members
beside_among tree file asked = beside_of tree (dockerfile_among tree file) asked

-- the text that is written of JSON
pub record IsTextOf (d : Data) (text : List ℕ) : Type 0 where
  pub compact : has_float d ≡ false → text ≡ compact_text d
  pub reads : depth d ≤ max_depth → read text ≡ Some d
