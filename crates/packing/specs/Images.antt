-- The images that go into a folder's bundle, each read from a file (own). What a bundle takes as an image is said by `bundle`.
use Rattle.std.specs.Prelude.{◌≡◌, ℕ, Bool, not, ◌&&◌, List, [], ◌∷◌, map, nat_le, Option, Some, None, is_some, if◌then◌else◌, codes}
use Rattle.std.specs.FinMap.{find, get as image_at_name}
use Rattle.std.specs.List.{list_all}
use Rattle.std.specs.Option.{option_and_then, option_map}
use Rattle.serde_json.specs.Data.{Data, Items, array, depth, item, member, no_items, no_members, object, string}
use Rattle.serde_json.specs.Find.{as_array, get}
use Rattle.serde_json.specs.Read.{read}
use Rattle.serde_json.specs.Written.{has_float}
use Rattle.paths.specs.Order.{name_cmp}
use Rattle.strict.specs.Strict.{strict}
use Rattle.entries.specs.Whole.{tree_of}
use Rattle.scopes.specs.Scope.{names_differ}
use Rattle.imageconfig.specs.Reading.{config_in}
use Rattle.imageconfig.specs.declared.config.Config.{Config}
use Rattle.plans.specs.Images.{ImagesValue}
use Rattle.plans.specs.declared.images.Image.{Image}
use Rattle.bundle.specs.Parts.{image_in, is_image_name}

-- an image's name, and the JSON of the image
abbrev pub ImageRow : Type 0
ImageRow = List ℕ × Data

-- an image as a bundle has it, of the JSON of its configuration, of its digest, if it has one, and of its tree
abbrev pub image_data : Data → Option Data → Data → Data
image_data config None tree = object (member (codes "config") config (member (codes "tree") tree no_members))
image_data config (Some digest) tree =
    object (member (codes "config") config (member (codes "digest") digest (member (codes "tree") tree no_members)))

-- the same, by what stands at these keys, of which the digest's may be missing
abbrev pub image_at : Option Data → Option Data → Option Data → Option Data
image_at config digest tree = option_and_then (λ config. option_map (λ tree. image_data config digest tree) tree) config

-- an image of this configuration, without a digest and with the empty tree
abbrev pub bare_image : Data → Data
bare_image config = image_data config None (array no_items)

-- a list's only value
abbrev pub only_item : Items → Option Data
only_item no_items = None
only_item (item d no_items) = Some d
only_item (item d (item e ds)) = None

-- what stands at the key `rootfs` of an image's configuration, of its layers (OCI image specification)
abbrev pub root_data : Data → Data
root_data layers = object (member (codes "diff_ids") layers (member (codes "type") (string (codes "layers")) no_members))

-- an image's configuration, of what stands at its keys (OCI image specification)
abbrev pub config_data : Data → Data → Data → Data → Data
config_data architecture config os layers =
    object (member (codes "architecture") architecture (member (codes "config") config (member (codes "os") os (member (codes "rootfs") (root_data layers) no_members))))

-- the configuration of an image that was inspected, whose values stand at other keys (Docker Engine API, inspect an image)
unfoldable pub inspected : Data → Option Data
inspected d =
    option_and_then (λ architecture.
    option_and_then (λ config.
    option_and_then (λ os.
    option_map (λ layers. config_data architecture config os layers)
    (option_and_then (get (codes "Layers")) (get (codes "RootFS") d)))
    (get (codes "Os") d))
    (get (codes "Config") d))
    (get (codes "Architecture") d)

-- the configuration that a file's JSON gives: the JSON itself; of a list, as `docker image inspect` prints one, that of the only image in it
abbrev pub config_among : Data → Option Items → Option Data
config_among d None = Some d
config_among d (Some ds) = option_and_then inspected (only_item ds)

-- The JSON of the image that a file's JSON gives. With the key `tree` it has the configuration, the tree and the digest, if there is one, as a
-- bundle's image has, and may have the key `result`, as the answer of a build has. Without that key it is a configuration, or a list of one image that
-- was inspected, and the tree is empty.
abbrev pub given_at : Data → Option Data → Option Data
given_at d None = option_map bare_image (config_among d (as_array d))
given_at d (Some tree) =
    if is_some (strict (codes "config" ∷ codes "digest" ∷ codes "result" ∷ codes "tree" ∷ []) d)
    then image_at (get (codes "config") d) (get (codes "digest") d) (Some tree)
    else None

unfoldable pub given_in : Data → Option Data
given_in d = given_at d (get (codes "tree") d)

-- how deep an image's JSON may nest: it stands two deep in a bundle, of which 127 are read
abbrev pub most_depth : ℕ
most_depth = 125

-- JSON that is written and read again as it is: it has no number that isn't whole, and nests at most so deep
abbrev pub is_even : ℕ → Data → Bool
is_even most d = not (has_float d) && nat_le (depth d) most

-- JSON is an image that a bundle takes
unfoldable pub is_image : Data → Bool
is_image d = is_some (image_in config_in d) && is_even most_depth d

-- the JSON of the image that the text of a file gives, if it gives one
abbrev pub if_image : Data → Option Data
if_image d = if is_image d then Some d else None

unfoldable pub image_of : List ℕ → Option Data
image_of text = option_and_then if_image (option_and_then given_in (read text))

-- names that images of one bundle may have: each is the name of an image, and no two are the same
abbrev pub are_names : List (List ℕ) → Bool
are_names names = list_all is_image_name names && names_differ names

-- the images of one bundle, in the order in which they are given
abbrev pub names_of : List ImageRow → List (List ℕ)
names_of images = map (λ image. image.0) images

abbrev pub are_images : List ImageRow → Bool
are_images images = are_names (names_of images) && list_all (λ image. is_image image.1) images

-- the image that JSON is, as a bundle has it
abbrev pub image_value : Data → Option (Image Config)
image_value d = option_map (λ listed. record { config = listed.config; tree = tree_of listed.tree }) (image_in config_in d)

-- images are read as these: under each name is that which the JSON of this name is, and under no other name is any
pub record AreRead (images : List ImageRow) (found : ImagesValue Config) : Type 0 where
  pub each : (name : List ℕ) → image_at_name found name ≡ option_and_then image_value (find name_cmp name images)
