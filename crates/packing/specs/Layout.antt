-- The image of an OCI image layout: which file of it names which, by its digest (OCI image specification: image layout, image index, image manifest).
use Rattle.std.specs.Prelude.{ℕ, Bool, true, false, ◌&&◌, List, Option, Some, None, bytes_eq, codes, if◌then◌else◌}
use Rattle.std.specs.Option.{option_and_then, option_map, option_or}
use Rattle.serde_json.specs.Data.{Data, Items, array, item, no_items, string}
use Rattle.serde_json.specs.Find.{as_array, as_str, get}
use Rattle.bundle.specs.Digest.{digest_in}
use Rattle.packing.specs.Images.{if_image, image_data, only_item}
use Rattle.packing.specs.declared.layout.Named.{Named}

-- what was found is this text
abbrev pub is_same : List ℕ → Option (List ℕ) → Bool
is_same text None = false
is_same text (Some found) = bytes_eq found text

-- a value is this text
abbrev pub is_text : List ℕ → Option Data → Bool
is_text text value = is_same text (option_and_then as_str value)

-- a platform is linux/amd64, that of a bundle (own)
abbrev pub is_platform : Option Data → Bool
is_platform None = false
is_platform (Some d) = is_text (codes "linux") (get (codes "os") d) && is_text (codes "amd64") (get (codes "architecture") d)

-- the first image of an index that is for this platform
abbrev pub first_of_platform : Items → Option Data
first_of_platform no_items = None
first_of_platform (item d ds) = if is_platform (get (codes "platform") d) then Some d else first_of_platform ds

-- the image of an index that is taken: that one, or else the only one (own)
abbrev pub chosen : Items → Option Data
chosen ds = option_or (first_of_platform ds) (only_item ds)

-- the digest by which a file is named
abbrev pub digest_at : Option Data → Option (List ℕ)
digest_at file = option_and_then digest_in (option_and_then (get (codes "digest")) file)

-- what a file of a layout names, by what stands at the key `manifests`: an index the image that is taken, and a manifest its configuration
abbrev pub named_by : Data → Option Data → Option Named
named_by d (Some images) =
    option_map (λ digest. record { is_config = false; digest = digest }) (digest_at (option_and_then chosen (as_array images)))
named_by d None = option_map (λ digest. record { is_config = true; digest = digest }) (digest_at (get (codes "config") d))

-- what a file of a layout names
unfoldable pub named_in : Data → Option Named
named_in d = named_by d (get (codes "manifests") d)

-- the JSON of the image of a manifest of this digest, by the JSON of the configuration that it names; its tree is empty
abbrev pub layout_image : List ℕ → Option Data → Option Data
layout_image digest config = option_and_then (λ d. if_image (image_data d (Some (string digest)) (array no_items))) config
