-- What a bundle holds (own). It is one JSON object; any spelling of it counts. It has the Dockerfile, and may have the files of the build's
-- own folder, images, build arguments, what caches hold at first, and the target.
use Rattle.std.specs.Prelude.{ℕ, ◌==◌, Bool, not, ◌&&◌, Option, Some, None, List, [], ◌∷◌, length, map, nat_le, bytes_eq, codes, is_some, if◌then◌else◌}
use Rattle.std.specs.Str.{is_utf8}
use Rattle.std.specs.List.{list_all}
use Rattle.std.specs.Option.{option_and_then, option_map}
use Rattle.std.specs.FinMap.{empty, from_entries}
use Rattle.serde_json.specs.Data.{Data}
use Rattle.serde_json.specs.Find.{get, as_str}
use Rattle.serde_json.specs.Read.{read}
use Rattle.plain.specs.Limits.{most_bundle_bytes}
use Rattle.named.specs.Rows.{put_row}
use Rattle.strict.specs.Strict.{strict, at_most_one, rows_in}
use Rattle.trees.specs.TreeMap.{TreeMap}
use Rattle.trees.specs.Row.{Row}
use Rattle.entries.specs.Reading.{content_in}
use Rattle.entries.specs.Listing.{listing_in}
use Rattle.entries.specs.Whole.{tree_of}
use Rattle.plans.specs.Images.{ImagesValue}
use Rattle.plans.specs.declared.images.Image.{Image}
use Rattle.scopes.specs.Args.{BuildArguments}
use Rattle.bundle.specs.declared.parts.Files.{Files}
use Rattle.bundle.specs.declared.parts.Named.{Named}
use Rattle.bundle.specs.declared.parts.Parts.{Parts}
use Rattle.bundle.specs.declared.parts.ListedImage.{ListedImage}
use Rattle.bundle.specs.declared.parts.ReadImages.{ReadImages}
use Rattle.bundle.specs.Digest.{digest_in}

-- the bytes of a Dockerfile `{"text":T}` or `{"hex":H}`
unfoldable pub dockerfile_in : Data → Option (List ℕ)
dockerfile_in d = if is_some (strict (codes "hex" ∷ codes "text" ∷ []) d) then content_in d else None

-- what stands at a key that may be missing: where it is, that is nothing, and else what it is read as
abbrev pub or_none : {A : Type 0} → A → (Data → Option A) → Option Data → Option A
or_none none one None = Some none
or_none none one (Some d) = one d

-- the Dockerfile, the context and the target
abbrev pub files_with : List ℕ → List Row → Option (List ℕ) → Files
files_with dockerfile context target = record { dockerfile = dockerfile; context = context; target = target }

-- the same, by what stands at their keys: the Dockerfile has to be there
abbrev pub files_at : Option Data → Option Data → Option Data → Option Files
files_at dockerfile context target =
    option_and_then (λ dockerfile. option_and_then (λ context. option_map (λ target. files_with dockerfile context target) (at_most_one as_str target)) (or_none [] listing_in context))
    (option_and_then dockerfile_in dockerfile)

unfoldable pub files_in : Data → Option Files
files_in d = files_at (get (codes "dockerfile") d) (get (codes "context") d) (get (codes "target") d)

-- an image: its configuration, read as `config` reads it, its digest, if one is given, and the list of its tree's entries
abbrev pub image_with : {C : Type 0} → C → Option (List ℕ) → List Row → ListedImage C
image_with config digest tree = record { config = config; digest = digest; tree = tree }

-- the same, by what stands at their keys
abbrev pub image_at : {C : Type 0} → (Data → Option C) → Option Data → Option Data → Option Data → Option (ListedImage C)
image_at config c digest tree =
    option_and_then (λ c. option_and_then (λ digest. option_map (λ tree. image_with c digest tree) (option_and_then listing_in tree)) (at_most_one digest_in digest))
    (option_and_then config c)

unfoldable pub image_in : {C : Type 0} → (Data → Option C) → Data → Option (ListedImage C)
image_in config d =
    if is_some (strict (codes "config" ∷ codes "digest" ∷ codes "tree" ∷ []) d)
    then image_at config (get (codes "config") d) (get (codes "digest") d) (get (codes "tree") d)
    else None

-- the name of an image: neither empty nor `scratch`, which is the empty tree (Dockerfile reference, FROM)
abbrev pub is_image_name : List ℕ → Bool
is_image_name name = not (length name == 0) && not (bytes_eq name (codes "scratch"))

-- images by their names, each with the tree of its entries
abbrev pub image_row : {C : Type 0} → List ℕ × ListedImage C → List ℕ × Image C
image_row row = (row.0, record { config = row.1.config; tree = tree_of row.1.tree })

abbrev pub images_of : {C : Type 0} → List (List ℕ × ListedImage C) → ImagesValue C
images_of rows = from_entries (map image_row rows)

-- digests by names, with that of a name more, if there is one
abbrev pub with_digest : List (List ℕ × List ℕ) → List ℕ → Option (List ℕ) → List (List ℕ × List ℕ)
with_digest digests name None = digests
with_digest digests name (Some digest) = put_row digests name digest

-- digests by names, with those of images
abbrev pub with_digests : {C : Type 0} → List (List ℕ × List ℕ) → List (List ℕ × ListedImage C) → List (List ℕ × List ℕ)
with_digests digests [] = digests
with_digests digests (row ∷ rows) = with_digests (with_digest digests row.0 row.1.digest) rows

-- the digests of images by the images' names, of those that have one
abbrev pub digests_of : {C : Type 0} → List (List ℕ × ListedImage C) → List (List ℕ × List ℕ)
digests_of rows = with_digests [] rows

-- an object of images, each under its name: the images, and their digests
abbrev pub read_with : {C : Type 0} → List (List ℕ × ListedImage C) → ReadImages C
read_with rows = record { images = images_of rows; digests = digests_of rows }

-- the same, if each has a name that an image may have
abbrev pub images_with : {C : Type 0} → List (List ℕ × ListedImage C) → Option (ReadImages C)
images_with rows = if list_all (λ row. is_image_name row.0) rows then Some (read_with rows) else None

unfoldable pub images_in : {C : Type 0} → (Data → Option C) → Data → Option (ReadImages C)
images_in config d = option_and_then images_with (rows_in (image_in config) d)

-- no image
abbrev pub no_images : {C : Type 0} → ReadImages C
no_images = record { images = empty; digests = [] }

-- an object of texts: build arguments by their names, which aren't tested
unfoldable pub args_in : Data → Option BuildArguments
args_in d = option_map (λ rows. from_entries rows) (rows_in as_str d)

-- the trees of lists of entries, by the ids of the caches that hold them
abbrev pub cache_row : List ℕ × List Row → List ℕ × TreeMap
cache_row row = (row.0, tree_of row.1)

-- an object of lists of entries: what is in the common contents of caches, by the caches' ids, which aren't tested
unfoldable pub caches_in : Data → Option (List (List ℕ × TreeMap))
caches_in d = option_map (λ rows. map cache_row rows) (rows_in listing_in d)

-- what a build may name
abbrev pub named_with : {C : Type 0} → ReadImages C → BuildArguments → List (List ℕ × TreeMap) → Named C
named_with read args caches = record { images = read.images; digests = read.digests; args = args; caches = caches }

-- the same, by what stands at their keys, each of which may be missing
abbrev pub named_at : {C : Type 0} → (Data → Option C) → Option Data → Option Data → Option Data → Option (Named C)
named_at config images args caches =
    option_and_then (λ images. option_and_then (λ args. option_map (λ caches. named_with images args caches) (or_none [] caches_in caches)) (or_none empty args_in args))
    (or_none no_images (images_in config) images)

unfoldable pub named_in : {C : Type 0} → (Data → Option C) → Data → Option (Named C)
named_in config d = named_at config (get (codes "images") d) (get (codes "args") d) (get (codes "caches") d)

-- the bundle that a value is
abbrev pub parts_with : {C : Type 0} → Files → Named C → Parts C
parts_with files named = record { files = files; named = named }

unfoldable pub parts_in : {C : Type 0} → (Data → Option C) → Data → Option (Parts C)
parts_in config d =
    if is_some (strict (codes "args" ∷ codes "caches" ∷ codes "context" ∷ codes "dockerfile" ∷ codes "images" ∷ codes "target" ∷ []) d)
    then option_and_then (λ files. option_map (λ named. parts_with files named) (named_in config d)) (files_in d)
    else None

-- the bundle that bytes are, where there are at most so many
unfoldable pub parts_within : {C : Type 0} → ℕ → (Data → Option C) → List ℕ → Option (Parts C)
parts_within most config bytes = if nat_le (length bytes) most then (if is_utf8 bytes then option_and_then (parts_in config) (read bytes) else None) else None

-- the bundle that bytes are; a longer one is none
abbrev pub parts_of : {C : Type 0} → (Data → Option C) → List ℕ → Option (Parts C)
parts_of config bytes = parts_within most_bundle_bytes config bytes
