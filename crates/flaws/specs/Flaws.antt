-- Where bytes that are no bundle are wrong (own): in how many there are, in the text, in the JSON, or at a place in it. The kinds of values are
-- those of docs/FORMATS.md. Of a key that stands twice in an object only the last value is looked at, since that is the one that counts.
use Rattle.std.specs.Prelude.{ℕ, Bool, false, Option, Some, None, List, [], ◌∷◌, length, nat_le, codes, is_some, unwrap_or, if◌then◌else◌}
use Rattle.std.specs.Option.{option_map}
use Rattle.std.specs.Str.{is_utf8}
use Rattle.std.specs.Str.Lossy.{utf8_valid_len}
use Rattle.serde_json.specs.Data.{Data}
use Rattle.serde_json.specs.Find.{get, as_str, as_bool}
use Rattle.serde_json.specs.Read.{read}
use Rattle.plain.specs.Limits.{most_bundle_bytes}
use Rattle.strict.specs.Strict.{path_in, short_number_in}
use Rattle.entries.specs.Reading.{mode_in, content_in}
use Rattle.entries.specs.Listing.{listing_in}
use Rattle.bundle.specs.Digest.{digest_in}
use Rattle.bundle.specs.Parts.{is_image_name}
use Rattle.flaws.specs.Looks.{Way, Looks, whole, read_as, first_of, optional, required, keys, no_other, items, rows}
use Rattle.flaws.specs.declared.flaw.Step.TheVariants.{Key}
use Rattle.flaws.specs.declared.flaw.Flaw.{Flaw}
use Rattle.flaws.specs.declared.flaw.Flaw.TheVariants.{TooLong, NoText, NoJson, At}

-- which part of an object is wrong whose bytes can't be read: the text or the hexadecimal digits; the object, if it has both or neither
abbrev pub content_place : Option Data → Option Data → Way
content_place None None = []
content_place (Some text) None = Key (codes "text") ∷ []
content_place None (Some hex) = Key (codes "hex") ∷ []
content_place (Some text) (Some hex) = []

-- bytes, that stand in an object as a text or in hexadecimal
abbrev pub content_flaw : Looks
content_flaw d = if is_some (content_in d) then None else Some (content_place (get (codes "text") d) (get (codes "hex") d))

-- the mark of a directory
abbrev pub is_mark : Data → Bool
is_mark d = unwrap_or (as_bool d) false

-- the mode and the owner of an entry
abbrev pub meta_flaw : Looks
meta_flaw = first_of
    (optional (codes "mode") (read_as mode_in)
    ∷ (optional (codes "uid") (read_as short_number_in)
    ∷ (optional (codes "gid") (read_as short_number_in)
    ∷ [])))

-- a directory with its path
abbrev pub directory_flaw : Looks
directory_flaw = first_of
    (no_other (codes "dir" ∷ codes "gid" ∷ codes "mode" ∷ codes "path" ∷ codes "uid" ∷ [])
    ∷ (required (codes "dir") (whole is_mark)
    ∷ (required (codes "path") (read_as path_in)
    ∷ (meta_flaw
    ∷ []))))

-- a file with its path
abbrev pub file_flaw : Looks
file_flaw = first_of
    (no_other (codes "gid" ∷ codes "hex" ∷ codes "mode" ∷ codes "path" ∷ codes "text" ∷ codes "uid" ∷ [])
    ∷ (required (codes "path") (read_as path_in)
    ∷ (meta_flaw
    ∷ (content_flaw
    ∷ []))))

-- an entry with its path
abbrev pub entry_flaw : Looks
entry_flaw d = if is_some (get (codes "dir") d) then directory_flaw d else file_flaw d

-- a list of a tree's entries: the first that is none; if each is one, and two clash or a file is the root, the list
abbrev pub listing_flaw : Looks
listing_flaw = first_of (items entry_flaw ∷ (read_as listing_in ∷ []))

-- a Dockerfile
abbrev pub dockerfile_flaw : Looks
dockerfile_flaw = first_of (no_other (codes "hex" ∷ codes "text" ∷ []) ∷ (content_flaw ∷ []))

-- an image, whose configuration has to be read by `config`
abbrev pub image_flaw : {C : Type 0} → (Data → Option C) → Looks
image_flaw config = first_of
    (no_other (codes "config" ∷ codes "digest" ∷ codes "tree" ∷ [])
    ∷ (required (codes "config") (read_as config)
    ∷ (optional (codes "digest") (read_as digest_in)
    ∷ (required (codes "tree") listing_flaw
    ∷ []))))

-- images by their names: first a wrong name, then a wrong image
abbrev pub images_flaw : {C : Type 0} → (Data → Option C) → Looks
images_flaw config = first_of (keys is_image_name ∷ (rows (image_flaw config) ∷ []))

-- the Dockerfile, the context and the target
abbrev pub files_flaw : Looks
files_flaw = first_of
    (required (codes "dockerfile") dockerfile_flaw
    ∷ (optional (codes "context") listing_flaw
    ∷ (optional (codes "target") (read_as as_str)
    ∷ [])))

-- what a build may name
abbrev pub named_flaw : {C : Type 0} → (Data → Option C) → Looks
named_flaw config = first_of
    (optional (codes "images") (images_flaw config)
    ∷ (optional (codes "args") (rows (read_as as_str))
    ∷ (optional (codes "caches") (rows listing_flaw)
    ∷ [])))

-- the JSON of a bundle
abbrev pub bundle_flaw : {C : Type 0} → (Data → Option C) → Looks
bundle_flaw config = first_of
    (no_other (codes "args" ∷ codes "caches" ∷ codes "context" ∷ codes "dockerfile" ∷ codes "images" ∷ codes "target" ∷ [])
    ∷ (files_flaw
    ∷ (named_flaw config
    ∷ [])))

-- where JSON is wrong as a bundle, if it is JSON
abbrev pub json_flaw : {C : Type 0} → (Data → Option C) → Option Data → Option Flaw
json_flaw config None = Some NoJson
json_flaw config (Some d) = option_map At (bundle_flaw config d)

-- where bytes of which there may be so many are wrong as a bundle: nowhere, if they are one
unfoldable pub flaw_within : {C : Type 0} → ℕ → (Data → Option C) → List ℕ → Option Flaw
flaw_within most config bytes =
    if nat_le (length bytes) most then (if is_utf8 bytes then json_flaw config (read bytes) else Some (NoText (utf8_valid_len bytes))) else Some TooLong

-- where bytes are wrong as a bundle
abbrev pub flaw_in : {C : Type 0} → (Data → Option C) → List ℕ → Option Flaw
flaw_in config bytes = flaw_within most_bundle_bytes config bytes
