-- The names of the images that a bundle brings (own).
use Rattle.std.specs.Prelude.{ℕ, List, [], Option, Some, None, codes, length, nat_le, if◌then◌else◌}
use Rattle.std.specs.Str.{is_utf8}
use Rattle.serde_json.specs.Data.{Data, Members}
use Rattle.serde_json.specs.Find.{as_object, get}
use Rattle.serde_json.specs.Read.{read}
use Rattle.plain.specs.Limits.{most_bundle_bytes}
use Rattle.flaws.specs.Looks.{keys_of}

-- the keys of an object, in the order of their bytes; what is no object has none
abbrev pub names_of : Option Members → List (List ℕ)
names_of None = []
names_of (Some members) = keys_of members

-- the names of images, by the value that they stand in, if there is one
abbrev pub names_at : Option Data → List (List ℕ)
names_at None = []
names_at (Some d) = names_of (as_object d)

-- the names of the images of a bundle, by its JSON
abbrev pub names_in : Option Data → List (List ℕ)
names_in None = []
names_in (Some d) = names_at (get (codes "images") d)

-- the same by its bytes
unfoldable pub bytes_names : List ℕ → List (List ℕ)
bytes_names bytes = if is_utf8 bytes then names_in (read bytes) else []

-- the same of bytes of which there may be so many
unfoldable pub image_names_within : ℕ → List ℕ → List (List ℕ)
image_names_within most bytes = if nat_le (length bytes) most then bytes_names bytes else []

-- the names of the images of the bundle that bytes are, in the order of their bytes
abbrev pub image_names : List ℕ → List (List ℕ)
image_names bytes = image_names_within most_bundle_bytes bytes
