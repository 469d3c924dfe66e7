-- What the functions that read an image answer (own).
use Rattle.std.specs.Prelude.{◌≡◌, ℕ, ◌-◌, ◌==◌, Bool, true, not, ◌&&◌, List, Option, Some, None, Result, Ok, Err, bytes_eq, is_some, map, if◌then◌else◌}
use Rattle.std.specs.List.{list_any}
use Rattle.std.specs.Option.{option_map}
use Rattle.plain.specs.declared.fault.Fault.{Fault}
use Rattle.serde_json.specs.Data.{Data, null, boolean, number, string, array, object, Items, no_items, item, Members, no_members, member}
use Rattle.serde_json.specs.Find.{is_float}
use Rattle.serde_json.specs.View.{view}
use Rattle.serde_json.specs.declared.value.Value.{Value}
use Rattle.strict.specs.Gives.{TellsFault}
use Rattle.strict.specs.Strict.{at_most_one}
use Rattle.strict.specs.declared.fault.NotRead.{NotRead}
use Rattle.imageconfig.specs.Reading.{config_in}
use Rattle.bundle.specs.Digest.{digest_in}
use Rattle.packing.specs.Images.{ImageRow, is_even, most_depth}

-- JSON is that of a digest, if there is some
abbrev pub IsDigestRead : Option Value → Type 0
IsDigestRead digest = is_some (at_most_one digest_in (option_map view digest)) ≡ true

-- a reader answers the JSON that the definition gives, and a fault where it gives none
abbrev pub GivesJson : Result Value (Fault NotRead) → Option Data → Type 0
GivesJson (Ok v) reading = reading ≡ Some (view v)
GivesJson (Err e) reading = TellsFault e reading

-- the JSON of a digest that is read, where one is given
abbrev pub GivesDigest : Result (Option Value) (Fault NotRead) → Option Data → Type 0
GivesDigest (Ok digest) given = (given ≡ option_map view digest) × IsDigestRead digest
GivesDigest (Err e) given = TellsFault e (at_most_one digest_in given)

-- the JSON of a configuration that is read
abbrev pub GivesConfig : Result Value (Fault NotRead) → Data → Type 0
GivesConfig (Ok config) given = (given ≡ view config) × (is_some (config_in given) ≡ true)
GivesConfig (Err e) given = TellsFault e (config_in given)

-- JSON has no float, and nests at most so deep, part by part
abbrev mutual
  pub even : ℕ → Data → Bool
  even most null = true
  even most (boolean b) = true
  even most (number n) = not (is_float n)
  even most (string s) = true
  even most (array ds) = not (most == 0) && items_even (most - 1) ds
  even most (object ms) = not (most == 0) && members_even (most - 1) ms

  pub items_even : ℕ → Items → Bool
  items_even most no_items = true
  items_even most (item d ds) = even most d && items_even most ds

  pub members_even : ℕ → Members → Bool
  members_even most no_members = true
  members_even most (member k d ms) = even most d && members_even most ms

-- an image's JSON, if it is written and read again as it is
abbrev pub if_even : Data → Option Data
if_even d = if is_even most_depth d then Some d else None

-- one of these images, of which each has its file beside it, has this name
abbrev pub is_among : List ℕ → List (List ℕ × List ℕ) → Bool
is_among name images = list_any (λ image. bytes_eq name image.0) images

-- the images that were read, each with its JSON
abbrev pub image_rows : List (List ℕ × Value) → List ImageRow
image_rows images = map (λ image. (image.0, view image.1)) images

-- the names of images, of which each has its file beside it
abbrev pub given_names : List (List ℕ × List ℕ) → List (List ℕ)
given_names images = map (λ image. image.0) images
