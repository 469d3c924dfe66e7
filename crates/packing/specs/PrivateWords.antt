-- What is noted of what can't be packed (own).
use Rattle.std.specs.Prelude.{◌≡◌, ℕ, List, [], ◌∷◌, Option, Some, None, is_some, ⊤, codes, if◌then◌else◌}
use Rattle.serde_json.specs.Data.{Data}
use Rattle.serde_json.specs.Find.{as_array, get}
use Rattle.packing.specs.declared.fault.PackFault.{PackFault}
use Rattle.packing.specs.declared.fault.PackFault.TheVariants.{Device, Ended, Memory}

-- what a place is called
abbrev pub shown : List ℕ → List ℕ
shown [] = codes "the empty text"
shown (c ∷ cs) = c ∷ cs

-- a fault with which this text is noted, if there was memory for it
abbrev pub Notes : PackFault → List ℕ → List ℕ → Type 0
Notes Ended notes text = notes ≡ text
Notes Memory notes text = ⊤
Notes Device notes text = ⊥

-- why JSON is no image, and what helps
abbrev pub data_words : Data → List ℕ
data_words d =
    if is_some (as_array d) then codes " is a list, but none of one image that was inspected: it needs Architecture, Os, Config and RootFS.Layers"
    else if is_some (get (codes "manifests") d) then codes " is an index of images: name the folder of its layout"
    else if is_some (get (codes "layers") d) then codes " is a manifest of an image: name the folder of its layout"
    else codes " is no image: it needs architecture, os and rootfs, or config and tree"

-- why a file gives no image, by the JSON that it has, if it has some
abbrev pub words_of : Option Data → List ℕ
words_of None = codes " is no JSON: put the JSON of an image or of its configuration in it"
words_of (Some d) = data_words d
