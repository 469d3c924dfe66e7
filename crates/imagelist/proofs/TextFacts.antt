-- What is told of images has no float.
use Rattle.std.proofs.Common.{◌≡◌, ℕ, false, ◌||◌, List, [], ◌∷◌, map, refl, ap}
use Rattle.serde_json.specs.Data.{number, unsigned}
use Rattle.serde_json.specs.View.{items_of}
use Rattle.serde_json.specs.Written.{has_float, items_have_float}
use Rattle.imagelist.specs.Telling.{image_data}
use Rattle.imagelist.specs.declared.image_rows.ImageUse.{ImageUse}

lines_are_plain : (lines : List ℕ) → items_have_float (items_of (map (λ line. number (unsigned line)) lines)) ≡ false
lines_are_plain [] = refl
lines_are_plain (line ∷ lines) = lines_are_plain lines

pub image_is_plain : (platform name : List ℕ) (used : ImageUse) → has_float (image_data platform name used) ≡ false
unfolding image_data
image_is_plain platform name used = ap (λ b. b || false) (lines_are_plain used.lines)
