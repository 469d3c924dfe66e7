-- The best of the names that were looked at: only private functions are stated by it.
use Rattle.std.specs.Prelude.{◌≡◌, ◌&&◌, ℕ, Bool, true, false, List, Option, Some, None, nat_lt, if◌then◌else◌}
use Rattle.std.specs.List.{All}
use Rattle.nearest.specs.Nearness.{edits, is_near, IsFirstNearest}

-- of two names, the second if it takes fewer edits, or if there is no first
abbrev pub fewer : List ℕ → Option (List ℕ) → List ℕ → Bool
fewer word None name = true
fewer word (Some best) name = nat_lt (edits word name) (edits word best)

-- the better of a name so far, if there is one, and the next one
abbrev pub better : List ℕ → Option (List ℕ) → List ℕ → Option (List ℕ)
better word best name = if is_near word name && fewer word best name then Some name else best

-- this is the one that is nearest, or there is none and no name is near
abbrev pub IsBest : List ℕ → List (List ℕ) → Option (List ℕ) → Type 0
IsBest word names None = All (λ name. is_near word name ≡ false) names
IsBest word names (Some name) = IsFirstNearest word names name
