-- What is held of the text of a path.
use Rattle.std.specs.Prelude.{◌≡◌, ◌<◌, ◌≤◌, ℕ, List, length, take, get_or}
use Rattle.json.specs.Print.{escape}
use Rattle.paths.specs.Path.{rooted}
use Rattle.entries.specs.declared.front.PathFront.{PathFront}
use Rattle.entries.specs.declared.front.TheConstants.{ROOM, ENDS}

-- a front holds the text of the first names of a path, so many of them, and where that of none, of one and so on ends
pub record HoldsNames (names : List (List ℕ)) (count : ℕ) (front : PathFront) : Type 0 where
  pub long : length front.text ≡ ROOM
  pub places : length front.ends ≡ ENDS
  pub few : count ≤ length names
  pub room : count < ENDS
  pub inside : get_or front.ends count 0 ≤ ROOM
  pub text : take (get_or front.ends count 0) front.text ≡ escape (rooted (take count names))
  pub ends : (i : ℕ) → i ≤ count → get_or front.ends i 0 ≡ length (escape (rooted (take i names)))
