-- How a text is read as a path, against the path of the directory that a relative text begins at. It is what Dockerfiles do
-- with a destination, a working directory and a mount's target: the rule is that of Go's `path.Clean`, after a
-- relative text was put behind the base.
use Rattle.std.specs.Prelude.{◌≡◌, ◌==◌, ℕ, Bool, false, true, Option, Some, None, Result, Ok, Err, List, [], ◌∷◌, ◌++◌, if◌then◌else◌, length, nat_lt}
use Rattle.std.specs.List.{list_all, slice_split}
use Rattle.paths.specs.Path.{is_idle, is_up, is_normal, are_short, climbed}
use Rattle.plain.specs.declared.fault.Fault.{Fault}
use Rattle.plain.specs.declared.fault.Fault.TheVariants.{Because, Memory}
use Rattle.plain.specs.Limits.{most_components}
use Rattle.paths.specs.declared.fault.PathLimit.{PathLimit}
use Rattle.paths.specs.declared.fault.PathLimit.TheVariants.{TooDeep, TooLong}

-- the pieces of a text between its slashes, one more than there are slashes
abbrev pub pieces : List ℕ → List (List ℕ)
pieces text = slice_split (λ b. b == 47) text

-- where one piece leads from p: nowhere, one up (at the root: nowhere), or to what it names (Go's `path.Clean`)
abbrev pub stepped : List (List ℕ) → List ℕ → List (List ℕ)
stepped p piece = if is_idle piece then p else if is_up piece then climbed p else p ++ piece ∷ []

-- where the pieces lead from p, one after another
abbrev pub walked : List (List ℕ) → List (List ℕ) → List (List ℕ)
walked p [] = p
walked p (piece ∷ rest) = walked (stepped p piece) rest

-- the clean form of a list of pieces: where they lead from the root
abbrev pub cleaned : List (List ℕ) → List (List ℕ)
cleaned ps = walked [] ps

-- f gives the clean form of a list of pieces, said with no order of reading (the rules of Go's `path.Clean`): an idle piece may
-- be dropped wherever it stands, a name and the `..` behind it cancel wherever they stand, a `..` in front of all leads nowhere,
-- and pieces that are all names stay as they are
pub record IsCleaning (f : List (List ℕ) → List (List ℕ)) : Type 0 where
  pub idle : (front back : List (List ℕ)) (piece : List ℕ) → is_idle piece ≡ true → f (front ++ piece ∷ back) ≡ f (front ++ back)
  pub cancel : (front back : List (List ℕ)) (name up : List ℕ) → is_normal name ≡ true → is_up up ≡ true → f (front ++ name ∷ up ∷ back) ≡ f (front ++ back)
  pub top : (back : List (List ℕ)) (up : List ℕ) → is_up up ≡ true → f (up ∷ back) ≡ f back
  pub names : (p : List (List ℕ)) → list_all is_normal p ≡ true → f p ≡ p

-- a text that begins with `/`
abbrev pub is_absolute : List ℕ → Bool
is_absolute [] = false
is_absolute (b ∷ bs) = b == 47

-- the path that a text leads to: an absolute text from the root, any other from the base
abbrev pub read_from : List ℕ → List (List ℕ) → List (List ℕ)
read_from text base = walked (if is_absolute text then [] else base) (pieces text)

-- the limit that a path breaks, if any; where it breaks both, it is the depth that is told (own)
abbrev pub limit_of : List (List ℕ) → Option PathLimit
limit_of p = if nat_lt most_components (length p) then Some TooDeep else if are_short p then None else Some TooLong

-- what a reading answers whose text leads to p: p within the limits, or the limit that it breaks, or that there was no memory,
-- which says nothing of p
abbrev pub IsRead : List (List ℕ) → Result (List (List ℕ)) (Fault PathLimit) → Type 0
IsRead p (Ok q) = (q ≡ p) × (limit_of p ≡ None)
IsRead p (Err (Because limit)) = limit_of p ≡ Some limit
IsRead p (Err Memory) = Unit {0}
