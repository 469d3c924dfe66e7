-- Labels that are lent, in the order in which they are written.
use Rattle.std.specs.Prelude.{ℕ, List, [], ◌∷◌}
use Rattle.std.specs.Borrow.{Bor}
use Rattle.serde_json.specs.Data.{Members, no_members, member, string}

-- the members that they stand for
abbrev pub label_members : List (Bor (List ℕ) × Bor (List ℕ)) → Members
label_members [] = no_members
label_members (label ∷ labels) = member label.0.now (string label.1.now) (label_members labels)
