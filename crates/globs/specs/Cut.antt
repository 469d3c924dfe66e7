-- When a list of parts relates to a list of items, whatever these are: the list can be cut into pieces, one for each part and in the
-- parts' order, so that each part relates to its piece. Some parts take any run of items, also an empty one, and the others take one
-- item (Go's filepath.Match; .dockerignore rules). The parts of a component's pattern are cut along a name's characters, and an ignore
-- line's segments along a path's names.
use Rattle.std.specs.Prelude.{◌≡◌, Bool, true, false, ◌&&◌, List, [], ◌∷◌, ◌++◌, ◌⊎◌, if◌then◌else◌}
use Rattle.std.specs.List.{list_any}

module _ {P T : Type 0} (takes_any : P → Bool) (Holds : P → T → Type 0) where
  -- a part relates to a piece: to any, or to one item that it holds of
  abbrev pub IsPiece : P → List T → Type 0
  IsPiece part piece = (takes_any part ≡ true) ⊎ ((takes_any part ≡ false) × ((item : T) × ((piece ≡ item ∷ []) × Holds part item)))

  -- the items can be cut so that each part relates to its piece
  abbrev pub CanBeCut : List P → List T → Type 0
  CanBeCut [] items = items ≡ []
  CanBeCut (part ∷ parts) items = (piece : List T) × ((rest : List T) × ((items ≡ piece ++ rest) × (IsPiece part piece × CanBeCut parts rest)))

-- a list and all that is left of it when first items are taken away, the empty list too
abbrev pub tails : {T : Type 0} → List T → List (List T)
tails [] = [] ∷ []
tails (item ∷ items) = (item ∷ items) ∷ tails items

-- whether there is a first item of which a test holds, and the rest of which another does
abbrev pub begins : {T : Type 0} → (T → Bool) → (List T → Bool) → List T → Bool
begins first rest [] = false
begins first rest (item ∷ items) = first item && rest items

module _ {P T : Type 0} (takes_any : P → Bool) (holds : P → T → Bool) where
  -- the test of it: behind a part for any run one of the tails relates to the other parts, and behind a part for one item the rest does
  abbrev pub can_be_cut : List P → List T → Bool
  can_be_cut [] [] = true
  can_be_cut [] (item ∷ items) = false
  can_be_cut (part ∷ parts) items =
      if takes_any part then list_any (λ tail. can_be_cut parts tail) (tails items)
      else begins (λ item. holds part item) (λ rest. can_be_cut parts rest) items
