-- What a merge is as an operation of files (own; BuildKit's LLB, `FileOp`), which any BuildKit can make: the first tree, and onto it the entries of
-- each other one, one tree after another.
use Rattle.std.specs.Prelude.{ℕ, ◌+◌, ◌-◌, ◌==◌, ℤ, pos, false, true, None, List, [], ◌∷◌, length, if◌then◌else◌}
use Rattle.paths.specs.Path.{text_of}
use Rattle.llbmessages.specs.declared.file.CopyAction.{CopyAction}
use Rattle.llbmessages.specs.declared.file.FileAction.{FileAction}
use Rattle.llbmessages.specs.declared.file.FileActionKind.TheVariants.{Copy}
use Rattle.exported.specs.Files.{none}

-- a copy of all of a tree, from its root to the other one's; modes and owners stay
unfoldable pub whole_copy : CopyAction
whole_copy =
    record {
      src = text_of [];
      dest = text_of [];
      owner = None;
      mode = none;
      follow_symlink = true;
      dir_copy_contents = true;
      create_dest_path = true;
      allow_wildcard = false;
      allow_empty_wildcard = false;
      timestamp = none;
    }

-- the tree that the copy of this number is made onto, of a chain of so many trees: the first one, or what the copy before made, whose number is
-- counted from that of the inputs on
unfoldable pub chain_input : ℕ → ℕ → ℤ
chain_input trees number = if number == 0 then pos 0 else pos (trees + (number - 1))

-- the output that it is: the operation's, if it is the last one
unfoldable pub chain_output : ℕ → ℕ → ℤ
chain_output trees number = if number + 2 == trees then pos 0 else none

-- the copy of this number: it is of the tree after the one of its number
unfoldable pub chain_action : ℕ → ℕ → FileAction
chain_action trees number =
    record { input = chain_input trees number; secondary_input = pos (number + 1); output = chain_output trees number; kind = Copy whole_copy }

-- the copies of some trees, from that of this number on
abbrev pub chain_actions : ℕ → ℕ → List (List ℕ) → List FileAction
chain_actions trees number [] = []
chain_actions trees number (digest ∷ digests) = chain_action trees number ∷ chain_actions trees (number + 1) digests

-- the copies of all trees but the first one, which is at the bottom
abbrev pub chain_of : List (List ℕ) → List FileAction
chain_of [] = []
chain_of (first ∷ digests) = chain_actions (length (first ∷ digests)) 0 digests
