-- How the entries of a tree are written as JSON (own): the keys of each object in the order of their bytes.
use Rattle.std.specs.Prelude.{ℕ, ◌+◌, ◌/◌, ◌%◌, List, [], ◌∷◌, map, true, codes}
use Rattle.hex.specs.Hex.{encode_lower}
use Rattle.serde_json.specs.Data.{Data, boolean, number, unsigned, string, array, object, no_members, member}
use Rattle.serde_json.specs.View.{items_of}
use Rattle.paths.specs.Path.{text_of}
use Rattle.trees.specs.declared.meta.Meta.{Meta}
use Rattle.trees.specs.declared.entry.Entry.{Entry}
use Rattle.trees.specs.declared.entry.Entry.TheVariants.{Directory, File}
use Rattle.trees.specs.Row.{Row}

-- a mode as four octal digits
abbrev pub mode_text : ℕ → List ℕ
mode_text mode = (48 + mode / 512) ∷ ((48 + mode / 64 % 8) ∷ ((48 + mode / 8 % 8) ∷ ((48 + mode % 8) ∷ [])))

-- a directory, whose mode and path are given as texts
abbrev pub directory_data : Meta → List ℕ → List ℕ → Data
directory_data meta mode path = object (member (codes "dir") (boolean true)
    (member (codes "gid") (number (unsigned meta.gid))
    (member (codes "mode") (string mode)
    (member (codes "path") (string path)
    (member (codes "uid") (number (unsigned meta.uid)) no_members)))))

-- a file, whose bytes are given in hexadecimal
abbrev pub file_data : Meta → List ℕ → List ℕ → List ℕ → Data
file_data meta hex mode path = object (member (codes "gid") (number (unsigned meta.gid))
    (member (codes "hex") (string hex)
    (member (codes "mode") (string mode)
    (member (codes "path") (string path)
    (member (codes "uid") (number (unsigned meta.uid)) no_members)))))

-- an entry: a directory has `dir`, and a file its bytes in hexadecimal
abbrev pub entry_data : List (List ℕ) → Entry → Data
entry_data path (Directory meta) = directory_data meta (mode_text meta.mode) (text_of path)
entry_data path (File meta content) = file_data meta (encode_lower content) (mode_text meta.mode) (text_of path)

-- all entries of a tree, in the order that they are given in
abbrev pub tree_data : List Row → Data
tree_data rows = array (items_of (map (λ row. entry_data row.0 row.1) rows))
