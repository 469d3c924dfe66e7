-- Changes of trees (BuildKit's LLB, `FileOp`, `FileAction`, `FileActionCopy`, `FileActionMkFile`, `FileActionMkDir`, `ChownOpt`).
use Rattle.std.specs.Prelude.{ℕ, Option, Some, None, option_map, List, [], ◌∷◌, ◌++◌}
use Rattle.std.specs.Option.{option_and_then}
use Rattle.std.specs.Int.{w32, w64}
use Rattle.std.specs.Int.RustNames.{FitsSigned}
use Rattle.std.specs.List.{AllByRecursion}
use Rattle.wire.specs.Fields.{Field, number}
use Rattle.wire.specs.Kinds.{int_field, flag_field, bytes_field, message_field, optional_field, messages_field, numbers_of, int_at, flag_at, bytes_at, blocks_of, joined, last_or, message_at, messages_at, optional_at, read_as}
use Rattle.llbmessages.specs.declared.file.ChownOpt.{ChownOpt}
use Rattle.llbmessages.specs.declared.file.CopyAction.{CopyAction}
use Rattle.llbmessages.specs.declared.file.MakeFileAction.{MakeFileAction}
use Rattle.llbmessages.specs.declared.file.MakeDirAction.{MakeDirAction}
use Rattle.llbmessages.specs.declared.file.FileActionKind.{FileActionKind}
use Rattle.llbmessages.specs.declared.file.FileActionKind.TheVariants.{Copy, MakeFile, MakeDir}
use Rattle.llbmessages.specs.declared.file.FileAction.{FileAction}
use Rattle.llbmessages.specs.declared.file.FileOp.{FileOp}

-- ---- written

-- an owner: its user and its group, each by its number, which is one of two ways to name it and so is written even where it is 0
unfoldable pub chown_fields : ChownOpt → List Field
chown_fields owner = message_field 1 (number 2 owner.user ∷ []) ++ message_field 2 (number 2 owner.group ∷ [])

-- the fields of a copy
unfoldable pub copy_fields : CopyAction → List Field
copy_fields copy =
    bytes_field 1 copy.src ++ bytes_field 2 copy.dest ++ optional_field chown_fields 3 copy.owner ++ int_field 4 copy.mode
    ++ flag_field 5 copy.follow_symlink ++ flag_field 6 copy.dir_copy_contents ++ flag_field 8 copy.create_dest_path
    ++ flag_field 9 copy.allow_wildcard ++ flag_field 10 copy.allow_empty_wildcard ++ int_field 11 copy.timestamp

-- the fields of a file that is made
unfoldable pub make_file_fields : MakeFileAction → List Field
make_file_fields file =
    bytes_field 1 file.path ++ int_field 2 file.mode ++ bytes_field 3 file.data ++ optional_field chown_fields 4 file.owner
    ++ int_field 5 file.timestamp

-- the fields of a folder that is made
unfoldable pub make_dir_fields : MakeDirAction → List Field
make_dir_fields dir =
    bytes_field 1 dir.path ++ int_field 2 dir.mode ++ flag_field 3 dir.make_parents ++ optional_field chown_fields 4 dir.owner
    ++ int_field 5 dir.timestamp

-- what an action does: one of three fields is set
unfoldable pub action_kind_fields : FileActionKind → List Field
action_kind_fields (Copy copy) = message_field 4 (copy_fields copy)
action_kind_fields (MakeFile file) = message_field 5 (make_file_fields file)
action_kind_fields (MakeDir dir) = message_field 6 (make_dir_fields dir)

-- the fields of an action
unfoldable pub action_fields : FileAction → List Field
action_fields action =
    int_field 1 action.input ++ int_field 2 action.secondary_input ++ int_field 3 action.output ++ action_kind_fields action.kind

-- the fields of changes
unfoldable pub file_fields : FileOp → List Field
file_fields file = messages_field action_fields 2 file.actions

-- ---- read

-- a number that has to be written
abbrev pub set_number : List ℕ → Option ℕ
set_number [] = None
set_number (value ∷ more) = Some (last_or value more)

-- a user or a group by its number
abbrev pub id_of : List Field → Option ℕ
id_of fields = set_number (numbers_of 2 fields)

-- what the fields of an owner are read as
unfoldable pub chown_of : List Field → Option ChownOpt
chown_of fields =
    option_and_then
    (λ user. option_map (λ group. record { user = user; group = group }) (message_at (read_as id_of) 2 fields))
    (message_at (read_as id_of) 1 fields)

-- what the fields of a copy are read as
unfoldable pub copy_of : List Field → Option CopyAction
copy_of fields =
    option_map
    (λ owner. record { src = bytes_at 1 fields; dest = bytes_at 2 fields; owner = owner; mode = int_at 4 fields; follow_symlink = flag_at 5 fields; dir_copy_contents = flag_at 6 fields; create_dest_path = flag_at 8 fields; allow_wildcard = flag_at 9 fields; allow_empty_wildcard = flag_at 10 fields; timestamp = int_at 11 fields })
    (optional_at (read_as chown_of) 3 fields)

-- what the fields of a file that is made are read as
unfoldable pub make_file_of : List Field → Option MakeFileAction
make_file_of fields =
    option_map
    (λ owner. record { path = bytes_at 1 fields; mode = int_at 2 fields; «data» = bytes_at 3 fields; owner = owner; timestamp = int_at 5 fields })
    (optional_at (read_as chown_of) 4 fields)

-- what the fields of a folder that is made are read as
unfoldable pub make_dir_of : List Field → Option MakeDirAction
make_dir_of fields =
    option_map
    (λ owner. record { path = bytes_at 1 fields; mode = int_at 2 fields; make_parents = flag_at 3 fields; owner = owner; timestamp = int_at 5 fields })
    (optional_at (read_as chown_of) 4 fields)

-- what an action does, by the one field that is set of three
abbrev pub action_kind_read : Option (List ℕ) → Option (List ℕ) → Option (List ℕ) → Option FileActionKind
action_kind_read (Some copy) None None = option_map Copy (read_as copy_of copy)
action_kind_read None (Some file) None = option_map MakeFile (read_as make_file_of file)
action_kind_read None None (Some dir) = option_map MakeDir (read_as make_dir_of dir)
action_kind_read copy file dir = None

-- what the fields of an action say that it does
abbrev pub action_kind_of : List Field → Option FileActionKind
action_kind_of fields = action_kind_read (joined (blocks_of 4 fields)) (joined (blocks_of 5 fields)) (joined (blocks_of 6 fields))

-- what the fields of an action are read as
unfoldable pub action_of : List Field → Option FileAction
action_of fields =
    option_map
    (λ kind. record { input = int_at 1 fields; secondary_input = int_at 2 fields; output = int_at 3 fields; kind = kind })
    (action_kind_of fields)

-- what the fields of changes are read as
unfoldable pub file_of : List Field → Option FileOp
file_of fields = option_map (λ actions. record { actions = actions }) (messages_at (read_as action_of) 2 fields)

-- ---- numbers with a sign have 32 or 64 bits

-- those of what an action does
abbrev pub FitsActionKind : FileActionKind → Type 0
FitsActionKind (Copy copy) = FitsSigned w32 copy.mode × FitsSigned w64 copy.timestamp
FitsActionKind (MakeFile file) = FitsSigned w32 file.mode × FitsSigned w64 file.timestamp
FitsActionKind (MakeDir dir) = FitsSigned w32 dir.mode × FitsSigned w64 dir.timestamp

-- those of an action
abbrev pub FitsAction : FileAction → Type 0
FitsAction action =
    FitsSigned w64 action.input × FitsSigned w64 action.secondary_input × FitsSigned w64 action.output × FitsActionKind action.kind

-- those of changes
abbrev pub FitsFile : FileOp → Type 0
FitsFile file = AllByRecursion FitsAction file.actions
