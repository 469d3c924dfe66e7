-- What a JSON value spells: an operation, with the addresses of its inputs (own, after BuildKit's LLB). Each object has just the keys that
-- are named; a path is clean already.
use Rattle.std.specs.Prelude.{ℕ, List, [], ◌∷◌, ◌==◌, ◌&&◌, ◌||◌, Bool, Option, Some, None, if◌then◌else◌, bytes_eq, codes, length, drop, nat_le, nat_lt, nat_eq, is_some}
use Rattle.std.specs.List.{list_all, starts_with, position_or_len, before_first, after_first}
use Rattle.std.specs.Option.{option_and_then, option_map}
use Rattle.std.specs.Result.{result_ok}
use Rattle.hex.specs.Hex.{decode_of}
use Rattle.serde_json.specs.Data.{Data}
use Rattle.serde_json.specs.Find.{get, as_str, as_bool, as_null}
use Rattle.paths.specs.Name.{is_component}
use Rattle.plain.specs.declared.owner.Owner.{Owner}
use Rattle.plain.specs.declared.sharing.Sharing.{Sharing}
use Rattle.plain.specs.declared.sharing.Sharing.TheVariants.{Shared, Private, Locked}
use Rattle.plain.specs.VariableName.{is_variable_name}
use Rattle.plain.specs.declared.variable.Variable.{Variable}
use Rattle.runs.specs.declared.run.CacheUse.{CacheUse}
use Rattle.trees.specs.declared.copy.CopyOptions.{CopyOptions}
use Rattle.llb.specs.declared.op.Bind.{Bind}
use Rattle.llb.specs.declared.op.Exec.{Exec}
use Rattle.llb.specs.declared.op.Source.{Source}
use Rattle.llb.specs.declared.op.Source.TheVariants.{Scratch, Context, Image}
use Rattle.llb.specs.declared.op.FileSource.{FileSource}
use Rattle.llb.specs.declared.op.FileSource.TheVariants.{Pattern, Data as OwnFile}
use Rattle.llb.specs.declared.op.CopyFiles.{CopyFiles}
use Rattle.llb.specs.declared.op.Op.{Op}
use Rattle.llb.specs.declared.op.Op.TheVariants.{Source as SourceOp, Exec as ExecOp, Copy as CopyOp, MakeDirs as MakeDirsOp, Merge as MergeOp}
use Rattle.llb.specs.WellFormed.{is_well_formed_on}
use Rattle.strict.specs.Strict.{strict, list_in, path_in, number_in, short_number_in}
use Rattle.operations.specs.declared.spelled.Spelled.{Spelled}

-- a digit of an address: `0` to `9` are 48 to 57, `a` to `f` are 97 to 102
abbrev pub is_digit : ℕ → Bool
is_digit c = (nat_le 48 c && nat_le c 57) || (nat_le 97 c && nat_le c 102)

-- an address: `sha256:` and 64 digits
unfoldable pub is_address : List ℕ → Bool
is_address text = length text == 71 && (starts_with nat_eq text (codes "sha256:") && list_all is_digit (drop 7 text))

-- the addresses at the key `inputs`
unfoldable pub inputs_in : Data → Option (List (List ℕ))
inputs_in d = option_and_then (λ inputs. if list_all is_address inputs then Some inputs else None) (option_and_then (list_in as_str) (get (codes "inputs") d))

-- a variable, cut at its first `=`, before which its name stands
abbrev pub variable_of : List ℕ → Option Variable
variable_of text =
    if position_or_len (λ c. c == 61) text == length text then None
    else if is_variable_name (before_first (λ c. c == 61) text)
    then Some (record { name = before_first (λ c. c == 61) text; value = after_first (λ c. c == 61) text })
    else None

unfoldable pub variable_in : Data → Option Variable
variable_in d = option_and_then variable_of (as_str d)

abbrev pub sharing_of : List ℕ → Option Sharing
sharing_of text =
    if bytes_eq text (codes "shared") then Some Shared
    else if bytes_eq text (codes "private") then Some Private
    else if bytes_eq text (codes "locked") then Some Locked
    else None

unfoldable pub bind_in : Data → Option Bind
bind_in d =
    option_and_then (λ _.
    option_and_then (λ rw.
    option_and_then (λ source.
    option_map (λ target. record { rw = rw; source = source; target = target })
    (option_and_then path_in (get (codes "target") d)))
    (option_and_then path_in (get (codes "source") d)))
    (option_and_then as_bool (get (codes "rw") d)))
    (strict (codes "rw" ∷ codes "source" ∷ codes "target" ∷ []) d)

unfoldable pub cache_in : Data → Option CacheUse
cache_in d =
    option_and_then (λ _.
    option_and_then (λ id.
    option_and_then (λ sharing.
    option_map (λ target. record { id = id; sharing = sharing; target = target })
    (option_and_then path_in (get (codes "target") d)))
    (option_and_then sharing_of (option_and_then as_str (get (codes "sharing") d))))
    (option_and_then as_str (get (codes "id") d)))
    (strict (codes "id" ∷ codes "sharing" ∷ codes "target" ∷ []) d)

abbrev pub source_of : List ℕ → Option Source
source_of text =
    if bytes_eq text (codes "scratch") then Some Scratch
    else if bytes_eq text (codes "context") then Some Context
    else if starts_with nat_eq text (codes "image:") then Some (Image (drop 6 text))
    else None

unfoldable pub source_in : Data → Option Source
source_in d =
    option_and_then (λ _. option_and_then source_of (option_and_then as_str (get (codes "source") d)))
    (strict (codes "inputs" ∷ codes "op" ∷ codes "source" ∷ []) d)

unfoldable pub exec_in : Data → Option Exec
exec_in d =
    option_and_then (λ _.
    option_and_then (λ binds.
    option_and_then (λ caches.
    option_and_then (λ dir.
    option_and_then (λ env.
    option_and_then (λ user.
    option_map (λ words. record { binds = binds; caches = caches; dir = dir; env = env; user = user; words = words })
    (option_and_then (list_in as_str) (get (codes "words") d)))
    (option_and_then as_str (get (codes "user") d)))
    (option_and_then (list_in variable_in) (get (codes "env") d)))
    (option_and_then path_in (get (codes "dir") d)))
    (option_and_then (list_in cache_in) (get (codes "caches") d)))
    (option_and_then (list_in bind_in) (get (codes "binds") d)))
    (strict (codes "binds" ∷ codes "caches" ∷ codes "dir" ∷ codes "env" ∷ codes "inputs" ∷ codes "op" ∷ codes "user" ∷ codes "words" ∷ []) d)

-- what may be `null`, which is nothing
abbrev pub or_null : {A : Type 0} → (Data → Option A) → Data → Option (Option A)
or_null one d = if is_some (as_null d) then Some None else option_map (λ x. Some x) (one d)

-- a mode, as the value of its octal digits
abbrev pub mode_of : ℕ → Option ℕ
mode_of n = if nat_lt n 4096 then Some n else None

unfoldable pub mode_in : Data → Option ℕ
mode_in d = option_and_then mode_of (number_in d)

-- a user and a group, of which both are there or none is
abbrev pub owner_of : Option ℕ → Option ℕ → Option (Option Owner)
owner_of None None = Some None
owner_of None (Some group) = None
owner_of (Some user) None = None
owner_of (Some user) (Some group) = Some (Some (record { user = user; group = group }))

unfoldable pub owner_in : Data → Option (Option Owner)
owner_in d =
    option_and_then (λ user.
    option_and_then (λ group. owner_of user group)
    (option_and_then (or_null short_number_in) (get (codes "gid") d)))
    (option_and_then (or_null short_number_in) (get (codes "uid") d))

-- what the flags of a copy and the text of its destination say
unfoldable pub options_in : Data → Option CopyOptions
options_in d =
    option_and_then (λ into.
    option_and_then (λ owner.
    option_map (λ mode. record { into = into; owner = owner; mode = mode })
    (option_and_then (or_null mode_in) (get (codes "mode") d)))
    (owner_in d))
    (option_and_then as_bool (get (codes "dir") d))

-- the name of a file
abbrev pub name_of : List ℕ → Option (List ℕ)
name_of text = if is_component text then Some text else None

unfoldable pub name_in : Data → Option (List ℕ)
name_in d = option_and_then name_of (as_str d)

-- bytes in hexadecimal, whose letters are of either case
unfoldable pub content_in : Data → Option (List ℕ)
content_in d = option_and_then (λ text. result_ok (decode_of text)) (as_str d)

-- a source of a copy: a pattern, or a file of its own
unfoldable pub pattern_in : Data → Option FileSource
pattern_in d =
    option_and_then (λ _. option_map (λ text. Pattern text) (option_and_then as_str (get (codes "pattern") d)))
    (strict (codes "pattern" ∷ []) d)

unfoldable pub own_file_in : Data → Option FileSource
own_file_in d =
    option_and_then (λ _.
    option_and_then (λ content.
    option_map (λ name. OwnFile name content)
    (option_and_then name_in (get (codes "name") d)))
    (option_and_then content_in (get (codes "data") d)))
    (strict (codes "data" ∷ codes "name" ∷ []) d)

unfoldable pub file_source_in : Data → Option FileSource
file_source_in d = if is_some (get (codes "pattern") d) then pattern_in d else own_file_in d

unfoldable pub copy_in : Data → Option CopyFiles
copy_in d =
    option_and_then (λ _.
    option_and_then (λ sources.
    option_and_then (λ dest.
    option_map (λ options. record { sources = sources; dest = dest; options = options })
    (options_in d))
    (option_and_then path_in (get (codes "dest") d)))
    (option_and_then (list_in file_source_in) (get (codes "sources") d)))
    (strict (codes "action" ∷ codes "dest" ∷ codes "dir" ∷ codes "gid" ∷ codes "inputs" ∷ codes "mode" ∷ codes "op" ∷ codes "sources" ∷ codes "uid" ∷ []) d)

unfoldable pub mkdir_in : Data → Option (List (List ℕ))
mkdir_in d =
    option_and_then (λ _. option_and_then path_in (get (codes "path") d))
    (strict (codes "action" ∷ codes "inputs" ∷ codes "op" ∷ codes "path" ∷ []) d)

-- the operation on files of an action that a value is
abbrev pub file_op_of : List ℕ → Data → Option Op
file_op_of action d =
    if bytes_eq action (codes "copy") then option_map (λ files. CopyOp files) (copy_in d)
    else if bytes_eq action (codes "mkdir") then option_map (λ path. MakeDirsOp path) (mkdir_in d)
    else None

unfoldable pub file_op_in : Data → Option Op
file_op_in d = option_and_then (λ action. file_op_of action d) (option_and_then as_str (get (codes "action") d))

unfoldable pub merge_in : Data → Option Op
merge_in d = option_map (λ _. MergeOp) (strict (codes "inputs" ∷ codes "op" ∷ []) d)

-- the operation of a kind that a value is
abbrev pub op_of : List ℕ → Data → Option Op
op_of kind d =
    if bytes_eq kind (codes "source") then option_map (λ source. SourceOp source) (source_in d)
    else if bytes_eq kind (codes "exec") then option_map (λ exec. ExecOp exec) (exec_in d)
    else if bytes_eq kind (codes "file") then file_op_in d
    else if bytes_eq kind (codes "merge") then merge_in d
    else None

-- what a value spells, where it is a well-formed operation on as many inputs
unfoldable pub spelled_in : Data → Option Spelled
spelled_in d =
    option_and_then (λ op.
    option_and_then (λ inputs. if is_well_formed_on op (length inputs) then Some (record { op = op; inputs = inputs }) else None)
    (inputs_in d))
    (option_and_then (λ kind. op_of kind d) (option_and_then as_str (get (codes "op") d)))
