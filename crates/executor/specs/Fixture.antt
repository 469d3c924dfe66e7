-- What the fixture executor's commands do, and the status that they end with (own).
--
-- A command names the change that it makes (Edits.antt), or the status that it ends with. The outcome of a run is a function of the request
-- alone; what the caches hold after it is one of the request and of what they held.
use Rattle.std.specs.Prelude.{ℕ, Option, Some, None, Result, Ok, Err, List, [], ◌∷◌, codes, if◌then◌else◌, is_some, unwrap_or}
use Rattle.std.specs.List.{join_with_byte}
use Rattle.std.specs.FinMap.{get}
use Rattle.paths.specs.Reading.{read_from, limit_of}
use Rattle.plain.specs.declared.variable.Variable.{Variable}
use Rattle.trees.specs.TreeMap.{TreeMap}
use Rattle.runs.specs.declared.run.RunRequest.{RunRequest}
use Rattle.runs.specs.declared.run.RunOutcome.{RunOutcome}
use Rattle.runs.specs.declared.run.RunOutcome.TheVariants.{Done, Exit}
use Rattle.executor.specs.declared.command.Command.{Command}
use Rattle.executor.specs.declared.command.Command.TheVariants.{Put, Cat, Show, Remove, Bump, True, Fail}
use Rattle.executor.specs.declared.edit.Change.{Change}
use Rattle.executor.specs.declared.edit.Change.TheVariants.{Write as Writing, Bump as Bumping, Remove as Removing}
use Rattle.executor.specs.declared.edit.Edit.{Edit}
use Rattle.executor.specs.Number.{status_of}
use Rattle.executor.specs.Script.{is_text, commands_of}
use Rattle.executor.specs.Places.{Place, InCache, InBind, InRoot, place_of}
use Rattle.executor.specs.Edits.{SightValue, SightOrStatus, first_sight, bind_tree, bytes_of, seen_with, held_with}

-- the command of this name, if the fixture knows it
abbrev pub command_of : List ℕ → Option Command
command_of name =
    if is_text name (codes "put") then Some Put
    else if is_text name (codes "cat") then Some Cat
    else if is_text name (codes "show") then Some Show
    else if is_text name (codes "rm") then Some Remove
    else if is_text name (codes "bump") then Some Bump
    else if is_text name (codes "true") then Some True
    else if is_text name (codes "fail") then Some Fail
    else None

-- ---- paths and files

-- the path that a word leads to from the request's directory; status 1 where it can't be read as one, since it leads past a limit
abbrev pub path_at : RunRequest → List ℕ → Result (List (List ℕ)) ℕ
path_at request name = if is_some (limit_of (read_from name request.dir)) then Err 1 else Ok (read_from name request.dir)

-- the change at a path
abbrev pub edit_of : Change → Result (List (List ℕ)) ℕ → Result (Option Edit) ℕ
edit_of change (Ok path) = Ok (Some (record { path = path; change = change }))
edit_of change (Err status) = Err status

-- a change at the path that a word leads to
abbrev pub edit_at : RunRequest → List ℕ → Change → Result (Option Edit) ℕ
edit_at request name change = edit_of change (path_at request name)

-- these bytes, or status 1 where there are none
abbrev pub bytes_or_refused : Option (List ℕ) → Result (List ℕ) ℕ
bytes_or_refused None = Err 1
bytes_or_refused (Some bytes) = Ok bytes

-- The bytes of the file at a place; status 1 where no file stands there. From a cache nothing is read, whatever it holds: status 126.
abbrev pub bytes_in : SightValue → Place → Result (List ℕ) ℕ
bytes_in sight (InCache number path) = Err 126
bytes_in sight (InBind number bind path) = bytes_or_refused (bytes_of (get (bind_tree sight number bind) path))
bytes_in sight (InRoot path) = bytes_or_refused (bytes_of (get sight.root path))

-- the bytes of the file at a path
abbrev pub bytes_at_path : RunRequest → SightValue → Result (List (List ℕ)) ℕ → Result (List ℕ) ℕ
bytes_at_path request sight (Ok path) = bytes_in sight (place_of request path)
bytes_at_path request sight (Err status) = Err status

-- the bytes of the file that a word leads to
abbrev pub bytes_at : RunRequest → SightValue → List ℕ → Result (List ℕ) ℕ
bytes_at request sight name = bytes_at_path request sight (path_at request name)

-- the value that a name has in an environment, or the empty text where it has none
abbrev pub value_in : List ℕ → List Variable → List ℕ
value_in name [] = []
value_in name (variable ∷ variables) = if is_text variable.name name then variable.value else value_in name variables

-- ---- commands, each on the words that follow its name: the change that it makes, if it makes one. A wrong number of words ends with
-- status 2

-- `put P w..`: the file P holds the words, a space between each two
abbrev pub put_edit : RunRequest → List (List ℕ) → Result (Option Edit) ℕ
put_edit request [] = Err 2
put_edit request (name ∷ words) = edit_at request name (Writing (join_with_byte 32 words))

-- writing these bytes, or the status with which they couldn't be read
abbrev pub write_edit : RunRequest → List ℕ → Result (List ℕ) ℕ → Result (Option Edit) ℕ
write_edit request name (Ok bytes) = edit_at request name (Writing bytes)
write_edit request name (Err status) = Err status

-- `cat P Q`: the file Q holds what the file P holds
abbrev pub cat_edit : RunRequest → SightValue → List (List ℕ) → Result (Option Edit) ℕ
cat_edit request sight [] = Err 2
cat_edit request sight (from ∷ []) = Err 2
cat_edit request sight (from ∷ to ∷ []) = write_edit request to (bytes_at request sight from)
cat_edit request sight (from ∷ to ∷ word ∷ words) = Err 2

-- `show N P`: the file P holds the environment's value of N
abbrev pub show_edit : RunRequest → List (List ℕ) → Result (Option Edit) ℕ
show_edit request [] = Err 2
show_edit request (name ∷ []) = Err 2
show_edit request (name ∷ to ∷ []) = edit_at request to (Writing (value_in name request.env))
show_edit request (name ∷ to ∷ word ∷ words) = Err 2

-- a command of one path, which makes this change there
abbrev pub only_edit : RunRequest → Change → List (List ℕ) → Result (Option Edit) ℕ
only_edit request change [] = Err 2
only_edit request change (name ∷ []) = edit_at request name change
only_edit request change (name ∷ word ∷ words) = Err 2

-- `true`: nothing
abbrev pub no_edit : List (List ℕ) → Result (Option Edit) ℕ
no_edit [] = Ok None
no_edit (word ∷ words) = Err 2

-- `fail N`: the status that N writes, or 2 where it writes none
abbrev pub fail_status : List (List ℕ) → ℕ
fail_status [] = 2
fail_status (number ∷ []) = unwrap_or (status_of number) 2
fail_status (number ∷ word ∷ words) = 2

-- a command that is known, on the words that follow its name: `rm P` takes P away with all below it, `bump P` adds a `+` to the file P; an
-- unknown one ends with status 127
abbrev pub known_edit : RunRequest → SightValue → Option Command → List (List ℕ) → Result (Option Edit) ℕ
known_edit request sight None operands = Err 127
known_edit request sight (Some Put) operands = put_edit request operands
known_edit request sight (Some Cat) operands = cat_edit request sight operands
known_edit request sight (Some Show) operands = show_edit request operands
known_edit request sight (Some Remove) operands = only_edit request Removing operands
known_edit request sight (Some Bump) operands = only_edit request Bumping operands
known_edit request sight (Some True) operands = no_edit operands
known_edit request sight (Some Fail) operands = Err (fail_status operands)

-- a command by its words; no word at all names no command, and so ends with status 127
abbrev pub command_edit : RunRequest → SightValue → List (List ℕ) → Result (Option Edit) ℕ
command_edit request sight [] = Err 127
command_edit request sight (name ∷ operands) = known_edit request sight (command_of name) operands

-- ---- a run

-- what is seen after an edit, if the command came to one
abbrev pub seen_then : RunRequest → SightValue → Result (Option Edit) ℕ → SightOrStatus
seen_then request sight (Ok edit) = seen_with request sight edit
seen_then request sight (Err status) = Err status

-- what caches hold after an edit, if the command came to one
abbrev pub held_then : RunRequest → List TreeMap → Result (Option Edit) ℕ → List TreeMap
held_then request caches (Ok edit) = held_with request caches edit
held_then request caches (Err status) = caches

-- what is seen after a command, or the status that it ends with
abbrev pub after_command : RunRequest → List (List ℕ) → SightValue → SightOrStatus
after_command request command sight = seen_then request sight (command_edit request sight command)

-- what caches hold after a command
abbrev pub held_by_command : RunRequest → List (List ℕ) → SightValue → List TreeMap → List TreeMap
held_by_command request command sight caches = held_then request caches (command_edit request sight command)

-- what comes next goes on from what is seen, and isn't begun after a status other than 0
abbrev pub and_then : SightOrStatus → (SightValue → SightOrStatus) → SightOrStatus
and_then (Ok sight) next = next sight
and_then (Err status) next = Err status

-- commands in order, up to the first that ends with a status other than 0
abbrev pub after_commands : RunRequest → List (List (List ℕ)) → SightValue → SightOrStatus
after_commands request [] sight = Ok sight
after_commands request (command ∷ commands) sight = and_then (after_command request command sight) (after_commands request commands)

-- what comes next goes on from what is seen and what caches hold by then; after a status they stay as they are
abbrev pub and_hold : SightOrStatus → List TreeMap → (SightValue → List TreeMap → List TreeMap) → List TreeMap
and_hold (Ok sight) caches next = next sight caches
and_hold (Err status) caches next = caches

-- what caches hold after commands in order, up to the first that ends with a status other than 0
abbrev pub held_by_commands : RunRequest → List (List (List ℕ)) → SightValue → List TreeMap → List TreeMap
held_by_commands request [] sight caches = caches
held_by_commands request (command ∷ commands) sight caches =
    and_hold (after_command request command sight) (held_by_command request command sight caches) (held_by_commands request commands)

-- the outcome of a run: the root, or the status
abbrev pub outcome_of : SightOrStatus → RunOutcome
outcome_of (Ok sight) = Done sight.root
outcome_of (Err status) = Exit status

-- what the fixture answers to a request
abbrev pub fixture_out : RunRequest → RunOutcome
fixture_out request = outcome_of (after_commands request (commands_of request.words) (first_sight request))

-- what the fixture leaves in the caches of a request, by what they held
abbrev pub fixture_caches : RunRequest → List TreeMap → List TreeMap
fixture_caches request caches = held_by_commands request (commands_of request.words) (first_sight request) caches

-- what comes next goes on from the root that was left, and isn't begun after a status other than 0
abbrev pub root_then : RunOutcome → (TreeMap → RunOutcome) → RunOutcome
root_then (Done root) next = next root
root_then (Exit status) next = Exit status
