-- A law of the fixture's outcomes: a status is one that a process can end with, and not that of success. It stands among the definitions
-- since the fixture cites it as a law of its trait.
use Rattle.std.specs.Prelude.{◌≡◌, ◌<◌, ℕ, Bool, true, false, Option, Some, None, Result, Ok, Err, List, [], ◌∷◌, cond, is_some, unwrap_or}
use Rattle.std.specs.List.{join_with_byte}
use Rattle.std.proofs.Common.{arith, subst}
use Rattle.std.proofs.lemmas.Bool.Decides.{nat_tests}
use Rattle.ascii.specs.Numbers.{decimal_of}
use Rattle.paths.specs.Reading.{read_from, limit_of}
use Rattle.trees.specs.Cause.{TreeOrCause}
use Rattle.runs.specs.declared.run.RunRequest.{RunRequest}
use Rattle.runs.specs.declared.run.RunOutcome.{RunOutcome}
use Rattle.runs.specs.declared.run.RunOutcome.TheVariants.{Done, Exit}
use Rattle.executor.specs.declared.command.Command.{Command}
use Rattle.executor.specs.declared.command.Command.TheVariants.{Put, Cat, Show, Remove, Bump, True, Fail}
use Rattle.executor.specs.declared.edit.Change.{Change}
use Rattle.executor.specs.declared.edit.Change.TheVariants.{Write as Writing, Bump as Bumping, Remove as Removing}
use Rattle.executor.specs.declared.edit.Edit.{Edit}
use Rattle.executor.specs.Number.{status_from}
use Rattle.executor.specs.Script.{commands_of}
use Rattle.executor.specs.Places.{Place, InCache, InBind, InRoot, place_of}
use Rattle.executor.specs.Edits.{SightValue, SightOrStatus, first_sight, with_root, with_bind, with_bind_if, bind_tree, changed, seen_after, seen_with}
use Rattle.executor.specs.Fixture.{command_of, path_at, edit_of, edit_at, bytes_or_refused, bytes_in, bytes_at_path, bytes_at, value_in, put_edit, write_edit, cat_edit, show_edit, only_edit, no_edit, fail_status, known_edit, command_edit, seen_then, after_command, and_then, after_commands, outcome_of, fixture_out}

-- a status is from 1 to 255
abbrev pub HasStatus : {X : Type 0} → Result X ℕ → Type 0
HasStatus (Ok value) = Unit {0}
HasStatus (Err status) = (0 < status) × (status < 256)

HasStatus-choice : {X : Type 0} (b : Bool) (o p : Result X ℕ) → HasStatus o → HasStatus p → HasStatus (cond b o p)
HasStatus-choice true o p f g = f
HasStatus-choice false o p f g = g

HasStatus-path_at : (request : RunRequest) (name : List ℕ) → HasStatus (path_at request name)
HasStatus-path_at request name = HasStatus-choice (is_some (limit_of (read_from name request.dir))) (Err 1) (Ok (read_from name request.dir)) (omega arith, omega arith) tt

HasStatus-edit_of : (change : Change) (path : Result (List (List ℕ)) ℕ) → HasStatus path → HasStatus (edit_of change path)
HasStatus-edit_of change (Ok path) f = tt
HasStatus-edit_of change (Err status) f = f

HasStatus-edit_at : (request : RunRequest) (name : List ℕ) (change : Change) → HasStatus (edit_at request name change)
HasStatus-edit_at request name change = HasStatus-edit_of change (path_at request name) (HasStatus-path_at request name)

HasStatus-bytes : (bytes : Option (List ℕ)) → HasStatus (bytes_or_refused bytes)
HasStatus-bytes None = (omega arith, omega arith)
HasStatus-bytes (Some bytes) = tt

HasStatus-bytes_in : (sight : SightValue) (place : Place) → HasStatus (bytes_in sight place)
HasStatus-bytes_in sight (InCache number path) = (omega arith, omega arith)
HasStatus-bytes_in sight (InBind number bind path) = HasStatus-bytes _
HasStatus-bytes_in sight (InRoot path) = HasStatus-bytes _

HasStatus-bytes_at_path : (request : RunRequest) (sight : SightValue) (path : Result (List (List ℕ)) ℕ) → HasStatus path → HasStatus (bytes_at_path request sight path)
HasStatus-bytes_at_path request sight (Ok path) f = HasStatus-bytes_in sight (place_of request path)
HasStatus-bytes_at_path request sight (Err status) f = f

HasStatus-put : (request : RunRequest) (operands : List (List ℕ)) → HasStatus (put_edit request operands)
HasStatus-put request [] = (omega arith, omega arith)
HasStatus-put request (name ∷ words) = HasStatus-edit_at request name (Writing (join_with_byte 32 words))

HasStatus-write : (request : RunRequest) (name : List ℕ) (bytes : Result (List ℕ) ℕ) → HasStatus bytes → HasStatus (write_edit request name bytes)
HasStatus-write request name (Ok bytes) f = HasStatus-edit_at request name (Writing bytes)
HasStatus-write request name (Err status) f = f

HasStatus-cat : (request : RunRequest) (sight : SightValue) (operands : List (List ℕ)) → HasStatus (cat_edit request sight operands)
HasStatus-cat request sight [] = (omega arith, omega arith)
HasStatus-cat request sight (from ∷ []) = (omega arith, omega arith)
HasStatus-cat request sight (from ∷ to ∷ []) =
    HasStatus-write request to (bytes_at request sight from) (HasStatus-bytes_at_path request sight (path_at request from) (HasStatus-path_at request from))
HasStatus-cat request sight (from ∷ to ∷ word ∷ words) = (omega arith, omega arith)

HasStatus-show : (request : RunRequest) (operands : List (List ℕ)) → HasStatus (show_edit request operands)
HasStatus-show request [] = (omega arith, omega arith)
HasStatus-show request (name ∷ []) = (omega arith, omega arith)
HasStatus-show request (name ∷ to ∷ []) = HasStatus-edit_at request to (Writing (value_in name request.env))
HasStatus-show request (name ∷ to ∷ word ∷ words) = (omega arith, omega arith)

HasStatus-only : (request : RunRequest) (change : Change) (operands : List (List ℕ)) → HasStatus (only_edit request change operands)
HasStatus-only request change [] = (omega arith, omega arith)
HasStatus-only request change (name ∷ []) = HasStatus-edit_at request name change
HasStatus-only request change (name ∷ word ∷ words) = (omega arith, omega arith)

HasStatus-none : (operands : List (List ℕ)) → HasStatus (no_edit operands)
HasStatus-none [] = tt
HasStatus-none (word ∷ words) = (omega arith, omega arith)

-- a number that is a status is one from 1 to 255
IsStatus-number : (number : Option ℕ) → (0 < unwrap_or (status_from number) 2) × (unwrap_or (status_from number) 2 < 256)
IsStatus-number None = (omega arith, omega arith)
IsStatus-number (Some number) = grind (arith, nat_tests)

IsStatus-fail : (operands : List (List ℕ)) → (0 < fail_status operands) × (fail_status operands < 256)
IsStatus-fail [] = (omega arith, omega arith)
IsStatus-fail (number ∷ []) = IsStatus-number (decimal_of number)
IsStatus-fail (number ∷ word ∷ words) = (omega arith, omega arith)

HasStatus-known : (request : RunRequest) (sight : SightValue) (command : Option Command) (operands : List (List ℕ)) → HasStatus (known_edit request sight command operands)
HasStatus-known request sight None operands = (omega arith, omega arith)
HasStatus-known request sight (Some Put) operands = HasStatus-put request operands
HasStatus-known request sight (Some Cat) operands = HasStatus-cat request sight operands
HasStatus-known request sight (Some Show) operands = HasStatus-show request operands
HasStatus-known request sight (Some Remove) operands = HasStatus-only request Removing operands
HasStatus-known request sight (Some Bump) operands = HasStatus-only request Bumping operands
HasStatus-known request sight (Some True) operands = HasStatus-none operands
HasStatus-known request sight (Some Fail) operands = IsStatus-fail operands

HasStatus-edit : (request : RunRequest) (sight : SightValue) (command : List (List ℕ)) → HasStatus (command_edit request sight command)
HasStatus-edit request sight [] = (omega arith, omega arith)
HasStatus-edit request sight (name ∷ operands) = HasStatus-known request sight (command_of name) operands

HasStatus-root : (sight : SightValue) (tree : TreeOrCause) → HasStatus (with_root sight tree)
HasStatus-root sight (Ok tree) = tt
HasStatus-root sight (Err cause) = (omega arith, omega arith)

HasStatus-bind : (sight : SightValue) (number : ℕ) (tree : TreeOrCause) → HasStatus (with_bind sight number tree)
HasStatus-bind sight number (Ok tree) = tt
HasStatus-bind sight number (Err cause) = (omega arith, omega arith)

HasStatus-bind_if : (rw : Bool) (sight : SightValue) (number : ℕ) (tree : TreeOrCause) → HasStatus (with_bind_if rw sight number tree)
HasStatus-bind_if true sight number tree = HasStatus-bind sight number tree
HasStatus-bind_if false sight number tree = (omega arith, omega arith)

HasStatus-seen : (sight : SightValue) (change : Change) (place : Place) → HasStatus (seen_after sight change place)
HasStatus-seen sight change (InCache number path) = tt
HasStatus-seen sight change (InBind number bind path) =
    HasStatus-bind_if bind.rw sight number (changed (bind_tree sight number bind) path change)
HasStatus-seen sight change (InRoot path) = HasStatus-root sight (changed sight.root path change)

HasStatus-seen_with : (request : RunRequest) (sight : SightValue) (edit : Option Edit) → HasStatus (seen_with request sight edit)
HasStatus-seen_with request sight None = tt
HasStatus-seen_with request sight (Some edit) = HasStatus-seen sight edit.change (place_of request edit.path)

HasStatus-then : (request : RunRequest) (sight : SightValue) (edit : Result (Option Edit) ℕ) → HasStatus edit → HasStatus (seen_then request sight edit)
HasStatus-then request sight (Ok edit) f = HasStatus-seen_with request sight edit
HasStatus-then request sight (Err status) f = f

HasStatus-and_then : (o : SightOrStatus) (next : SightValue → SightOrStatus) → HasStatus o → ((sight : SightValue) → HasStatus (next sight)) → HasStatus (and_then o next)
HasStatus-and_then (Ok sight) next f g = g sight
HasStatus-and_then (Err status) next f g = f

HasStatus-commands : (request : RunRequest) (commands : List (List (List ℕ))) (sight : SightValue) → HasStatus (after_commands request commands sight)
HasStatus-commands request [] sight = tt
HasStatus-commands request (command ∷ commands) sight =
    HasStatus-and_then (after_command request command sight) (after_commands request commands) (HasStatus-then request sight (command_edit request sight command) (HasStatus-edit request sight command)) (HasStatus-commands request commands)

-- an outcome's status is from 1 to 255
abbrev IsOutcome : RunOutcome → Type 0
IsOutcome (Done tree) = Unit {0}
IsOutcome (Exit status) = (0 < status) × (status < 256)

IsOutcome-of : (o : SightOrStatus) → HasStatus o → IsOutcome (outcome_of o)
IsOutcome-of (Ok sight) f = tt
IsOutcome-of (Err status) f = f

-- each status of the fixture is from 1 to 255
pub fixture_out-exits : (request : RunRequest) (status : ℕ) → fixture_out request ≡ Exit status → (0 < status) × (status < 256)
fixture_out-exits request status e =
    let o = after_commands request (commands_of request.words) (first_sight request) in
    subst IsOutcome e (IsOutcome-of o (HasStatus-commands request (commands_of request.words) (first_sight request)))
