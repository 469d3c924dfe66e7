-- Laws of the fixture: a script is run line by line, and as many caches are left as were lent.
use Rattle.std.specs.Prelude.{codes, ◌≡◌, ℕ, Option, Some, None, Result, Ok, Err, List, [], ◌∷◌, ◌++◌, length, slice_get}
use Rattle.std.proofs.Common.{refl, sym, ap, ◌∙◌}
use Rattle.std.proofs.lemmas.List.{length-set}
use Rattle.trees.specs.TreeMap.{TreeMap}
use Rattle.trees.specs.Cause.{TreeOrCause}
use Rattle.runs.specs.declared.run.CacheUse.{CacheUse}
use Rattle.runs.specs.declared.run.RunRequest.{RunRequest}
use Rattle.executor.specs.declared.command.Command.{Command}
use Rattle.executor.specs.declared.command.Command.TheVariants.{Put, Cat, Show, Remove, Bump, True, Fail}
use Rattle.executor.specs.declared.edit.Change.{Change}
use Rattle.executor.specs.declared.edit.Edit.{Edit}
use Rattle.executor.specs.Script.{commands, commands_of, commands_or, with_script}
use Rattle.executor.specs.Places.{Place, InCache, InBind, InRoot, place_in, place_of, cache_from}
use Rattle.executor.specs.Edits.{SightValue, SightOrStatus, first_sight, none_own, with_root, changed, with_cache, with_change, seen_after, held_after}
use Rattle.executor.proofs.ScriptLaws.{commands-append, script_of-append}
use Rattle.executor.specs.Fixture.{command_of, bytes_at, write_edit, put_edit, cat_edit, show_edit, only_edit, known_edit, command_edit, seen_then, held_then, after_command, held_by_command, and_then, after_commands, and_hold, held_by_commands, outcome_of, fixture_out, root_then}

and_then-assoc : (o : SightOrStatus) (next last : SightValue → SightOrStatus) → and_then (and_then o next) last ≡ and_then o (λ sight. and_then (next sight) last)
and_then-assoc (Ok sight) next last = refl
and_then-assoc (Err status) next last = refl

-- the same first step, and equal next steps from each state
and_then-same : (o : SightOrStatus) (next other : SightValue → SightOrStatus) → ((sight : SightValue) → next sight ≡ other sight) → and_then o next ≡ and_then o other
and_then-same (Ok sight) next other e = e sight
and_then-same (Err status) next other e = refl

-- commands after others go on from what those left
pub after_commands-append : (request : RunRequest) (first second : List (List (List ℕ))) (sight : SightValue) → after_commands request (first ++ second) sight ≡ and_then (after_commands request first sight) (after_commands request second)
after_commands-append request [] second sight = refl
after_commands-append request (command ∷ first) second sight =
    and_then-same (after_command request command sight) _ _ (after_commands-append request first second)
    ∙ sym (and_then-assoc (after_command request command sight) (after_commands request first) (after_commands request second))

and_hold-step : (o : SightOrStatus) (caches : List TreeMap) (after : SightValue → SightOrStatus) (whole held : SightValue → List TreeMap → List TreeMap) (last : SightValue → List TreeMap → List TreeMap) → ((sight : SightValue) (cs : List TreeMap) → whole sight cs ≡ and_hold (after sight) (held sight cs) last) → and_hold o caches whole ≡ and_hold (and_then o after) (and_hold o caches held) last
and_hold-step (Ok sight) caches after whole held last e = e sight caches
and_hold-step (Err status) caches after whole held last e = refl

pub held_by_commands-append : (request : RunRequest) (first second : List (List (List ℕ))) (sight : SightValue) (caches : List TreeMap) → held_by_commands request (first ++ second) sight caches ≡ and_hold (after_commands request first sight) (held_by_commands request first sight caches) (held_by_commands request second)
held_by_commands-append request [] second sight caches = refl
held_by_commands-append request (command ∷ first) second sight caches =
    and_hold-step (after_command request command sight) (held_by_command request command sight caches) (after_commands request first) (held_by_commands request (first ++ second)) (held_by_commands request first) (held_by_commands request second) (held_by_commands-append request first second)

pub commands-lines : (request : RunRequest) (first second : List ℕ) (sight : SightValue) → after_commands request (commands (first ++ 10 ∷ second)) sight ≡ and_then (after_commands request (commands first) sight) (after_commands request (commands second))
commands-lines request first second sight =
    ap (λ cs. after_commands request cs sight) (commands-append first second) ∙ after_commands-append request (commands first) (commands second) sight

pub held-lines : (request : RunRequest) (first second : List ℕ) (sight : SightValue) (caches : List TreeMap) → held_by_commands request (commands (first ++ 10 ∷ second)) sight caches ≡ and_hold (after_commands request (commands first) sight) (held_by_commands request (commands first) sight caches) (held_by_commands request (commands second))
held-lines request first second sight caches =
    ap (λ cs. held_by_commands request cs sight caches) (commands-append first second) ∙ held_by_commands-append request (commands first) (commands second) sight caches

-- a command looks at its own words and at what it sees, and not at the request's root and words
module _ (request : RunRequest) (root : TreeMap) (words : List (List ℕ)) where
  put-other : (operands : List (List ℕ)) → put_edit (record request { root = root; words = words }) operands ≡ put_edit request operands
  put-other [] = refl
  put-other (name ∷ more) = refl

  write-other : (name : List ℕ) (bytes : Result (List ℕ) ℕ) → write_edit (record request { root = root; words = words }) name bytes ≡ write_edit request name bytes
  write-other name (Ok bytes) = refl
  write-other name (Err status) = refl

  cat-other : (sight : SightValue) (operands : List (List ℕ)) → cat_edit (record request { root = root; words = words }) sight operands ≡ cat_edit request sight operands
  cat-other sight [] = refl
  cat-other sight (from ∷ []) = refl
  cat-other sight (from ∷ to ∷ []) = write-other to (bytes_at request sight from)
  cat-other sight (from ∷ to ∷ word ∷ more) = refl

  show-other : (operands : List (List ℕ)) → show_edit (record request { root = root; words = words }) operands ≡ show_edit request operands
  show-other [] = refl
  show-other (name ∷ []) = refl
  show-other (name ∷ to ∷ []) = refl
  show-other (name ∷ to ∷ word ∷ more) = refl

  only-other : (change : Change) (operands : List (List ℕ)) → only_edit (record request { root = root; words = words }) change operands ≡ only_edit request change operands
  only-other change [] = refl
  only-other change (name ∷ []) = refl
  only-other change (name ∷ word ∷ more) = refl

  known-other : (sight : SightValue) (command : Option Command) (operands : List (List ℕ)) → known_edit (record request { root = root; words = words }) sight command operands ≡ known_edit request sight command operands
  known-other sight None operands = refl
  known-other sight (Some Put) operands = put-other operands
  known-other sight (Some Cat) operands = cat-other sight operands
  known-other sight (Some Show) operands = show-other operands
  known-other sight (Some Remove) operands = only-other _ operands
  known-other sight (Some Bump) operands = only-other _ operands
  known-other sight (Some True) operands = refl
  known-other sight (Some Fail) operands = refl

  edit-other : (sight : SightValue) (command : List (List ℕ)) → command_edit (record request { root = root; words = words }) sight command ≡ command_edit request sight command
  edit-other sight [] = refl
  edit-other sight (name ∷ operands) = known-other sight (command_of name) operands

  then-other : (sight : SightValue) (edit : Result (Option Edit) ℕ) → seen_then (record request { root = root; words = words }) sight edit ≡ seen_then request sight edit
  then-other sight (Ok None) = refl
  then-other sight (Ok (Some edit)) = refl
  then-other sight (Err status) = refl

  command-other : (command : List (List ℕ)) (sight : SightValue) → after_command (record request { root = root; words = words }) command sight ≡ after_command request command sight
  command-other command sight =
      ap (seen_then (record request { root = root; words = words }) sight) (edit-other sight command) ∙ then-other sight (command_edit request sight command)

  commands-other : (commands : List (List (List ℕ))) (sight : SightValue) → after_commands (record request { root = root; words = words }) commands sight ≡ after_commands request commands sight
  commands-other [] sight = refl
  commands-other (command ∷ commands) sight =
      ap (λ o. and_then o (after_commands (record request { root = root; words = words }) commands)) (command-other command sight)
      ∙ and_then-same (after_command request command sight) _ _ (commands-other commands)

-- what the fixture answers to a shell that is handed a script
fixture_out-script : (request : RunRequest) (root : TreeMap) (front : List (List ℕ)) (script : List ℕ) → fixture_out (with_script (record request { root = root }) front script) ≡ outcome_of (after_commands request (commands script) (first_sight (record request { root = root })))
fixture_out-script request root front script =
    ap outcome_of
    (commands-other request root (front ++ codes "-c" ∷ script ∷ []) (commands_of (front ++ codes "-c" ∷ script ∷ [])) (first_sight (record request { root = root }))
    ∙ ap (λ found. after_commands request (commands_or found (front ++ codes "-c" ∷ script ∷ [])) (first_sight (record request { root = root }))) (script_of-append front (codes "-c") script))

-- no bind was written to
abbrev HasNone : SightOrStatus → Type 0
HasNone (Ok sight) = sight.own ≡ []
HasNone (Err status) = Unit {0}

HasNone-root : (sight : SightValue) (tree : TreeOrCause) → sight.own ≡ [] → HasNone (with_root sight tree)
HasNone-root sight (Ok tree) none = none
HasNone-root sight (Err cause) none = tt

HasNone-after : (sight : SightValue) (change : Change) (path : List (List ℕ)) (found : Option (ℕ × CacheUse)) → sight.own ≡ [] → HasNone (seen_after sight change (place_in found None path))
HasNone-after sight change path (Some cache) none = none
HasNone-after sight change path None none = HasNone-root sight (changed sight.root path change) none

module _ (request : RunRequest) (bare : request.binds ≡ []) where
  HasNone-then : (sight : SightValue) (edit : Result (Option Edit) ℕ) → sight.own ≡ [] → HasNone (seen_then request sight edit)
  HasNone-then sight (Ok None) none = none
  HasNone-then sight (Ok (Some edit)) none =
      rw bare (HasNone-after sight edit.change edit.path (cache_from 0 request.caches edit.path) none)
  HasNone-then sight (Err status) none = tt

  HasNone-and_then : (o : SightOrStatus) (next : SightValue → SightOrStatus) → HasNone o → ((sight : SightValue) → sight.own ≡ [] → HasNone (next sight)) → HasNone (and_then o next)
  HasNone-and_then (Ok sight) next none step = step sight none
  HasNone-and_then (Err status) next none step = tt

  HasNone-commands : (commands : List (List (List ℕ))) (sight : SightValue) → sight.own ≡ [] → HasNone (after_commands request commands sight)
  HasNone-commands [] sight none = none
  HasNone-commands (command ∷ commands) sight none =
      HasNone-and_then (after_command request command sight) (after_commands request commands) (HasNone-then sight (command_edit request sight command) none) (HasNone-commands commands)

  none_own-bare : none_own request.binds ≡ []
  none_own-bare = ap none_own bare

  outcome-goes_on : (o : SightOrStatus) (front : List (List ℕ)) (second : List ℕ) → HasNone o → outcome_of (and_then o (after_commands request (commands second))) ≡ root_then (outcome_of o) (λ root. fixture_out (with_script (record request { root = root }) front second))
  outcome-goes_on (Ok sight) front second none =
      ap (λ own. outcome_of (after_commands request (commands second) (record { root = sight.root; own = own }))) (none ∙ sym none_own-bare)
      ∙ sym (fixture_out-script request sight.root front second)
  outcome-goes_on (Err status) front second none = refl

  pub fixture_out-lines : (front : List (List ℕ)) (first second : List ℕ)
      → fixture_out (with_script request front (first ++ 10 ∷ second)) ≡ root_then (fixture_out (with_script request front first)) (λ root. fixture_out (with_script (record request { root = root }) front second))
  fixture_out-lines front first second =
      let sight = first_sight request in
      fixture_out-script request request.root front (first ++ 10 ∷ second)
      ∙ ap outcome_of (commands-lines request first second sight)
      ∙ outcome-goes_on (after_commands request (commands first) sight) front second (HasNone-commands (commands first) sight none_own-bare)
      ∙ sym (ap (λ o. root_then o (λ root. fixture_out (with_script (record request { root = root }) front second))) (fixture_out-script request request.root front first))

-- ---- as many caches are left as were lent

length-with_cache : (caches : List TreeMap) (number : ℕ) (tree : TreeOrCause) → length (with_cache caches number tree) ≡ length caches
length-with_cache caches number (Ok tree) = length-set caches number tree
length-with_cache caches number (Err cause) = refl

length-with_change : (caches : List TreeMap) (number : ℕ) (path : List (List ℕ)) (change : Change) (found : Option TreeMap) → length (with_change caches number path change found) ≡ length caches
length-with_change caches number path change None = refl
length-with_change caches number path change (Some tree) = length-with_cache caches number (changed tree path change)

length-held_after : (caches : List TreeMap) (change : Change) (place : Place) → length (held_after caches change place) ≡ length caches
length-held_after caches change (InCache number path) = length-with_change caches number path change (slice_get caches number)
length-held_after caches change (InBind number bind path) = refl
length-held_after caches change (InRoot path) = refl

length-held_then : (request : RunRequest) (caches : List TreeMap) (edit : Result (Option Edit) ℕ) → length (held_then request caches edit) ≡ length caches
length-held_then request caches (Ok None) = refl
length-held_then request caches (Ok (Some edit)) = length-held_after caches edit.change (place_of request edit.path)
length-held_then request caches (Err status) = refl

length-and_hold : (o : SightOrStatus) (caches : List TreeMap) (next : SightValue → List TreeMap → List TreeMap) (n : ℕ) → length caches ≡ n → ((sight : SightValue) (held : List TreeMap) → length held ≡ n → length (next sight held) ≡ n) → length (and_hold o caches next) ≡ n
length-and_hold (Ok sight) caches next n long step = step sight caches long
length-and_hold (Err status) caches next n long step = long

held_by_commands-keeps : (request : RunRequest) (commands : List (List (List ℕ))) (sight : SightValue) (caches : List TreeMap) (n : ℕ) → length caches ≡ n → length (held_by_commands request commands sight caches) ≡ n
held_by_commands-keeps request [] sight caches n long = long
held_by_commands-keeps request (command ∷ commands) sight caches n long =
    length-and_hold (after_command request command sight) (held_by_command request command sight caches) (held_by_commands request commands) n
    (length-held_then request caches (command_edit request sight command) ∙ long)
    (λ next held same. held_by_commands-keeps request commands next held n same)

pub length-held_by_commands : (request : RunRequest) (commands : List (List (List ℕ))) (sight : SightValue) (caches : List TreeMap) → length (held_by_commands request commands sight caches) ≡ length caches
length-held_by_commands request commands sight caches = held_by_commands-keeps request commands sight caches (length caches) refl
