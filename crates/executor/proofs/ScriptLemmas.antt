-- Commands one line after another, and the script among a run's words.
use Rattle.std.proofs.Common.{◌≡◌, ◌≤◌, ◌-◌, ℕ, Bool, true, false, cond, List, [], ◌∷◌, Ok, Err, Some, None, length, get_or, map, filter, codes, refl, ap, ◌∙◌, arith, suc}
use Rattle.std.specs.List.{slice_split}
use Rattle.trees.specs.TreeMap.{TreeMap}
use Rattle.runs.specs.declared.run.RunRequest.{RunRequest}
use Rattle.executor.specs.Script.{is_line_feed, has_word, is_text, commands, script_of}
use Rattle.ascii.specs.Pieces.{pieces}
use Rattle.executor.specs.Edits.{SightValue, SightOrStatus}
use Rattle.executor.specs.Fixture.{and_then, and_hold, after_command, after_commands, held_by_command, held_by_commands}
use Rattle.executor.specs.PrivateFixture.{after_line, held_by_line}

and_then-Ok : (o : SightOrStatus) → and_then o Ok ≡ o
and_then-Ok (Ok sight) = refl
and_then-Ok (Err status) = refl

and_hold-last : (o : SightOrStatus) (caches : List TreeMap) → and_hold o caches (λ sight held. held) ≡ caches
and_hold-last (Ok sight) caches = refl
and_hold-last (Err status) caches = refl

-- the commands of lines: that of the first, then those of the others
lines-cons : (request : RunRequest) (first : List (List ℕ)) (rest : List (List (List ℕ))) (b : Bool) → has_word first ≡ b → (sight : SightValue) → after_commands request (cond b (first ∷ filter has_word rest) (filter has_word rest)) sight ≡ and_then (cond b (after_command request first sight) (Ok sight)) (after_commands request (filter has_word rest))
lines-cons request first rest true e sight = refl
lines-cons request first rest false e sight = refl

held-cons : (request : RunRequest) (first : List (List ℕ)) (rest : List (List (List ℕ))) (b : Bool) (sight : SightValue) (caches : List TreeMap) → held_by_commands request (cond b (first ∷ filter has_word rest) (filter has_word rest)) sight caches ≡ and_hold (cond b (after_command request first sight) (Ok sight)) (cond b (held_by_command request first sight caches) caches) (held_by_commands request (filter has_word rest))
held-cons request first rest true sight caches = refl
held-cons request first rest false sight caches = refl

commands-line : (request : RunRequest) (script line tail : List ℕ) (sight : SightValue) → slice_split is_line_feed script ≡ line ∷ slice_split is_line_feed tail → after_commands request (commands script) sight ≡ and_then (after_line request line sight) (after_commands request (commands tail))
commands-line request script line tail sight e =
    ap (λ lines. after_commands request (filter has_word (map pieces lines)) sight) e ∙ lines-cons request (pieces line) (map pieces (slice_split is_line_feed tail)) (has_word (pieces line)) refl sight

held-line : (request : RunRequest) (script line tail : List ℕ) (sight : SightValue) (caches : List TreeMap) → slice_split is_line_feed script ≡ line ∷ slice_split is_line_feed tail → held_by_commands request (commands script) sight caches ≡ and_hold (after_line request line sight) (held_by_line request line sight caches) (held_by_commands request (commands tail))
held-line request script line tail sight caches e =
    ap (λ lines. held_by_commands request (filter has_word (map pieces lines)) sight caches) e ∙ held-cons request (pieces line) (map pieces (slice_split is_line_feed tail)) (has_word (pieces line)) sight caches

pub commands-last : (request : RunRequest) (script : List ℕ) (sight : SightValue) → slice_split is_line_feed script ≡ script ∷ [] → after_commands request (commands script) sight ≡ after_line request script sight
commands-last request script sight e =
    ap (λ lines. after_commands request (filter has_word (map pieces lines)) sight) e ∙ lines-cons request (pieces script) [] (has_word (pieces script)) refl sight ∙ and_then-Ok (after_line request script sight)

pub held-last : (request : RunRequest) (script : List ℕ) (sight : SightValue) (caches : List TreeMap) → slice_split is_line_feed script ≡ script ∷ [] → held_by_commands request (commands script) sight caches ≡ held_by_line request script sight caches
held-last request script sight caches e =
    ap (λ lines. held_by_commands request (filter has_word (map pieces lines)) sight caches) e ∙ held-cons request (pieces script) [] (has_word (pieces script)) sight caches ∙ and_hold-last (after_line request script sight) (held_by_line request script sight caches)

-- after a line that went well, the rest of the script is what is left to run
pub commands-went : (request : RunRequest) (script line tail : List ℕ) (sight left : SightValue) → slice_split is_line_feed script ≡ line ∷ slice_split is_line_feed tail → after_line request line sight ≡ Ok left → after_commands request (commands script) sight ≡ after_commands request (commands tail) left
commands-went request script line tail sight left e went =
    commands-line request script line tail sight e ∙ ap (λ o. and_then o (after_commands request (commands tail))) went

pub held-went : (request : RunRequest) (script line tail : List ℕ) (sight left : SightValue) (caches : List TreeMap) → slice_split is_line_feed script ≡ line ∷ slice_split is_line_feed tail → after_line request line sight ≡ Ok left → held_by_commands request (commands script) sight caches ≡ held_by_commands request (commands tail) left (held_by_line request line sight caches)
held-went request script line tail sight left caches e went =
    held-line request script line tail sight caches e ∙ ap (λ o. and_hold o (held_by_line request line sight caches) (held_by_commands request (commands tail))) went

-- a line that ends with a status ends the script
pub commands-stopped : (request : RunRequest) (script line tail : List ℕ) (sight : SightValue) (status : ℕ) → slice_split is_line_feed script ≡ line ∷ slice_split is_line_feed tail → after_line request line sight ≡ Err status → after_commands request (commands script) sight ≡ Err status
commands-stopped request script line tail sight status e stopped =
    commands-line request script line tail sight e ∙ ap (λ o. and_then o (after_commands request (commands tail))) stopped

pub held-stopped : (request : RunRequest) (script line tail : List ℕ) (sight : SightValue) (caches : List TreeMap) (status : ℕ) → slice_split is_line_feed script ≡ line ∷ slice_split is_line_feed tail → after_line request line sight ≡ Err status → held_by_commands request (commands script) sight caches ≡ held_by_line request line sight caches
held-stopped request script line tail sight caches status e stopped =
    held-line request script line tail sight caches e ∙ ap (λ o. and_hold o (held_by_line request line sight caches) (held_by_commands request (commands tail))) stopped

-- the script, found from the end
pub script_of-ends : (ws : List (List ℕ)) (flag script : List ℕ) → 2 ≤ length ws → flag ≡ get_or ws (length ws - 2) flag → script ≡ get_or ws (length ws - 1) script → script_of ws ≡ cond (is_text flag (codes "-c")) (Some script) None
script_of-ends [] flag script long at_flag at_script = absurd (omega arith)
script_of-ends (a ∷ []) flag script long at_flag at_script = absurd (omega arith)
script_of-ends (a ∷ b ∷ []) flag script long at_flag at_script =
    let f : flag ≡ a = at_flag in
    let s : script ≡ b = at_script in
    rw (f, s) refl
script_of-ends (x ∷ a ∷ b ∷ ws) flag script long at_flag at_script =
    let two : length (x ∷ a ∷ b ∷ ws) - 2 ≡ suc (length (a ∷ b ∷ ws) - 2) = omega arith in
    let one : length (x ∷ a ∷ b ∷ ws) - 1 ≡ suc (length (a ∷ b ∷ ws) - 1) = omega arith in
    script_of-ends (a ∷ b ∷ ws) flag script (omega arith) (rw two at at_flag) (rw one at at_script)

pub script_of-short : (ws : List (List ℕ)) → length ws ≤ 1 → script_of ws ≡ None
script_of-short [] few = refl
script_of-short (a ∷ []) few = refl
script_of-short (a ∷ b ∷ ws) few = absurd (omega arith)
