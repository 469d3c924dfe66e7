-- Laws of a file's structure: reading the lines one by one gives what the structure gives, and so each list of lines has just one such
-- result.
use Rattle.std.specs.Prelude.{◌≡◌, ℕ, ◌+◌, ◌||◌, Bool, true, false, List, [], ◌∷◌, ◌++◌, if◌then◌else◌, Some, None, length, refl}
use Rattle.std.specs.List.{list_any}
use Rattle.std.proofs.Common.{sym, ◌∙◌, ap, ap₂, subst, append_assoc, arith}
use Rattle.std.proofs.lemmas.List.{append-nil, length-append}
use Rattle.std.proofs.lemmas.List.Folds.{list_any-append}
use Rattle.plain.specs.declared.refusal.Code.TheVariants.{R02, R08}
use Rattle.plain.specs.declared.refusal.Refusal.{Refusal}
use Rattle.lines.specs.Directives.{directive_of}
use Rattle.lines.specs.Faults.{refusal}
use Rattle.lines.specs.File.{refused_at, have_one_key, AreDirectives, escape_below, twice_faults, value_faults, directive_faults, AreBlocks, numbers_of, IsFile, BeginsBelowDirectives}
use Rattle.plain.specs.Limits.{most_lines}
use Rattle.lines.specs.PrivateSteps.{initial_state, at_position, count_line, with_fault, is_repeated, with_seen, take_value, refuse_repeated, read_directive, end_file, read_at_top_as, read_line, after_lines}
use Rattle.lines.specs.declared.escape.Escape as character
use Rattle.lines.specs.declared.escape.Escape.TheVariants.{Backslash}
use Rattle.lines.specs.declared.line.Line.{Line}
use Rattle.lines.specs.declared.directives.Directive.{Directive}
use Rattle.lines.specs.declared.directives.Directive.TheVariants.{Escape, Syntax, Check}
use Rattle.lines.specs.declared.state.Seen.{Seen}
use Rattle.lines.specs.declared.state.Position.TheVariants.{Top}
use Rattle.lines.specs.declared.state.FileState.{FileState}
use Rattle.std.proofs.Math.Bool.{or-true}
use Rattle.lines.proofs.CutLaws.{structure_of}
use Rattle.lines.proofs.BlockLaws.{base, limits_at, blocks_given}

-- the directives at the top

-- the keys of these directives have stood
abbrev pub seen_of : List Directive → Seen
seen_of above = record { escape = list_any (have_one_key (Escape None)) above; syntax = list_any (have_one_key Syntax) above; check = list_any (have_one_key Check) above }

abbrev pub at_top : character.Escape → List Directive → List Refusal → FileState
at_top escape above faults = record { escape = escape; count = length above; position = Top (seen_of above); room = most_lines; lines = []; faults = faults }

or_false : (b : Bool) → (b || false) ≡ b
or_false true = refl
or_false false = refl

seen_same : (above : List Directive) (d : Directive) → (p : Directive → Bool) → p d ≡ true → true ≡ list_any p (above ++ d ∷ [])
seen_same above d p h = sym (list_any-append p above (d ∷ []) ∙ ap (λ b. list_any p above || (b || false)) h ∙ or-true (list_any p above))

seen_other : (above : List Directive) (d : Directive) → (p : Directive → Bool) → p d ≡ false → list_any p above ≡ list_any p (above ++ d ∷ [])
seen_other above d p h = sym (list_any-append p above (d ∷ []) ∙ ap (λ b. list_any p above || (b || false)) h ∙ or_false (list_any p above))

seen_more : (above : List Directive) (d : Directive) → with_seen (seen_of above) d ≡ seen_of (above ++ d ∷ [])
seen_more above (Escape value) =
    let e = seen_same above (Escape value) (have_one_key (Escape None)) refl in
    let s = seen_other above (Escape value) (have_one_key Syntax) refl in
    let c = seen_other above (Escape value) (have_one_key Check) refl in cc
seen_more above Syntax =
    let e = seen_other above Syntax (have_one_key (Escape None)) refl in
    let s = seen_same above Syntax (have_one_key Syntax) refl in
    let c = seen_other above Syntax (have_one_key Check) refl in cc
seen_more above Check =
    let e = seen_other above Check (have_one_key (Escape None)) refl in
    let s = seen_other above Check (have_one_key Syntax) refl in
    let c = seen_same above Check (have_one_key Check) refl in cc

stood_is : (above : List Directive) (d : Directive) → is_repeated (seen_of above) d ≡ list_any (have_one_key d) above
stood_is above (Escape value) = refl
stood_is above Syntax = refl
stood_is above Check = refl

-- what a directive sets and refuses
told_is : (r : FileState) (seen : Seen) (d : Directive) (b : Bool) → is_repeated seen d ≡ b → refuse_repeated r seen d ≡ record r { faults = r.faults ++ (if b then refusal R02 r.count ∷ [] else []) }
told_is r seen d true h = ap (λ b. if b then with_fault r R02 r.count else r) h
told_is r seen d false h = ap (λ b. if b then with_fault r R02 r.count else r) h ∙ ap (λ (x : List Refusal). record r { faults = x }) (sym (append-nil r.faults))

value_is : (r : FileState) (d : Directive) → take_value r d ≡ record r { escape = escape_below r.escape (d ∷ []); faults = r.faults ++ value_faults d r.count }
value_is r (Escape (Some named)) = ap (λ (x : List Refusal). record r { escape = named; faults = x }) (sym (append-nil r.faults))
value_is r (Escape None) = refl
value_is r Syntax = ap (λ (x : List Refusal). record r { faults = x }) (sym (append-nil r.faults))
value_is r Check = ap (λ (x : List Refusal). record r { faults = x }) (sym (append-nil r.faults))

directed_is : (r : FileState) (above : List Directive) (d : Directive) → r.count ≡ length above + 1
    → read_directive r (seen_of above) d ≡ record { escape = escape_below r.escape (d ∷ []); count = r.count; position = Top (seen_of (above ++ d ∷ [])); room = r.room; lines = r.lines; faults = (r.faults ++ twice_faults above d r.count) ++ value_faults d r.count }
directed_is r above d h =
    ap (λ (s : FileState). at_position (take_value s d) (Top (with_seen (seen_of above) d))) (told_is r (seen_of above) d (list_any (have_one_key d) above) (stood_is above d))
    ∙ ap (λ (s : FileState). at_position s (Top (with_seen (seen_of above) d))) (value_is (record r { faults = r.faults ++ twice_faults above d r.count }) d)
    ∙ ap (λ (seen : Seen). record { escape = escape_below r.escape (d ∷ []); count = r.count; position = Top seen; room = r.room; lines = r.lines; faults = (r.faults ++ twice_faults above d r.count) ++ value_faults d r.count }) (seen_more above d)

directive_line : (escape : character.Escape) (above : List Directive) (faults : List Refusal) (line : List ℕ) (d : Directive) → directive_of line ≡ Some d
    → read_line (at_top escape above faults) line ≡ read_directive (count_line (at_top escape above faults)) (seen_of above) d
unfolding read_line
directive_line escape above faults line d h = ap (read_at_top_as (count_line (at_top escape above faults)) (seen_of above) line) h

directive_walk : (escape : character.Escape) (above : List Directive) (faults : List Refusal) (line : List ℕ) (d : Directive) → directive_of line ≡ Some d
    → read_line (at_top escape above faults) line
    ≡ at_top (escape_below escape (d ∷ [])) (above ++ d ∷ []) ((faults ++ twice_faults above d (length above + 1)) ++ value_faults d (length above + 1))
directive_walk escape above faults line d h =
    directive_line escape above faults line d h
    ∙ directed_is (count_line (at_top escape above faults)) above d refl
    ∙ ap (λ n. record { escape = escape_below escape (d ∷ []); count = n; position = Top (seen_of (above ++ d ∷ [])); room = most_lines; lines = []; faults = (faults ++ twice_faults above d (length above + 1)) ++ value_faults d (length above + 1) })
    (sym (length-append above (d ∷ [])))

escape_more : (escape : character.Escape) (d : Directive) (ds : List Directive) → escape_below (escape_below escape (d ∷ [])) ds ≡ escape_below escape (d ∷ ds)
escape_more escape (Escape (Some named)) ds = refl
escape_more escape (Escape None) ds = refl
escape_more escape Syntax ds = refl
escape_more escape Check ds = refl

pub top_walk : (directives : List Directive) (escape : character.Escape) (above : List Directive) (faults : List Refusal) (top rest : List (List ℕ)) → AreDirectives top directives
    → after_lines (at_top escape above faults) (top ++ rest) ≡ after_lines (at_top (escape_below escape directives) (above ++ directives) (faults ++ directive_faults above directives)) rest
top_walk [] escape above faults [] rest h =
    ap₂ (λ (ds : List Directive) (fs : List Refusal). after_lines (at_top escape ds fs) rest) (sym (append-nil above)) (sym (append-nil faults))
top_walk [] escape above faults (line ∷ top) rest h = absurd (cc)
top_walk (d ∷ ds) escape above faults [] rest h = absurd (cc)
top_walk (d ∷ ds) escape above faults (line ∷ top) rest h =
    let here : directive_of line ≡ Some d = cc in
    let below : AreDirectives top ds = cc in
    let twice = twice_faults above d (length above + 1) in
    let value = value_faults d (length above + 1) in
    let more = directive_faults (above ++ d ∷ []) ds in
    let all : ((faults ++ twice) ++ value) ++ more ≡ faults ++ (twice ++ (value ++ more)) = append_assoc (faults ++ twice) value more ∙ append_assoc faults twice (value ++ more) in
    ap (λ (s : FileState). after_lines s (top ++ rest)) (directive_walk escape above faults line d here)
    ∙ top_walk ds (escape_below escape (d ∷ [])) (above ++ d ∷ []) ((faults ++ twice) ++ value) top rest below
    ∙ ap (λ (e : character.Escape). after_lines (at_top e ((above ++ d ∷ []) ++ ds) (((faults ++ twice) ++ value) ++ more)) rest) (escape_more escape d ds)
    ∙ ap₂ (λ (x : List Directive) (y : List Refusal). after_lines (at_top (escape_below escape (d ∷ ds)) x y) rest) (append_assoc above (d ∷ []) ds) all

-- below the directives

pub plain_line : (escape : character.Escape) (above : List Directive) (faults : List Refusal) (line : List ℕ) → directive_of line ≡ None
    → read_line (at_top escape above faults) line ≡ read_line (base escape (length above) [] faults) line
unfolding read_line
plain_line escape above faults line h = ap (read_at_top_as (count_line (at_top escape above faults)) (seen_of above) line) h

-- two readings have the same lines and faults
abbrev pub GiveOne : FileState → FileState → Type 0
GiveOne a b = (a.lines ≡ b.lines) × (a.faults ≡ b.faults)

top_end : (escape : character.Escape) (above : List Directive) (faults : List Refusal) (rest : List (List ℕ)) → BeginsBelowDirectives rest
    → GiveOne (end_file (after_lines (at_top escape above faults) rest)) (end_file (after_lines (base escape (length above) [] faults) rest))
top_end escape above faults [] h = (refl, refl)
top_end escape above faults (line ∷ rest) h =
    let e : end_file (after_lines (at_top escape above faults) (line ∷ rest)) ≡ end_file (after_lines (base escape (length above) [] faults) (line ∷ rest)) = ap (λ (s : FileState). end_file (after_lines s rest)) (plain_line escape above faults line h) in
    (ap (λ (s : FileState). s.lines) e, ap (λ (s : FileState). s.faults) e)

pub top_length : (top : List (List ℕ)) (ds : List Directive) → AreDirectives top ds → length top ≡ length ds
top_length [] [] h = refl
top_length [] (d ∷ ds) h = absurd (cc)
top_length (line ∷ top) [] h = absurd (cc)
top_length (line ∷ top) (d ∷ ds) h = let e = top_length top ds (cc) in omega arith

-- a file's structure gives what reading its lines one by one gives
pub IsFile-only : (lines : List (List ℕ)) (found : List Line) (faults : List Refusal) → IsFile lines found faults
    → (found ≡ (end_file (after_lines initial_state lines)).lines) × (faults ≡ (end_file (after_lines initial_state lines)).faults)
IsFile-only lines found faults f =
    let escape = escape_below Backslash f.directives in
    let fs = directive_faults [] f.directives in
    let walk : end_file (after_lines initial_state lines) ≡ end_file (after_lines (at_top escape f.directives fs) f.rest) =
    ap (λ x. end_file (after_lines initial_state x)) f.cut ∙ ap end_file (top_walk f.directives Backslash [] [] f.top f.rest f.read) in
    let top = top_end escape f.directives fs f.rest f.ended in
    let blocks = subst (λ n. AreBlocks escape n f.rest found f.unclosed) (top_length f.top f.directives f.read) f.blocks in
    let given = blocks_given escape (length f.directives) f.rest found f.unclosed blocks [] fs in
    let limits = limits_at most_lines 0 (numbers_of found f.unclosed) refl in (
      sym (ap (λ (s : FileState). s.lines) walk ∙ top.0 ∙ given.lines),
      f.wrong ∙ ap (λ x. fs ++ (x ++ refused_at R08 f.unclosed)) (sym limits) ∙ sym (ap (λ (s : FileState). s.faults) walk ∙ top.1 ∙ given.wrong),
    )

-- and what that gives has the structure
pub IsFile-is : (lines : List (List ℕ)) → IsFile lines (end_file (after_lines initial_state lines)).lines (end_file (after_lines initial_state lines)).faults
IsFile-is lines =
    let s = structure_of lines in
    let only = IsFile-only lines s.found s.faults s.file in
    subst (λ (found : List Line). IsFile lines found (end_file (after_lines initial_state lines)).faults) only.0 (subst (λ (faults : List Refusal). IsFile lines s.found faults) only.1 s.file)

pub IsFile-same : (lines : List (List ℕ)) (found others : List Line) (faults wrong : List Refusal) → IsFile lines found faults → IsFile lines others wrong → (found ≡ others) × (faults ≡ wrong)
IsFile-same lines found others faults wrong f g =
    let a = IsFile-only lines found faults f in
    let b = IsFile-only lines others wrong g in
    (a.0 ∙ sym b.0, a.1 ∙ sym b.1)
