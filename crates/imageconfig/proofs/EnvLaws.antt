-- The rows of a configuration and those of a scope, where both fold the same lines.
use Rattle.std.proofs.Common.{◌≡◌, ℕ, Bool, true, false, cond, List, [], ◌∷◌, ◌++◌, map, Option, Some, None, refl, ap, sym, ◌∙◌, append_assoc, append-nil}
use Rattle.std.specs.Prelude.{bytes_eq}
use Rattle.scopes.specs.Scope.{kept}
use Rattle.scopes.specs.Evaluate.{Values, env_line, arg_line}
use Rattle.instructions.specs.declared.instruction.Argument.{Argument}
use Rattle.instructions.specs.declared.instruction.Assignment.{Assignment}
use Rattle.expand.specs.Value.{value}
use Rattle.scopes.proofs.Said.{Said, env_said, settled, put}
use Rattle.scopes.proofs.SaidLemmas.{settled-push}
use Rattle.scopes.proofs.ScopeLemmas.{env_said-append, env_said-kept}
use Rattle.scopes.specs.declared.declaration.Declaration.{Declaration}
use Rattle.scopes.specs.declared.declaration.Declaration.TheVariants.{Env, Arg}
use Rattle.imageconfig.specs.Rows.{Row, put_row, put_rows}
use Rattle.imageconfig.specs.EnvRows.{env_shown}
use Rattle.imageconfig.specs.Lines.{env_rows}

-- an ENV for each row
abbrev env_line_of : List Row → List Declaration
env_line_of rows = map (λ row. Env row.0 row.1) rows

-- rows, as what is said of names
abbrev lift : List Row → Said
lift [] = []
lift (row ∷ rows) = (row.0, Some row.1) ∷ lift rows

abbrev shown_of : Option (List ℕ) → List ℕ → List Row → List Row
shown_of None name rows = rows
shown_of (Some text) name rows = (name, text) ∷ rows

abbrev shown : Said → List Row
shown [] = []
shown (p ∷ ps) = shown_of p.1 p.0 (shown ps)

shown-lift : (rows : List Row) → shown (lift rows) ≡ rows
shown-lift [] = refl
shown-lift (row ∷ rows) = ap (λ (more : List Row). row ∷ more) (shown-lift rows)

said-is : (ds : List Declaration) → env_said ds ≡ lift (env_shown ds)
said-is [] = refl
said-is (Env n text ∷ ds) = ap (λ (ps : Said). (n, Some text) ∷ ps) (said-is ds)
said-is (Arg n value ∷ ds) = said-is ds

line-said : (rows : List Row) → env_said (env_line_of rows) ≡ lift rows
line-said [] = refl
line-said (row ∷ rows) = ap (λ (ps : Said). (row.0, Some row.1) ∷ ps) (line-said rows)

put-lift : (rows : List Row) (name text : List ℕ) → put name (Some text) (lift rows) ≡ lift (put_row rows name text)
put-lift [] name text = refl
put-lift (row ∷ rows) name text = by (bytes_eq name row.0) (put-lift rows name text)
  where
    by : (b : Bool) → put name (Some text) (lift rows) ≡ lift (put_row rows name text)
        → cond b ((row.0, Some text) ∷ lift rows) ((row.0, Some row.1) ∷ put name (Some text) (lift rows)) ≡ lift (cond b ((row.0, text) ∷ rows) (row ∷ put_row rows name text))
    by true h = refl
    by false h = ap (λ (ps : Said). (row.0, Some row.1) ∷ ps) h

lifted : (now : Said) (known more : List Row) → settled now ≡ lift known → settled (now ++ lift more) ≡ lift (put_rows known more)
lifted now known [] h = ap settled (append-nil now) ∙ h
lifted now known (row ∷ more) h =
    ap settled (sym (append_assoc now ((row.0, Some row.1) ∷ []) (lift more)))
    ∙ lifted (now ++ (row.0, Some row.1) ∷ []) (put_row known row.0 row.1) more
    (settled-push row.0 (Some row.1) now ∙ ap (put row.0 (Some row.1)) h ∙ put-lift known row.0 row.1)

-- an ENV line does to the rows of a scope what it does to those of a configuration
pub env-kept : (ds : List Declaration) (rows : List Row) → env_shown (kept (ds ++ env_line_of rows)) ≡ put_rows (env_shown (kept ds)) rows
env-kept ds rows =
    let now : settled (env_said ds) ≡ lift (env_shown (kept ds)) = sym (env_said-kept ds) ∙ said-is (kept ds) in
    let all : lift (env_shown (kept (ds ++ env_line_of rows))) ≡ lift (put_rows (env_shown (kept ds)) rows) =
    sym (said-is (kept (ds ++ env_line_of rows))) ∙ env_said-kept (ds ++ env_line_of rows)
    ∙ ap settled (env_said-append ds (env_line_of rows) ∙ ap (λ (ps : Said). env_said ds ++ ps) (line-said rows))
    ∙ lifted (env_said ds) (env_shown (kept ds)) rows now in
    sym (shown-lift (env_shown (kept (ds ++ env_line_of rows)))) ∙ ap shown all ∙ shown-lift (put_rows (env_shown (kept ds)) rows)

-- an ARG line leaves the rows of a scope as they are
args-said : (before given outer : Values) (arguments : List Argument) → env_said (arg_line before given outer arguments) ≡ []
args-said before given outer [] = refl
args-said before given outer (a ∷ arguments) = args-said before given outer arguments

pub arg-kept : (ds : List Declaration) (before given outer : Values) (arguments : List Argument) → env_shown (kept (ds ++ arg_line before given outer arguments)) ≡ env_shown (kept ds)
arg-kept ds before given outer arguments =
    let now : settled (env_said ds) ≡ lift (env_shown (kept ds)) = sym (env_said-kept ds) ∙ said-is (kept ds) in
    let all : lift (env_shown (kept (ds ++ arg_line before given outer arguments))) ≡ lift (env_shown (kept ds)) =
    sym (said-is (kept (ds ++ arg_line before given outer arguments))) ∙ env_said-kept (ds ++ arg_line before given outer arguments)
    ∙ ap settled (env_said-append ds (arg_line before given outer arguments) ∙ ap (λ (ps : Said). env_said ds ++ ps) (args-said before given outer arguments) ∙ append-nil (env_said ds))
    ∙ now in
    sym (shown-lift (env_shown (kept (ds ++ arg_line before given outer arguments)))) ∙ ap shown all ∙ shown-lift (env_shown (kept ds))

line-of : (before : Values) (assignments : List Assignment) → env_line before assignments ≡ env_line_of (env_rows before assignments)
line-of before [] = refl
line-of before (a ∷ assignments) = ap (λ (ds : List Declaration). Env a.name (value before a.value) ∷ ds) (line-of before assignments)

-- an ENV line, as a scope and as a configuration take it
pub env-line-kept : (ds : List Declaration) (before : Values) (assignments : List Assignment) → env_shown (kept (ds ++ env_line before assignments)) ≡ put_rows (env_shown (kept ds)) (env_rows before assignments)
env-line-kept ds before assignments = ap (λ (es : List Declaration). env_shown (kept (ds ++ es))) (line-of before assignments) ∙ env-kept ds (env_rows before assignments)

-- a variable of an image
pub inherited-kept : (ds : List Declaration) (name text : List ℕ) → env_shown (kept (ds ++ Env name text ∷ [])) ≡ put_row (env_shown (kept ds)) name text
inherited-kept ds name text = env-kept ds ((name, text) ∷ [])
