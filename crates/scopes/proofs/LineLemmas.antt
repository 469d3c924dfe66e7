-- What is kept while the declarations of a line are added one after another.
use Rattle.std.proofs.Common.{◌≡◌, ℕ, List, [], ◌∷◌, ◌++◌, map, Option, Result, Ok, Err, OnOk, refl, ap, sym, ◌∙◌, append_assoc}
use Rattle.instructions.specs.declared.instruction.Argument.{Argument}
use Rattle.plain.specs.declared.memory.Memory.{Memory}
use Rattle.plain.specs.declared.variable.Variable.{Variable}
use Rattle.scopes.specs.Evaluate.{Values, arg_line, declaration_of, fallback}
use Rattle.scopes.specs.PrivateEvaluate.{row_of, argument_row}
use Rattle.scopes.specs.PrivateMaps.{env_row_of, arg_row_of}
use Rattle.scopes.specs.Scope.{kept, or_else}
use Rattle.scopes.proofs.ScopeLemmas.{kept-append, kept-kept}
use Rattle.scopes.specs.declared.declaration.Declaration.{Declaration}
use Rattle.scopes.specs.declared.declaration.Declaration.TheVariants.{Env, Arg}

pub still_kept : (ds new : List Declaration) → new ≡ kept ds → kept new ≡ new
still_kept ds new h = ap kept h ∙ kept-kept ds ∙ sym h

pub kept-step : (ds new all : List Declaration) (d : Declaration) (left rest : List Declaration) → left ≡ d ∷ rest → new ≡ kept (ds ++ d ∷ []) → kept (ds ++ left) ≡ all → kept (new ++ rest) ≡ all
kept-step ds new all d left rest h i j =
    ap (λ (es : List Declaration). kept (es ++ rest)) i ∙ kept-append (ds ++ d ∷ []) rest ∙ ap kept (append_assoc ds (d ∷ []) rest ∙ ap (λ (es : List Declaration). ds ++ es) (sym h)) ∙ j

-- a line's rows are what it says

args-are : (before args outer : Values) (arguments : List Argument) → map arg_row_of (map (argument_row before args outer) arguments) ≡ arg_line before args outer arguments
args-are before args outer [] = refl
args-are before args outer (a ∷ arguments) =
    ap (λ (ds : List Declaration). Arg a.name (or_else (args a.name) (fallback before (outer a.name) a.default)) ∷ ds) (args-are before args outer arguments)

pub given-line : (before args outer : Values) (arguments : List Argument) (rows : List (List ℕ × Option (List ℕ))) (old new : List Declaration) → rows ≡ map (argument_row before args outer) arguments → new ≡ kept (old ++ map arg_row_of rows) → new ≡ kept (old ++ arg_line before args outer arguments)
given-line before args outer arguments rows old new is given = given ∙ ap (λ (ds : List Declaration). kept (old ++ ds)) (ap (map arg_row_of) is ∙ args-are before args outer arguments)

envs-are : (variables : List Variable) → map env_row_of (map row_of variables) ≡ map declaration_of variables
envs-are [] = refl
envs-are (v ∷ variables) = ap (λ (ds : List Declaration). Env v.name v.value ∷ ds) (envs-are variables)

pub set-line : (result : Result (Unit {0}) Memory) (variables : List Variable) (rows : List (List ℕ × List ℕ)) (old new : List Declaration) → rows ≡ map row_of variables → OnOk result (new ≡ kept (old ++ map env_row_of rows)) → OnOk result (new ≡ kept (old ++ map declaration_of variables))
set-line (Ok done) variables rows old new is set = set ∙ ap (λ (ds : List Declaration). kept (old ++ ds)) (ap (map env_row_of) is ∙ envs-are variables)
set-line (Err memory) variables rows old new is set = tt
