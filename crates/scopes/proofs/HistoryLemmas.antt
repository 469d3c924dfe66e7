-- A scope means the history of its lines: what a line says and expands doesn't tell the two apart.
use Rattle.std.proofs.Common.{◌≡◌, ℕ, List, [], ◌∷◌, ◌++◌, map, Option, Some, None, refl, ap, ap₂, ◌∙◌}
use Rattle.expand.specs.Value.{Parts, no_part, byte, variable, with_word, value, refusal}
use Rattle.expand.specs.Expanding.{fault_of, unexpanded, worst}
use Rattle.plain.specs.Limits.{most_text_bytes}
use Rattle.instructions.specs.declared.instruction.Argument.{Argument}
use Rattle.instructions.specs.declared.instruction.Assignment.{Assignment}
use Rattle.scopes.specs.Scope.{or_else, value_in, kept}
use Rattle.scopes.specs.Evaluate.{Values, assigned_variable, env_variables, declaration_of, fallback, default_fault}
use Rattle.scopes.proofs.ScopeLemmas.{value_in-kept, kept-append}
use Rattle.scopes.specs.History.{ScopeLine, sets, declares, said, line_fault, history, scope_after}
use Rattle.scopes.specs.declared.declaration.Declaration.{Declaration}
use Rattle.scopes.specs.declared.declaration.Declaration.TheVariants.{Arg}
use Rattle.plain.specs.declared.variable.Variable.{Variable}

-- two look-ups give each name the same
abbrev pub Agree : Values → Values → Type 0
Agree s t = (n : List ℕ) → s n ≡ t n

pub value-agree : (s t : Values) → Agree s t → (w : Parts) → value s w ≡ value t w
value-agree s t h no_part = refl
value-agree s t h (byte b rest) = ap (λ bs. b ∷ bs) (value-agree s t h rest)
value-agree s t h (variable v rest) = rw (h v, value-agree s t h rest) refl
value-agree s t h (with_word o u v word rest) = rw (h v, value-agree s t h word, value-agree s t h rest) refl

pub refusal-agree : (s t : Values) → Agree s t → (w : Parts) → refusal s w ≡ refusal t w
refusal-agree s t h no_part = refl
refusal-agree s t h (byte b rest) = refusal-agree s t h rest
refusal-agree s t h (variable v rest) = refusal-agree s t h rest
refusal-agree s t h (with_word o u v word rest) = rw (h v, value-agree s t h word, refusal-agree s t h word, refusal-agree s t h rest) refl

unexpanded-agree : (s t : Values) → Agree s t → (w : Parts) → unexpanded s w ≡ unexpanded t w
unexpanded-agree s t h w = ap₂ (λ (o : Option (List ℕ)) (text : List ℕ). fault_of most_text_bytes o text) (refusal-agree s t h w) (value-agree s t h w)

map-agree : {X Y : Type 0} (f g : X → Y) → ((x : X) → f x ≡ g x) → (xs : List X) → map f xs ≡ map g xs
map-agree f g h [] = refl
map-agree f g h (x ∷ xs) = ap₂ (λ y ys. y ∷ ys) (h x) (map-agree f g h xs)

fallback-agree : (s t : Values) → Agree s t → (o p : Option (List ℕ)) → o ≡ p → (default : Option Parts) → fallback s o default ≡ fallback t p default
fallback-agree s t h o p e None = e
fallback-agree s t h o p e (Some word) = ap (λ text. Some text) (value-agree s t h word)

default-agree : (s t : Values) → Agree s t → (args : Option (List ℕ)) (default : Option Parts) → default_fault s args default ≡ default_fault t args default
default-agree s t h (Some text) default = refl
default-agree s t h None None = refl
default-agree s t h None (Some word) = unexpanded-agree s t h word

abbrev variable_with : List ℕ → List ℕ → Variable
variable_with name text = record { name = name; value = text }

variables-agree : (s t : Values) → Agree s t → (assignments : List Assignment) → env_variables s assignments ≡ env_variables t assignments
variables-agree s t h assignments = map-agree (assigned_variable s) (assigned_variable t) (λ (a : Assignment). ap (variable_with a.name) (value-agree s t h a.value)) assignments

pub said-agree : (s t args outer other : Values) → Agree s t → Agree outer other → (line : ScopeLine) → said s args outer line ≡ said t args other line
said-agree s t args outer other h k (sets assignments) = ap (map declaration_of) (variables-agree s t h assignments)
said-agree s t args outer other h k (declares arguments) =
    map-agree _ _ (λ (a : Argument). ap (λ o. Arg a.name (or_else (args a.name) o)) (fallback-agree s t h (outer a.name) (other a.name) (k a.name) a.default)) arguments

pub fault-agree : (s t args : Values) → Agree s t → (line : ScopeLine) → line_fault s args line ≡ line_fault t args line
fault-agree s t args h (sets assignments) = ap worst (map-agree _ _ (λ (a : Assignment). unexpanded-agree s t h a.value) assignments)
fault-agree s t args h (declares arguments) = ap worst (map-agree _ _ (λ (a : Argument). default-agree s t h (args a.name) a.default) arguments)

-- so a scope that was kept says the same of a line as the history that it stands for

pub fault-kept : (args : Values) (ds : List Declaration) (line : ScopeLine) → line_fault (value_in (kept ds)) args line ≡ line_fault (value_in ds) args line
fault-kept args ds line = fault-agree (value_in (kept ds)) (value_in ds) args (value_in-kept ds) line

pub scope-history : (args : Values) (os ds : List Declaration) (lines : List ScopeLine)
    → scope_after args (value_in (kept os)) (kept ds) lines ≡ kept (history args (value_in os) ds lines)
scope-history args os ds [] = refl
scope-history args os ds (line ∷ lines) =
    let same : said (value_in (kept ds)) args (value_in (kept os)) line ≡ said (value_in ds) args (value_in os) line =
    said-agree (value_in (kept ds)) (value_in ds) args (value_in (kept os)) (value_in os) (value_in-kept ds) (value_in-kept os) line in
    let step : kept (kept ds ++ said (value_in (kept ds)) args (value_in (kept os)) line) ≡ kept (ds ++ said (value_in ds) args (value_in os) line) =
    ap (λ es. kept (kept ds ++ es)) same ∙ kept-append ds (said (value_in ds) args (value_in os) line) in
    ap (λ before. scope_after args (value_in (kept os)) before lines) step
    ∙ scope-history args os (ds ++ said (value_in ds) args (value_in os) line) lines
