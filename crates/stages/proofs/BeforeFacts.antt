-- What stands before an instruction that comes after others.
use Rattle.std.proofs.Common.{◌≡◌, ◌++◌, ◌-◌, ℕ, List, [], ◌∷◌, Option, Some, None, length, take, refl, sym, ap, ◌∙◌, arith}
use Rattle.std.specs.List.{cons_option}
use Rattle.std.specs.Option.{option_map}
use Rattle.std.proofs.lemmas.List.{length_push}
use Rattle.std.proofs.lemmas.List.Elements.{filter_map-append}
use Rattle.std.proofs.Math.Seq.{take-append_seam}
use Rattle.expand.specs.Value.{Parts}
use Rattle.instructions.specs.declared.instruction.Argument.{Argument}
use Rattle.instructions.specs.Instruction.{Instruction}
use Rattle.scopes.specs.History.{ScopeLine, declares, said, scope_after}
use Rattle.scopes.specs.Scope.{value_in, kept}
use Rattle.scopes.specs.Evaluate.{Values, arg_line}
use Rattle.scopes.specs.declared.declaration.Declaration.{Declaration}
use Rattle.stages.specs.Naming.{Names}
use Rattle.stages.specs.Before.{begun, declared_by, name_begun, stage_names, all_but_last, with_declared, up_to, outer_lines, outer_scope}

pub cons_option-append : {X : Type 0} (o : Option X) (xs ys : List X) → cons_option o xs ++ ys ≡ cons_option o (xs ++ ys)
cons_option-append None xs ys = refl
cons_option-append (Some x) xs ys = refl

cons_none : {X : Type 0} (x : X) (xs : List X) → x ∷ xs ≡ [] → ⊥
cons_none x xs e = cc

pub stage_names-push : (is : List Instruction) (i : Instruction) → stage_names (is ++ i ∷ []) ≡ stage_names is ++ cons_option (name_begun i) []
stage_names-push is i = filter_map-append name_begun is (i ∷ [])

pub all_but_last-push : (names : Names) (name : Option (List ℕ)) → all_but_last (names ++ name ∷ []) ≡ names
all_but_last-push names name =
    let n : length (names ++ name ∷ []) - 1 ≡ length names = omega (arith, length_push names name) in
    ap (λ k. take k (names ++ name ∷ [])) n ∙ take-append_seam names (name ∷ [])

scope_after-append : (args outer : Values) (before : List Declaration) (xs ys : List ScopeLine)
    → scope_after args outer before (xs ++ ys) ≡ scope_after args outer (scope_after args outer before xs) ys
scope_after-append args outer before [] ys = refl
scope_after-append args outer before (x ∷ xs) ys = scope_after-append args outer (kept (before ++ said (value_in before) args outer x)) xs ys

-- the lines before the first FROM, of which some instructions have none or one

lines_open_by : (b : Option (Parts × Option (List ℕ))) (d : Option (List Argument)) (names : Names) (xs ys zs : List ScopeLine)
    → cons_option (option_map (λ stage. stage.1) b) names ≡ [] → (names ≡ [] → xs ≡ ys ++ zs)
    → up_to b (with_declared d xs) ≡ up_to b (with_declared d ys) ++ zs
lines_open_by (Some s) d names xs ys zs none more = absurd (cons_none s.1 names none)
lines_open_by None None names xs ys zs none more = more none
lines_open_by None (Some arguments) names xs ys zs none more = ap (λ ls. declares arguments ∷ ls) (more none)

lines_open : (is js : List Instruction) → stage_names is ≡ [] → outer_lines (is ++ js) ≡ outer_lines is ++ outer_lines js
lines_open [] js none = refl
lines_open (i ∷ is) js none =
    lines_open_by (begun i.kind) (declared_by i.kind) (stage_names is) (outer_lines (is ++ js)) (outer_lines is) (outer_lines js) none (lines_open is js)

lines_closed_by : (b : Option (Parts × Option (List ℕ))) (d : Option (List Argument)) (names more_names : Names) (name : Option (List ℕ)) (xs ys : List ScopeLine)
    → cons_option (option_map (λ stage. stage.1) b) names ≡ name ∷ more_names → (names ≡ name ∷ more_names → xs ≡ ys)
    → up_to b (with_declared d xs) ≡ up_to b (with_declared d ys)
lines_closed_by (Some s) d names more_names name xs ys there more = refl
lines_closed_by None d names more_names name xs ys there more = ap (λ ls. with_declared d ls) (more there)

lines_closed : (is js : List Instruction) (name : Option (List ℕ)) (names : Names) → stage_names is ≡ name ∷ names → outer_lines (is ++ js) ≡ outer_lines is
lines_closed [] js name names there = absurd (cons_none name names (sym there))
lines_closed (i ∷ is) js name names there =
    lines_closed_by (begun i.kind) (declared_by i.kind) (stage_names is) names name (outer_lines (is ++ js)) (outer_lines is) there
    (λ e. lines_closed is js name names e)

-- the scope that one more instruction leaves: after a FROM nothing changes it
pub scope_closed : (args : Values) (is : List Instruction) (i : Instruction) (name : Option (List ℕ)) (names : Names) → stage_names is ≡ name ∷ names
    → outer_scope args (is ++ i ∷ []) ≡ outer_scope args is
scope_closed args is i name names there = ap (λ ls. scope_after args (λ n. None) [] ls) (lines_closed is (i ∷ []) name names there)

pub scope_open : (args : Values) (is : List Instruction) (i : Instruction) → stage_names is ≡ []
    → outer_scope args (is ++ i ∷ []) ≡ scope_after args (λ n. None) (outer_scope args is) (up_to (begun i.kind) (with_declared (declared_by i.kind) []))
scope_open args is i none =
    ap (λ ls. scope_after args (λ n. None) [] ls) (lines_open is (i ∷ []) none)
    ∙ scope_after-append args (λ n. None) [] (outer_lines is) (outer_lines (i ∷ []))

-- nor does a FROM
pub scope_begun : (args : Values) (is : List Instruction) (i : Instruction) (stage : Parts × Option (List ℕ)) (names : Names) → stage_names is ≡ names
    → begun i.kind ≡ Some stage → outer_scope args (is ++ i ∷ []) ≡ outer_scope args is
scope_begun args is i stage [] there begins =
    scope_open args is i there
    ∙ ap (λ b. scope_after args (λ n. None) (outer_scope args is) (up_to b (with_declared (declared_by i.kind) []))) begins
scope_begun args is i stage (name ∷ names) there begins = scope_closed args is i name names there

-- an ARG before it adds its line
pub scope_declared : (args : Values) (is : List Instruction) (i : Instruction) (arguments : List Argument) → stage_names is ≡ []
    → begun i.kind ≡ None → declared_by i.kind ≡ Some arguments
    → outer_scope args (is ++ i ∷ []) ≡ kept (outer_scope args is ++ arg_line (value_in (outer_scope args is)) args (λ n. None) arguments)
scope_declared args is i arguments none begins says =
    scope_open args is i none
    ∙ ap (λ b. scope_after args (λ n. None) (outer_scope args is) (up_to b (with_declared (declared_by i.kind) []))) begins
    ∙ ap (λ d. scope_after args (λ n. None) (outer_scope args is) (with_declared d [])) says
