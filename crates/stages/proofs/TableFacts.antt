-- The stages that instructions begin, when one more instruction comes.
use Rattle.std.proofs.Common.{◌≡◌, ◌++◌, ◌+◌, ℕ, List, [], ◌∷◌, Option, Some, None, length, refl, sym, ap, ◌∙◌, arith}
use Rattle.std.specs.List.{cons_option}
use Rattle.std.specs.Option.{option_map}
use Rattle.std.proofs.lemmas.List.{append_assoc, append-nil}
use Rattle.expand.specs.Value.{Parts}
use Rattle.instructions.specs.Instruction.{Instruction}
use Rattle.scopes.specs.declared.declaration.Declaration.{Declaration}
use Rattle.stages.specs.declared.stage.ResolvedInstruction.{ResolvedInstruction}
use Rattle.stages.specs.declared.stage.ResolvedStage.{ResolvedStage}
use Rattle.stages.specs.Naming.{Names, Known, origins_of}
use Rattle.stages.specs.Before.{begun, name_begun, stage_names, all_but_last}
use Rattle.stages.specs.Table.{base_of, unless_begun, stage_instructions, stage_begun, stages_after}
use Rattle.stages.specs.PrivateResolving.{with_last, with_instruction, last_with}
use Rattle.stages.proofs.BeforeFacts.{cons_option-append, all_but_last-push}

cons_none : {X : Type 0} (x : X) (xs : List X) → x ∷ xs ≡ [] → ⊥
cons_none x xs e = cc

some_none : {X : Type 0} (x : X) → Some x ≡ None → ⊥
some_none x e = cc

-- an instruction with what it names from a stage after stages of these names
abbrev pub resolved_as : Known → Names → Instruction → ResolvedInstruction
resolved_as known names i = record { instruction = i; origins = origins_of known names i.kind }

-- the stage that begins with no instruction
abbrev pub new_stage : Known → List Declaration → Names → ℕ → Parts × Option (List ℕ) → List ResolvedInstruction → ResolvedStage
new_stage known scope names line stage rs = record { line = line; base = base_of known scope names stage.0; instructions = rs }

-- some stages with one more instruction in the last
abbrev pub extended : ResolvedInstruction → List ResolvedStage → List ResolvedStage
extended r [] = []
extended r (s ∷ []) = with_instruction r s ∷ []
extended r (s ∷ t ∷ ss) = s ∷ extended r (t ∷ ss)

extended-cons : (r : ResolvedInstruction) (s : ResolvedStage) (ss : List ResolvedStage) (t : ResolvedStage) (ts : List ResolvedStage) → ss ≡ t ∷ ts
    → extended r (s ∷ ss) ≡ s ∷ extended r ss
extended-cons r s ss t ts there = rw there refl

push_cons : (ss : List ResolvedStage) (last : ResolvedStage) → (t : ResolvedStage) × ((ts : List ResolvedStage) × (ss ++ last ∷ [] ≡ t ∷ ts))
push_cons [] last = (last, ([], refl))
push_cons (s ∷ ss) last = (s, (ss ++ last ∷ [], refl))

extended-last : (r : ResolvedInstruction) (stages : List ResolvedStage) (last : ResolvedStage)
    → extended r (stages ++ last ∷ []) ≡ stages ++ with_instruction r last ∷ []
extended-last r [] last = refl
extended-last r (s ∷ ss) last =
    let more = push_cons ss last in
    extended-cons r s (ss ++ last ∷ []) more.0 more.1.0 more.1.1 ∙ ap (λ xs. s ∷ xs) (extended-last r ss last)

pub extended-with_last : (r : ResolvedInstruction) (stages : List ResolvedStage) (last : Option ResolvedStage) → (last ≡ None → stages ≡ [])
    → extended r (with_last stages last) ≡ with_last stages (last_with r last)
extended-with_last r stages None none = ap (λ ss. extended r ss) (none refl) ∙ sym (none refl)
extended-with_last r stages (Some last) none = extended-last r stages last

-- the instructions of a stage

body_begun_by : (b : Option (Parts × Option (List ℕ))) (r : ResolvedInstruction) (xs ys : List ResolvedInstruction) → xs ≡ ys
    → unless_begun b r xs ≡ unless_begun b r ys
body_begun_by b r xs ys e = ap (λ zs. unless_begun b r zs) e

-- a FROM isn't among them
body_begun : (known : Known) (names : Names) (is : List Instruction) (i : Instruction) (stage : Parts × Option (List ℕ)) → begun i.kind ≡ Some stage
    → stage_instructions known names (is ++ i ∷ []) ≡ stage_instructions known names is
body_begun known names [] i stage begins = ap (λ b. unless_begun b (resolved_as known names i) []) begins
body_begun known names (j ∷ js) i stage begins = body_begun_by (begun j.kind) (resolved_as known names j) _ _ (body_begun known names js i stage begins)

body_closed_by : (b : Option (Parts × Option (List ℕ))) (r : ResolvedInstruction) (more names : Names) (name : Option (List ℕ)) (xs ys : List ResolvedInstruction)
    → cons_option (option_map (λ stage. stage.1) b) more ≡ name ∷ names → (more ≡ name ∷ names → xs ≡ ys) → unless_begun b r xs ≡ unless_begun b r ys
body_closed_by (Some stage) r more names name xs ys there same = refl
body_closed_by None r more names name xs ys there same = ap (λ zs. r ∷ zs) (same there)

-- nothing after a later FROM is
body_closed : (known : Known) (earlier : Names) (is : List Instruction) (i : Instruction) (name : Option (List ℕ)) (names : Names)
    → stage_names is ≡ name ∷ names → stage_instructions known earlier (is ++ i ∷ []) ≡ stage_instructions known earlier is
body_closed known earlier [] i name names there = absurd (cons_none name names (sym there))
body_closed known earlier (j ∷ js) i name names there =
    body_closed_by (begun j.kind) (resolved_as known earlier j) (stage_names js) names name _ _ there (λ e. body_closed known earlier js i name names e)

body_open_by : (b : Option (Parts × Option (List ℕ))) (r : ResolvedInstruction) (more : Names) (xs ys zs : List ResolvedInstruction)
    → cons_option (option_map (λ stage. stage.1) b) more ≡ [] → (more ≡ [] → xs ≡ ys ++ zs) → unless_begun b r xs ≡ unless_begun b r ys ++ zs
body_open_by (Some stage) r more xs ys zs none same = absurd (cons_none stage.1 more none)
body_open_by None r more xs ys zs none same = ap (λ ws. r ∷ ws) (same none)

-- another instruction comes to them
body_open : (known : Known) (earlier : Names) (is : List Instruction) (i : Instruction) → stage_names is ≡ [] → begun i.kind ≡ None
    → stage_instructions known earlier (is ++ i ∷ []) ≡ stage_instructions known earlier is ++ resolved_as known earlier i ∷ []
body_open known earlier [] i none begins = ap (λ b. unless_begun b (resolved_as known earlier i) []) begins
body_open known earlier (j ∷ js) i none begins =
    body_open_by (begun j.kind) (resolved_as known earlier j) (stage_names js) _ _ _ none (λ e. body_open known earlier js i e begins)

-- the stages

-- the stages from an instruction on, by what it begins
abbrev pub stages_by : Known → List Declaration → Names → ℕ → Option (Parts × Option (List ℕ)) → List ResolvedInstruction → (Names → List ResolvedStage) → List ResolvedStage
stages_by known scope names line b rs more =
    cons_option (option_map (λ stage. new_stage known scope names line stage rs) b) (more (names ++ cons_option (option_map (λ stage. stage.1) b) []))

stages_long_by : (known : Known) (scope : List Declaration) (names : Names) (line : ℕ) (b : Option (Parts × Option (List ℕ))) (rs : List ResolvedInstruction) (is : List Instruction)
    → ((ns : Names) → length (stages_after known scope ns is) ≡ length (stage_names is))
    → length (stages_by known scope names line b rs (λ ns. stages_after known scope ns is)) ≡ length (cons_option (option_map (λ stage. stage.1) b) (stage_names is))
stages_long_by known scope names line None rs is more = more (names ++ [])
stages_long_by known scope names line (Some stage) rs is more =
    let h = more (names ++ stage.1 ∷ []) in omega (arith, h)

pub stages_long : (known : Known) (scope : List Declaration) (names : Names) (is : List Instruction)
    → length (stages_after known scope names is) ≡ length (stage_names is)
stages_long known scope names [] = refl
stages_long known scope names (i ∷ is) = stages_long_by known scope names i.line (begun i.kind) (stage_instructions known names is) is
    (λ ns. stages_long known scope ns is)

empty_of_length : {X : Type 0} (xs : List X) → length xs ≡ 0 → xs ≡ []
empty_of_length [] e = refl
empty_of_length (x ∷ xs) e = absurd (omega (arith, e))

-- where there is no FROM there is no stage
pub stages_none : (known : Known) (scope : List Declaration) (names : Names) (is : List Instruction) → stage_names is ≡ []
    → stages_after known scope names is ≡ []
stages_none known scope names is none = empty_of_length _ (stages_long known scope names is ∙ ap length none)

cons_of_length : {X : Type 0} (xs : List X) (n : ℕ) → length xs ≡ n + 1 → (y : X) × ((ys : List X) × (xs ≡ y ∷ ys))
cons_of_length [] n e = absurd (omega (arith, e))
cons_of_length (x ∷ xs) n e = (x, (xs, refl))

stages_some : (known : Known) (scope : List Declaration) (earlier : Names) (is : List Instruction) (name : Option (List ℕ)) (names : Names)
    → stage_names is ≡ name ∷ names
    → (t : ResolvedStage) × ((ts : List ResolvedStage) × (stages_after known scope earlier is ≡ t ∷ ts))
stages_some known scope earlier is name names there =
    cons_of_length _ (length names) (let h = stages_long known scope earlier is ∙ ap length there in omega (arith, h))

names_along : (names : Names) (o : Option (Option (List ℕ))) (more : Names) → (names ++ cons_option o []) ++ more ≡ names ++ cons_option o more
names_along names o more = append_assoc names (cons_option o []) more ∙ ap (λ ns. names ++ ns) (cons_option-append o [] more)

-- a FROM begins one more stage
pub stages_begun : (known : Known) (scope : List Declaration) (names : Names) (is : List Instruction) (i : Instruction) (stage : Parts × Option (List ℕ))
    → begun i.kind ≡ Some stage
    → stages_after known scope names (is ++ i ∷ [])
    ≡ stages_after known scope names is ++ new_stage known scope (names ++ stage_names is) i.line stage [] ∷ []
stages_begun known scope names [] i stage begins =
    ap (λ b. stages_by known scope names i.line b [] (λ ns. [])) begins
    ∙ ap (λ ns. new_stage known scope ns i.line stage [] ∷ []) (sym (append-nil names))
stages_begun known scope names (j ∷ js) i stage begins =
    ap (λ rs. stages_by known scope names j.line (begun j.kind) rs (λ ns. stages_after known scope ns (js ++ i ∷ []))) (body_begun known names js i stage begins)
    ∙ ap (λ ss. cons_option (stage_begun known scope names j js) ss) (stages_begun known scope (names ++ cons_option (name_begun j) []) js i stage begins)
    ∙ ap (λ ns. cons_option (stage_begun known scope names j js) (stages_after known scope (names ++ cons_option (name_begun j) []) js ++ new_stage known scope ns i.line stage [] ∷ []))
    (names_along names (name_begun j) (stage_names js))
    ∙ sym (cons_option-append (stage_begun known scope names j js) _ _)

-- another instruction comes to the last stage

stages_extended_by : (known : Known) (scope : List Declaration) (names : Names) (js : List Instruction) (i : Instruction) (line : ℕ) (stage : Parts × Option (List ℕ)) (more : Names)
    → begun i.kind ≡ None → stage_names js ≡ more
    → stages_after known scope (names ++ stage.1 ∷ []) (js ++ i ∷ [])
    ≡ extended (resolved_as known (all_but_last (names ++ stage.1 ∷ stage_names js)) i) (stages_after known scope (names ++ stage.1 ∷ []) js)
    → new_stage known scope names line stage (stage_instructions known names (js ++ i ∷ [])) ∷ stages_after known scope (names ++ stage.1 ∷ []) (js ++ i ∷ [])
    ≡ extended (resolved_as known (all_but_last (names ++ stage.1 ∷ stage_names js)) i)
    (new_stage known scope names line stage (stage_instructions known names js) ∷ stages_after known scope (names ++ stage.1 ∷ []) js)
stages_extended_by known scope names js i line stage [] begins there ih =
    let none = stages_none known scope (names ++ stage.1 ∷ []) js there in
    let own = ap (λ ns. all_but_last (names ++ stage.1 ∷ ns)) there ∙ all_but_last-push names stage.1 in
    let body = body_open known names js i there begins ∙ ap (λ ns. stage_instructions known names js ++ resolved_as known ns i ∷ []) (sym own) in
    ap (λ ss. new_stage known scope names line stage (stage_instructions known names (js ++ i ∷ [])) ∷ ss)
    (ih ∙ ap (λ ss. extended (resolved_as known (all_but_last (names ++ stage.1 ∷ stage_names js)) i) ss) none)
    ∙ ap (λ rs. new_stage known scope names line stage rs ∷ []) body
    ∙ ap (λ ss. extended (resolved_as known (all_but_last (names ++ stage.1 ∷ stage_names js)) i) (new_stage known scope names line stage (stage_instructions known names js) ∷ ss)) (sym none)
stages_extended_by known scope names js i line stage (name ∷ more) begins there ih =
    let some = stages_some known scope (names ++ stage.1 ∷ []) js name more there in
    ap (λ rs. new_stage known scope names line stage rs ∷ stages_after known scope (names ++ stage.1 ∷ []) (js ++ i ∷ [])) (body_closed known names js i name more there)
    ∙ ap (λ ss. new_stage known scope names line stage (stage_instructions known names js) ∷ ss) ih
    ∙ sym (extended-cons (resolved_as known (all_but_last (names ++ stage.1 ∷ stage_names js)) i) (new_stage known scope names line stage (stage_instructions known names js))
    (stages_after known scope (names ++ stage.1 ∷ []) js) some.0 some.1.0 some.1.1)

stages_extended_at : (known : Known) (scope : List Declaration) (names : Names) (js : List Instruction) (i : Instruction) (line : ℕ) (b : Option (Parts × Option (List ℕ)))
    → begun i.kind ≡ None
    → ((ns : Names) → stages_after known scope ns (js ++ i ∷ []) ≡ extended (resolved_as known (all_but_last (ns ++ stage_names js)) i) (stages_after known scope ns js))
    → stages_by known scope names line b (stage_instructions known names (js ++ i ∷ [])) (λ ns. stages_after known scope ns (js ++ i ∷ []))
    ≡ extended (resolved_as known (all_but_last (names ++ cons_option (option_map (λ stage. stage.1) b) (stage_names js))) i)
    (stages_by known scope names line b (stage_instructions known names js) (λ ns. stages_after known scope ns js))
stages_extended_at known scope names js i line None begins ih =
    ih (names ++ []) ∙ ap (λ ns. extended (resolved_as known (all_but_last (ns ++ stage_names js)) i) (stages_after known scope (names ++ []) js)) (append-nil names)
stages_extended_at known scope names js i line (Some stage) begins ih =
    stages_extended_by known scope names js i line stage (stage_names js) begins refl
    (ih (names ++ stage.1 ∷ []) ∙ ap (λ ns. extended (resolved_as known (all_but_last ns) i) (stages_after known scope (names ++ stage.1 ∷ []) js))
    (append_assoc names (stage.1 ∷ []) (stage_names js)))

pub stages_extended : (known : Known) (scope : List Declaration) (is : List Instruction) (i : Instruction) (names : Names) → begun i.kind ≡ None
    → stages_after known scope names (is ++ i ∷ []) ≡ extended (resolved_as known (all_but_last (names ++ stage_names is)) i) (stages_after known scope names is)
stages_extended known scope [] i names begins = ap (λ b. stages_by known scope names i.line b [] (λ ns. [])) begins
stages_extended known scope (j ∷ js) i names begins =
    stages_extended_at known scope names js i j.line (begun j.kind) begins (λ ns. stages_extended known scope js i ns begins)
