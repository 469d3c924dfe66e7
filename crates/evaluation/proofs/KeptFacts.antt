-- What the instructions of a stage keep: names that an environment may have, well-formed steps of which there is at most one for each
-- instruction, and images that are held.
use Rattle.std.specs.Prelude.{◌≡◌, ◌≤◌, ◌+◌, ◌&&◌, ℕ, Bool, true, false, cond, List, [], ◌∷◌, ◌++◌, Option, Some, None, Result, Ok, length, refl, if◌then◌else◌}
use Rattle.std.specs.List.{All, list_all, list_any, count_by, filter_map, cons_option}
use Rattle.std.proofs.Common.{sym, ◌∙◌, ap, subst, arith, length-append}
use Rattle.std.proofs.lemmas.Bool.{true≢false}
use Rattle.std.proofs.lemmas.List.{map-append}
use Rattle.std.proofs.lemmas.List.Elements.{All-nil, All-cons, All-head, All-tail, All-append, All-weaker}
use Rattle.std.proofs.lemmas.List.Folds.{list_all-append}
use Rattle.std.proofs.lemmas.List.Recursion.{is_count_by}
use Rattle.plain.specs.Limits.{most_images}
use Rattle.expand.specs.declared.reason.Rejection.{Rejection}
use Rattle.ascii.specs.Names.{is_name}
use Rattle.llb.specs.Places.{IsLine}
use Rattle.llb.specs.WellFormed.{is_pattern}
use Rattle.rows.specs.Rows.{listed}
use Rattle.rows.specs.WellFormed.{IsAction, IsStep, NamesOnly}
use Rattle.rows.specs.declared.row.Action.{Action}
use Rattle.rows.specs.declared.row.Origin.{Origin}
use Rattle.rows.specs.declared.row.Step.{Step}
use Rattle.options.specs.declared.mount.Mount.{Mount}
use Rattle.options.specs.declared.mount.MountKind.{MountKind}
use Rattle.options.specs.declared.mount.MountKind.TheVariants.{Bind as BindOf, Cache as CacheOf}
use Rattle.instructions.specs.Instruction.{IsInstruction}
use Rattle.instructions.specs.Reason.{reason}
use Rattle.instructions.specs.declared.instruction.InstructionKind.{InstructionKind}
use Rattle.instructions.specs.declared.instruction.InstructionKind.TheVariants.{From, Arg, Env, Label, Expose, User, Workdir, StopSignal, Volume, Shell, Cmd, Entrypoint, Run, Copy}
use Rattle.scopes.specs.Evaluate.{Values, env_line, arg_line}
use Rattle.plain.specs.VariableName.{is_variable_name}
use Rattle.scopes.specs.Scope.{value_in, kept, names_in, name_of}
use Rattle.scopes.specs.declared.declaration.Declaration.{Declaration}
use Rattle.stages.specs.Naming.{Reference, mount_reference, references}
use Rattle.stages.specs.Table.{IsResolved}
use Rattle.stages.specs.declared.stage.ResolvedInstruction.{ResolvedInstruction}
use Rattle.actions.specs.Copy.{copy_action, file_sources}
use Rattle.actions.specs.Run.{is_bind, run_action, run_due}
use Rattle.evaluation.specs.Images.{ImageNames, with_origin, with_origins}
use Rattle.evaluation.specs.Instruction.{after, action_in, due, fault, first_of, dir_in}
use Rattle.evaluation.specs.PrivateNames.{HasNames}
use Rattle.evaluation.specs.Stages.{step_of, with_instruction, next_instruction, instructions_from}
use Rattle.evaluation.specs.declared.stage.Progress.{Progress}
use Rattle.evaluation.specs.declared.state.State.{State}
use Rattle.evaluation.proofs.FoldFacts.{went}
use Rattle.evaluation.proofs.ReasonFacts.{FreeOfBoth, goes, no_code}
use Rattle.evaluation.proofs.ImageFacts.{has_stays, origin_stays, origin_there, origins_stay, origins_there, few_named}
use Rattle.evaluation.proofs.LawFacts.{Laws, IsHeld}

-- what instructions keep that lead a stage from one state of it to another
pub record StageKept (number : ℕ) (rs : List ResolvedInstruction) (p q : Progress) : Type 1 where
  pub names : HasNames q.state
  pub steps : All IsStep q.steps
  pub count : length q.steps ≤ length p.steps + length rs
  pub origins : (P : Origin → Type 0) → All (λ (r : ResolvedInstruction). All P r.origins) rs → All (λ (s : Step). NamesOnly P s.action) p.steps → All (λ (s : Step). NamesOnly P s.action) q.steps
  pub few : length p.names ≤ most_images → length q.names ≤ most_images
  pub held : All (λ (r : ResolvedInstruction). All (IsHeld q.names) r.origins) rs
  pub still : (o : Origin) → IsHeld p.names o → IsHeld q.names o

-- a FROM

pub base_held : (names : ImageNames) (base : Origin) → IsHeld (with_origin names base) base
base_held names base = origin_there names base

pub base_still : (names : ImageNames) (base o : Origin) → IsHeld names o → IsHeld (with_origin names base) o
base_still names base o h = has_stays names (with_origin names base) (origin_stays names base) o h

-- a mount names a tree just where it is a bind

count_more : (kind : MountKind) (named : List Reference)
    → length (cons_option (mount_reference kind) named) ≡ cond (is_bind kind) (1 + length named) (length named)
count_more (BindOf source from is_writable) named = omega arith
count_more (CacheOf id sharing) named = refl

count_is : (mounts : List Mount) → length (filter_map (λ (m : Mount). mount_reference m.kind) mounts) ≡ count_by (λ (m : Mount). is_bind m.kind) mounts
count_is mounts =
    is_count_by (λ (ms : List Mount). length (filter_map (λ (m : Mount). mount_reference m.kind) ms)) (λ (m : Mount). is_bind m.kind) refl
    (λ mount ms. count_more mount.kind (filter_map (λ (m : Mount). mount_reference m.kind) ms)) mounts

-- the names that have values

both_true : (a b : Bool) → a ≡ true → b ≡ true → (a && b) ≡ true
both_true true b h k = k
both_true false b h k = h

first_true : (a b : Bool) → (a && b) ≡ true → a ≡ true
first_true true b h = refl
first_true false b h = h

second_true : (a b : Bool) → (a && b) ≡ true → b ≡ true
second_true true b h = h
second_true false b h = absurd (true≢false (sym h))

all_fit : (laws : Laws) (names : List (List ℕ)) → list_all is_name names ≡ true → list_all is_variable_name names ≡ true
all_fit laws [] h = refl
all_fit laws (n ∷ ns) h =
    both_true (is_variable_name n) (list_all is_variable_name ns)
    (laws.names_fit n (first_true (is_name n) (list_all is_name ns) h))
    (all_fit laws ns (second_true (is_name n) (list_all is_name ns) h))

names_more : (laws : Laws) (scope line : List Declaration) (names : List (List ℕ)) → names_in line ≡ names → list_all is_name names ≡ true
    → list_all is_variable_name (names_in scope) ≡ true → list_all is_variable_name (names_in (kept (scope ++ line))) ≡ true
names_more laws scope line names is fit h =
    laws.kept_names is_variable_name (scope ++ line)
    (ap (list_all is_variable_name) (map-append name_of scope line)
    ∙ (list_all-append is_variable_name (names_in scope) (names_in line)
    ∙ both_true (list_all is_variable_name (names_in scope)) (list_all is_variable_name (names_in line)) h
    (ap (list_all is_variable_name) is ∙ all_fit laws names fit)))

names_after : (laws : Laws) (args outer : Values) (s : State) (kind : InstructionKind) → IsInstruction kind → HasNames s → HasNames (after args outer s kind)
names_after laws args outer s (From image name) whole h = h
names_after laws args outer s (Arg arguments) whole h =
    names_more laws s.scope (arg_line (value_in s.scope) args outer arguments) _ (laws.argument_names (value_in s.scope) args outer arguments) whole.1 h
names_after laws args outer s (Env assignments) whole h =
    names_more laws s.scope (env_line (value_in s.scope) assignments) _ (laws.variable_names (value_in s.scope) assignments) whole.1 h
names_after laws args outer s (Label labels) whole h = h
names_after laws args outer s (Expose ports) whole h = h
names_after laws args outer s (User user) whole h = h
names_after laws args outer s (Workdir path) whole h = h
names_after laws args outer s (StopSignal signal) whole h = h
names_after laws args outer s (Volume paths) whole h = h
names_after laws args outer s (Shell words) whole h = h
names_after laws args outer s (Cmd command) whole h = h
names_after laws args outer s (Entrypoint command) whole h = h
names_after laws args outer s (Run mounts command) whole h = h
names_after laws args outer s (Copy sources destination flags) whole h = h

-- the step of an instruction

one_step : (line : ℕ) (action : Action) → IsLine line → IsAction action → All IsStep (step_of line (Some action))
one_step line action at is = All-cons IsStep (record { line = line; action = action }) [] (record { line = at; action = is }) (All-nil IsStep)

no_step : All IsStep []
no_step = All-nil IsStep

step_is : (laws : Laws) (args : Values) (s : State) (kind : InstructionKind) (origins : List Origin) (line : ℕ) → IsLine line → IsInstruction kind
    → length origins ≡ length (references kind) → HasNames s → reason (due args s kind) (fault args s kind) ≡ None → All IsStep (step_of line (action_in s kind origins))
step_is laws args s (From image name) origins line at whole count names none = no_step
step_is laws args s (Arg arguments) origins line at whole count names none = no_step
step_is laws args s (Env assignments) origins line at whole count names none = no_step
step_is laws args s (Label labels) origins line at whole count names none = no_step
step_is laws args s (Expose ports) origins line at whole count names none = no_step
step_is laws args s (User user) origins line at whole count names none = no_step
step_is laws args s (Workdir path) origins line at whole count names none = one_step line _ at refl
step_is laws args s (StopSignal signal) origins line at whole count names none = no_step
step_is laws args s (Volume paths) origins line at whole count names none = no_step
step_is laws args s (Shell words) origins line at whole count names none = no_step
step_is laws args s (Cmd command) origins line at whole count names none = no_step
step_is laws args s (Entrypoint command) origins line at whole count names none = no_step
step_is laws args s (Run mounts command) origins line at whole count names none =
    one_step line (run_action s.scope (dir_in s) s.config.user s.config.shell mounts command origins) at
    (laws.runs s.scope (dir_in s) s.config.user s.config.shell mounts command origins whole (count ∙ count_is mounts) names (no_code (run_due (dir_in s) mounts) None none))
step_is laws args s (Copy sources destination flags) origins line at whole count names none =
    one_step line (copy_action s.scope (dir_in s) sources destination flags (first_of origins)) at
    (laws.copies s.scope (dir_in s) sources destination flags (first_of origins) whole none)

step_count : (line : ℕ) (action : Option Action) → length (step_of line action) ≤ 1
step_count line None = omega arith
step_count line (Some action) = omega arith

-- what a step names

first_is : (P : Origin → Type 0) (origins : List Origin) → length origins ≡ 1 → All P origins → P (first_of origins)
first_is P [] one are = absurd (omega (arith, one))
first_is P (origin ∷ origins) one are = All-head P origin origins are

listed_is : (P : Origin → Type 0) (origin : Origin) (b : Bool) → P origin → All P (listed (if b then Some origin else None))
listed_is P origin true is = All-cons P origin [] is (All-nil P)
listed_is P origin false is = All-nil P

no_name : (P : Origin → Type 0) → All (λ (s : Step). NamesOnly P s.action) []
no_name P = All-nil (λ (s : Step). NamesOnly P s.action)

one_name : (P : Origin → Type 0) (line : ℕ) (action : Action) → NamesOnly P action → All (λ (s : Step). NamesOnly P s.action) (step_of line (Some action))
one_name P line action is = All-cons (λ (s : Step). NamesOnly P s.action) (record { line = line; action = action }) [] is (no_name P)

step_names : (P : Origin → Type 0) (s : State) (kind : InstructionKind) (origins : List Origin) (line : ℕ) → length origins ≡ length (references kind) → All P origins
    → All (λ (t : Step). NamesOnly P t.action) (step_of line (action_in s kind origins))
step_names P s (From image name) origins line count are = no_name P
step_names P s (Arg arguments) origins line count are = no_name P
step_names P s (Env assignments) origins line count are = no_name P
step_names P s (Label labels) origins line count are = no_name P
step_names P s (Expose ports) origins line count are = no_name P
step_names P s (User user) origins line count are = no_name P
step_names P s (Workdir path) origins line count are = one_name P line _ tt
step_names P s (StopSignal signal) origins line count are = no_name P
step_names P s (Volume paths) origins line count are = no_name P
step_names P s (Shell words) origins line count are = no_name P
step_names P s (Cmd command) origins line count are = no_name P
step_names P s (Entrypoint command) origins line count are = no_name P
step_names P s (Run mounts command) origins line count are = one_name P line (run_action s.scope (dir_in s) s.config.user s.config.shell mounts command origins) are
step_names P s (Copy sources destination flags) origins line count are =
    one_name P line (copy_action s.scope (dir_in s) sources destination flags (first_of origins))
    (listed_is P (first_of origins) (list_any is_pattern (file_sources (value_in s.scope) sources)) (first_is P origins count are))

-- one instruction, and instructions one after another

one_kept : (laws : Laws) (args outer : Values) (number : ℕ) (r : ResolvedInstruction) (p : Progress)
    → IsResolved number r → IsLine r.instruction.line → HasNames p.state → All IsStep p.steps → FreeOfBoth args p.state r.instruction.kind (with_origins p.names r.origins)
    → StageKept number (r ∷ []) p (with_instruction args outer p r)
one_kept laws args outer number r p is at names steps free = record {
  names = names_after laws args outer p.state r.instruction.kind is.whole names;
  steps =
      All-append IsStep p.steps (step_of r.instruction.line (action_in p.state r.instruction.kind r.origins)) steps
      (step_is laws args p.state r.instruction.kind r.origins r.instruction.line at is.whole is.count names free.none);
  count =
      let whole = length-append p.steps (step_of r.instruction.line (action_in p.state r.instruction.kind r.origins)) in
      let one = step_count r.instruction.line (action_in p.state r.instruction.kind r.origins) in
      omega (arith, whole, one);
  origins = λ P are before.
      All-append (λ (s : Step). NamesOnly P s.action) p.steps (step_of r.instruction.line (action_in p.state r.instruction.kind r.origins)) before
      (step_names P p.state r.instruction.kind r.origins r.instruction.line is.count (All-head (λ (x : ResolvedInstruction). All P x.origins) r [] are));
  few = λ h. few_named (with_origins p.names r.origins) free.few;
  held =
      All-cons (λ (x : ResolvedInstruction). All (IsHeld (with_origins p.names r.origins)) x.origins) r [] (origins_there p.names r.origins)
      (All-nil (λ (x : ResolvedInstruction). All (IsHeld (with_origins p.names r.origins)) x.origins));
  still = λ o h. has_stays p.names (with_origins p.names r.origins) (origins_stay p.names r.origins) o h;
}

abbrev well_of : {X : Type 0} → X → Result X Rejection
well_of x = Ok x

same_ok : {X : Type 0} (x y : X) → well_of x ≡ well_of y → x ≡ y
same_ok x y e = cc

next_kept : (laws : Laws) (args outer : Values) (number : ℕ) (r : ResolvedInstruction) (p next : Progress)
    → IsResolved number r → IsLine r.instruction.line → HasNames p.state → All IsStep p.steps → next_instruction args outer p r ≡ Ok next → StageKept number (r ∷ []) p next
next_kept laws args outer number r p next is at names steps h =
    let step = goes args outer p next r h in
    subst (λ (x : Progress). StageKept number (r ∷ []) p x) step.is (one_kept laws args outer number r p is at names steps step.free)

none_kept : (number : ℕ) (p : Progress) → HasNames p.state → All IsStep p.steps → StageKept number [] p p
none_kept number p names steps = record {
  names = names;
  steps = steps;
  count = omega arith;
  origins = λ P are before. before;
  few = λ h. h;
  held = All-nil (λ (r : ResolvedInstruction). All (IsHeld p.names) r.origins);
  still = λ o h. h;
}

both_kept : (number : ℕ) (r : ResolvedInstruction) (rs : List ResolvedInstruction) (p next q : Progress)
    → StageKept number (r ∷ []) p next → StageKept number rs next q → StageKept number (r ∷ rs) p q
both_kept number r rs p next q one more = record {
  names = more.names;
  steps = more.steps;
  count =
      let first = one.count in
      let second = more.count in
      omega (arith, first, second);
  origins = λ P are before.
      let names : ResolvedInstruction → Type 0 = λ x. All P x.origins in
      more.origins P (All-tail names r rs are) (one.origins P (All-cons names r [] (All-head names r rs are) (All-nil names)) before);
  few = λ h. more.few (one.few h);
  held =
      All-cons (λ (x : ResolvedInstruction). All (IsHeld q.names) x.origins) r rs
      (All-weaker (IsHeld next.names) (IsHeld q.names) more.still r.origins (All-head (λ (x : ResolvedInstruction). All (IsHeld next.names) x.origins) r [] one.held)) more.held;
  still = λ o h. more.still o (one.still o h);
}

pub stage_kept : (laws : Laws) (args outer : Values) (number : ℕ) (rs : List ResolvedInstruction) (p q : Progress)
    → All (IsResolved number) rs → All (λ (r : ResolvedInstruction). IsLine r.instruction.line) rs → HasNames p.state → All IsStep p.steps
    → instructions_from args outer (Ok p) rs ≡ Ok q → StageKept number rs p q
stage_kept laws args outer number [] p q are at names steps h = subst (λ (x : Progress). StageKept number [] p x) (same_ok p q h) (none_kept number p names steps)
stage_kept laws args outer number (r ∷ rs) p q are at names steps h =
    let step = went (next_instruction args outer) (next_instruction args outer p r) rs q h in
    let one =
    next_kept laws args outer number r p step.next (All-head (IsResolved number) r rs are) (All-head (λ (x : ResolvedInstruction). IsLine x.instruction.line) r rs at) names steps
    step.is in
    both_kept number r rs p step.next q one
    (stage_kept laws args outer number rs step.next q (All-tail (IsResolved number) r rs are) (All-tail (λ (x : ResolvedInstruction). IsLine x.instruction.line) r rs at)
    one.names one.steps step.on)
