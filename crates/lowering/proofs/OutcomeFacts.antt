-- Outcomes of a file's target.
use Rattle.std.proofs.Common.{◌≡◌, ◌⊎◌, inl, inr, ◌<◌, ◌+◌, ◌==◌, ℕ, suc, Bool, true, false, List, [], ◌∷◌, ◌++◌, map, length, Option, Some, None}
use Rattle.std.proofs.Common.{Result, Ok, Err, is_some, refl, sym, ap, ◌∙◌, subst, arith, length-append, append_assoc, append-nil}
use Rattle.std.specs.Prelude.{IsTrue, slice_get, slice_index_or, Contains, if◌then◌else◌}
use Rattle.std.specs.List.{All, list_any}
use Rattle.std.specs.Option.{option_and_then}
use Rattle.std.proofs.lemmas.Bool.{and_parts, eqb-true}
use Rattle.std.proofs.lemmas.List.Elements.{All-head, All-tail, All-nil, All-cons, Contains-append_left, Contains-append_right}
use Rattle.std.proofs.lemmas.List.{get_or_append_left, get_or-append-add}
use Rattle.std.proofs.lemmas.Option.{slice_get_within}
use Rattle.trees.specs.TreeMap.{TreeMap, empty_tree}
use Rattle.trees.specs.Over.{over}
use Rattle.trees.specs.Cause.{TreeOrCause}
use Rattle.trees.specs.declared.cause.Cause.{Cause}
use Rattle.llb.specs.declared.op.CopyFiles.{CopyFiles}
use Rattle.llb.specs.declared.op.Exec.{Exec}
use Rattle.llb.specs.declared.op.Op.{Op}
use Rattle.llb.specs.declared.op.Op.TheVariants.{Exec as ExecOp, Copy as CopyOp, MakeDirs as MakeDirsOp}
use Rattle.llb.specs.WellFormed.{is_pattern, inputs_of_copy, is_well_formed_on, is_well_formed_exec, is_well_formed_copy}
use Rattle.plans.specs.Sources.{source_tree}
use Rattle.plans.specs.Value.{World, Value, tree_of, all_trees, result_of}
use Rattle.rows.specs.declared.row.Origin.{Origin}
use Rattle.rows.specs.declared.row.Origin.TheVariants.{Source as SourceOf, Stage as StageOf}
use Rattle.rows.specs.declared.row.Action.{Action}
use Rattle.rows.specs.declared.row.Action.TheVariants.{Run, Copy, MakeDirs}
use Rattle.rows.specs.declared.row.Step.{Step}
use Rattle.rows.specs.declared.row.Stage.{Stage}
use Rattle.lowering.specs.Meaning.{Rows, Trees, origin_tree, listed, value_with, laid_over, action_value, tree_after, stage_tree, trees_from}
use Rattle.lowering.specs.Meaning.{tree_of_stage, failure_of, step_failures, stage_failures, failures_from, Fails}
use Rattle.lowering.specs.Outcome.{IsOutcome}
use Rattle.rows.specs.WellFormed.{NamesOnly, RowNames, IsNamed, HasTree, IsAction, IsStep, IsRow, IsWellFormed}
use Rattle.lowering.proofs.RowFacts.{slice_get-last_cases}
use Rattle.lowering.proofs.SerialFacts.{serial_there}
use Rattle.lowering.proofs.ValueFacts.{failure_there}

-- two outcomes
pub agree : (w : World) (rows : Rows) (target : ℕ) (this that : Result TreeMap (ℕ × Cause)) → IsOutcome w rows target this
    → IsOutcome w rows target that → this ≡ that
agree w rows target (Ok tree) (Ok other) this that = (let f : Some tree ≡ Some other = sym this ∙ that in cc)
agree w rows target (Ok tree) (Err failure) this that = (let f : Some tree ≡ None = sym this ∙ that.0 in cc)
agree w rows target (Err failure) (Ok tree) this that = (let f : Some tree ≡ None = sym that ∙ this.0 in cc)
agree w rows target (Err failure) (Err other) this that = (let f : Some failure ≡ Some other = sym this.1 ∙ that.1 in cc)

-- there is a tree, or something else is so
abbrev IsThere : Type 0 → Option TreeMap → Type 0
IsThere F o = ((tree : TreeMap) × (o ≡ Some tree)) ⊎ F

all_there : (F : Type 0) (os : Trees) → All (IsThere F) os → ((ts : List TreeMap) × (all_trees os ≡ Some ts) × (length ts ≡ length os)) ⊎ F
all_there F [] all = inl ([], refl, refl)
all_there F (o ∷ os) all = elim (All-head (IsThere F) o os all) [
  | inl tree ↦ elim (all_there F os (All-tail (IsThere F) o os all)) [
    | inl trees ↦ inl (tree.0 ∷ trees.0, rw (tree.1, trees.1) refl, ap suc trees.2)
    | inr other ↦ inr other
  ]
  | inr other ↦ inr other
]

-- a well-formed operation on so many trees has a value
abbrev HasValue : World → Op → Type 0
HasValue w op = (ts : List TreeMap) → is_well_formed_on op (length ts) ≡ true → (v : TreeOrCause) × (result_of w.out w.sources op ts ≡ Some v)

run_valued : (w : World) (exec : Exec) → HasValue w (ExecOp exec)
run_valued w exec [] e =
    let n = eqb-true 0 (length exec.binds + 1) (and_parts (0 == length exec.binds + 1) (is_well_formed_exec exec) e).0 in
    absurd (omega (arith, n))
run_valued w exec (root ∷ trees) e = (_, refl)

abbrev one_more : Bool → ℕ
one_more b = if b then 2 else 1

one_or_two : (b : Bool) → (one_more b ≡ 1) ⊎ (one_more b ≡ 2)
one_or_two true = inr refl
one_or_two false = inl refl

copy_inputs : (files : CopyFiles) (n : ℕ) → is_well_formed_on (CopyOp files) n ≡ true → (n ≡ 1) ⊎ (n ≡ 2)
copy_inputs files n e =
    let same : n ≡ inputs_of_copy files = eqb-true n (inputs_of_copy files) (and_parts (n == inputs_of_copy files) (is_well_formed_copy files) e).0 in
    elim (one_or_two (list_any is_pattern files.sources)) [ inl one ↦ inl (same ∙ one) | inr two ↦ inr (same ∙ two) ]

copy_valued : (w : World) (files : CopyFiles) → HasValue w (CopyOp files)
copy_valued w files [] e = elim (copy_inputs files 0 e) [ inl one ↦ absurd (omega (arith, one)) | inr two ↦ absurd (omega (arith, two)) ]
copy_valued w files (base ∷ []) e = (_, refl)
copy_valued w files (base ∷ from ∷ []) e = (_, refl)
copy_valued w files (base ∷ from ∷ more ∷ trees) e =
    elim (copy_inputs files (length (base ∷ from ∷ more ∷ trees)) e) [ inl one ↦ absurd (omega (arith, one)) | inr two ↦ absurd (omega (arith, two)) ]

dirs_valued : (w : World) (path : List (List ℕ)) → HasValue w (MakeDirsOp path)
dirs_valued w path [] e = (let n = eqb-true 0 1 e in absurd (omega (arith, n)))
dirs_valued w path (tree ∷ []) e = (_, refl)
dirs_valued w path (tree ∷ more ∷ trees) e = (let n = eqb-true (length (tree ∷ more ∷ trees)) 1 e in absurd (omega (arith, n)))

operation_there : (F : Type 0) (w : World) (op : Op) (os : Trees) (n : ℕ) → HasValue w op → n ≡ length os → IsTrue (is_well_formed_on op n)
    → All (IsThere F) os → ((v : TreeOrCause) × (value_with w op os ≡ Some v)) ⊎ F
operation_there F w op os n valued same formed all = elim (all_there F os all) [
  | inl trees ↦
      let v = valued trees.0 (ap (is_well_formed_on op) (trees.2 ∙ sym same) ∙ formed) in
      inl (v.0, ap (option_and_then (result_of w.out w.sources op)) trees.1 ∙ v.1)
  | inr other ↦ inr other
]

value_there : (F : Type 0) (value : Value) (v : TreeOrCause) → value ≡ Some v → ((cause : Cause) → value ≡ Some (Err cause) → F) → IsThere F (tree_of value)
value_there F value (Ok tree) e fails = inl (tree, ap tree_of e)
value_there F value (Err cause) e fails = inr (fails cause e)

origins_there : (F : Type 0) (w : World) (trees : Trees) (origins : List Origin) → All (λ origin. IsThere F (origin_tree w trees origin)) origins
    → All (IsThere F) (map (origin_tree w trees) origins)
origins_there F w trees [] all = All-nil (IsThere F)
origins_there F w trees (origin ∷ origins) all =
    All-cons (IsThere F) (origin_tree w trees origin) (map (origin_tree w trees) origins)
    (All-head (λ o. IsThere F (origin_tree w trees o)) origin origins all)
    (origins_there F w trees origins (All-tail (λ o. IsThere F (origin_tree w trees o)) origin origins all))

map_long : (w : World) (trees : Trees) (origins : List Origin) → length (map (origin_tree w trees) origins) ≡ length origins
map_long w trees [] = refl
map_long w trees (origin ∷ origins) = ap suc (map_long w trees origins)

-- an operation on a tree and on what is named
named_there : (F : Type 0) (w : World) (trees : Trees) (op : Op) (base : Option TreeMap) (origins : List Origin) → HasValue w op
    → IsTrue (is_well_formed_on op (length origins + 1)) → IsThere F base → All (λ origin. IsThere F (origin_tree w trees origin)) origins
    → ((v : TreeOrCause) × (value_with w op (base ∷ map (origin_tree w trees) origins) ≡ Some v)) ⊎ F
named_there F w trees op base origins valued formed first all =
    operation_there F w op (base ∷ map (origin_tree w trees) origins) (length origins + 1) valued (let n = map_long w trees origins in omega (arith, n)) formed
    (All-cons (IsThere F) base (map (origin_tree w trees) origins) first (origins_there F w trees origins all))

laid_there : (F : Type 0) (before : Option TreeMap) (value : Value) (v : TreeOrCause) → value ≡ Some v → IsThere F before
    → ((cause : Cause) → laid_over before value ≡ Some (Err cause) → F) → IsThere F (tree_of (laid_over before value))
laid_there F before value (Err cause) e there fails = inr (fails cause (ap (laid_over before) e))
laid_there F before value (Ok tree) e (inr other) fails = inr other
laid_there F before value (Ok tree) e (inl base) fails = inl (over base.0 tree, rw (base.1, e) refl)

action_there : (F : Type 0) (w : World) (trees : Trees) (before : Option TreeMap) (action : Action) → IsAction action
    → NamesOnly (λ origin. IsThere F (origin_tree w trees origin)) action → IsThere F before
    → ((cause : Cause) → action_value w trees before action ≡ Some (Err cause) → F) → IsThere F (tree_of (action_value w trees before action))
action_there F w trees before (Run exec from) formed names there fails =
    elim (named_there F w trees (ExecOp exec) before from (run_valued w exec) formed there names) [
      | inl v ↦ value_there F (action_value w trees before (Run exec from)) v.0 v.1 fails
      | inr other ↦ inr other
    ]
action_there F w trees before (Copy files from false) formed names there fails =
    elim (named_there F w trees (CopyOp files) before (listed from) (copy_valued w files) formed there names) [
      | inl v ↦ value_there F (action_value w trees before (Copy files from false)) v.0 v.1 fails
      | inr other ↦ inr other
    ]
action_there F w trees before (Copy files from true) formed names there fails =
    elim (named_there F w trees (CopyOp files) (Some empty_tree) (listed from) (copy_valued w files) formed (inl (empty_tree, refl)) names) [
      | inl v ↦ laid_there F before (value_with w (CopyOp files) (Some empty_tree ∷ map (origin_tree w trees) (listed from))) v.0 v.1 there fails
      | inr other ↦ inr other
    ]
action_there F w trees before (MakeDirs path) formed names there fails =
    elim (operation_there F w (MakeDirsOp path) (before ∷ []) 1 (dirs_valued w path) refl formed
    (All-cons (IsThere F) before [] there (All-nil (IsThere F)))) [
      | inl v ↦ value_there F (action_value w trees before (MakeDirs path)) v.0 v.1 fails
      | inr other ↦ inr other
    ]

steps_there : (F : Type 0) (w : World) (trees : Trees) (before : Option TreeMap) (steps : List Step) → All IsStep steps
    → All (λ step. NamesOnly (λ origin. IsThere F (origin_tree w trees origin)) step.action) steps → IsThere F before
    → ((line : ℕ) (cause : Cause) → Contains (step_failures w trees before steps) (line, cause) → F) → IsThere F (tree_after w trees before steps)
steps_there F w trees before [] formed names there fails = there
steps_there F w trees before (step ∷ steps) formed names there fails =
    let value : Value = action_value w trees before step.action in
    let rest : List (ℕ × Cause) = step_failures w trees (tree_of value) steps in
    steps_there F w trees (tree_of value) steps (All-tail IsStep step steps formed)
    (All-tail (λ (x : Step). NamesOnly (λ o. IsThere F (origin_tree w trees o)) x.action) step steps names)
    (action_there F w trees before step.action (All-head IsStep step steps formed).action
    (All-head (λ (x : Step). NamesOnly (λ o. IsThere F (origin_tree w trees o)) x.action) step steps names) there
    (λ cause e. fails step.line cause
    (Contains-append_left (failure_of step.line value) rest (step.line, cause) (failure_there step.line step.line value cause refl e))))
    (λ line cause h. fails line cause (Contains-append_right (failure_of step.line value) rest (line, cause) h))

-- what a row names is there
some_is : (o : Option TreeMap) → is_some o ≡ true → (tree : TreeMap) × (o ≡ Some tree)
some_is None e = absurd cc
some_is (Some tree) e = (tree, refl)

-- each stage of some rows is there
abbrev AllThere : Type 0 → Trees → Rows → Type 0
AllThere F trees rows = (number : ℕ) (stage : Stage) → slice_get rows number ≡ Some (Some stage) → IsThere F (slice_index_or trees number None)

origin_there : (F : Type 0) (w : World) (trees : Trees) (rows : Rows) (origin : Origin) → AllThere F trees rows → IsNamed rows origin
    → HasTree w.sources origin → IsThere F (origin_tree w trees origin)
origin_there F w trees rows (SourceOf source) all named has = inl (some_is (source_tree w.sources source) has)
origin_there F w trees rows (StageOf number) all named has = all number named.0 named.1

names_both : (P Q R : Origin → Type 0) → ((origin : Origin) → P origin → Q origin → R origin) → (action : Action) → NamesOnly P action
    → NamesOnly Q action → NamesOnly R action
names_both P Q R to (Run exec from) p q = λ k d lt. to (slice_index_or from k d) (p k d lt) (q k d lt)
names_both P Q R to (Copy files from linked) p q = λ k d lt. to (slice_index_or (listed from) k d) (p k d lt) (q k d lt)
names_both P Q R to (MakeDirs path) p q = tt

row_there : (F : Type 0) (w : World) (trees : Trees) (rows : Rows) (row : Option Stage) (stage : Stage) → AllThere F trees rows → row ≡ Some stage
    → IsRow rows row → RowNames (HasTree w.sources) row
    → ((line : ℕ) (cause : Cause) → Contains (stage_failures w trees row) (line, cause) → F) → IsThere F (stage_tree w trees row)
row_there F w trees rows None stage all e is has fails = absurd cc
row_there F w trees rows (Some other) stage all e is has fails =
    let to : (origin : Origin) → IsNamed rows origin → HasTree w.sources origin
    → IsThere F (origin_tree w trees origin) = λ origin. origin_there F w trees rows origin all in
    steps_there F w trees (origin_tree w trees other.base) other.steps is.0.steps
    (λ k d lt. names_both (IsNamed rows) (HasTree w.sources) (λ o. IsThere F (origin_tree w trees o)) to (slice_index_or other.steps k d).action
    (is.1.steps k d lt) (has.steps k d lt))
    (to other.base is.1.base has.base) fails

rows_there : (F : Type 0) (w : World) (all done rows : Rows) (trees : Trees) → all ≡ done ++ rows → IsWellFormed all
    → All (RowNames (HasTree w.sources)) rows → length trees ≡ length done → AllThere F trees done
    → ((line : ℕ) (cause : Cause) → Contains (failures_from w trees rows) (line, cause) → F) → AllThere F (trees_from w trees rows) (done ++ rows)
rows_there F w all done [] trees split formed has long there fails number stage e =
    there number stage (ap (λ (rs : Rows). slice_get rs number) (sym (append-nil done)) ∙ e)
rows_there F w all done (row ∷ rows) trees split formed has long there fails number stage e =
    let here : ((line : ℕ) (cause : Cause) → Contains (stage_failures w trees row) (line, cause) → F) =
    λ line cause h. fails line cause (Contains-append_left (stage_failures w trees row) _ (line, cause) h) in
    let is : IsRow done row = formed done rows row split in
    let tree : Option TreeMap = stage_tree w trees row in
    let next : AllThere F (trees ++ tree ∷ []) (done ++ row ∷ []) = λ n s f. elim (slice_get-last_cases done row (Some s) n f) [
      | inl before ↦
          let in_done : n < length done = slice_get_within done n (Some s) before in
          let same : slice_index_or (trees ++ tree ∷ []) n None ≡ slice_index_or trees n None =
          get_or_append_left trees (tree ∷ []) None n (omega (arith, in_done, long)) in
          subst (IsThere F) (sym same) (there n s before)
      | inr last ↦
          let place : length trees + 0 ≡ n = omega (arith, last.0, long) in
          let same : slice_index_or (trees ++ tree ∷ []) n None ≡ tree =
          subst (λ k. slice_index_or (trees ++ tree ∷ []) k None ≡ tree) place (get_or-append-add trees (tree ∷ []) 0 None) in
          subst (IsThere F) (sym same) (row_there F w trees done row s there last.1 is (All-head (RowNames (HasTree w.sources)) row rows has) here)
    ] in
    rows_there F w all (done ++ row ∷ []) rows (trees ++ tree ∷ []) (split ∙ sym (append_assoc done (row ∷ []) rows)) formed
    (All-tail (RowNames (HasTree w.sources)) row rows has)
    (length-append trees (tree ∷ []) ∙ (ap (λ n. n + 1) long ∙ sym (length-append done (row ∷ [])))) next
    (λ line cause h. fails line cause (Contains-append_right (stage_failures w trees row) _ (line, cause) h)) number stage
    (ap (λ (rs : Rows). slice_get rs number) (append_assoc done (row ∷ []) rows) ∙ e)

-- some instruction fails
abbrev SomeFails : World → Rows → Type 0
SomeFails w rows = (failure : ℕ × Cause) × Fails w rows failure.0 failure.1

outcome_by : (w : World) (rows : Rows) (target : ℕ) (o : Option TreeMap) → tree_of_stage w rows target ≡ o
    → IsThere (SomeFails w rows) (tree_of_stage w rows target) → (outcome : Result TreeMap (ℕ × Cause)) × IsOutcome w rows target outcome
outcome_by w rows target (Some tree) e there = (Ok tree, e)
outcome_by w rows target None e (inl tree) = (let f : None ≡ Some tree.0 = sym e ∙ tree.1 in absurd cc)
outcome_by w rows target None e (inr failure) = (let first = serial_there w rows failure.0.0 failure.0.1 failure.1 in (Err first.0, (e, first.1)))

-- a well-formed file has an outcome
pub outcome_is : (w : World) (rows : Rows) (target : ℕ) (stage : Stage) → IsWellFormed rows → All (RowNames (HasTree w.sources)) rows
    → slice_get rows target ≡ Some (Some stage) → (outcome : Result TreeMap (ℕ × Cause)) × IsOutcome w rows target outcome
outcome_is w rows target stage formed has there =
    outcome_by w rows target (tree_of_stage w rows target) refl
    (rows_there (SomeFails w rows) w rows [] rows [] refl formed has refl (λ number s e. absurd cc) (λ line cause h. ((line, cause), h)) target stage there)
