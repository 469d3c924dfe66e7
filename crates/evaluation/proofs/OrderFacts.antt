-- The lines of what is evaluated ascend as those of the table do, and what a stage names its row names.
use Rattle.std.specs.Prelude.{◌≡◌, ◌<◌, ◌≤◌, ◌+◌, ℕ, zero, suc, Bool, true, false, List, [], ◌∷◌, ◌++◌, map, Option, Some, None, Ok, Contains, length, slice_get, refl, if◌then◌else◌}
use Rattle.std.specs.List.{All, list_all, list_any}
use Rattle.std.proofs.Common.{sym, ◌∙◌, ap, subst, arith, inl, inr, append_assoc, append-nil, length-append}
use Rattle.std.proofs.lemmas.Bool.{true≢false}
use Rattle.std.proofs.lemmas.List.Elements.{All-head, All-tail, Contains-append_right, Contains-append_cases}
use Rattle.plain.specs.Marks.{is_marked, IsPath}
use Rattle.llb.specs.Places.{AscendFrom}
use Rattle.llb.specs.WellFormed.{is_pattern}
use Rattle.llb.specs.declared.op.CopyFiles.{CopyFiles}
use Rattle.llb.proofs.LineFacts.{contains_nil, contains_here, contains_cases}
use Rattle.plans.specs.Images.{ImagesValue}
use Rattle.rows.specs.Order.{row_lines, file_lines, IsInOrder, ActionNames, StageNamesStage, NamesStage, NeedsAllStages}
use Rattle.rows.specs.Rows.{Rows}
use Rattle.rows.specs.declared.row.Action.{Action}
use Rattle.rows.specs.declared.row.Action.TheVariants.{Copy as CopyAction}
use Rattle.rows.specs.declared.row.Origin.{Origin}
use Rattle.rows.specs.declared.row.Origin.TheVariants.{Stage as StageOf}
use Rattle.rows.specs.declared.row.Stage.{Stage}
use Rattle.rows.specs.declared.row.Step.{Step}
use Rattle.expand.specs.Value.{value}
use Rattle.instructions.specs.Instruction.{is_files}
use Rattle.instructions.specs.declared.instruction.InstructionKind.{InstructionKind}
use Rattle.instructions.specs.declared.instruction.InstructionKind.TheVariants.{From, Arg, Env, Label, Expose, User, Workdir, StopSignal, Volume, Shell, Cmd, Entrypoint, Run, Copy}
use Rattle.instructions.specs.declared.instruction.Source.{Source}
use Rattle.instructions.specs.declared.instruction.Source.TheVariants.{Files, Document}
use Rattle.scopes.specs.Evaluate.{Values}
use Rattle.scopes.specs.Scope.{value_in}
use Rattle.stages.specs.Needed.{origins_in, stage_origins, Refers, AreNeeded}
use Rattle.stages.specs.Table.{TableValue, IsResolved, IsStage, IsTable, stage_lines, lines_of}
use Rattle.stages.specs.declared.stage.ResolvedInstruction.{ResolvedInstruction}
use Rattle.stages.specs.declared.stage.ResolvedStage.{ResolvedStage}
use Rattle.actions.specs.Copy.{file_sources, origin_for, copied, copy_action}
use Rattle.actions.specs.Run.{run_action}
use Rattle.imageconfig.specs.declared.config.Config.{Config}
use Rattle.evaluation.specs.Evaluated.{no_stage}
use Rattle.evaluation.specs.Instruction.{action_in, first_of, dir_in}
use Rattle.evaluation.specs.Stages.{step_of, with_instruction, next_instruction, instructions_from, begun, with_none, stage_from, next_stage, stages_from}
use Rattle.evaluation.specs.declared.stage.Progress.{Progress}
use Rattle.evaluation.specs.declared.state.State.{State}
use Rattle.evaluation.specs.declared.walk.Walk.{Walk}
use Rattle.evaluation.proofs.FoldFacts.{went}
use Rattle.evaluation.proofs.NeededFacts.{named_marked}
use Rattle.evaluation.proofs.ReachedFacts.{same_ok, next_made, stage_made}

-- lines of which some are left out

-- these lines ascend where those do, whatever comes after both
abbrev pub AscendLike : List ℕ → List ℕ → Type 0
AscendLike these those =
    (after_these after_those : List ℕ) → ((low : ℕ) → AscendFrom low after_those → AscendFrom low after_these) → (low : ℕ)
    → AscendFrom low (those ++ after_those) → AscendFrom low (these ++ after_these)

pub ascend_lower : (low high : ℕ) (lines : List ℕ) → low ≤ high → AscendFrom high lines → AscendFrom low lines
ascend_lower low high [] le ascend = tt
ascend_lower low high (line ∷ lines) le ascend = (let above = ascend.0 in omega (arith, le, above), (ascend.1.0, ascend.1.1))

pub none_ascend : (those : List ℕ) → AscendLike [] those
none_ascend [] after_these after_those rest low ascend = rest low ascend
none_ascend (line ∷ those) after_these after_those rest low ascend =
    ascend_lower low line after_these (let above = ascend.0 in omega (arith, above)) (none_ascend those after_these after_those rest line ascend.1.1)

one_ascends : (line : ℕ) → AscendLike (line ∷ []) (line ∷ [])
one_ascends line after_these after_those rest low ascend = (ascend.0, (ascend.1.0, rest line ascend.1.1))

pub both_ascend : (these those more others : List ℕ) → AscendLike these those → AscendLike more others → AscendLike (these ++ more) (those ++ others)
both_ascend these those more others first second after_these after_those rest low ascend =
    subst (AscendFrom low) (sym (append_assoc these more after_these))
    (first (more ++ after_these) (others ++ after_those) (second after_these after_those rest) low
    (subst (AscendFrom low) (append_assoc those others after_those) ascend))

-- the lines of some steps
abbrev lines_in : List Step → List ℕ
lines_in steps = map (λ (step : Step). step.line) steps

lines_in-append : (steps more : List Step) → lines_in (steps ++ more) ≡ lines_in steps ++ lines_in more
lines_in-append [] more = refl
lines_in-append (step ∷ steps) more = ap (λ lines. step.line ∷ lines) (lines_in-append steps more)

-- the lines of some instructions
abbrev pub inner_of : List ResolvedInstruction → List ℕ
inner_of rs = map (λ r. r.instruction.line) rs

step_ascends : (line : ℕ) (action : Option Action) → AscendLike (lines_in (step_of line action)) (line ∷ [])
step_ascends line None = none_ascend (line ∷ [])
step_ascends line (Some action) = one_ascends line

-- what an instruction names its action names

abbrev ActsOn : Option Action → ℕ → Type 0
ActsOn acted number = (action : Action) × (acted ≡ Some action) × ActionNames action number

none_left : {X : Type 0} (xs : List X) → length xs ≡ 0 → xs ≡ []
none_left [] e = refl
none_left (x ∷ xs) e = absurd (omega (arith, e))

one_left : {X : Type 0} (xs : List X) → length xs ≡ 1 → (x : X) × (xs ≡ x ∷ [])
one_left [] e = absurd (omega (arith, e))
one_left (x ∷ []) e = (x, refl)
one_left (x ∷ y ∷ xs) e = absurd (omega (arith, e))

names_nothing : (acted : Option Action) (origins : List Origin) (number : ℕ) → length origins ≡ 0 → Contains origins (StageOf number) → ActsOn acted number
names_nothing acted origins number e h =
    absurd (contains_nil {X = Origin} (StageOf number) (subst (λ os. Contains os (StageOf number)) (none_left origins e) h))

has_pattern : (before : Values) (sources : List Source) → 0 < length sources → list_all is_files sources ≡ true
    → list_any is_pattern (file_sources before sources) ≡ true
has_pattern before [] some all = absurd (omega (arith, some))
has_pattern before (Files pattern ∷ sources) some all = refl
has_pattern before (Document name body ∷ sources) some all = absurd (true≢false (sym all))

copy_names : (files : CopyFiles) (linked : Bool) (origins : List Origin) (number : ℕ) → length origins ≡ 1 → list_any is_pattern files.sources ≡ true
    → Contains origins (StageOf number) → ActionNames (CopyAction files (origin_for files.sources (first_of origins)) linked) number
copy_names files linked origins number e some h =
    let one = one_left origins e in
    let here : Contains (one.0 ∷ []) (StageOf number) = subst (λ os. Contains os (StageOf number)) one.1 h in
    let from : origin_for files.sources (first_of origins) ≡ Some one.0 = rw some (ap (λ os. Some (first_of os)) one.1) in
    subst (λ o. ActionNames (CopyAction files o linked) number) (sym from) here

acts_by : (s : State) (own line : ℕ) (kind : InstructionKind) (origins : List Origin) (number : ℕ)
    → IsResolved own (record { instruction = record { line = line; kind = kind }; origins = origins })
    → Contains origins (StageOf number) → ActsOn (action_in s kind origins) number
acts_by s own line (From image name) origins number is h = names_nothing None origins number is.count h
acts_by s own line (Arg arguments) origins number is h = names_nothing None origins number is.count h
acts_by s own line (Env assignments) origins number is h = names_nothing None origins number is.count h
acts_by s own line (Label labels) origins number is h = names_nothing None origins number is.count h
acts_by s own line (Expose ports) origins number is h = names_nothing None origins number is.count h
acts_by s own line (User user) origins number is h = names_nothing None origins number is.count h
acts_by s own line (Workdir path) origins number is h = names_nothing (action_in s (Workdir path) origins) origins number is.count h
acts_by s own line (StopSignal signal) origins number is h = names_nothing None origins number is.count h
acts_by s own line (Volume paths) origins number is h = names_nothing None origins number is.count h
acts_by s own line (Shell words) origins number is h = names_nothing None origins number is.count h
acts_by s own line (Cmd command) origins number is h = names_nothing None origins number is.count h
acts_by s own line (Entrypoint command) origins number is h = names_nothing None origins number is.count h
acts_by s own line (Run mounts command) origins number is h =
    (run_action s.scope (dir_in s) s.config.user s.config.shell mounts command origins, refl, h)
acts_by s own line (Copy sources destination flags) origins number is h =
    let before = value_in s.scope in
    let some = has_pattern before sources is.whole.0 (is.patterns sources destination flags number refl h) in (
      copy_action s.scope (dir_in s) sources destination flags (first_of origins),
      refl,
      copy_names (copied (dir_in s) (file_sources before sources) (value before destination) flags) flags.is_linked origins number is.count some h,
    )

acts_on : (s : State) (own : ℕ) (r : ResolvedInstruction) (number : ℕ) → IsResolved own r → Contains r.origins (StageOf number)
    → ActsOn (action_in s r.instruction.kind r.origins) number
acts_on s own r number is h = acts_by s own r.instruction.line r.instruction.kind r.origins number is h

-- what some instructions add to a stage
record StepsAdded (p q : Progress) (rs : List ResolvedInstruction) : Type 0 where
  more : List Step
  are : q.steps ≡ p.steps ++ more
  ascend : AscendLike (lines_in more) (inner_of rs)
  named : (number : ℕ) → Contains (origins_in rs) (StageOf number) → (step : Step) × Contains more step × ActionNames step.action number

step_there : (line : ℕ) (acted : Option Action) (action : Action) (more : List Step) → acted ≡ Some action
    → Contains (step_of line acted ++ more) (record { line = line; action = action })
step_there line acted action more e = rw e (contains_here {X = Step} (record { line = line; action = action }) more)

steps_added : (args outer : Values) (own : ℕ) (rs : List ResolvedInstruction) (p q : Progress) → All (IsResolved own) rs
    → instructions_from args outer (Ok p) rs ≡ Ok q → StepsAdded p q rs
steps_added args outer own [] p q are h = record {
  more = [];
  are = ap (λ (x : Progress). x.steps) (sym (same_ok p q h)) ∙ sym (append-nil p.steps);
  ascend = none_ascend [];
  named = λ number named. absurd (contains_nil {X = Origin} (StageOf number) named);
}
steps_added args outer own (r ∷ rs) p q are h =
    let step = went (next_instruction args outer) (next_instruction args outer p r) rs q h in
    let made : with_instruction args outer p r ≡ step.next = next_made args outer p step.next r step.is in
    let rest = steps_added args outer own rs step.next q (All-tail (IsResolved own) r rs are) step.on in
    let acted : Option Action = action_in p.state r.instruction.kind r.origins in
    let here : List Step = step_of r.instruction.line acted in
    record {
      more = here ++ rest.more;
      are = rest.are ∙ (ap (λ (x : Progress). x.steps ++ rest.more) (sym made) ∙ append_assoc p.steps here rest.more);
      ascend = subst (λ lines. AscendLike lines (r.instruction.line ∷ inner_of rs)) (sym (lines_in-append here rest.more))
          (both_ascend (lines_in here) (r.instruction.line ∷ []) (lines_in rest.more) (inner_of rs) (step_ascends r.instruction.line acted) rest.ascend);
      named = λ number named. elim (Contains-append_cases r.origins (origins_in rs) (StageOf number) named) [
        | inl mine ↦
            let acts = acts_on p.state own r number (All-head (IsResolved own) r rs are) mine in
            (record { line = r.instruction.line; action = acts.0 }, step_there r.instruction.line acted acts.0 rest.more acts.1, acts.2)
        | inr others ↦ (let found = rest.named number others in (found.0, Contains-append_right here rest.more found.0 found.1, found.2))
      ];
    }

-- what a stage adds to the rows

-- a row names all stages that its stage does
abbrev NamesAsStage : ResolvedStage → Stage → Type 0
NamesAsStage stage row = (number : ℕ) → Contains (stage_origins stage) (StageOf number) → StageNamesStage row number

record RowAdded (walk next : Walk) (stage : ResolvedStage) (marked : Bool) : Type 0 where
  row : Option Stage
  are : next.rows ≡ walk.rows ++ row ∷ []
  ascend : AscendLike (row_lines row) (stage_lines stage)
  named : marked ≡ true → (s : Stage) × (row ≡ Some s) × NamesAsStage stage s
  only : (s : Stage) → row ≡ Some s → marked ≡ true

row_added : (args outer : Values) (images : ImagesValue Config) (own : ℕ) (walk next : Walk) (stage : ResolvedStage) (marked : Bool) → IsStage own stage
    → (if marked then stage_from args outer images walk stage else Ok (with_none walk)) ≡ Ok next → RowAdded walk next stage marked
row_added args outer images own walk next stage true is e =
    let made = stage_made args outer images walk stage next e in
    let steps = steps_added args outer own stage.instructions (begun images walk stage) made.last is.instructions made.went in
    let row : Stage = record { line = stage.line; base = stage.base; steps = made.last.steps } in
    record {
      row = Some row;
      are = ap (λ (w : Walk). w.rows) (sym made.is);
      ascend = both_ascend (stage.line ∷ []) (stage.line ∷ []) (lines_in made.last.steps) (inner_of stage.instructions) (one_ascends stage.line)
          (subst (λ (ss : List Step). AscendLike (lines_in ss) (inner_of stage.instructions)) (sym steps.are) steps.ascend);
      named = λ marks. (
        row,
        refl,
        λ number h. elim (contains_cases {X = Origin} stage.base (StageOf number) (origins_in stage.instructions) h) [
          | inl same ↦ inl (sym same)
          | inr there ↦
              let found = steps.named number there in
              inr (found.0, subst (λ (ss : List Step). Contains ss found.0) (sym steps.are) found.1, found.2)
        ],
      );
      only = λ s f. refl;
    }
row_added args outer images own walk next stage false is e = record {
  row = None;
  are = ap (λ (w : Walk). w.rows) (sym (same_ok (with_none walk) next e));
  ascend = none_ascend (stage_lines stage);
  named = λ marks. absurd (true≢false (sym marks));
  only = λ s f. absurd cc;
}

-- what some stages add to the rows
record RowsAdded (needed : List Bool) (walk last : Walk) (stages : List ResolvedStage) : Type 0 where
  more : Rows
  are : last.rows ≡ walk.rows ++ more
  ascend : AscendLike (file_lines more) (lines_of stages)
  named : (number : ℕ) (stage : ResolvedStage) → slice_get stages number ≡ Some stage → is_marked needed (length walk.rows + number) ≡ true
      → (s : Stage) × (slice_get more number ≡ Some (Some s)) × NamesAsStage stage s
  only : (number : ℕ) (s : Stage) → slice_get more number ≡ Some (Some s) → is_marked needed (length walk.rows + number) ≡ true

rows_more : (needed : List Bool) (walk next last : Walk) (stage : ResolvedStage) (stages : List ResolvedStage)
    → RowAdded walk next stage (is_marked needed (length walk.rows)) → RowsAdded needed next last stages → RowsAdded needed walk last (stage ∷ stages)
rows_more needed walk next last stage stages here rest = record {
  more = here.row ∷ rest.more;
  are = rest.are ∙ (ap (λ rs. rs ++ rest.more) here.are ∙ append_assoc walk.rows (here.row ∷ []) rest.more);
  ascend = both_ascend (row_lines here.row) (stage_lines stage) (file_lines rest.more) (lines_of stages) here.ascend rest.ascend;
  named = λ number s e marked. by_number number s e marked;
  only = λ number s e. by_row number s e;
}
  where
    long : length next.rows ≡ length walk.rows + 1
    long = ap length here.are ∙ length-append walk.rows (here.row ∷ [])

    at : (number : ℕ) → length next.rows + number ≡ length walk.rows + suc number
    at number = (let one_more = long in omega (arith, one_more))

    first : length walk.rows + 0 ≡ length walk.rows
    first = omega arith

    by_number : (number : ℕ) (s : ResolvedStage) → slice_get (stage ∷ stages) number ≡ Some s → is_marked needed (length walk.rows + number) ≡ true
        → (row : Stage) × (slice_get (here.row ∷ rest.more) number ≡ Some (Some row)) × NamesAsStage s row
    by_number zero s e marked =
        let same : stage ≡ s = cc in
        let found = here.named (subst (λ n. is_marked needed n ≡ true) first marked) in
        (found.0, ap Some found.1, subst (λ t. NamesAsStage t found.0) same found.2)
    by_number (suc number) s e marked = rest.named number s e (subst (λ n. is_marked needed n ≡ true) (sym (at number)) marked)

    by_row : (number : ℕ) (row : Stage) → slice_get (here.row ∷ rest.more) number ≡ Some (Some row)
        → is_marked needed (length walk.rows + number) ≡ true
    by_row zero row e = (let same : here.row ≡ Some row = cc in subst (λ n. is_marked needed n ≡ true) (sym first) (here.only row same))
    by_row (suc number) row e = subst (λ n. is_marked needed n ≡ true) (at number) (rest.only number row e)

-- each of some stages is one in its place, whichever that is
abbrev AreStages : List ResolvedStage → Type 0
AreStages stages = (number : ℕ) (stage : ResolvedStage) → slice_get stages number ≡ Some stage → (own : ℕ) × IsStage own stage

rows_added : (args outer : Values) (images : ImagesValue Config) (needed : List Bool) (stages : List ResolvedStage) (walk last : Walk) → AreStages stages
    → stages_from args outer images needed (Ok walk) stages ≡ Ok last → RowsAdded needed walk last stages
rows_added args outer images needed [] walk last are h = record {
  more = [];
  are = ap (λ (w : Walk). w.rows) (sym (same_ok walk last h)) ∙ sym (append-nil walk.rows);
  ascend = none_ascend [];
  named = λ number stage e marked. absurd cc;
  only = λ number s e. absurd cc;
}
rows_added args outer images needed (stage ∷ stages) walk last are h =
    let step = went (next_stage args outer images needed) (next_stage args outer images needed walk stage) stages last h in
    let mine = are 0 stage refl in
    rows_more needed walk step.next last stage stages
    (row_added args outer images mine.0 walk step.next stage (is_marked needed (length walk.rows)) mine.1 step.is)
    (rows_added args outer images needed stages step.next last (λ number s e. are (suc number) s e) step.on)

table_rows : (args outer : Values) (images : ImagesValue Config) (needed : List Bool) (table : TableValue) (walk : Walk) → IsTable table
    → stages_from args outer images needed (Ok no_stage) table.stages ≡ Ok walk → RowsAdded needed no_stage walk table.stages
table_rows args outer images needed table walk whole h =
    rows_added args outer images needed table.stages no_stage walk (λ number stage there. (number, whole.each number stage there)) h

pub evaluated_in_order : (args outer : Values) (images : ImagesValue Config) (needed : List Bool) (table : TableValue) (walk : Walk) → IsTable table
    → stages_from args outer images needed (Ok no_stage) table.stages ≡ Ok walk → IsInOrder walk.rows
evaluated_in_order args outer images needed table walk whole h =
    let rows = table_rows args outer images needed table walk whole h in
    let those : AscendFrom 0 (lines_of table.stages ++ []) = subst (AscendFrom 0) (sym (append-nil (lines_of table.stages))) whole.lines in
    let these : AscendFrom 0 (file_lines rows.more ++ []) = rows.ascend [] [] (λ low ascend. ascend) 0 those in
    subst (λ rs. AscendFrom 0 (file_lines rs)) (sym rows.are) (subst (AscendFrom 0) (append-nil (file_lines rows.more)) these)

-- a path from a needed stage goes along the rows
path_rows : (needed : List Bool) (table : TableValue) (rows : Rows) → AreNeeded table.stages table.target needed
    → ((number : ℕ) (stage : ResolvedStage) → slice_get table.stages number ≡ Some stage → is_marked needed number ≡ true
    → (s : Stage) × (slice_get rows number ≡ Some (Some s)) × NamesAsStage stage s)
    → (from : ℕ) (path : List ℕ) (to : ℕ) → is_marked needed from ≡ true → IsPath (Refers table.stages) from path to → IsPath (NamesStage rows) from path to
path_rows needed table rows are named from [] to marked leads = leads
path_rows needed table rows are named from (next ∷ path) to marked leads =
    let refers = leads.0 in
    let row = named from refers.stage refers.there marked in
    let on = named_marked table.stages table.target needed from refers.stage are refers.there marked next refers.named in (
      record { stage = row.0; there = row.1; named = row.2 next refers.named },
      path_rows needed table rows are named next path to on leads.1,
    )

pub evaluated_needs : (args outer : Values) (images : ImagesValue Config) (needed : List Bool) (table : TableValue) (walk : Walk) → IsTable table
    → AreNeeded table.stages table.target needed → stages_from args outer images needed (Ok no_stage) table.stages ≡ Ok walk
    → NeedsAllStages walk.rows table.target
evaluated_needs args outer images needed table walk whole are h number stage there =
    let rows = table_rows args outer images needed table walk whole h in
    let from_zero : (n : ℕ) → 0 + n ≡ n = λ n. omega arith in
    let named : (n : ℕ) (s : ResolvedStage) → slice_get table.stages n ≡ Some s → is_marked needed n ≡ true
    → (row : Stage) × (slice_get walk.rows n ≡ Some (Some row)) × NamesAsStage s row = λ n s e marked.
    let found = rows.named n s e (subst (λ m. is_marked needed m ≡ true) (sym (from_zero n)) marked) in
    (found.0, ap (λ rs. slice_get rs n) rows.are ∙ found.1, found.2) in
    let marked : is_marked needed number ≡ true =
    subst (λ m. is_marked needed m ≡ true) (from_zero number) (rows.only number stage (ap (λ rs. slice_get rs number) (sym rows.are) ∙ there)) in
    let path = (are.just number).0 marked in
    (path.0, path_rows needed table walk.rows are named table.target path.0 number ((are.just table.target).1 ([], refl)) path.1)
