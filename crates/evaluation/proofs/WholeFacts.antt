-- What is made of a table's needed stages is such as lowering asks for.
use Rattle.std.specs.Prelude.{◌≡◌, ◌≤◌, ◌<◌, ℕ, zero, suc, Bool, true, false, List, [], ◌∷◌, ◌++◌, Option, Some, None, option_map, is_some, IsTrue, Result, Ok, Err, IfOk, length, slice_get, refl, if◌then◌else◌}
use Rattle.std.specs.List.{All}
use Rattle.std.specs.FinMap.{get, len}
use Rattle.std.proofs.Common.{sym, ◌∙◌, ap, subst, arith}
use Rattle.std.proofs.lemmas.Option.{slice_get_within, get_or_from_slice_get}
use Rattle.std.proofs.lemmas.List.Elements.{All-nil, All-cons, All-head, All-tail, All-weaker}
use Rattle.plain.specs.Limits.{most_images, most_lines}
use Rattle.plain.specs.declared.fault.Fault.{Fault}
use Rattle.expand.specs.declared.reason.Rejection.{Rejection}
use Rattle.trees.specs.TreeMap.{TreeMap}
use Rattle.llb.specs.Places.{IsLine, AscendFrom}
use Rattle.llb.specs.declared.op.Source.TheVariants.{Scratch, Context, Image}
use Rattle.plans.specs.Images.{ImagesValue}
use Rattle.plans.specs.Sources.{SourcesValue}
use Rattle.plans.specs.declared.images.Image as image
use Rattle.rows.specs.Order.{IsInOrder, NeedsAllStages}
use Rattle.rows.specs.Rows.{Rows}
use Rattle.rows.specs.WellFormed.{IsWellFormed, HasTree, RowNames, count_of_steps}
use Rattle.rows.specs.declared.row.Origin.{Origin}
use Rattle.rows.specs.declared.row.Origin.TheVariants.{Source as SourceOf, Stage as StageOf}
use Rattle.rows.specs.declared.row.Stage.{Stage}
use Rattle.scopes.specs.Evaluate.{Values}
use Rattle.stages.specs.Naming.{names_in}
use Rattle.stages.specs.Needed.{AreNeeded}
use Rattle.stages.specs.Table.{TableValue, IsTable, IsKnown, NamesKnown, stage_lines, lines_of}
use Rattle.stages.specs.declared.stage.ResolvedInstruction.{ResolvedInstruction}
use Rattle.stages.specs.declared.stage.ResolvedStage.{ResolvedStage}
use Rattle.imageconfig.specs.declared.config.Config.{Config}
use Rattle.evaluation.specs.Evaluated.{no_stage, IsMade}
use Rattle.evaluation.specs.Images.{ImageNames, is_among, AreSources}
use Rattle.evaluation.specs.PrivateKept.{AreKept}
use Rattle.evaluation.specs.PrivateMaking.{Makes, IsWhole, AnswersWhole}
use Rattle.evaluation.specs.PrivateNames.{IsProperBase}
use Rattle.evaluation.specs.Stages.{stages_from}
use Rattle.evaluation.specs.declared.evaluated.Evaluated.{Evaluated}
use Rattle.evaluation.specs.declared.walk.Walk.{Walk}
use Rattle.evaluation.proofs.EvaluatedFacts.{made_of_kept}
use Rattle.evaluation.proofs.LawFacts.{Laws, IsHeld}
use Rattle.evaluation.proofs.NeededFacts.{named_marked}
use Rattle.evaluation.proofs.OrderFacts.{inner_of, evaluated_in_order, evaluated_needs}
use Rattle.evaluation.proofs.RowFacts.{AllFit, WalkKept, row_weaker, walk_kept}

-- the lines of a table's stages

element_is : {X : Type 0} (P : X → Type 0) (xs : List X) (k : ℕ) (x : X) → All P xs → slice_get xs k ≡ Some x → P x
element_is P xs k x all at = subst P (get_or_from_slice_get xs k x x at) (all k x (slice_get_within xs k x at))

ascend_all : (low : ℕ) (lines : List ℕ) → AscendFrom low lines → All IsLine lines
ascend_all low [] are = All-nil IsLine
ascend_all low (line ∷ lines) are =
    let above = are.0 in
    let positive : 0 < line = omega (arith, above) in
    All-cons IsLine line lines (positive, are.1.0) (ascend_all line lines are.1.1)

all_front : (P : ℕ → Type 0) (xs ys : List ℕ) → All P (xs ++ ys) → All P xs
all_front P [] ys all = All-nil P
all_front P (x ∷ xs) ys all = All-cons P x xs (All-head P x (xs ++ ys) all) (all_front P xs ys (All-tail P x (xs ++ ys) all))

all_back : (P : ℕ → Type 0) (xs ys : List ℕ) → All P (xs ++ ys) → All P ys
all_back P [] ys all = all
all_back P (x ∷ xs) ys all = all_back P xs ys (All-tail P x (xs ++ ys) all)

lines_at : (stages : List ResolvedStage) (number : ℕ) (stage : ResolvedStage) → All IsLine (lines_of stages) → slice_get stages number ≡ Some stage → All IsLine (stage_lines stage)
lines_at [] number stage are at = absurd cc
lines_at (s ∷ ss) zero stage are at =
    let same : s ≡ stage = cc in
    subst (λ t. All IsLine (stage_lines t)) same (all_front IsLine (stage_lines s) (lines_of ss) are)
lines_at (s ∷ ss) (suc number) stage are at = lines_at ss number stage (all_back IsLine (stage_lines s) (lines_of ss) are) at

inner_lines : (rs : List ResolvedInstruction) → All IsLine (inner_of rs) → All (λ (r : ResolvedInstruction). IsLine r.instruction.line) rs
inner_lines [] are = All-nil (λ (r : ResolvedInstruction). IsLine r.instruction.line)
inner_lines (r ∷ rs) are =
    All-cons (λ (r' : ResolvedInstruction). IsLine r'.instruction.line) r rs (All-head IsLine r.instruction.line (inner_of rs) are) (inner_lines rs (All-tail IsLine r.instruction.line (inner_of rs) are))

-- each stage of a table is such as evaluating asks for

abbrev AllKnown : (Origin → Type 0) → List ResolvedStage → Type 0
AllKnown K stages = All (λ (stage : ResolvedStage). K stage.base × All (λ (r : ResolvedInstruction). All K r.origins) stage.instructions) stages

pub all_fit : (K : Origin → Type 0) (images : ImagesValue Config) (table : TableValue) (needed : List Bool) → IsTable table → AreNeeded table.stages table.target needed
    → All (λ (stage : ResolvedStage). IsProperBase images stage.base) table.stages → AllKnown K table.stages → AllFit K images needed table.stages
all_fit K images table needed whole are proper known number stage at =
    let lines = lines_at table.stages number stage (ascend_all 0 (lines_of table.stages) whole.lines) at in
    let names = element_is (λ (s : ResolvedStage). K s.base × All (λ (r : ResolvedInstruction). All K r.origins) s.instructions) table.stages number stage known at in
    record {
      is = whole.each number stage at;
      proper = element_is (λ (s : ResolvedStage). IsProperBase images s.base) table.stages number stage proper at;
      known_base = names.0;
      known_origins = names.1;
      line = All-head IsLine stage.line (inner_of stage.instructions) lines;
      lines = inner_lines stage.instructions (All-tail IsLine stage.line (inner_of stage.instructions) lines);
      leads = named_marked table.stages table.target needed number stage are at;
    }

pub nothing_known : (stages : List ResolvedStage) → AllKnown (λ o. Unit {0}) stages
nothing_known stages k d within = (tt, λ j e inside i f deep. tt)

pub names_known : (images : ImagesValue Config) (stages : List ResolvedStage) → All (NamesKnown (names_in images)) stages → AllKnown (IsKnown (names_in images)) stages
names_known images stages are k d within = (let is = are k d within in (is.base, is.instructions))

-- what is named has its tree

some_there : (found : Option (image.Image Config)) → IsTrue (is_some found) → IsTrue (is_some (option_map (λ (i : image.Image Config). i.tree) found))
some_there None is = is
some_there (Some found) is = refl

tree_there : (held : Bool) (found : Option (image.Image Config)) → held ≡ true → IsTrue (is_some found) → IsTrue (is_some (if held then option_map (λ (i : image.Image Config). i.tree) found else None))
tree_there true found is there = some_there found there
tree_there false found is there = absurd cc

has_tree : (images : ImagesValue Config) (context : TreeMap) (names : ImageNames) (sources : SourcesValue) → AreSources context images names sources
    → (o : Origin) → IsKnown (names_in images) o × IsHeld names o → HasTree sources o
has_tree images context names sources are (SourceOf Scratch) is = refl
has_tree images context names sources are (SourceOf Context) is = refl
has_tree images context names sources are (SourceOf (Image name)) is =
    subst (λ (found : Option TreeMap). IsTrue (is_some found)) (sym (are.trees name)) (tree_there (is_among names name) (get images name) is.1 is.0)
has_tree images context names sources are (StageOf number) is = tt

-- what is made is whole

pub rows_named : (images : ImagesValue Config) (context : TreeMap) (number : ℕ) (needed : List Bool) (stages : List ResolvedStage) (walk : Walk) (made : Evaluated) → IsMade images context number walk made
    → WalkKept (IsKnown (names_in images)) needed stages walk → All (RowNames (HasTree made.sources)) made.rows
rows_named images context number needed stages walk made is kept =
    subst (λ (rows : List (Option Stage)). All (RowNames (HasTree made.sources)) rows) (sym is.rows)
    (All-weaker (RowNames (λ o. IsKnown (names_in images) o × IsHeld walk.names o)) (RowNames (HasTree made.sources))
    (row_weaker (λ o. IsKnown (names_in images) o × IsHeld walk.names o) (HasTree made.sources) (has_tree images context walk.names made.sources is.sources)) walk.rows kept.held)

pub target_there : (images : ImagesValue Config) (context : TreeMap) (table : TableValue) (needed : List Bool) (walk : Walk) (made : Evaluated) → IsMade images context table.target walk made → IsTable table
    → AreNeeded table.stages table.target needed → WalkKept (λ o. Unit {0}) needed table.stages walk → (stage : Stage) × (slice_get made.rows made.target ≡ Some (Some stage))
target_there images context table needed walk made is whole are kept =
    let found = kept.marked table.target whole.has_target ((are.just table.target).1 ([], refl)) in (
      found.0,
      subst (λ (rows : List (Option Stage)). slice_get rows made.target ≡ Some (Some found.0)) (sym is.rows)
          (subst (λ n. slice_get walk.rows n ≡ Some (Some found.0)) (sym is.target) found.1),
    )

steps_few : (images : ImagesValue Config) (context : TreeMap) (table : TableValue) (needed : List Bool) (walk : Walk) (made : Evaluated) → IsMade images context table.target walk made → IsTable table
    → WalkKept (λ o. Unit {0}) needed table.stages walk → count_of_steps made.rows < most_lines
steps_few images context table needed walk made is whole kept =
    let few = kept.count in
    let short = whole.short in
    let there = whole.has_target in
    let below : count_of_steps walk.rows < most_lines = omega (arith, few, short, there) in
    subst (λ (rows : List (Option Stage)). count_of_steps rows < most_lines) (sym is.rows) below

is_whole : Laws → (args outer : Values) (images : ImagesValue Config) (context : TreeMap) (table : TableValue) (needed : List Bool) (walk : Walk) (made : Evaluated) → IsTable table
    → AreNeeded table.stages table.target needed → All (λ (stage : ResolvedStage). IsProperBase images stage.base) table.stages
    → stages_from args outer images needed (Ok no_stage) table.stages ≡ Ok walk → IsMade images context table.target walk made → len made.sources.images ≤ length walk.names → IsWhole images table made
is_whole laws args outer images context table needed walk made whole are proper went is few =
    let kept = walk_kept laws (λ o. Unit {0}) args outer images needed table.stages walk (all_fit (λ o. Unit {0}) images table needed whole are proper (nothing_known table.stages)) went in
    record {
      formed = subst IsWellFormed (sym is.rows) kept.formed;
      has_target = target_there images context table needed walk made is whole are kept;
      named = λ known. rows_named images context table.target needed table.stages walk made is
          (walk_kept laws (IsKnown (names_in images)) args outer images needed table.stages walk (all_fit (IsKnown (names_in images)) images table needed whole are proper (names_known images table.stages known)) went);
      few_images = (let most = kept.few in omega (arith, few, most));
      few_steps = steps_few images context table needed walk made is whole kept;
      in_order = subst IsInOrder (sym is.rows) (evaluated_in_order args outer images needed table walk whole went);
      needs = subst (λ (rows : Rows). NeedsAllStages rows made.target) (sym is.rows)
          (subst (λ (n : ℕ). NeedsAllStages walk.rows n) (sym is.target) (evaluated_needs args outer images needed table walk whole are went));
    }

pub answers_whole : Laws → (args outer : Values) (images : ImagesValue Config) (context : TreeMap) (table : TableValue) (stages shown : List ResolvedStage) (target : ℕ) (needed : List Bool) (kept : Walk) (result : Result Evaluated (Fault Rejection))
    → IsTable table → stages ≡ table.stages → shown ≡ table.stages → target ≡ table.target → AreNeeded table.stages table.target needed → All (λ (stage : ResolvedStage). IsProperBase images stage.base) shown
    → AreKept args outer images needed target stages (Ok kept) → Makes images context target kept result → AnswersWhole images table result
unfolding AreKept Makes AnswersWhole
answers_whole laws args outer images context table stages shown target needed kept (Ok made) whole same same_shown same_target are proper went is =
    is_whole laws args outer images context table needed went.0 made whole are
    (subst (All (λ (stage : ResolvedStage). IsProperBase images stage.base)) same_shown proper)
    (ap (λ (ss : List ResolvedStage). stages_from args outer images needed (Ok no_stage) ss) (sym same) ∙ went.1)
    (subst (λ (n : ℕ). IsMade images context n went.0 made) same_target
    (made_of_kept needed stages images context target (length stages) went.0 kept made went.2 is.0))
    (subst (λ (names : ImageNames). len made.sources.images ≤ length names) went.2.names is.1)
answers_whole laws args outer images context table stages shown target needed kept (Err fault) whole same same_shown same_target are proper went is = tt

-- what is whole, part by part

pub whole_rows : (images : ImagesValue Config) (table : TableValue) (result : Result Evaluated (Fault Rejection)) → AnswersWhole images table result → IfOk result (λ made. IsWellFormed made.rows)
unfolding AnswersWhole
whole_rows images table (Ok made) h = h.formed
whole_rows images table (Err fault) h = tt

pub whole_target : (images : ImagesValue Config) (table : TableValue) (result : Result Evaluated (Fault Rejection)) → AnswersWhole images table result
    → IfOk result (λ made. (stage : Stage) × (slice_get made.rows made.target ≡ Some (Some stage)))
unfolding AnswersWhole
whole_target images table (Ok made) h = h.has_target
whole_target images table (Err fault) h = tt

pub whole_named : (images : ImagesValue Config) (table : TableValue) (result : Result Evaluated (Fault Rejection)) → AnswersWhole images table result
    → IfOk result (λ made. All (NamesKnown (names_in images)) table.stages → All (RowNames (HasTree made.sources)) made.rows)
unfolding AnswersWhole
whole_named images table (Ok made) h = h.named
whole_named images table (Err fault) h = tt

pub whole_images : (images : ImagesValue Config) (table : TableValue) (result : Result Evaluated (Fault Rejection)) → AnswersWhole images table result → IfOk result (λ made. len made.sources.images ≤ most_images)
unfolding AnswersWhole
whole_images images table (Ok made) h = h.few_images
whole_images images table (Err fault) h = tt

pub whole_steps : (images : ImagesValue Config) (table : TableValue) (result : Result Evaluated (Fault Rejection)) → AnswersWhole images table result → IfOk result (λ made. count_of_steps made.rows < most_lines)
unfolding AnswersWhole
whole_steps images table (Ok made) h = h.few_steps
whole_steps images table (Err fault) h = tt

pub whole_order : (images : ImagesValue Config) (table : TableValue) (result : Result Evaluated (Fault Rejection)) → AnswersWhole images table result → IfOk result (λ made. IsInOrder made.rows)
unfolding AnswersWhole
whole_order images table (Ok made) h = h.in_order
whole_order images table (Err fault) h = tt

pub whole_needs : (images : ImagesValue Config) (table : TableValue) (result : Result Evaluated (Fault Rejection)) → AnswersWhole images table result → IfOk result (λ made. NeedsAllStages made.rows made.target)
unfolding AnswersWhole
whole_needs images table (Ok made) h = h.needs
whole_needs images table (Err fault) h = tt

pub whole_none : (images : ImagesValue Config) (table : TableValue) (fault : Fault Rejection) → AnswersWhole images table (Err fault)
unfolding AnswersWhole
whole_none images table fault = tt
