-- The lines of a graph that stands for a file are in order if those of the file ascend. All is said of one finished graph.
use Rattle.std.proofs.Common.{◌≡◌, inl, inr, ◌<◌, ◌≤◌, ℕ, true, false, List, [], ◌∷◌, ◌++◌, map, length, Some, None, sym, ◌∙◌, subst, arith}
use Rattle.std.specs.Prelude.{slice_get, slice_index_or, Contains}
use Rattle.std.specs.List.{All, AllZip}
use Rattle.std.proofs.lemmas.Option.{slice_get_within}
use Rattle.std.proofs.lemmas.List.Elements.{All-cons, All-nil, All-weaker, Contains-append_left, Contains-append_right, Contains-append_cases}
use Rattle.llb.specs.Graph.{IsGraph}
use Rattle.llb.specs.Places.{AscendFrom, least_line}
use Rattle.llb.specs.declared.op.Op.{Op}
use Rattle.llb.specs.declared.op.Op.TheVariants.{Source as SourceOp, Exec as ExecOp, Copy as CopyOp, MakeDirs as MakeDirsOp, Merge as MergeOp}
use Rattle.llb.specs.declared.op.Source.TheVariants.{Scratch}
use Rattle.llb.specs.declared.op.CopyFiles.{CopyFiles}
use Rattle.llb.specs.declared.vertex.Vertex.{Vertex}
use Rattle.llb.proofs.LineFacts.{contains_nil, contains_here, contains_cases, least_of, least_below}
use Rattle.plans.specs.Plan.{PlanValue, problem_of, line_at, HasLinesInOrder}
use Rattle.plans.specs.Value.{Out}
use Rattle.rows.specs.declared.row.Origin.{Origin}
use Rattle.rows.specs.declared.row.Origin.TheVariants.{Source as SourceOf, Stage as StageOf}
use Rattle.rows.specs.declared.row.Action.{Action}
use Rattle.rows.specs.declared.row.Action.TheVariants.{Run, Copy, MakeDirs}
use Rattle.rows.specs.declared.row.Step.{Step}
use Rattle.rows.specs.declared.row.Stage.{Stage}
use Rattle.lowering.specs.Meaning.{Rows, listed}
use Rattle.lowering.specs.Means.{lines_at, AreLined, StandsFor}
use Rattle.rows.specs.Order.{file_lines, IsInOrder}
use Rattle.lowering.specs.Order.{HasLineBy, LinesInOrder}
use Rattle.lowering.specs.Vertices.{Tips, Places, HasPlace, IsVertex, IsOrigin, origin_places, origins_places, IsOperation, IsLinked, IsLowered}
use Rattle.lowering.specs.Vertices.{AreLowered, IsStageLowered, AreRowsLowered}
use Rattle.lowering.proofs.RowFacts.{slice_get-last_cases}
use Rattle.lowering.proofs.ValueFacts.{place_is}

-- a vertex has a place whose line is no greater than this one
abbrev pub HasPlaceBy : Places → ℕ → ℕ → Type 0
HasPlaceBy all line id = (before : ℕ) × HasPlace all before id × (before ≤ line)

-- all last vertices of stages have such places
abbrev pub AreTipsBy : Places → ℕ → Tips → Type 0
AreTipsBy all line tips = (number id : ℕ) → slice_get tips number ≡ Some (Some id) → HasPlaceBy all line id

-- for each of some places, the inputs of its vertex have places whose lines are no greater
abbrev pub AreInOrder : List Vertex → Places → Places → Type 0
AreInOrder vertices all places = (line id : ℕ) (v : Vertex) → HasPlace places line id → slice_get vertices id ≡ Some v → All (HasPlaceBy all line) v.inputs

-- some places are among others
abbrev pub AreAmong : Places → Places → Type 0
AreAmong places all = (line id : ℕ) → HasPlace places line id → HasPlace all line id

by_later : (all : Places) (low high id : ℕ) → low ≤ high → HasPlaceBy all low id → HasPlaceBy all high id
by_later all low high id le by = (by.0, by.1, (let l = by.2 in omega (arith, l, le)))

tips_later : (all : Places) (low high : ℕ) (tips : Tips) → low ≤ high → AreTipsBy all low tips → AreTipsBy all high tips
tips_later all low high tips le by = λ number id e. by_later all low high id le (by number id e)

none_in_order : (vertices : List Vertex) (all : Places) → AreInOrder vertices all []
none_in_order vertices all = λ line id v h e. absurd (contains_nil {X = ℕ × ℕ} (line, id) h)

both_in_order : (vertices : List Vertex) (all some more : Places) → AreInOrder vertices all some → AreInOrder vertices all more → AreInOrder vertices all (some ++ more)
both_in_order vertices all some more first second = λ line id v h e. elim (Contains-append_cases some more (line, id) h) [
  | inl here ↦ first line id v here e
  | inr there ↦ second line id v there e
]

among_left : (all some more : Places) → AreAmong (some ++ more) all → AreAmong some all
among_left all some more among = λ line id h. among line id (Contains-append_left some more (line, id) h)

among_right : (all some more : Places) → AreAmong (some ++ more) all → AreAmong more all
among_right all some more among = λ line id h. among line id (Contains-append_right some more (line, id) h)

-- one place, of a vertex whose inputs are these
one_in_order : (vertices : List Vertex) (all : Places) (op : Op) (inputs : List ℕ) (line id : ℕ) → IsVertex vertices op inputs id
    → All (HasPlaceBy all line) inputs → AreInOrder vertices all ((line, id) ∷ [])
one_in_order vertices all op inputs line id is by = λ l k v h e.
    let here = place_is line id l k h in
    let there : slice_get vertices id ≡ Some v = subst (λ n. slice_get vertices n ≡ Some v) here.1 e in
    let same : Some (record { op = op; inputs = inputs }) ≡ Some v = sym is ∙ there in
    let vertex : record { op = op; inputs = inputs } ≡ v = cc in
    subst (λ n. All (HasPlaceBy all n) v.inputs) (sym here.0) (subst (λ (w : Vertex). All (HasPlaceBy all line) w.inputs) vertex by)

own_place : (all : Places) (line id : ℕ) → AreAmong ((line, id) ∷ []) all → HasPlaceBy all line id
own_place all line id among = (line, among line id (contains_here {X = ℕ × ℕ} (line, id) []), omega arith)

-- what is named
origin_in_order : (vertices : List Vertex) (tips : Tips) (all : Places) (line : ℕ) (origin : Origin) (id : ℕ) → IsOrigin vertices tips origin id
    → AreTipsBy all line tips → AreAmong (origin_places line origin id) all → HasPlaceBy all line id × AreInOrder vertices all (origin_places line origin id)
origin_in_order vertices tips all line (SourceOf source) id is by among =
    (own_place all line id among, one_in_order vertices all (SourceOp source) [] line id is (All-nil (HasPlaceBy all line)))
origin_in_order vertices tips all line (StageOf number) id is by among = (by number id is, none_in_order vertices all)

origins_in_order : (vertices : List Vertex) (tips : Tips) (all : Places) (line : ℕ) (origins : List Origin) (ids : List ℕ)
    → AllZip (IsOrigin vertices tips) origins ids → AreTipsBy all line tips → AreAmong (origins_places line origins ids) all
    → All (HasPlaceBy all line) ids × AreInOrder vertices all (origins_places line origins ids)
origins_in_order vertices tips all line [] [] are by among = (All-nil (HasPlaceBy all line), none_in_order vertices all)
origins_in_order vertices tips all line [] (id ∷ ids) are by among = absurd are
origins_in_order vertices tips all line (origin ∷ origins) [] are by among = absurd are
origins_in_order vertices tips all line (origin ∷ origins) (id ∷ ids) are by among =
    let first = origin_in_order vertices tips all line origin id are.0 by (among_left all (origin_places line origin id) (origins_places line origins ids) among) in
    let rest = origins_in_order vertices tips all line origins ids are.1 by (among_right all (origin_places line origin id) (origins_places line origins ids) among) in (
      All-cons (HasPlaceBy all line) id ids first.0 rest.0,
      both_in_order vertices all (origin_places line origin id) (origins_places line origins ids) first.1 rest.1,
    )

among_as : (all places others : Places) → places ≡ others → AreAmong places all → AreAmong others all
among_as all places others same among = subst (λ ps. AreAmong ps all) same among

in_order_as : (vertices : List Vertex) (all places others : Places) → places ≡ others → AreInOrder vertices all others → AreInOrder vertices all places
in_order_as vertices all places others same is = subst (AreInOrder vertices all) (sym same) is

-- an operation
operation_in_order : (vertices : List Vertex) (tips : Tips) (all : Places) (line base : ℕ) (op : Op) (origins : List Origin) (id : ℕ) (places : Places)
    → IsOperation vertices tips line base op origins id places → HasPlaceBy all line base → AreTipsBy all line tips → AreAmong places all
    → HasPlaceBy all line id × AreInOrder vertices all places
operation_in_order vertices tips all line base op origins id places is below by among =
    let named : Places = origins_places line origins is.named in
    let parts : AreAmong (named ++ (line, id) ∷ []) all = among_as all places (named ++ (line, id) ∷ []) is.all among in
    let first = origins_in_order vertices tips all line origins is.named is.are by (among_left all named ((line, id) ∷ []) parts) in
    let own : AreAmong ((line, id) ∷ []) all = among_right all named ((line, id) ∷ []) parts in (
      own_place all line id own,
      in_order_as vertices all places (named ++ (line, id) ∷ []) is.all (both_in_order vertices all named ((line, id) ∷ []) first.1
          (one_in_order vertices all op (base ∷ is.named) line id is.is (All-cons (HasPlaceBy all line) base is.named below first.0))),
    )

-- a linked copy
linked_in_order : (vertices : List Vertex) (tips : Tips) (all : Places) (line base : ℕ) (files : CopyFiles) (origins : List Origin) (id : ℕ) (places : Places)
    → IsLinked vertices tips line base files origins id places → HasPlaceBy all line base → AreTipsBy all line tips → AreAmong places all
    → HasPlaceBy all line id × AreInOrder vertices all places
linked_in_order vertices tips all line base files origins id places is below by among =
    let last : Places = (line, id) ∷ [] in
    let rest : Places = is.copied ++ last in
    let parts : AreAmong (((line, is.scratch) ∷ []) ++ rest) all = among_as all places (((line, is.scratch) ∷ []) ++ rest) is.all among in
    let first : AreAmong ((line, is.scratch) ∷ []) all = among_left all ((line, is.scratch) ∷ []) rest parts in
    let more : AreAmong rest all = among_right all ((line, is.scratch) ∷ []) rest parts in
    let empty : HasPlaceBy all line is.scratch = own_place all line is.scratch first in
    let copy = operation_in_order vertices tips all line is.scratch (CopyOp files) origins is.copy is.copied is.copies empty by (among_left all is.copied last more) in (
      own_place all line id (among_right all is.copied last more),
      in_order_as vertices all places (((line, is.scratch) ∷ []) ++ rest) is.all
          (both_in_order vertices all ((line, is.scratch) ∷ []) rest (one_in_order vertices all (SourceOp Scratch) [] line is.scratch is.empty (All-nil (HasPlaceBy all line)))
          (both_in_order vertices all is.copied last copy.1
          (one_in_order vertices all MergeOp (base ∷ is.copy ∷ []) line id is.merges
          (All-cons (HasPlaceBy all line) base (is.copy ∷ []) below (All-cons (HasPlaceBy all line) is.copy [] copy.0 (All-nil (HasPlaceBy all line))))))),
    )

-- an instruction
step_in_order : (vertices : List Vertex) (tips : Tips) (all : Places) (line base : ℕ) (action : Action) (id : ℕ) (places : Places)
    → IsLowered vertices tips line base action id places → HasPlaceBy all line base → AreTipsBy all line tips → AreAmong places all
    → HasPlaceBy all line id × AreInOrder vertices all places
step_in_order vertices tips all line base (Run exec from) id places is below by among = operation_in_order vertices tips all line base (ExecOp exec) from id places is below by among
step_in_order vertices tips all line base (Copy files from false) id places is below by among = operation_in_order vertices tips all line base (CopyOp files) (listed from) id places is below by among
step_in_order vertices tips all line base (Copy files from true) id places is below by among = linked_in_order vertices tips all line base files (listed from) id places is below by among
step_in_order vertices tips all line base (MakeDirs path) id places is below by among = operation_in_order vertices tips all line base (MakeDirsOp path) [] id places is below by among

-- what some lines end with: the last of them, by which the vertex has a place, and from which the lines after them ascend
pub record EndsBy (all : Places) (low last : ℕ) (lines : List ℕ) : Type 0 where
  pub high : ℕ
  pub on : low ≤ high
  pub by : HasPlaceBy all high last
  pub ascend : AscendFrom high lines

-- instructions one after another
steps_in_order : (vertices : List Vertex) (tips : Tips) (all : Places) (low base : ℕ) (steps : List Step) (last : ℕ) (places : Places) (lines : List ℕ)
    → AreLowered vertices tips base steps last places → AscendFrom low (map (λ (step : Step). step.line) steps ++ lines) → HasPlaceBy all low base
    → AreTipsBy all low tips → AreAmong places all → EndsBy all low last lines × AreInOrder vertices all places
steps_in_order vertices tips all low base [] last places lines are ascend below by among = (
  record { high = low; on = omega arith; by = subst (HasPlaceBy all low) (sym are.0) below; ascend = ascend },
  in_order_as vertices all places [] are.1 (none_in_order vertices all),
)
steps_in_order vertices tips all low base (step ∷ steps) last places lines are ascend below by among =
    let up : low ≤ step.line = (let l = ascend.0 in omega (arith, l)) in
    let parts : AreAmong (are.1 ++ are.2) all = among_as all places (are.1 ++ are.2) are.5 among in
    let first = step_in_order vertices tips all step.line base step.action are.0 are.1 are.3 (by_later all low step.line base up below)
    (tips_later all low step.line tips up by) (among_left all are.1 are.2 parts) in
    let rest = steps_in_order vertices tips all step.line are.0 steps last are.2 lines are.4 ascend.1.1 first.0 (tips_later all low step.line tips up by)
    (among_right all are.1 are.2 parts) in (
      record { high = rest.0.high; on = (let l = rest.0.on in omega (arith, up, l)); by = rest.0.by; ascend = rest.0.ascend },
      in_order_as vertices all places (are.1 ++ are.2) are.5 (both_in_order vertices all are.1 are.2 first.1 rest.1),
    )

-- a stage
stage_in_order : (vertices : List Vertex) (tips : Tips) (all : Places) (low : ℕ) (stage : Stage) (last : ℕ) (places : Places) (lines : List ℕ)
    → IsStageLowered vertices tips stage last places → AscendFrom low (stage.line ∷ (map (λ (step : Step). step.line) stage.steps ++ lines))
    → AreTipsBy all low tips → AreAmong places all → EndsBy all low last lines × AreInOrder vertices all places
stage_in_order vertices tips all low stage last places lines is ascend by among =
    let up : low ≤ stage.line = (let l = ascend.0 in omega (arith, l)) in
    let begun : Places = origin_places stage.line stage.base is.base in
    let parts : AreAmong (begun ++ is.others) all = among_as all places (begun ++ is.others) is.all among in
    let later = tips_later all low stage.line tips up by in
    let first = origin_in_order vertices tips all stage.line stage.base is.base is.begins later (among_left all begun is.others parts) in
    let rest = steps_in_order vertices tips all stage.line is.base stage.steps last is.others lines is.steps ascend.1.1 first.0 later
    (among_right all begun is.others parts) in (
      record { high = rest.0.high; on = (let l = rest.0.on in omega (arith, up, l)); by = rest.0.by; ascend = rest.0.ascend },
      in_order_as vertices all places (begun ++ is.others) is.all (both_in_order vertices all begun is.others first.1 rest.1),
    )

-- rows
rows_in_order : (vertices : List Vertex) (tips : Tips) (all : Places) (low : ℕ) (rows : Rows) (lasts : Tips) (places : Places)
    → AreRowsLowered vertices tips rows lasts places → AscendFrom low (file_lines rows) → AreTipsBy all low tips → AreAmong places all
    → AreInOrder vertices all places
rows_in_order vertices tips all low [] lasts places are ascend by among = in_order_as vertices all places [] are.1 (none_in_order vertices all)
rows_in_order vertices tips all low (None ∷ rows) lasts places are ascend by among =
    let parts : AreAmong (are.2 ++ are.3) all = among_as all places (are.2 ++ are.3) are.7 among in
    let more : AreTipsBy all low (tips ++ are.0 ∷ []) = λ number id e. elim (slice_get-last_cases tips are.0 (Some id) number e) [
      | inl before ↦ by number id before
      | inr last ↦ (let f : None ≡ Some id = sym are.4.0 ∙ last.1 in absurd cc)
    ] in
    let rest = rows_in_order vertices (tips ++ are.0 ∷ []) all low rows are.1 are.3 are.5 ascend more (among_right all are.2 are.3 parts) in
    in_order_as vertices all places (are.2 ++ are.3) are.7
    (both_in_order vertices all are.2 are.3 (in_order_as vertices all are.2 [] are.4.1 (none_in_order vertices all)) rest)
rows_in_order vertices tips all low (Some stage ∷ rows) lasts places are ascend by among =
    let parts : AreAmong (are.2 ++ are.3) all = among_as all places (are.2 ++ are.3) are.7 among in
    let first = stage_in_order vertices tips all low stage are.4.0 are.2 (file_lines rows) are.4.2 ascend by (among_left all are.2 are.3 parts) in
    let ends : EndsBy all low are.4.0 (file_lines rows) = first.0 in
    let more : AreTipsBy all ends.high (tips ++ are.0 ∷ []) = λ number id e. elim (slice_get-last_cases tips are.0 (Some id) number e) [
      | inl before ↦ by_later all low ends.high id ends.on (by number id before)
      | inr last ↦
          let f : Some are.4.0 ≡ Some id = sym are.4.1 ∙ last.1 in
          let same : are.4.0 ≡ id = cc in
          subst (HasPlaceBy all ends.high) same ends.by
    ] in
    let rest = rows_in_order vertices (tips ++ are.0 ∷ []) all ends.high rows are.1 are.3 are.5 ends.ascend more (among_right all are.2 are.3 parts) in
    in_order_as vertices all places (are.2 ++ are.3) are.7 (both_in_order vertices all are.2 are.3 first.1 rest)

-- a graph that stands for a file whose lines ascend has its lines in order
pub stands_in_order : {C : Type 0} (plan : PlanValue C) (rows : Rows) (target : ℕ) → StandsFor plan rows target → IsInOrder rows → LinesInOrder plan.graph
stands_in_order plan rows target stands in_order = λ id line v there behind.
    let is = rows_in_order plan.graph.vertices [] stands.places 0 rows stands.tips stands.places stands.lowered in_order (λ number k e. absurd cc) (λ l k h. h) in
    All-weaker (HasPlaceBy stands.places line) (HasLineBy plan.graph line) (λ input by. (by.0, (stands.lines input by.0).1 by.1, by.2)) v.inputs
    (is line id v ((stands.lines id line).0 behind) there)

-- ---- least lines

-- if lines are in order and each vertex has one, no input's least line is greater than its vertex's
pub in_order_least : {C : Type 0} (out : Out) (plan : PlanValue C) → LinesInOrder plan.graph → AreLined plan.graph → HasLinesInOrder (problem_of out plan)
in_order_least out plan in_order are = λ id v there.
    let lines : List ℕ = lines_at plan.graph id in
    let line = are id (slice_get_within plan.graph.vertices id v there) in
    All-weaker (HasLineBy plan.graph (least_line lines)) (λ input. line_at (problem_of out plan) input ≤ line_at (problem_of out plan) id)
    (λ input by. (let low = least_below (lines_at plan.graph input) by.0 by.1 in let m = by.2 in omega (arith, low, m))) v.inputs
    (in_order id (least_line lines) v there (least_of lines line.0 line.1))

-- and the other way
pub least_in_order : {C : Type 0} (out : Out) (plan : PlanValue C) → IsGraph plan.graph → AreLined plan.graph → HasLinesInOrder (problem_of out plan) → LinesInOrder plan.graph
least_in_order out plan is are in_order = λ id line v there behind. λ k d lt.
    let input : ℕ = slice_index_or v.inputs k d in
    let before : input < id = is.vertices.after id v there k d lt in
    let within : id < length plan.graph.vertices = slice_get_within plan.graph.vertices id v there in
    let some = are input (omega (arith, before, within)) in
    let low : line_at (problem_of out plan) input ≤ line_at (problem_of out plan) id = in_order id v there k d lt in
    let most = least_below (lines_at plan.graph id) line behind in
    (least_line (lines_at plan.graph input), least_of (lines_at plan.graph input) some.0 some.1, omega (arith, low, most))

-- so it is of a graph that stands for a file whose lines ascend
pub stands_least : {C : Type 0} (out : Out) (plan : PlanValue C) (rows : Rows) (target : ℕ) → StandsFor plan rows target → IsInOrder rows → HasLinesInOrder (problem_of out plan)
stands_least out plan rows target stands in_order = in_order_least out plan (stands_in_order plan rows target stands in_order) stands.lined
