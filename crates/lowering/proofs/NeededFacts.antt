-- If a file's target needs all stages that aren't left out, the target of a graph that stands for the file needs every vertex.
use Rattle.std.proofs.Common.{◌≡◌, inl, inr, ℕ, zero, suc, true, false, List, [], ◌∷◌, ◌++◌, Option, Some, None, refl, sym, ap, ◌∙◌, subst, append_assoc}
use Rattle.std.specs.Prelude.{slice_get, Contains}
use Rattle.std.specs.List.{AllZip}
use Rattle.std.proofs.lemmas.List.Elements.{Contains-append_cases}
use Rattle.plain.specs.Marks.{IsPath}
use Rattle.plain.proofs.MarkFacts.{path_both}
use Rattle.llb.specs.Reach.{HasInput, Reaches}
use Rattle.llb.specs.declared.op.Op.{Op}
use Rattle.llb.specs.declared.op.Op.TheVariants.{Exec as ExecOp, Copy as CopyOp, MakeDirs as MakeDirsOp, Merge as MergeOp}
use Rattle.llb.specs.declared.op.CopyFiles.{CopyFiles}
use Rattle.llb.specs.declared.vertex.Vertex.{Vertex}
use Rattle.llb.proofs.LineFacts.{contains_nil, contains_here, contains_cases, contains_there}
use Rattle.plans.specs.Plan.{PlanValue, NeedsAll, problem_of}
use Rattle.plans.specs.Value.{Out}
use Rattle.rows.specs.declared.row.Origin.{Origin}
use Rattle.rows.specs.declared.row.Origin.TheVariants.{Source as SourceOf, Stage as StageOf}
use Rattle.rows.specs.declared.row.Action.{Action}
use Rattle.rows.specs.declared.row.Action.TheVariants.{Run, Copy, MakeDirs}
use Rattle.rows.specs.declared.row.Step.{Step}
use Rattle.rows.specs.declared.row.Stage.{Stage}
use Rattle.lowering.specs.Meaning.{Rows, listed}
use Rattle.lowering.specs.Means.{StandsFor}
use Rattle.rows.specs.Order.{ActionNames, StageNamesStage, NamesStage, NeedsAllStages}
use Rattle.lowering.specs.Vertices.{Tips, Places, HasPlace, IsVertex, IsOrigin, origin_places, origins_places, IsOperation, IsLinked, IsLowered}
use Rattle.lowering.specs.Vertices.{AreLowered, IsStageLowered, AreRowsLowered}
use Rattle.lowering.proofs.Fronts.{slice_get-kept}
use Rattle.lowering.proofs.ValueFacts.{place_is}

reach_on : (vertices : List Vertex) (from middle to : ℕ) → Reaches vertices from middle → Reaches vertices middle to → Reaches vertices from to
reach_on vertices from middle to first second = (first.0 ++ second.0, path_both (HasInput vertices) from middle to first.0 second.0 first.1 second.1)

reach_self : (vertices : List Vertex) (id : ℕ) → Reaches vertices id id
reach_self vertices id = ([], refl)

reach_input : (vertices : List Vertex) (op : Op) (inputs : List ℕ) (id input : ℕ) → IsVertex vertices op inputs id → Contains inputs input → Reaches vertices id input
reach_input vertices op inputs id input is among = (input ∷ [], (record { v = record { op = op; inputs = inputs }; there = is; among = among }, refl))

-- a vertex reaches all vertices of some places
abbrev ReachesPlaces : List Vertex → ℕ → Places → Type 0
ReachesPlaces vertices from places = (line id : ℕ) → HasPlace places line id → Reaches vertices from id

reach_none : (vertices : List Vertex) (from : ℕ) → ReachesPlaces vertices from []
reach_none vertices from = λ line id h. absurd (contains_nil {X = ℕ × ℕ} (line, id) h)

reach_both : (vertices : List Vertex) (from : ℕ) (some more : Places) → ReachesPlaces vertices from some → ReachesPlaces vertices from more → ReachesPlaces vertices from (some ++ more)
reach_both vertices from some more first second = λ line id h. elim (Contains-append_cases some more (line, id) h) [
  | inl here ↦ first line id here
  | inr there ↦ second line id there
]

reach_one : (vertices : List Vertex) (from line id : ℕ) → Reaches vertices from id → ReachesPlaces vertices from ((line, id) ∷ [])
reach_one vertices from line id is = λ l k h. subst (Reaches vertices from) (sym (place_is line id l k h).1) is

reach_places : (vertices : List Vertex) (from middle : ℕ) (places : Places) → Reaches vertices from middle → ReachesPlaces vertices middle places → ReachesPlaces vertices from places
reach_places vertices from middle places first rest = λ line id h. reach_on vertices from middle id first (rest line id h)

reach_as : (vertices : List Vertex) (from : ℕ) (places others : Places) → places ≡ others → ReachesPlaces vertices from others → ReachesPlaces vertices from places
reach_as vertices from places others same is = subst (ReachesPlaces vertices from) (sym same) is

-- each stage that is named has a last vertex, which this one reaches
abbrev ReachesNamed : List Vertex → Tips → ℕ → (ℕ → Type 0) → Type 0
ReachesNamed vertices tips from Named = (number : ℕ) → Named number → (id : ℕ) × (slice_get tips number ≡ Some (Some id)) × Reaches vertices from id

-- of what is named, a source's place is that of an input
origin_within : (vertices : List Vertex) (tips : Tips) (line : ℕ) (origins : List Origin) (ids : List ℕ) → AllZip (IsOrigin vertices tips) origins ids
    → (l k : ℕ) → HasPlace (origins_places line origins ids) l k → Contains ids k
origin_within vertices tips line [] ids are l k h = absurd (contains_nil {X = ℕ × ℕ} (l, k) h)
origin_within vertices tips line (origin ∷ origins) [] are l k h = absurd are
origin_within vertices tips line (SourceOf source ∷ origins) (id ∷ ids) are l k h = elim (Contains-append_cases ((line, id) ∷ []) (origins_places line origins ids) (l, k) h) [
  | inl here ↦ subst (Contains (id ∷ ids)) (sym (place_is line id l k here).1) (contains_here id ids)
  | inr there ↦ contains_there id k ids (origin_within vertices tips line origins ids are.1 l k there)
]
origin_within vertices tips line (StageOf number ∷ origins) (id ∷ ids) are l k h = contains_there id k ids (origin_within vertices tips line origins ids are.1 l k h)

-- and a stage's last vertex is one
tip_within : (vertices : List Vertex) (tips : Tips) (origins : List Origin) (ids : List ℕ) → AllZip (IsOrigin vertices tips) origins ids
    → (number : ℕ) → Contains origins (StageOf number) → (id : ℕ) × (slice_get tips number ≡ Some (Some id)) × Contains ids id
tip_within vertices tips [] ids are number h = absurd (contains_nil {X = Origin} (StageOf number) h)
tip_within vertices tips (origin ∷ origins) [] are number h = absurd are
tip_within vertices tips (origin ∷ origins) (k ∷ ids) are number h = elim (contains_cases {X = Origin} origin (StageOf number) origins h) [
  | inl same ↦ (k, subst (λ o. IsOrigin vertices tips o k) (sym same) are.0, contains_here k ids)
  | inr there ↦ (let id = tip_within vertices tips origins ids are.1 number there in (id.0, id.1, contains_there k id.0 ids id.2))
]

-- what a vertex that stands for something reaches: the vertex that it was put on, all its places, and the stages that are named
record ReachesAll (vertices : List Vertex) (tips : Tips) (base id : ℕ) (places : Places) (Named : ℕ → Type 0) : Type 0 where
  base_reached : Reaches vertices id base
  places_reached : ReachesPlaces vertices id places
  named_reached : ReachesNamed vertices tips id Named

operation_reaches : (vertices : List Vertex) (tips : Tips) (line base : ℕ) (op : Op) (origins : List Origin) (id : ℕ) (places : Places)
    → IsOperation vertices tips line base op origins id places → ReachesAll vertices tips base id places (λ number. Contains origins (StageOf number))
operation_reaches vertices tips line base op origins id places is = record {
  base_reached = reach_input vertices op (base ∷ is.named) id base is.is (contains_here base is.named);
  places_reached = reach_as vertices id places (origins_places line origins is.named ++ (line, id) ∷ []) is.all
      (reach_both vertices id (origins_places line origins is.named) ((line, id) ∷ [])
      (λ l k h. reach_input vertices op (base ∷ is.named) id k is.is (contains_there base k is.named (origin_within vertices tips line origins is.named is.are l k h)))
      (reach_one vertices id line id (reach_self vertices id)));
  named_reached = λ number named.
      let k = tip_within vertices tips origins is.named is.are number named in
      (k.0, k.1, reach_input vertices op (base ∷ is.named) id k.0 is.is (contains_there base k.0 is.named k.2));
}

linked_reaches : (vertices : List Vertex) (tips : Tips) (line base : ℕ) (files : CopyFiles) (origins : List Origin) (id : ℕ) (places : Places)
    → IsLinked vertices tips line base files origins id places → ReachesAll vertices tips base id places (λ number. Contains origins (StageOf number))
linked_reaches vertices tips line base files origins id places is =
    let copies = operation_reaches vertices tips line is.scratch (CopyOp files) origins is.copy is.copied is.copies in
    let among = contains_there base is.copy (is.copy ∷ []) (contains_here is.copy []) in
    let copy : Reaches vertices id is.copy = reach_input vertices MergeOp (base ∷ is.copy ∷ []) id is.copy is.merges among in
    record {
      base_reached = reach_input vertices MergeOp (base ∷ is.copy ∷ []) id base is.merges (contains_here base (is.copy ∷ []));
      places_reached = reach_as vertices id places (((line, is.scratch) ∷ []) ++ (is.copied ++ (line, id) ∷ [])) is.all
          (reach_both vertices id ((line, is.scratch) ∷ []) (is.copied ++ (line, id) ∷ [])
          (reach_one vertices id line is.scratch (reach_on vertices id is.copy is.scratch copy copies.base_reached))
          (reach_both vertices id is.copied ((line, id) ∷ []) (reach_places vertices id is.copy is.copied copy copies.places_reached)
          (reach_one vertices id line id (reach_self vertices id))));
      named_reached = λ number named. (let k = copies.named_reached number named in (k.0, k.1, reach_on vertices id is.copy k.0 copy k.2));
    }

step_reaches : (vertices : List Vertex) (tips : Tips) (line base : ℕ) (action : Action) (id : ℕ) (places : Places)
    → IsLowered vertices tips line base action id places → ReachesAll vertices tips base id places (ActionNames action)
step_reaches vertices tips line base (Run exec from) id places is = operation_reaches vertices tips line base (ExecOp exec) from id places is
step_reaches vertices tips line base (Copy files from false) id places is = operation_reaches vertices tips line base (CopyOp files) (listed from) id places is
step_reaches vertices tips line base (Copy files from true) id places is = linked_reaches vertices tips line base files (listed from) id places is
step_reaches vertices tips line base (MakeDirs path) id places is =
    let all = operation_reaches vertices tips line base (MakeDirsOp path) [] id places is in
    record { base_reached = all.base_reached; places_reached = all.places_reached; named_reached = λ number named. absurd named }

-- one of some instructions names a stage
abbrev StepsName : List Step → ℕ → Type 0
StepsName steps number = (step : Step) × Contains steps step × ActionNames step.action number

steps_reach : (vertices : List Vertex) (tips : Tips) (base : ℕ) (steps : List Step) (last : ℕ) (places : Places) → AreLowered vertices tips base steps last places
    → ReachesAll vertices tips base last places (StepsName steps)
steps_reach vertices tips base [] last places are = record {
  base_reached = subst (Reaches vertices last) are.0 (reach_self vertices last);
  places_reached = reach_as vertices last places [] are.1 (reach_none vertices last);
  named_reached = λ number named. absurd (contains_nil {X = Step} named.0 named.1);
}
steps_reach vertices tips base (step ∷ steps) last places are =
    let first = step_reaches vertices tips step.line base step.action are.0 are.1 are.3 in
    let rest = steps_reach vertices tips are.0 steps last are.2 are.4 in
    record {
      base_reached = reach_on vertices last are.0 base rest.base_reached first.base_reached;
      places_reached = reach_as vertices last places (are.1 ++ are.2) are.5
          (reach_both vertices last are.1 are.2 (reach_places vertices last are.0 are.1 rest.base_reached first.places_reached) rest.places_reached);
      named_reached = λ number named. elim (contains_cases {X = Step} step named.0 steps named.1) [
        | inl same ↦
            let k = first.named_reached number (subst (λ (s : Step). ActionNames s.action number) same named.2) in
            (k.0, k.1, reach_on vertices last are.0 k.0 rest.base_reached k.2)
        | inr there ↦ rest.named_reached number (named.0, there, named.2)
      ];
    }

-- what the last vertex of a stage reaches: all places of the stage, and the stages that it names
record StageReaches (vertices : List Vertex) (tips : Tips) (stage : Stage) (last : ℕ) (places : Places) : Type 0 where
  all : ReachesPlaces vertices last places
  others : ReachesNamed vertices tips last (StageNamesStage stage)

base_is : (line base : ℕ) (origin : Origin) (l k : ℕ) → HasPlace (origin_places line origin base) l k → k ≡ base
base_is line base (SourceOf source) l k h = (place_is line base l k h).1
base_is line base (StageOf number) l k h = absurd (contains_nil {X = ℕ × ℕ} (l, k) h)

stage_reaches : (vertices : List Vertex) (tips : Tips) (stage : Stage) (last : ℕ) (places : Places) → IsStageLowered vertices tips stage last places
    → StageReaches vertices tips stage last places
stage_reaches vertices tips stage last places is = record {
  all = reach_as vertices last places (origin_places stage.line stage.base is.base ++ is.others) is.all
      (reach_both vertices last (origin_places stage.line stage.base is.base) is.others
      (λ l k h. subst (Reaches vertices last) (sym (base_is stage.line is.base stage.base l k h)) steps.base_reached) steps.places_reached);
  others = λ number named. by_name number named;
}
  where
    steps : ReachesAll vertices tips is.base last is.others (StepsName stage.steps)
    steps = steps_reach vertices tips is.base stage.steps last is.others is.steps

    by_name : (number : ℕ) → StageNamesStage stage number → (id : ℕ) × (slice_get tips number ≡ Some (Some id)) × Reaches vertices last id
    by_name number (inl begins) = (is.base, subst (λ o. IsOrigin vertices tips o is.base) begins is.begins, steps.base_reached)
    by_name number (inr named) = steps.named_reached number named

-- a stage among rows, whose last vertex reaches this one
record HasStage (vertices : List Vertex) (rows : Rows) (lasts : Tips) (id : ℕ) : Type 0 where
  number : ℕ
  stage : Stage
  last : ℕ
  there : slice_get rows number ≡ Some (Some stage)
  tip : slice_get lasts number ≡ Some (Some last)
  reached : Reaches vertices last id

-- and with one row more before them
one_later : (vertices : List Vertex) (row : Option Stage) (rows : Rows) (tip : Option ℕ) (later lasts : Tips) (id : ℕ) → lasts ≡ tip ∷ later
    → HasStage vertices rows later id → HasStage vertices (row ∷ rows) lasts id
one_later vertices row rows tip later lasts id is found = record {
  number = suc found.number;
  stage = found.stage;
  last = found.last;
  there = found.there;
  tip = subst (λ ls. slice_get ls (suc found.number) ≡ Some (Some found.last)) (sym is) found.tip;
  reached = found.reached;
}

-- each place of rows is reached from the last vertex of a stage
rows_places : (vertices : List Vertex) (tips : Tips) (rows : Rows) (lasts : Tips) (places : Places) → AreRowsLowered vertices tips rows lasts places
    → (line id : ℕ) → HasPlace places line id → HasStage vertices rows lasts id
rows_places vertices tips [] lasts places are line id h = absurd (contains_nil {X = ℕ × ℕ} (line, id) (subst (λ ps. HasPlace ps line id) are.1 h))
rows_places vertices tips (None ∷ rows) lasts places are line id h =
    elim (Contains-append_cases are.2 are.3 (line, id) (subst (λ ps. HasPlace ps line id) are.7 h)) [
      | inl here ↦ absurd (contains_nil {X = ℕ × ℕ} (line, id) (subst (λ ps. HasPlace ps line id) are.4.1 here))
      | inr there ↦
          one_later vertices None rows are.0 are.1 lasts id are.6 (rows_places vertices (tips ++ are.0 ∷ []) rows are.1 are.3 are.5 line id there)
    ]
rows_places vertices tips (Some stage ∷ rows) lasts places are line id h =
    elim (Contains-append_cases are.2 are.3 (line, id) (subst (λ ps. HasPlace ps line id) are.7 h)) [
      | inl here ↦
          let tip : slice_get lasts 0 ≡ Some (Some are.4.0) = ap (λ ls. slice_get ls 0) are.6 ∙ ap Some are.4.1 in
          let reached = (stage_reaches vertices tips stage are.4.0 are.2 are.4.2).all line id here in
          record { number = 0; stage = stage; last = are.4.0; there = refl; tip = tip; reached = reached }
      | inr there ↦
          one_later vertices (Some stage) rows are.0 are.1 lasts id are.6
          (rows_places vertices (tips ++ are.0 ∷ []) rows are.1 are.3 are.5 line id there)
    ]

-- if a stage of a file names another one, that one has a last vertex, which the last vertex of the first reaches
rows_named : (vertices : List Vertex) (tips : Tips) (rows : Rows) (lasts : Tips) (places : Places) → AreRowsLowered vertices tips rows lasts places
    → (number to last : ℕ) (stage : Stage) → slice_get rows number ≡ Some (Some stage) → slice_get lasts number ≡ Some (Some last)
    → StageNamesStage stage to → (k : ℕ) × (slice_get (tips ++ lasts) to ≡ Some (Some k)) × Reaches vertices last k
rows_named vertices tips [] lasts places are number to last stage there tip named = absurd cc
rows_named vertices tips (None ∷ rows) lasts places are zero to last stage there tip named = absurd cc
rows_named vertices tips (Some first ∷ rows) lasts places are zero to last stage there tip named =
    let same : first ≡ stage = cc in
    let at : slice_get lasts 0 ≡ Some (Some are.4.0) = ap (λ ls. slice_get ls 0) are.6 ∙ ap Some are.4.1 in
    let f : Some (Some are.4.0) ≡ Some (Some last) = sym at ∙ tip in
    let one : are.4.0 ≡ last = cc in
    let k = (stage_reaches vertices tips first are.4.0 are.2 are.4.2).others to (subst (λ s. StageNamesStage s to) (sym same) named) in
    (k.0, slice_get-kept tips lasts (Some k.0) to k.1, subst (λ n. Reaches vertices n k.0) one k.2)
rows_named vertices tips (row ∷ rows) lasts places are (suc number) to last stage there tip named =
    let next : slice_get are.1 number ≡ Some (Some last) = sym (ap (λ ls. slice_get ls (suc number)) are.6) ∙ tip in
    let split : tips ++ lasts ≡ (tips ++ are.0 ∷ []) ++ are.1 = ap (λ ls. tips ++ ls) are.6 ∙ sym (append_assoc tips (are.0 ∷ []) are.1) in
    let k = rows_named vertices (tips ++ are.0 ∷ []) rows are.1 are.3 are.5 number to last stage there next named in
    (k.0, subst (λ ts. slice_get ts to ≡ Some (Some k.0)) (sym split) k.1, k.2)

-- so the last vertex of a stage reaches that of each stage that it leads to
path_reaches : (vertices : List Vertex) (rows : Rows) (tips : Tips) (places : Places) → AreRowsLowered vertices [] rows tips places
    → (from : ℕ) (path : List ℕ) (to last k : ℕ) → IsPath (NamesStage rows) from path to → slice_get tips from ≡ Some (Some last)
    → slice_get tips to ≡ Some (Some k) → Reaches vertices last k
path_reaches vertices rows tips places are from [] to last k path tip e =
    let f : Some (Some last) ≡ Some (Some k) = sym tip ∙ (ap (slice_get tips) path ∙ e) in
    let same : last ≡ k = cc in
    subst (Reaches vertices last) same (reach_self vertices last)
path_reaches vertices rows tips places are from (next ∷ path) to last k leads tip e =
    let names = leads.0 in
    let one = rows_named vertices [] rows tips places are from next last names.stage names.there tip names.named in
    reach_on vertices last one.0 k one.2 (path_reaches vertices rows tips places are next path to one.0 k leads.1 one.1 e)

pub stands_needed : {C : Type 0} (out : Out) (plan : PlanValue C) (rows : Rows) (target : ℕ) → StandsFor plan rows target → NeedsAllStages rows target
    → NeedsAll (problem_of out plan)
stands_needed out plan rows target stands needs = λ vertex lt.
    let vertices = plan.graph.vertices in
    let line = stands.lined vertex lt in
    let found = rows_places vertices [] rows stands.tips stands.places stands.lowered line.0 vertex ((stands.lines vertex line.0).0 line.1) in
    let path = needs found.number found.stage found.there in
    reach_on vertices plan.target found.last vertex
    (path_reaches vertices rows stands.tips stands.places stands.lowered target path.0 found.number plan.target found.last path.1 stands.last found.tip) found.reached
