-- Each table has an evaluation or a refusal: there are marks of the stages that it needs, and trees of the images that these name.
use Rattle.std.specs.Prelude.{◌≡◌, ◌<◌, ◌+◌, ◌⊎◌, ◌||◌, ◌&&◌, ℕ, zero, suc, Bool, true, false, List, [], ◌∷◌, Some, Result, Ok, Err, Contains, length, slice_get, nat_eq, reverse, refl}
use Rattle.std.specs.List.{All, list_any}
use Rattle.std.specs.FinMap.{empty, entries, insert}
use Rattle.std.proofs.Common.{sym, ◌∙◌, ap, subst, arith, inl, inr}
use Rattle.std.proofs.lemmas.Bool.{true≢false}
use Rattle.std.proofs.lemmas.Bool.Decides.{nat_tests}
use Rattle.std.proofs.lemmas.List.Elements.{All-nil, All-cons, All-head, All-tail, All-append, All-contains}
use Rattle.std.proofs.lemmas.List.Folds.{Any-from_list_any, list_any_at}
use Rattle.plain.specs.Marks.{is_marked, IsPath}
use Rattle.plain.proofs.MarkFacts.{reached_more}
use Rattle.plain.specs.declared.fault.Fault.TheVariants.{Because}
use Rattle.expand.specs.declared.reason.Rejection.{Rejection}
use Rattle.trees.specs.TreeMap.{TreeMap}
use Rattle.plans.specs.Images.{ImagesValue}
use Rattle.plans.specs.Sources.{SourcesValue}
use Rattle.plans.specs.declared.images.Image as image
use Rattle.rows.specs.declared.row.Origin.{Origin}
use Rattle.rows.specs.declared.row.Origin.TheVariants.{Source as SourceOf, Stage as StageOf}
use Rattle.scopes.specs.Evaluate.{Values}
use Rattle.stages.specs.Needed.{origins_in, stage_origins, Refers, IsNeeded, AreNeeded}
use Rattle.stages.specs.Table.{TableValue, IsBefore, IsResolved, IsStage, IsTable}
use Rattle.stages.specs.declared.stage.ResolvedInstruction.{ResolvedInstruction}
use Rattle.stages.specs.declared.stage.ResolvedStage.{ResolvedStage}
use Rattle.imageconfig.specs.declared.config.Config.{Config}
use Rattle.evaluation.specs.Evaluated.{evaluated, config_at, EvaluatesTable}
use Rattle.evaluation.specs.Images.{ImageNames, is_among, AreSources}
use Rattle.evaluation.specs.declared.evaluated.Evaluated.{Evaluated}
use Rattle.evaluation.specs.declared.walk.Walk.{Walk}
use Rattle.evaluation.proofs.ImageFacts.{NamedSoFar, named_first, named_some, named_none, named_all}

-- the marks: a stage has one where it is the target, or where a later stage that has one names it

abbrev names_stage : ℕ → Origin → Bool
names_stage number (SourceOf source) = false
names_stage number (StageOf other) = nat_eq other number

abbrev refers_to : ℕ → ResolvedStage → Bool
refers_to number stage = list_any (names_stage number) (stage_origins stage)

abbrev is_referred : ℕ → List Bool → List ResolvedStage → Bool
is_referred number [] stages = false
is_referred number (mark ∷ marks) [] = false
is_referred number (mark ∷ marks) (stage ∷ stages) = (mark && refers_to number stage) || is_referred number marks stages

abbrev marks_from : ℕ → ℕ → List ResolvedStage → List Bool
marks_from target number [] = []
marks_from target number (stage ∷ stages) =
    (nat_eq target number || is_referred number (marks_from target (suc number) stages) stages) ∷ marks_from target (suc number) stages

-- tests

or_first : (a b : Bool) → a ≡ true → (a || b) ≡ true
or_first true b h = refl
or_first false b h = absurd (true≢false (sym h))

or_second : (a b : Bool) → b ≡ true → (a || b) ≡ true
or_second true b h = refl
or_second false b h = h

or_cases : (a b : Bool) → (a || b) ≡ true → (a ≡ true) ⊎ (b ≡ true)
or_cases true b h = inl refl
or_cases false b h = inr h

and_both : (a b : Bool) → a ≡ true → b ≡ true → (a && b) ≡ true
and_both true b h k = k
and_both false b h k = h

and_first : (a b : Bool) → (a && b) ≡ true → a ≡ true
and_first true b h = refl
and_first false b h = h

and_second : (a b : Bool) → (a && b) ≡ true → b ≡ true
and_second true b h = h
and_second false b h = absurd (true≢false (sym h))

eq_is : (a b : ℕ) → nat_eq a b ≡ true → a ≡ b
eq_is a b h = grind (arith, nat_tests)

eq_itself : (a : ℕ) → nat_eq a a ≡ true
eq_itself a = grind (arith, nat_tests)

-- what a stage names

names_is : (number : ℕ) (origin : Origin) → names_stage number origin ≡ true → origin ≡ StageOf number
names_is number (SourceOf source) h = absurd (true≢false (sym h))
names_is number (StageOf other) h = ap StageOf (eq_is other number h)

refers_named : (number : ℕ) (stage : ResolvedStage) → refers_to number stage ≡ true → Contains (stage_origins stage) (StageOf number)
refers_named number stage h =
    let found = Any-from_list_any (names_stage number) (stage_origins stage) h in
    subst (Contains (stage_origins stage)) (names_is number found.1 found.4) (found.0, found.2, found.3)

named_refers : (number : ℕ) (stage : ResolvedStage) → Contains (stage_origins stage) (StageOf number) → refers_to number stage ≡ true
named_refers number stage h =
    list_any_at (names_stage number) (stage_origins stage) h.0 (StageOf number) h.1 (ap (names_stage number) h.2 ∙ eq_itself number)

record Referred (number : ℕ) (marks : List Bool) (stages : List ResolvedStage) : Type 0 where
  at : ℕ
  stage : ResolvedStage
  marked : is_marked marks at ≡ true
  there : slice_get stages at ≡ Some stage
  refers : refers_to number stage ≡ true

referred_there : (number : ℕ) (marks : List Bool) (stages : List ResolvedStage) → is_referred number marks stages ≡ true → Referred number marks stages
referred_there number [] stages h = absurd (true≢false (sym h))
referred_there number (mark ∷ marks) [] h = absurd (true≢false (sym h))
referred_there number (mark ∷ marks) (stage ∷ stages) h = elim (or_cases (mark && refers_to number stage) (is_referred number marks stages) h) [
  | inl both ↦
      record {
        at = 0;
        stage = stage;
        marked = and_first mark (refers_to number stage) both;
        there = refl;
        refers = and_second mark (refers_to number stage) both;
      }
  | inr rest ↦
      let found = referred_there number marks stages rest in
      record { at = suc found.at; stage = found.stage; marked = found.marked; there = found.there; refers = found.refers }
]

referred_from : (number : ℕ) (marks : List Bool) (stages : List ResolvedStage) (at : ℕ) (stage : ResolvedStage)
    → is_marked marks at ≡ true → slice_get stages at ≡ Some stage → refers_to number stage ≡ true → is_referred number marks stages ≡ true
referred_from number [] stages at stage marked there refers = absurd (true≢false (sym marked))
referred_from number (mark ∷ marks) [] at stage marked there refers = absurd cc
referred_from number (mark ∷ marks) (s ∷ ss) zero stage marked there refers =
    let same : s ≡ stage = cc in
    or_first (mark && refers_to number s) (is_referred number marks ss) (and_both mark (refers_to number s) marked (ap (refers_to number) same ∙ refers))
referred_from number (mark ∷ marks) (s ∷ ss) (suc at) stage marked there refers =
    or_second (mark && refers_to number s) (is_referred number marks ss) (referred_from number marks ss at stage marked there refers)

-- what is marked is needed

abbrev Look : List ResolvedStage → ℕ → List ResolvedStage → Type 0
Look all number stages = (k m : ℕ) (stage : ResolvedStage) → m ≡ number + k → slice_get stages k ≡ Some stage → slice_get all m ≡ Some stage

look_rest : (all : List ResolvedStage) (number : ℕ) (stage : ResolvedStage) (stages : List ResolvedStage) → Look all number (stage ∷ stages) → Look all (suc number) stages
look_rest all number stage stages look k m s at there = look (suc k) m s (omega (arith, at)) there

sound : (all : List ResolvedStage) (target : ℕ) (stages : List ResolvedStage) (number : ℕ) → Look all number stages
    → (k m : ℕ) → m ≡ number + k → is_marked (marks_from target number stages) k ≡ true → IsNeeded all target m
sound all target [] number look k m at h = absurd (true≢false (sym h))
sound all target (stage ∷ stages) number look zero m at h =
    elim (or_cases (nat_eq target number) (is_referred number (marks_from target (suc number) stages) stages) h) [
      | inl here ↦
          let is = eq_is target number here in
          let same : target ≡ m = omega (arith, at, is) in
          ([], same)
      | inr referred ↦
          let found = referred_there number (marks_from target (suc number) stages) stages referred in
          let needs = sound all target stages (suc number) (look_rest all number stage stages look) found.at (suc number + found.at) refl found.marked in
          let there = look (suc found.at) (suc number + found.at) found.stage (omega arith) found.there in
          let named = refers_named number found.stage found.refers in
          let same : number ≡ m = omega (arith, at) in
          subst (IsNeeded all target) same
          (reached_more (Refers all) target (suc number + found.at) number needs (record { stage = found.stage; there = there; named = named }))
    ]
sound all target (stage ∷ stages) number look (suc k) m at h =
    sound all target stages (suc number) (look_rest all number stage stages look) k m (omega (arith, at)) h

-- what is needed is marked

target_marked : (target : ℕ) (stages : List ResolvedStage) (number k : ℕ) → target ≡ number + k → k < length stages → is_marked (marks_from target number stages) k ≡ true
target_marked target [] number k at within = absurd (omega (arith, within))
target_marked target (stage ∷ stages) number zero at within =
    let same : target ≡ number = omega (arith, at) in
    or_first (nat_eq target number) (is_referred number (marks_from target (suc number) stages) stages) (subst (λ (n : ℕ). nat_eq target n ≡ true) same (eq_itself target))
target_marked target (stage ∷ stages) number (suc k) at within = target_marked target stages (suc number) k (omega (arith, at)) (omega (arith, within))

named_is : (target : ℕ) (stages : List ResolvedStage) (number i j : ℕ) (stage : ResolvedStage) (m : ℕ) → m ≡ number + i → i < j → is_marked (marks_from target number stages) j ≡ true
    → slice_get stages j ≡ Some stage → refers_to m stage ≡ true → is_marked (marks_from target number stages) i ≡ true
named_is target [] number i j stage m at before marked there refers = absurd (true≢false (sym marked))
named_is target (s ∷ ss) number i zero stage m at before marked there refers = absurd (omega (arith, before))
named_is target (s ∷ ss) number zero (suc j) stage m at before marked there refers =
    let same : m ≡ number = omega (arith, at) in
    or_second (nat_eq target number) (is_referred number (marks_from target (suc number) ss) ss)
    (referred_from number (marks_from target (suc number) ss) ss j stage marked there (subst (λ (n : ℕ). refers_to n stage ≡ true) same refers))
named_is target (s ∷ ss) number (suc i) (suc j) stage m at before marked there refers =
    named_is target ss (suc number) i j stage m (omega (arith, at)) (omega (arith, before)) marked there refers

origins_before : (number : ℕ) (rs : List ResolvedInstruction) → All (IsResolved number) rs → All (IsBefore number) (origins_in rs)
origins_before number [] are = All-nil (IsBefore number)
origins_before number (r ∷ rs) are =
    let first = All-head (IsResolved number) r rs are in
    All-append (IsBefore number) r.origins (origins_in rs) first.before (origins_before number rs (All-tail (IsResolved number) r rs are))

all_before : (number : ℕ) (stage : ResolvedStage) → IsStage number stage → All (IsBefore number) (stage_origins stage)
all_before number stage is = All-cons (IsBefore number) stage.base (origins_in stage.instructions) is.base (origins_before number stage.instructions is.instructions)

complete : (table : TableValue) → IsTable table → (path : List ℕ) (from to : ℕ) → is_marked (marks_from table.target 0 table.stages) from ≡ true
    → IsPath (Refers table.stages) from path to → is_marked (marks_from table.target 0 table.stages) to ≡ true
complete table is [] from to marked leads = subst (λ (n : ℕ). is_marked (marks_from table.target 0 table.stages) n ≡ true) leads marked
complete table is (next ∷ path) from to marked leads =
    let refers = leads.0 in
    let all = all_before from refers.stage (is.each from refers.stage refers.there) in
    let before : next < from = All-contains (IsBefore from) (stage_origins refers.stage) (StageOf next) all refers.named in
    complete table is path next to
    (named_is table.target table.stages 0 next from refers.stage next (omega arith) before marked refers.there (named_refers next refers.stage refers.named)) leads.1

marks_long : (target : ℕ) (stages : List ResolvedStage) (number : ℕ) → length (marks_from target number stages) ≡ length stages
marks_long target [] number = refl
marks_long target (stage ∷ stages) number = ap suc (marks_long target stages (suc number))

marks_are : (table : TableValue) → IsTable table → AreNeeded table.stages table.target (marks_from table.target 0 table.stages)
marks_are table is = record {
  long = marks_long table.target table.stages 0;
  just = λ stage. (
    λ marked.
        sound table.stages table.target table.stages 0
        (λ k m s at there. (let same : k ≡ m = omega (arith, at) in subst (λ (n : ℕ). slice_get table.stages n ≡ Some s) same there)) stage stage (omega arith) marked,
    λ needs. complete table is needs.0 table.target stage (target_marked table.target table.stages 0 table.target (omega arith) is.has_target) needs.1,
  );
}

-- the trees of the images that are named

record Named {C : Type 0} (context : TreeMap) (all : ImagesValue C) (names : ImageNames) (rest : List (List ℕ × image.Image C)) : Type 0 where
  sources : SourcesValue
  far : NamedSoFar context all names rest sources

named_next : {C : Type 0} (context : TreeMap) (all : ImagesValue C) (names : ImageNames) (rest : List (List ℕ × image.Image C)) (next : List ℕ × image.Image C) (sources : SourcesValue) (named : Bool)
    → NamedSoFar context all names (next ∷ rest) sources → is_among names next.0 ≡ named → Named context all names rest
named_next context all names rest next sources true far is =
    let more : SourcesValue = record sources { images = insert sources.images next.0 next.1.tree } in
    record {
      sources = more;
      far = named_some context all names (next ∷ rest) rest next sources far refl more is refl;
    }
named_next context all names rest next sources false far is = record {
  sources = sources;
  far = named_none context all names (next ∷ rest) rest next sources far refl is;
}

sources_from : {C : Type 0} (context : TreeMap) (all : ImagesValue C) (names : ImageNames) (rest : List (List ℕ × image.Image C)) (sources : SourcesValue)
    → NamedSoFar context all names rest sources → (held : SourcesValue) × AreSources context all names held
sources_from context all names [] sources far = (sources, named_all context all names [] sources far refl)
sources_from context all names (next ∷ rest) sources far =
    let more = named_next context all names rest next sources (is_among names next.0) far refl in
    sources_from context all names rest more.sources more.far

sources_are : (context : TreeMap) (all : ImagesValue Config) (names : ImageNames) → (held : SourcesValue) × AreSources context all names held
sources_are context all names =
    let none : SourcesValue = record { context = context; images = empty } in
    sources_from context all names (reverse (entries all)) none (named_first context all names (reverse (entries all)) none refl refl)

-- an evaluation or a refusal

abbrev pub HasAnswer : Values → ImagesValue Config → TreeMap → TableValue → Type 0
HasAnswer args images context table =
    ((made : Evaluated) × EvaluatesTable args images context table (Ok made)) ⊎ ((refusal : Rejection) × EvaluatesTable args images context table (Err (Because refusal)))

answer_by : (args : Values) (images : ImagesValue Config) (context : TreeMap) (table : TableValue) (needed : List Bool) (result : Result Walk Rejection)
    → AreNeeded table.stages table.target needed → evaluated args images needed table ≡ result → HasAnswer args images context table
answer_by args images context table needed (Ok walk) are is =
    let held = sources_are context images walk.names in
    let made : Evaluated = record { rows = walk.rows; target = table.target; config = config_at walk.states table.target; sources = held.0 } in
    inl (made, (needed, are, (walk, is, record { rows = refl; target = refl; config = refl; sources = held.1 })))
answer_by args images context table needed (Err refusal) are is = inr (refusal, (needed, are, is))

pub has_answer : (args : Values) (images : ImagesValue Config) (context : TreeMap) (table : TableValue) → IsTable table → HasAnswer args images context table
has_answer args images context table is =
    let needed = marks_from table.target 0 table.stages in
    answer_by args images context table needed (evaluated args images needed table) (marks_are table is) refl
