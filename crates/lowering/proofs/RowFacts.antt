-- Files that were lowered, row by row.
use Rattle.std.proofs.Common.{◌≡◌, ◌⊎◌, inl, inr, ◌<◌, ◌≤◌, ◌+◌, ◌*◌, ℕ, zero, suc, List, [], ◌∷◌, ◌++◌, length, Option, Some, None, refl, sym, ap}
use Rattle.std.proofs.Common.{◌∙◌, subst, arith, append_assoc, append-nil}
use Rattle.std.specs.Prelude.{slice_get}
use Rattle.std.specs.List.{All}
use Rattle.std.proofs.lemmas.List.Elements.{All-weaker, All-head, All-tail}
use Rattle.llb.specs.declared.vertex.Vertex.{Vertex}
use Rattle.llb.specs.Graph.{GraphValue}
use Rattle.plans.specs.Sources.{SourcesValue}
use Rattle.rows.specs.declared.row.Origin.{Origin}
use Rattle.rows.specs.declared.row.Origin.TheVariants.{Source as SourceOf, Stage as StageOf}
use Rattle.rows.specs.declared.row.Action.{Action}
use Rattle.rows.specs.declared.row.Action.TheVariants.{Run, Copy, MakeDirs}
use Rattle.rows.specs.declared.row.Step.{Step}
use Rattle.rows.specs.declared.row.Stage.{Stage}
use Rattle.lowering.specs.Meaning.{Rows}
use Rattle.lowering.specs.Vertices.{Tips, Places, IsRowLowered, AreRowsLowered}
use Rattle.rows.specs.WellFormed.{HasTree, NamesOnly, StageNames, RowNames, IsNamed, IsStage, IsRow, IsWellFormed, row_steps, count_of_steps}
use Rattle.lowering.specs.PrivateRoom.{HasRoom, RoomFor}
use Rattle.lowering.specs.PrivateGrowth.{no_graph, HasTip, IsStagePut, IsRowPut, AreRowsPut}
use Rattle.lowering.proofs.Fronts.{slice_get-kept, rows_kept}
use Rattle.lowering.proofs.Growing.{grows_none, grows_both, grows_long}
use Rattle.lowering.proofs.InputFacts.{none_left, All-front, All-last}
use Rattle.lowering.proofs.Rooms.{room_less}

-- what may be named after some rows has its last vertex
names_weaker : (P Q : Origin → Type 0) → ((origin : Origin) → P origin → Q origin) → (action : Action) → NamesOnly P action → NamesOnly Q action
names_weaker P Q to (Run exec from) names = All-weaker P Q to from names
names_weaker P Q to (Copy files from linked) names = All-weaker P Q to _ names
names_weaker P Q to (MakeDirs path) names = tt

stage_weaker : (P Q : Origin → Type 0) → ((origin : Origin) → P origin → Q origin) → (stage : Stage) → StageNames P stage → StageNames Q stage
stage_weaker P Q to stage names = record {
  base = to stage.base names.base;
  steps = All-weaker (λ (x : Step). NamesOnly P x.action) (λ (x : Step). NamesOnly Q x.action) (λ x. names_weaker P Q to x.action) stage.steps names.steps;
}

named_tip : (rows : Rows) (tips : Tips)
    → ((number : ℕ) (stage : Stage) → slice_get rows number ≡ Some (Some stage) → (id : ℕ) × (slice_get tips number ≡ Some (Some id)))
    → (origin : Origin) → IsNamed rows origin → HasTip tips origin
named_tip rows tips there (SourceOf source) named = named
named_tip rows tips there (StageOf number) named = there number named.0 named.1

row_names : (rows : Rows) (tips : Tips) (row : Option Stage)
    → ((number : ℕ) (stage : Stage) → slice_get rows number ≡ Some (Some stage) → (id : ℕ) × (slice_get tips number ≡ Some (Some id)))
    → IsRow rows row → RowNames (HasTip tips) row
row_names rows tips None there is = tt
row_names rows tips (Some stage) there is = stage_weaker (IsNamed rows) (HasTip tips) (named_tip rows tips there) stage is.1

row_formed : (rows : Rows) (row : Option Stage) → IsRow rows row → (stage : Stage) → row ≡ Some stage → IsStage stage
row_formed rows row is stage e = (subst (IsRow rows) e is).0

-- a row that is left out
pub row_none : (graph : GraphValue) (tips : Tips) → IsRowPut graph graph tips None None
row_none graph tips = record {
  places = [];
  is = (refl, refl);
  grows = grows_none graph;
  inside = λ id e. absurd cc;
  uses = λ s left has room. room_less s graph (left + 2 * 0) left room (omega arith);
}

-- a stage
pub row_stage : (old new : GraphValue) (tips : Tips) (stage : Stage) (last : ℕ) → IsStagePut old new tips stage last
    → IsRowPut old new tips (Some stage) (Some last)
row_stage old new tips stage last put = record {
  places = put.places;
  is = (last, refl, put.is);
  grows = put.grows;
  inside = λ id e. (let same : last ≡ id = cc in subst (λ n. n < length new.vertices) same put.inside);
  uses = put.uses;
}

pub slice_get-last_cases : {X : Type 0} (xs : List X) (x y : X) (k : ℕ) → slice_get (xs ++ x ∷ []) k ≡ Some y
    → (slice_get xs k ≡ Some y) ⊎ ((k ≡ length xs) × (x ≡ y))
slice_get-last_cases [] x y zero e = inr (refl, cc)
slice_get-last_cases [] x y (suc k) e = absurd cc
slice_get-last_cases (z ∷ zs) x y zero e = inl e
slice_get-last_cases (z ∷ zs) x y (suc k) e = elim (slice_get-last_cases zs x y k e) [
  | inl before ↦ inl before
  | inr last ↦ inr (ap suc last.0, last.1)
]

pub slice_get-end : {X : Type 0} (xs : List X) (x : X) → slice_get (xs ++ x ∷ []) (length xs) ≡ Some x
slice_get-end [] x = refl
slice_get-end (y ∷ ys) x = slice_get-end ys x

count-append : (rows : Rows) (row : Option Stage) → count_of_steps (rows ++ row ∷ []) ≡ count_of_steps rows + row_steps row
count-append [] row = omega arith
count-append (first ∷ rows) row = (let rest = count-append rows row in omega (arith, rest))

rows_lowered-more : (vertices : List Vertex) (tips : Tips) (done : Rows) (row : Option Stage) (lasts : Tips) (tip : Option ℕ) (before here : Places)
    → AreRowsLowered vertices tips done lasts before → IsRowLowered vertices (tips ++ lasts) row tip here
    → AreRowsLowered vertices tips (done ++ row ∷ []) (lasts ++ tip ∷ []) (before ++ here)
rows_lowered-more vertices tips [] row lasts tip before here are is =
    let at : tips ++ lasts ≡ tips = ap (λ ls. tips ++ ls) are.0 ∙ append-nil tips in (
      tip,
      [],
      here,
      [],
      subst (λ ts. IsRowLowered vertices ts row tip here) at is,
      (refl, refl),
      ap (λ ls. ls ++ tip ∷ []) are.0,
      ap
          (λ ps. ps ++ here) are.1 ∙ sym (append-nil here),
    )
rows_lowered-more vertices tips (first ∷ done) row lasts tip before here are is =
    let at : tips ++ lasts ≡ (tips ++ are.0 ∷ []) ++ are.1 = ap (λ ls. tips ++ ls) are.6 ∙ sym (append_assoc tips (are.0 ∷ []) are.1) in (
      are.0,
      are.1 ++ tip ∷ [],
      are.2,
      are.3 ++ here,
      are.4,
      rows_lowered-more vertices (tips ++ are.0 ∷ []) done row are.1 tip are.3 here are.5 (subst (λ ts. IsRowLowered vertices ts row tip here) at is),
      ap (λ ls. ls ++ tip ∷ []) are.6,
      ap (λ ps. ps ++ here) are.7 ∙ append_assoc are.2 are.3 here,
    )

-- there is a last vertex for each stage that isn't left out
row_there : (vertices : List Vertex) (tips : Tips) (stage : Stage) (tip : Option ℕ) (places : Places)
    → IsRowLowered vertices tips (Some stage) tip places → (id : ℕ) × (tip ≡ Some id)
row_there vertices tips stage tip places is = (is.0, is.1)

rows_long : (vertices : List Vertex) (tips : Tips) (rows : Rows) (lasts : Tips) (places : Places) → AreRowsLowered vertices tips rows lasts places
    → length lasts ≡ length rows
rows_long vertices tips [] lasts places are = ap length are.0
rows_long vertices tips (row ∷ rows) lasts places are = ap length are.6 ∙ ap suc (rows_long vertices (tips ++ are.0 ∷ []) rows are.1 are.3 are.5)

rows_more : (done : Rows) (row : Option Stage) (old new : GraphValue) (tips : Tips) (tip : Option ℕ) → AreRowsPut done old tips
    → IsRowPut old new tips row tip → AreRowsPut (done ++ row ∷ []) new (tips ++ tip ∷ [])
rows_more done row old new tips tip are put =
    let longer : length old.vertices ≤ length new.vertices = grows_long old new put.places put.grows in
    record {
      places = are.places ++ put.places;
      are = rows_lowered-more new.vertices [] done row tips tip are.places put.places
          (rows_kept old.vertices new.vertices [] done tips are.places put.grows.front are.are) put.is;
      grows = grows_both no_graph old new are.places put.places are.grows put.grows;
      inside = λ number id e. elim (slice_get-last_cases tips tip (Some id) number e) [
        | inl before ↦ omega (arith, are.inside number id before, longer)
        | inr last ↦ put.inside id last.1
      ];
      there = λ number stage e. elim (slice_get-last_cases done row (Some stage) number e) [
        | inl before ↦ (let tip_of = are.there number stage before in (tip_of.0, slice_get-kept tips (tip ∷ []) (Some tip_of.0) number tip_of.1))
        | inr last ↦
            let tip_of = row_there new.vertices tips stage tip put.places (subst (λ r. IsRowLowered new.vertices tips r tip put.places) last.1 put.is) in
            let place : length tips ≡ number = rows_long old.vertices [] done tips are.places are.are ∙ sym last.0 in
            (tip_of.0, subst (λ n. slice_get (tips ++ tip ∷ []) n ≡ Some (Some tip_of.0)) place (slice_get-end tips tip ∙ ap Some tip_of.1))
      ];
      uses = λ s left has room.
          put.uses s left (All-last (RowNames (HasTree s)) done row has)
          (are.uses s (left + 2 * row_steps row) (All-front (RowNames (HasTree s)) done row has)
          (room_less s no_graph (left + 2 * count_of_steps (done ++ row ∷ [])) (left + 2 * row_steps row + 2 * count_of_steps done) room
          (omega (arith, count-append done row))));
    }

-- the first rows of a file were lowered, and those are left
pub record RowsSoFar (all rest : Rows) (graph : GraphValue) (tips : Tips) : Type 0 where
  pub done : Rows
  pub split : all ≡ done ++ rest
  pub are : AreRowsPut done graph tips
  pub from : SourcesValue
  pub has : All (RowNames (HasTree from)) rest
  pub room : HasRoom from graph (2 * count_of_steps rest)

pub rows_first : (all : Rows) (graph : GraphValue) (tips : Tips) → graph ≡ no_graph → tips ≡ []
    → RoomFor (λ s. All (RowNames (HasTree s)) all) no_graph (2 * count_of_steps all) → RowsSoFar all all graph tips
rows_first all graph tips is none room = rw (is, none) (record {
  done = [];
  split = refl;
  are = record {
    places = [];
    are = (refl, refl);
    grows = grows_none no_graph;
    inside = λ number id e. absurd cc;
    there = λ number stage e. absurd cc;
    uses = λ s left has full. room_less s no_graph (left + 2 * 0) left full (omega arith);
  };
  from = room.sources;
  has = room.has;
  room = room.room;
})

pub rows_step : (all rest left : Rows) (row : Option Stage) (old new : GraphValue) (tips more : Tips) (tip : Option ℕ) → RowsSoFar all rest old tips
    → rest ≡ row ∷ left → IsRowPut old new tips row tip → more ≡ tips ++ tip ∷ [] → RowsSoFar all left new more
rows_step all rest left row old new tips more tip so_far is put added =
    let here : All (RowNames (HasTree so_far.from)) (row ∷ left) = subst (All (RowNames (HasTree so_far.from))) is so_far.has in
    record {
      done = so_far.done ++ row ∷ [];
      split = so_far.split ∙ (ap (λ rs. so_far.done ++ rs) is ∙ sym (append_assoc so_far.done (row ∷ []) left));
      are = subst (AreRowsPut (so_far.done ++ row ∷ []) new) (sym added) (rows_more so_far.done row old new tips tip so_far.are put);
      from = so_far.from;
      has = All-tail (RowNames (HasTree so_far.from)) row left here;
      room = put.uses so_far.from (2 * count_of_steps left) (All-head (RowNames (HasTree so_far.from)) row left here)
          (room_less so_far.from old (2 * count_of_steps rest) (2 * count_of_steps left + 2 * row_steps row) so_far.room
          (omega (arith, ap count_of_steps is)));
    }

pub rows_room : (all rest left : Rows) (row : Option Stage) (graph : GraphValue) (tips : Tips) → RowsSoFar all rest graph tips → rest ≡ row ∷ left
    → RoomFor (λ s. RowNames (HasTree s) row) graph (2 * row_steps row)
rows_room all rest left row graph tips so_far is = record {
  sources = so_far.from;
  has = All-head (RowNames (HasTree so_far.from)) row left (subst (All (RowNames (HasTree so_far.from))) is so_far.has);
  room = room_less so_far.from graph (2 * count_of_steps rest) (2 * row_steps row) so_far.room (omega (arith, ap count_of_steps is));
}

next_row : (all rest left : Rows) (row : Option Stage) (graph : GraphValue) (tips : Tips) → IsWellFormed all
    → (so_far : RowsSoFar all rest graph tips) → rest ≡ row ∷ left → IsRow so_far.done row
next_row all rest left row graph tips formed so_far is = formed so_far.done left row (so_far.split ∙ ap (λ rs. so_far.done ++ rs) is)

pub rows_formed : (all rest left : Rows) (row : Option Stage) (graph : GraphValue) (tips : Tips) → IsWellFormed all → RowsSoFar all rest graph tips
    → rest ≡ row ∷ left → (stage : Stage) → row ≡ Some stage → IsStage stage
rows_formed all rest left row graph tips formed so_far is = row_formed so_far.done row (next_row all rest left row graph tips formed so_far is)

pub rows_named : (all rest left : Rows) (row : Option Stage) (graph : GraphValue) (tips : Tips) → IsWellFormed all → RowsSoFar all rest graph tips
    → rest ≡ row ∷ left → RowNames (HasTip tips) row
rows_named all rest left row graph tips formed so_far is =
    row_names so_far.done tips row so_far.are.there (next_row all rest left row graph tips formed so_far is)

pub rows_all : (all rest : Rows) (graph : GraphValue) (tips : Tips) → RowsSoFar all rest graph tips → length rest ≡ 0 → AreRowsPut all graph tips
rows_all all rest graph tips so_far over =
    let whole : so_far.done ≡ all = sym (so_far.split ∙ (ap (λ rs. so_far.done ++ rs) (none_left rest over) ∙ append-nil so_far.done)) in
    subst (λ rs. AreRowsPut rs graph tips) whole so_far.are
