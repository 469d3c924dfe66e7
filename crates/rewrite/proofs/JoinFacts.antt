-- The vertices that are joined, one after another.
use Rattle.std.proofs.Common.{◌≡◌, ◌⊎◌, ◌↔◌, inl, inr, ◌<◌, ◌≤◌, ◌+◌, ℕ, zero, suc, Bool, true, false, List, [], ◌∷◌, ◌++◌, length, Option, Some, None, Ok, refl, sym, ap}
use Rattle.std.proofs.Common.{◌∙◌, subst, arith, length-append, append_assoc, append-nil}
use Rattle.std.specs.Prelude.{Contains, slice_get, slice_index_or}
use Rattle.std.specs.List.{All}
use Rattle.std.proofs.Math.ListN.{length-set}
use Rattle.std.proofs.lemmas.Bool.{cases_eq, cases_lt, true≢false}
use Rattle.std.proofs.lemmas.Option.{slice_get_within, slice_get-get_or, slice_get_read, get_or_from_slice_get}
use Rattle.std.proofs.lemmas.List.{get_or_past, get_or_append_left, get_or-append-add, get_or-set_same, get_or-set_other}
use Rattle.std.proofs.lemmas.List.Elements.{length_all_zip, All-nil, All-cons, Contains-get_or}
use Rattle.llb.specs.declared.vertex.Vertex.{Vertex}
use Rattle.llb.specs.Graph.{GraphValue, Adds, IsFound, IsAppended}
use Rattle.llb.specs.Places.{AreLines, with_lines, places_with}
use Rattle.llb.proofs.GraphLaws.{added_stands}
use Rattle.llb.proofs.LineFacts.{contains_nil, lines_added}
use Rattle.lowering.specs.Means.{lines_at}
use Rattle.lowering.proofs.Fronts.{slice_get-kept}
use Rattle.lowering.proofs.RowFacts.{slice_get-last_cases, slice_get-end}
use Rattle.plain.specs.Marks.{is_marked}
use Rattle.rewrite.specs.PrivateJoined.{HasName, AreInside, AreJoinable, IsJoined, IsNamedJoined, AreJoined}
use Rattle.rewrite.specs.Pruned.{Names, AreNames, IsRenamed}

-- ---- names

pub names_more : (names more : Names) (olds news : List ℕ) → AreNames names olds news → AreNames (names ++ more) olds news
names_more names more [] [] are = are
names_more names more [] (n ∷ ns) are = are
names_more names more (o ∷ os) [] are = are
names_more names more (o ∷ os) (n ∷ ns) are = (slice_get-kept names more (Some n) o are.0, names_more names more os ns are.1)

pub renamed_more : (names more : Names) (old new : Vertex) → IsRenamed names old new → IsRenamed (names ++ more) old new
renamed_more names more old new is = record { op = is.op; inputs = names_more names more old.inputs new.inputs is.inputs }

pub names_inside : (names : Names) (n : ℕ) (olds news : List ℕ) → AreInside names n → AreNames names olds news → All (λ i. i < n) news
names_inside names n [] [] inside are = All-nil (λ i. i < n)
names_inside names n [] (m ∷ ms) inside are = absurd are
names_inside names n (o ∷ os) [] inside are = absurd are
names_inside names n (o ∷ os) (m ∷ ms) inside are = All-cons (λ i. i < n) m ms (inside o m are.0) (names_inside names n os ms inside are.1)

pub names_long : (names : Names) (olds news : List ℕ) → AreNames names olds news → length news ≡ length olds
names_long names olds news are = sym (length_all_zip (λ old new. slice_get names old ≡ Some (Some new)) olds news are)

-- what adding a vertex on its new inputs does
pub joined_by : (old new : GraphValue) (names : Names) (vertex : Vertex) (inputs lines : List ℕ) (id : ℕ) → AreNames names vertex.inputs inputs
    → Adds old new (record { op = vertex.op; inputs = inputs }) lines (Ok id) → IsJoined old new names vertex lines id
joined_by old new names vertex inputs lines id are adds =
    record { renamed = record { op = vertex.op; inputs = inputs }; is = record { op = refl; inputs = are }; adds = adds }

-- ---- lines

-- the lines of vertices, with these more for one of them
pub lines_with : (places : List (List ℕ)) (more : List ℕ) (id k l : ℕ) → id < length places
    → Contains (slice_index_or (places_with more id places) k []) l ↔ (Contains (slice_index_or places k []) l ⊎ ((k ≡ id) × Contains more l))
lines_with places [] id k l lt = (λ h. inl h, λ cases. elim cases [ inl before ↦ before | inr now ↦ absurd (contains_nil l now.1) ])
lines_with places (line ∷ more) id k l lt = elim (cases_eq k id) [
  | inl same ↦
      let all : List ℕ = with_lines (line ∷ more) (slice_index_or places id []) in
      let here : slice_index_or (places_with (line ∷ more) id places) k [] ≡ with_lines (line ∷ more) (slice_index_or places k []) =
      ap (λ n. slice_index_or (places_with (line ∷ more) id places) n []) same
      ∙ (get_or-set_same places id all [] lt ∙ ap (λ n. with_lines (line ∷ more) (slice_index_or places n [])) (sym same)) in
      let added = lines_added (line ∷ more) (slice_index_or places k []) l in (
        λ h. elim (added.0 (subst (λ ls. Contains ls l) here h)) [ inl now ↦ inr (same, now) | inr before ↦ inl before ],
        λ cases. subst (λ ls. Contains ls l) (sym here) (added.1 (elim cases [ inl before ↦ inr before | inr now ↦ inl now.1 ])),
      )
  | inr ne ↦
      let there : slice_index_or (places_with (line ∷ more) id places) k [] ≡ slice_index_or places k [] =
      get_or-set_other places id k (with_lines (line ∷ more) (slice_index_or places id [])) [] ne in (
        λ h. inl (subst (λ ls. Contains ls l) there h),
        λ cases. elim cases [ inl before ↦ subst (λ ls. Contains ls l) (sym there) before | inr now ↦ absurd (ne now.0) ],
      )
]

-- the lines of vertices, with those of one more
lines_end : (places : List (List ℕ)) (more : List ℕ) (id k l : ℕ) → id ≡ length places
    → Contains (slice_index_or (places ++ more ∷ []) k []) l ↔ (Contains (slice_index_or places k []) l ⊎ ((k ≡ id) × Contains more l))
lines_end places more id k l last = elim (cases_eq k id) [
  | inl same ↦
      let at : length places + 0 ≡ k = omega (arith, same, last) in
      let here : slice_index_or (places ++ more ∷ []) k [] ≡ more =
      subst (λ n. slice_index_or (places ++ more ∷ []) n [] ≡ more) at (get_or-append-add places (more ∷ []) 0 []) in
      let none : slice_index_or places k [] ≡ [] = get_or_past places k [] (omega (arith, at)) in (
        λ h. inr (same, subst (λ ls. Contains ls l) here h),
        λ cases. elim cases [
          | inl before ↦ absurd (contains_nil l (subst (λ ls. Contains ls l) none before))
          | inr now ↦ subst (λ ls. Contains ls l) (sym here) now.1
        ],
      )
  | inr ne ↦
      let there : slice_index_or (places ++ more ∷ []) k [] ≡ slice_index_or places k [] = others k ne in (
        λ h. inl (subst (λ ls. Contains ls l) there h),
        λ cases. elim cases [ inl before ↦ subst (λ ls. Contains ls l) (sym there) before | inr now ↦ absurd (ne now.0) ],
      )
]
  where
    others : (n : ℕ) → (n ≡ id → ⊥) → slice_index_or (places ++ more ∷ []) n [] ≡ slice_index_or places n []
    others n ne = elim (cases_lt n (length places)) [
      | inl lt ↦ get_or_append_left places (more ∷ []) [] n lt
      | inr past ↦ get_or_past (places ++ more ∷ []) n [] (let long = length-append places (more ∷ []) in omega (arith, long, past, ne, last)) ∙ sym (get_or_past places n [] past)
    ]

pub places_long : (places : List (List ℕ)) (more : List ℕ) (id : ℕ) → length (places_with more id places) ≡ length places
places_long places [] id = refl
places_long places (line ∷ more) id = length-set places id (with_lines (line ∷ more) (slice_index_or places id []))

-- ---- a vertex that came

record HasCome (new newer : GraphValue) (vertex : Vertex) (ls : List ℕ) (id : ℕ) : Type 0 where
  more : List Vertex
  grown : newer.vertices ≡ new.vertices ++ more
  there : slice_get newer.vertices id ≡ Some vertex
  few : length newer.vertices ≤ length new.vertices + 1
  beside : length newer.places ≡ length newer.vertices
  before : (k : ℕ) → k < length newer.vertices → (k < length new.vertices) ⊎ (k ≡ id)
  low : id ≤ length new.vertices
  lines : (k l : ℕ) → Contains (lines_at newer k) l ↔ (Contains (lines_at new k) l ⊎ ((k ≡ id) × Contains ls l))

come_found : (new newer : GraphValue) (w : Vertex) (ls : List ℕ) (id : ℕ) → length new.places ≡ length new.vertices
    → IsFound new newer w ls id → HasCome new newer w ls id
come_found new newer w ls id beside found =
    let vertices : newer.vertices ≡ new.vertices = ap (λ g. g.vertices) found.added in
    let places : newer.places ≡ places_with ls id new.places = ap (λ g. g.places) found.added in
    let within : id < length new.vertices = slice_get_within new.vertices id w found.stood in
    record {
      more = [];
      grown = vertices ∙ sym (append-nil new.vertices);
      there = added_stands new newer w ls id (inl found);
      few = (let e = ap length vertices in omega (arith, e));
      beside = ap length places ∙ (places_long new.places ls id ∙ (beside ∙ sym (ap length vertices)));
      before = λ k lt. inl (let e = ap length vertices in omega (arith, e, lt));
      low = omega (arith, within);
      lines = λ k l. subst (λ ps. Contains (slice_index_or ps k []) l ↔ (Contains (lines_at new k) l ⊎ ((k ≡ id) × Contains ls l))) (sym places)
          (lines_with new.places ls id k l (omega (arith, within, beside)));
    }

come_appended : (new newer : GraphValue) (w : Vertex) (ls : List ℕ) (id : ℕ) → length new.places ≡ length new.vertices
    → IsAppended new newer w ls id → HasCome new newer w ls id
come_appended new newer w ls id beside appended =
    let vertices : newer.vertices ≡ new.vertices ++ w ∷ [] = ap (λ g. g.vertices) appended.added in
    let places : newer.places ≡ new.places ++ ls ∷ [] = ap (λ g. g.places) appended.added in
    let long : length newer.vertices ≡ length new.vertices + 1 = ap length vertices ∙ length-append new.vertices (w ∷ []) in
    let long_places : length newer.places ≡ length new.places + 1 = ap length places ∙ length-append new.places (ls ∷ []) in
    let last : id ≡ length new.vertices = appended.last in
    record {
      more = w ∷ [];
      grown = vertices;
      there = added_stands new newer w ls id (inr appended);
      few = omega (arith, long);
      beside = omega (arith, long, long_places, beside);
      before = λ k lt. elim (cases_lt k (length new.vertices)) [ inl b ↦ inl b | inr past ↦ inr (omega (arith, past, lt, long, last)) ];
      low = omega (arith, last);
      lines = λ k l. subst (λ ps. Contains (slice_index_or ps k []) l ↔ (Contains (lines_at new k) l ⊎ ((k ≡ id) × Contains ls l))) (sym places)
          (lines_end new.places ls id k l (omega (arith, last, beside)));
    }

come : (new newer : GraphValue) (w : Vertex) (ls : List ℕ) (id : ℕ) → length new.places ≡ length new.vertices → Adds new newer w ls (Ok id)
    → HasCome new newer w ls id
come new newer w ls id beside (inl found) = come_found new newer w ls id beside found
come new newer w ls id beside (inr appended) = come_appended new newer w ls id beside appended

-- ---- one vertex after another

-- no vertex yet
join_none : (old : GraphValue) (marks : List Bool) (new : GraphValue) (names : Names) → new ≡ record { vertices = []; places = [] } → names ≡ []
    → AreJoined old marks 0 new names
join_none old marks new names is none = rw (is, none) (record {
  long = refl;
  few = omega arith;
  beside = refl;
  named = λ k lt. absurd (omega (arith, lt));
  marked = λ k id e. absurd cc;
  inside = λ k id e. absurd cc;
  onto = λ id lt. absurd (omega (arith, lt));
  ordered = λ k a b e lt. absurd cc;
  same = λ k id v e. absurd cc;
  lines = λ k id line e. absurd cc;
  only = λ id line lt. absurd (omega (arith, lt));
})

-- a vertex that isn't marked
join_skip : (old : GraphValue) (marks : List Bool) (at : ℕ) (new : GraphValue) (names : Names) → AreJoined old marks at new names
    → is_marked marks at ≡ false → AreJoined old marks (at + 1) new (names ++ None ∷ [])
join_skip old marks at new names are unmarked =
    let before : (k id : ℕ) → slice_get (names ++ None ∷ []) k ≡ Some (Some id) → slice_get names k ≡ Some (Some id) =
    λ k id e. elim (slice_get-last_cases names None (Some id) k e) [
      | inl there ↦ there
      | inr last ↦ absurd (let f : None ≡ Some id = last.1 in cc)
    ] in
    record {
      long = length-append names (None ∷ []) ∙ ap (λ n. n + 1) are.long;
      few = omega (arith, are.few);
      beside = are.beside;
      named = λ k lt marked. elim (cases_eq k at) [
        | inl same ↦ absurd (true≢false (sym marked ∙ (ap (is_marked marks) same ∙ unmarked)))
        | inr ne ↦ (let name = are.named k (omega (arith, lt)) marked in (name.0, slice_get-kept names (None ∷ []) (Some name.0) k name.1))
      ];
      marked = λ k id e. are.marked k id (before k id e);
      inside = λ k id e. are.inside k id (before k id e);
      onto = λ id lt. (let k = are.onto id lt in (k.0, slice_get-kept names (None ∷ []) (Some id) k.0 k.1));
      ordered = λ k a b e lt. (let j = are.ordered k a b (before k b e) lt in (j.0, j.1, slice_get-kept names (None ∷ []) (Some a) j.0 j.2));
      same = λ k id v e there. (let s = are.same k id v (before k id e) there in (s.0, s.1, renamed_more names (None ∷ []) v s.0 s.2));
      lines = λ k id line e. are.lines k id line (before k id e);
      only = λ id line lt h. (let k = are.only id line lt h in (k.0, slice_get-kept names (None ∷ []) (Some id) k.0 k.1, k.2));
    }

-- a vertex that is marked
join_put : (old : GraphValue) (marks : List Bool) (at : ℕ) (new newer : GraphValue) (names : Names) (v : Vertex) (ls : List ℕ) (id : ℕ)
    → slice_get old.vertices at ≡ Some v → ls ≡ lines_at old at
    → AreJoined old marks at new names → is_marked marks at ≡ true → IsJoined new newer names v ls id → AreJoined old marks (at + 1) newer (names ++ Some id ∷ [])
join_put old marks at new newer names v ls id there same are marked put =
    let came = come new newer put.renamed ls id are.beside put.adds in
    let longer : length newer.vertices ≡ length new.vertices + length came.more = ap length came.grown ∙ length-append new.vertices came.more in
    let place : at ≡ length names = sym are.long in
    let end : slice_get (names ++ Some id ∷ []) at ≡ Some (Some id) =
    subst (λ n. slice_get (names ++ Some id ∷ []) n ≡ Some (Some id)) (sym place) (slice_get-end names (Some id)) in
    record {
      long = length-append names (Some id ∷ []) ∙ ap (λ n. n + 1) are.long;
      few = omega (arith, came.few, are.few);
      beside = came.beside;
      named = λ k lt is_m. elim (cases_eq k at) [
        | inl here ↦ (id, ap (slice_get (names ++ Some id ∷ [])) here ∙ end)
        | inr ne ↦ (let name = are.named k (omega (arith, lt)) is_m in (name.0, slice_get-kept names (Some id ∷ []) (Some name.0) k name.1))
      ];
      marked = λ k other e. elim (slice_get-last_cases names (Some id) (Some other) k e) [
        | inl before ↦ are.marked k other before
        | inr last ↦ ap (is_marked marks) (last.0 ∙ are.long) ∙ marked
      ];
      inside = λ k other e. elim (slice_get-last_cases names (Some id) (Some other) k e) [
        | inl before ↦ (let lt = are.inside k other before in omega (arith, lt, longer))
        | inr last ↦ (let same_id : id ≡ other = (let f : Some id ≡ Some other = last.1 in cc) in subst (λ n. n < length newer.vertices) same_id (slice_get_within newer.vertices id put.renamed came.there))
      ];
      onto = λ other lt. elim (came.before other lt) [
        | inl before ↦ (let k = are.onto other before in (k.0, slice_get-kept names (Some id ∷ []) (Some other) k.0 k.1))
        | inr same_id ↦ (at, end ∙ ap (λ n. Some (Some n)) (sym same_id))
      ];
      ordered = λ k a b e lt. elim (slice_get-last_cases names (Some id) (Some b) k e) [
        | inl before ↦ (let j = are.ordered k a b before lt in (j.0, j.1, slice_get-kept names (Some id ∷ []) (Some a) j.0 j.2))
        | inr last ↦
            let same_id : id ≡ b = (let f : Some id ≡ Some b = last.1 in cc) in
            let j = are.onto a (omega (arith, lt, came.low, same_id)) in
            let j_in : j.0 < length names = slice_get_within names j.0 (Some a) j.1 in
            (j.0, omega (arith, j_in, last.0), slice_get-kept names (Some id ∷ []) (Some a) j.0 j.1)
      ];
      same = λ k other u e u_there. elim (slice_get-last_cases names (Some id) (Some other) k e) [
        | inl before ↦
            let s = are.same k other u before u_there in (
              s.0,
              ap (λ vs. slice_get vs other) came.grown ∙ slice_get-kept new.vertices came.more s.0 other s.1,
              renamed_more names (Some id ∷ []) u s.0 s.2,
            )
        | inr last ↦
            let same_id : other ≡ id = (let f : Some id ≡ Some other = last.1 in cc) in
            let same_at : k ≡ at = last.0 ∙ are.long in
            let v_u : v ≡ u = (let f : Some v ≡ Some u = sym there ∙ (ap (slice_get old.vertices) (sym same_at) ∙ u_there) in cc) in (
              put.renamed,
              ap (slice_get newer.vertices) same_id ∙ came.there,
              subst (λ (x : Vertex). IsRenamed (names ++ Some id ∷ []) x put.renamed) v_u (renamed_more names (Some id ∷ []) v put.renamed put.is),
            )
      ];
      lines = λ k other line e h. elim (slice_get-last_cases names (Some id) (Some other) k e) [
        | inl before ↦ (came.lines other line).1 (inl (are.lines k other line before h))
        | inr last ↦
            let same_id : other ≡ id = (let f : Some id ≡ Some other = last.1 in cc) in
            let same_at : k ≡ at = last.0 ∙ are.long in
            (came.lines other line).1 (inr (same_id, subst (λ list. Contains list line) (ap (lines_at old) same_at ∙ sym same) h))
      ];
      only = λ other line lt h. elim ((came.lines other line).0 h) [
        | inl before ↦ elim (cases_lt other (length new.vertices)) [
          | inl low ↦ (let k = are.only other line low before in (k.0, slice_get-kept names (Some id ∷ []) (Some other) k.0 k.1, k.2))
          | inr past ↦
              let none : lines_at new other ≡ [] = get_or_past new.places other [] (omega (arith, past, are.beside)) in
              absurd (contains_nil line (subst (λ list. Contains list line) none before))
        ]
        | inr now ↦ (at, end ∙ ap (λ n. Some (Some n)) (sym now.0), subst (λ list. Contains list line) same now.1)
      ];
    }

join_step : (old : GraphValue) (marks : List Bool) (at : ℕ) (new newer : GraphValue) (names more : Names) (v : Vertex) (ls : List ℕ)
    (mark : Bool) (name : Option ℕ) → slice_get old.vertices at ≡ Some v → ls ≡ lines_at old at
    → AreJoined old marks at new names → is_marked marks at ≡ mark → IsNamedJoined new newer names v ls mark name → more ≡ names ++ name ∷ []
    → AreJoined old marks (at + 1) newer more
join_step old marks at new newer names more v ls true name there same are marked step added =
    let put = step.joined refl in
    let is_name : more ≡ names ++ Some put.0 ∷ [] = added ∙ ap (λ n. names ++ n ∷ []) put.1 in
    subst (AreJoined old marks (at + 1) newer) (sym is_name) (join_put old marks at new newer names v ls put.0 there same are marked put.2)
join_step old marks at new newer names more v ls false name there same are marked step added =
    let skipped = step.skipped refl in
    let is_name : more ≡ names ++ None ∷ [] = added ∙ ap (λ n. names ++ n ∷ []) skipped.0 in
    let is_graph : new ≡ newer = sym skipped.1 in
    subst (λ (g : GraphValue). AreJoined old marks (at + 1) g more) is_graph
    (subst (AreJoined old marks (at + 1) new) (sym is_name) (join_skip old marks at new names are marked))

-- ---- all of them

-- vertices, and beside each its lines
abbrev pub graph_of : List Vertex → List (List ℕ) → GraphValue
graph_of vertices places = record { vertices = vertices; places = places }

input_named : (old : GraphValue) (marks : List Bool) (at : ℕ) (new : GraphValue) (names : Names) (v : Vertex) (input : ℕ) → AreJoinable old marks
    → AreJoined old marks at new names → slice_get old.vertices at ≡ Some v → is_marked marks at ≡ true → Contains v.inputs input → HasName names input
input_named old marks at new names v input can joined there marked among =
    let is = can.inputs at input marked (record { v = v; there = there; among = among }) in
    joined.named input is.0 is.1

-- the inputs of a vertex that is marked have new numbers
pub inputs_named : (old : GraphValue) (marks : List Bool) (at : ℕ) (new : GraphValue) (names : Names) (v : Vertex) → AreJoinable old marks
    → AreJoined old marks at new names → slice_get old.vertices at ≡ Some v → is_marked marks at ≡ true → All (HasName names) v.inputs
inputs_named old marks at new names v can joined there marked k d lt =
    input_named old marks at new names v (slice_index_or v.inputs k d) can joined there marked (Contains-get_or v.inputs k d lt)

pub lines_at_are : (graph : GraphValue) (at : ℕ) → ((k : ℕ) (lines : List ℕ) → slice_get graph.places k ≡ Some lines → AreLines lines)
    → AreLines (lines_at graph at)
lines_at_are graph at are = elim (cases_lt at (length graph.places)) [
  | inl lt ↦ are at (lines_at graph at) (slice_get-get_or graph.places at [] lt)
  | inr past ↦ (let none : [] ≡ lines_at graph at = sym (get_or_past graph.places at [] past) in subst AreLines none tt)
]

-- the vertices before a number were dealt with, and those are left
pub record JoinedSoFar (old : GraphValue) (marks : List Bool) (rest : List Vertex) (at : ℕ) (new : GraphValue) (names : Names) : Type 0 where
  pub done : List Vertex
  pub split : old.vertices ≡ done ++ rest
  pub long : length done ≡ at
  pub joined : AreJoined old marks at new names

pub join_first : (old : GraphValue) (marks : List Bool) (rest : List Vertex) (new : GraphValue) (names : Names) → rest ≡ old.vertices
    → new ≡ record { vertices = []; places = [] } → names ≡ [] → JoinedSoFar old marks rest 0 new names
join_first old marks rest new names all is none = record { done = []; split = sym all; long = refl; joined = join_none old marks new names is none }

pub join_there : (old : GraphValue) (marks : List Bool) (rest left : List Vertex) (at : ℕ) (new : GraphValue) (names : Names) (v : Vertex)
    → JoinedSoFar old marks rest at new names → rest ≡ v ∷ left → slice_get old.vertices at ≡ Some v
join_there old marks rest left at new names v so_far is =
    ap (λ vs. slice_get vs at) (so_far.split ∙ ap (λ vs. so_far.done ++ vs) is)
    ∙ subst (λ n. slice_get (so_far.done ++ v ∷ left) n ≡ Some v) so_far.long (first so_far.done)
  where
    first : (vs : List Vertex) → slice_get (vs ++ v ∷ left) (length vs) ≡ Some v
    first [] = refl
    first (w ∷ ws) = first ws

pub join_within : (old : GraphValue) (marks : List Bool) (rest left : List Vertex) (at : ℕ) (new : GraphValue) (names : Names) (v : Vertex)
    → JoinedSoFar old marks rest at new names → rest ≡ v ∷ left → at < length old.vertices
join_within old marks rest left at new names v so_far is = slice_get_within old.vertices at v (join_there old marks rest left at new names v so_far is)

pub join_on : (old : GraphValue) (marks : List Bool) (rest left : List Vertex) (at : ℕ) (new newer : GraphValue) (names more : Names) (v : Vertex)
    (ls : List ℕ) (mark : Bool) (name : Option ℕ)
    → JoinedSoFar old marks rest at new names → rest ≡ v ∷ left → ls ≡ lines_at old at → is_marked marks at ≡ mark
    → IsNamedJoined new newer names v ls mark name → more ≡ names ++ name ∷ [] → JoinedSoFar old marks left (at + 1) newer more
join_on old marks rest left at new newer names more v ls mark name so_far is same marked step added = record {
  done = so_far.done ++ v ∷ [];
  split = so_far.split ∙ (ap (λ vs. so_far.done ++ vs) is ∙ sym (append_assoc so_far.done (v ∷ []) left));
  long = length-append so_far.done (v ∷ []) ∙ ap (λ n. n + 1) so_far.long;
  joined = join_step old marks at new newer names more v ls mark name (join_there old marks rest left at new names v so_far is) same so_far.joined
      marked step added;
}

pub join_whole : (old : GraphValue) (marks : List Bool) (rest : List Vertex) (at : ℕ) (new : GraphValue) (names : Names)
    → JoinedSoFar old marks rest at new names → length rest ≡ 0 → AreJoined old marks (length old.vertices) new names
join_whole old marks rest at new names so_far over =
    let all : length old.vertices ≡ at = ap length so_far.split ∙ (let n = length-append so_far.done rest in omega (arith, n, over, so_far.long)) in
    subst (λ n. AreJoined old marks n new names) (sym all) so_far.joined

-- the lines of the vertex at a number
pub lines_are : (graph : GraphValue) (places lent : List (List ℕ)) (at : ℕ) (found lines : List ℕ) → graph.places ≡ places → lent ≡ places
    → at < length graph.places → found ≡ slice_index_or lent at found → lines ≡ found → lines ≡ lines_at graph at
lines_are graph places lent at found lines is same lt read e =
    let all : lent ≡ graph.places = same ∙ sym is in
    let there : slice_get lent at ≡ Some found = slice_get_read lent (length lent) at found refl (omega (arith, lt, ap length all)) read in
    e ∙ sym (get_or_from_slice_get graph.places at found [] (ap (λ ps. slice_get ps at) (sym all) ∙ there))
