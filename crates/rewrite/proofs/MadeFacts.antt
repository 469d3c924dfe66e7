-- What flattening a graph makes on the way.
use Rattle.std.proofs.Common.{◌≡◌, ◌<◌, ℕ, Bool, true, false, List, [], length, Option, Some, None, refl, sym, ap, ◌∙◌, subst, arith}
use Rattle.std.specs.Prelude.{slice_get}
use Rattle.std.specs.List.{All}
use Rattle.std.proofs.lemmas.Option.{slice_get_within}
use Rattle.llb.specs.declared.vertex.Vertex.{Vertex}
use Rattle.llb.specs.Graph.{GraphValue, IsGraph}
use Rattle.llb.specs.Places.{AreLines}
use Rattle.reached.specs.Reached.{AreReached, AreFlattened}
use Rattle.rewrite.specs.PrivateFlat.{MergesDiffer}
use Rattle.rewrite.specs.PrivateJoined.{HasName, AreDistinct, AreJoined}
use Rattle.rewrite.specs.PrivateSpelled.{AreSpelled, IsFlatOf, TakesLines, flat_graph}
use Rattle.rewrite.specs.declared.spelled.Spelled.{Spelled}
use Rattle.rewrite.specs.Pruned.{Names}
use Rattle.rewrite.proofs.BecomeFacts.{is_flat_of, spelled_lined, spelled_named}
use Rattle.rewrite.proofs.FlattenedFacts.{put_joined}
use Rattle.rewrite.proofs.FreshFacts.{made_distinct}

-- a graph of these
abbrev pub graph_of : List Vertex → List (List ℕ) → GraphValue
graph_of vertices places = record { vertices = vertices; places = places }

-- what is spelled out of these, if two merges may be equal
pub record IsSpelledBy (vertices : List Vertex) (places : List (List ℕ)) (before : List Bool) (differ : Bool) (spelled : List (Option Spelled)) : Type 0 where
  pub each : differ ≡ false → AreSpelled (graph_of vertices places) before (length vertices) spelled
  pub none : differ ≡ true → spelled ≡ []

pub spelled_by : (vertices lent : List Vertex) (places lent_places : List (List ℕ)) (before lent_before : List Bool) (differ : Bool) (spelled : List (Option Spelled))
    → (differ ≡ false → AreSpelled (graph_of lent lent_places) lent_before (length lent) spelled) → (differ ≡ true → spelled ≡ []) → lent ≡ vertices → lent_places ≡ places
    → lent_before ≡ before → IsSpelledBy vertices places before differ spelled
spelled_by vertices lent places lent_places before lent_before differ spelled each none same same_places same_before = record {
  each = λ e. subst (λ ms. AreSpelled (graph_of vertices places) ms (length vertices) spelled) same_before
      (subst (λ ps. AreSpelled (graph_of vertices ps) lent_before (length vertices) spelled) same_places
      (subst (λ (vs : List Vertex). AreSpelled (graph_of vs lent_places) lent_before (length vs) spelled) same (each e)));
  none = none;
}

module _ (vertices put : List Vertex) (places : List (List ℕ)) (target : ℕ) (marks lent_marks before : List Bool) (names : Names) (joined : GraphValue)
    (spelled : List (Option Spelled)) (differ : Bool) (is : IsGraph (graph_of vertices places)) (flattened : AreFlattened vertices target marks put)
    (all : AreReached vertices target before) (lent : lent_marks ≡ marks) (are : AreJoined (graph_of put places) lent_marks (length put) joined names)
    (by : IsSpelledBy vertices places before differ spelled) where
  whole : AreJoined (flat_graph (graph_of vertices places)) marks (length vertices) joined names
  whole = put_joined vertices put places marks lent_marks target joined names flattened lent are

  named_by : (b : Bool) → differ ≡ b → target < length vertices → (k : ℕ) (one : Spelled) → slice_get spelled k ≡ Some (Some one) → All (HasName names) one.inputs
  named_by true e within k one there =
      absurd (let lt = slice_get_within spelled k (Some one) there in let few = ap length (by.none e) in omega (arith, lt, few))
  named_by false e within k one there =
      spelled_named (graph_of vertices places) joined target marks before names is flattened.0 all whole spelled (by.each e) within k one there

  lined_by : (b : Bool) → differ ≡ b → (k : ℕ) (one : Spelled) → slice_get spelled k ≡ Some (Some one) → AreLines one.lines
  lined_by true e k one there =
      absurd (let lt = slice_get_within spelled k (Some one) there in let few = ap length (by.none e) in omega (arith, lt, few))
  lined_by false e k one there =
      spelled_lined (graph_of vertices places) joined target marks before names is flattened.0 all whole spelled (by.each e) k one there

  -- what was spelled out has new numbers
  pub taken_named : (lent_names : Names) (lent_spelled : List (Option Spelled)) → lent_names ≡ names → lent_spelled ≡ spelled → target < length vertices → (k : ℕ) (one : Spelled)
      → slice_get lent_spelled k ≡ Some (Some one) → All (HasName lent_names) one.inputs
  taken_named lent_names lent_spelled same same_spelled within k one there =
      subst (λ (ns : Names). All (HasName ns) one.inputs) (sym same)
      (named_by differ refl within k one (subst (λ (xs : List (Option Spelled)). slice_get xs k ≡ Some (Some one)) same_spelled there))

  pub taken_lined : (lent_spelled : List (Option Spelled)) → lent_spelled ≡ spelled → (k : ℕ) (one : Spelled) → slice_get lent_spelled k ≡ Some (Some one) → AreLines one.lines
  taken_lined lent_spelled same k one there =
      lined_by differ refl k one (subst (λ (xs : List (Option Spelled)). slice_get xs k ≡ Some (Some one)) same there)

  -- what comes of it is the flat graph
  pub flat_of : (graph taken : GraphValue) (lent_names : Names) (lent_spelled : List (Option Spelled)) → graph ≡ graph_of vertices places → IsGraph joined
      → (differ ≡ true → MergesDiffer vertices before) → lent_names ≡ names → lent_spelled ≡ spelled
      → TakesLines joined taken lent_names lent_spelled (length lent_spelled) → IsFlatOf graph target taken names
  flat_of graph taken lent_names lent_spelled split joined_is differs same same_spelled takes =
      let t : TakesLines joined taken names spelled (length spelled) =
      subst (λ (xs : List (Option Spelled)). TakesLines joined taken names xs (length xs)) same_spelled
      (subst (λ (ns : Names). TakesLines joined taken ns lent_spelled (length lent_spelled)) same takes) in
      subst (λ g. IsFlatOf g target taken names) (sym split)
      (is_flat_of (graph_of vertices places) joined target marks before names is.vertices joined_is.vertices flattened.0 all whole taken spelled t differ differs by.each by.none)

-- merges differ in what was asked
pub differ_in : (vertices asked : List Vertex) (before asked_marks : List Bool) (differ : Bool) → (differ ≡ true → MergesDiffer asked asked_marks) → asked ≡ vertices
    → asked_marks ≡ before → differ ≡ true → MergesDiffer vertices before
differ_in vertices asked before asked_marks differ differs same same_marks is =
    subst (λ (vs : List Vertex). MergesDiffer vs before) same (subst (λ ms. MergesDiffer asked ms) same_marks (differs is))

-- so what is joined is distinct
pub joined_distinct : (vertices put : List Vertex) (places : List (List ℕ)) (target : ℕ) (marks lent_marks before : List Bool) → IsGraph (graph_of vertices places)
    → AreFlattened vertices target marks put → AreReached vertices target before → lent_marks ≡ marks → MergesDiffer vertices before → AreDistinct put lent_marks
joined_distinct vertices put places target marks lent_marks before is flattened all lent differ =
    subst (λ (ms : List Bool). AreDistinct put ms) (sym lent) (made_distinct vertices put target marks before is.vertices flattened all differ)
