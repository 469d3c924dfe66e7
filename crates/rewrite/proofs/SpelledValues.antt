-- What a merge gives in which others are spelled out.
use Rattle.std.proofs.Common.{◌≡◌, ◌≢◌, ◌<◌, ℕ, List, [], ◌∷◌, ◌++◌, map, length, Option, Some, None, Ok, Err, refl, sym, ap, ap₂}
use Rattle.std.proofs.Common.{◌∙◌, subst, append_assoc}
use Rattle.std.specs.Prelude.{slice_get}
use Rattle.std.specs.List.{All}
use Rattle.std.specs.Option.{option_and_then}
use Rattle.std.proofs.lemmas.List.{map-append}
use Rattle.std.proofs.lemmas.List.Elements.{All-head}
use Rattle.trees.specs.TreeMap.{TreeMap}
use Rattle.trees.specs.Over.{merged}
use Rattle.trees.specs.declared.cause.Cause.{Cause}
use Rattle.trees.proofs.OverLaws.{merged-first}
use Rattle.llb.specs.declared.op.Op.{Op}
use Rattle.llb.specs.declared.op.Op.TheVariants.{Source as SourceOp, Exec as ExecOp, Copy as CopyOp, MakeDirs as MakeDirsOp, Merge as MergeOp}
use Rattle.llb.specs.declared.vertex.Vertex.{Vertex}
use Rattle.llb.specs.Graph.{AreVertices}
use Rattle.plans.specs.Value.{Value, World, with_tree, tree_of, all_trees, value_of}
use Rattle.plans.specs.PrivateValue.{tree_at, value_on}
use Rattle.lowering.proofs.ValueFacts.{vertex_is}
use Rattle.reached.specs.Spelled.{with_first, spelled_out, flat_inputs}
use Rattle.reached.proofs.SpellingFacts.{by_merges, there_is}

-- two lists of trees, where both are there
abbrev both : Option (List TreeMap) → Option (List TreeMap) → Option (List TreeMap)
both None more = None
both (Some trees) None = None
both (Some trees) (Some more) = Some (trees ++ more)

both-nil : (more : Option (List TreeMap)) → more ≡ both (Some []) more
both-nil None = refl
both-nil (Some more) = refl

both-with : (tree : Option TreeMap) (trees more : Option (List TreeMap)) → with_tree tree (both trees more) ≡ both (with_tree tree trees) more
both-with None trees more = refl
both-with (Some tree) None more = refl
both-with (Some tree) (Some trees) None = refl
both-with (Some tree) (Some trees) (Some more) = refl

all_trees-append : (trees more : List (Option TreeMap)) → all_trees (trees ++ more) ≡ both (all_trees trees) (all_trees more)
all_trees-append [] more = both-nil (all_trees more)
all_trees-append (tree ∷ trees) more = ap (with_tree tree) (all_trees-append trees more) ∙ both-with tree (all_trees trees) (all_trees more)

-- what a merge gives
abbrev merge_value : Option (List TreeMap) → Value
merge_value trees = option_and_then (λ ts. Some (Ok (merged ts))) trees

-- a merge that is the first of a merge may be replaced by its inputs
merge_first : (tree : Option TreeMap) (trees more : Option (List TreeMap))
    → merge_value (both (with_tree tree trees) more) ≡ merge_value (with_tree (tree_of (merge_value (with_tree tree trees))) more)
merge_first None trees more = refl
merge_first (Some tree) None more = refl
merge_first (Some tree) (Some trees) None = refl
merge_first (Some tree) (Some trees) (Some more) = ap (λ t. Some (Ok t)) (sym (merged-first tree trees more))

merge_succeeds : (trees : Option (List TreeMap)) (cause : Cause) → merge_value trees ≢ Some (Err cause)
merge_succeeds None cause is = (let f : None ≡ Some (Err cause) = is in cc)
merge_succeeds (Some trees) cause is = (let f : Some (Ok (merged trees)) ≡ Some (Err cause) = is in cc)

module _ (vs : List Vertex) (are : AreVertices vs) where
  -- the same for one merge
  first_value : (w : World) (id : ℕ) (v : Vertex) (first : ℕ) (others rest : List ℕ) → slice_get vs id ≡ Some v → v.op ≡ MergeOp → v.inputs ≡ first ∷ others
      → value_on w vs MergeOp (first ∷ others ++ rest) ≡ value_on w vs MergeOp (id ∷ rest)
  first_value w id v first others rest is merge same =
      let tree = tree_at w vs in
      let value : value_of w.out w.sources vs id ≡ merge_value (all_trees (map tree (first ∷ others))) =
      vertex_is w vs v.op v.inputs id are is
      ∙ ap₂ (λ (op : Op) (inputs : List ℕ). value_on w vs op inputs) merge same in
      ap (λ ts. merge_value (all_trees ts)) (map-append tree (first ∷ others) rest)
      ∙ (ap merge_value (all_trees-append (map tree (first ∷ others)) (map tree rest))
      ∙ (merge_first (tree first) (all_trees (map tree others)) (all_trees (map tree rest))
      ∙ ap (λ v. merge_value (with_tree (tree_of v) (all_trees (map tree rest)))) (sym value)))

  -- a merge gives the same where what stands first in it is spelled out
  spelled_value : (w : World) (id : ℕ) (v : Vertex) → slice_get vs id ≡ Some v → (rest : List ℕ)
      → value_on w vs MergeOp (spelled_out vs id ++ rest) ≡ value_on w vs MergeOp (id ∷ rest)
  spelled_value w = by_merges vs are (λ id ids. (rest : List ℕ) → value_on w vs MergeOp (ids ++ rest) ≡ value_on w vs MergeOp (id ∷ rest))
      (λ id other rest. refl)
      (λ id first v others is merge same low before rest.
      ap (value_on w vs MergeOp) (append_assoc (spelled_out vs first) others rest)
      ∙ (before (others ++ rest)
      ∙ first_value w id v first others rest is merge same))

  first_inputs : (w : World) (inputs : List ℕ) → All (λ i. i < length vs) inputs
      → value_on w vs MergeOp (with_first (spelled_out vs) inputs) ≡ value_on w vs MergeOp inputs
  first_inputs w [] low = refl
  first_inputs w (first ∷ rest) low =
      let v = there_is vs first (All-head (λ i. i < length vs) first rest low) in
      spelled_value w first v.0 v.1 rest

  -- an operation gives on flat inputs what it gives on the others
  pub flat_value : (w : World) (op : Op) (inputs : List ℕ) → All (λ i. i < length vs) inputs → value_on w vs op (flat_inputs vs op inputs) ≡ value_on w vs op inputs
  flat_value w (SourceOp source) inputs low = refl
  flat_value w (ExecOp exec) inputs low = refl
  flat_value w (CopyOp files) inputs low = refl
  flat_value w (MakeDirsOp path) inputs low = refl
  flat_value w MergeOp inputs low = first_inputs w inputs low

  -- a vertex with a cause is no merge
  pub failing_is_no_merge : (w : World) (k : ℕ) (v : Vertex) (cause : Cause) → slice_get vs k ≡ Some v → value_of w.out w.sources vs k ≡ Some (Err cause)
      → v.op ≢ MergeOp
  failing_is_no_merge w k v cause there is merge =
      let value = vertex_is w vs v.op v.inputs k are there in
      let on : value_on w vs MergeOp v.inputs ≡ Some (Err cause) =
      subst (λ (op : Op). value_on w vs op v.inputs ≡ Some (Err cause)) merge (sym value ∙ is) in
      merge_succeeds (all_trees (map (tree_at w vs) v.inputs)) cause on
