-- Where a plan has a tree, an engine that does what the model has and gives what else the plan has makes that tree.
use Rattle.std.specs.Prelude.{◌≡◌, ◌<◌, ℕ, zero, suc, Bool, true, false, ◌&&◌, cond, Option, Some, None, Result, Ok, Err, List, [], ◌∷◌, ◌↔◌, is_some, map, length, slice_get, slice_index_or, IsTrue}
use Rattle.std.proofs.Common.{sym, ap, refl, ◌∙◌, subst, true≢false, arith}
use Rattle.std.proofs.lemmas.List.Elements.{recursion_from_All}
use Rattle.std.proofs.lemmas.List.{length-map}
use Rattle.std.proofs.lemmas.Option.{same_Some}
use Rattle.std.specs.List.{AllByRecursion}
use Rattle.std.specs.Option.{option_map}
use Rattle.std.specs.FinMap.{get}
use Rattle.paths.specs.Path.{IsClean}
use Rattle.paths.proofs.FrontLaws.{both_second}
use Rattle.globs.specs.Glob.{relates, Relates}
use Rattle.trees.specs.declared.cause.Cause.{Cause}
use Rattle.trees.specs.declared.cause.Cause.TheVariants.{F2}
use Rattle.trees.specs.declared.entry.Entry.{Entry}
use Rattle.trees.specs.declared.entry.Entry.TheVariants.{Directory, File}
use Rattle.trees.proofs.CopyLaws.{with_directory-kept}
use Rattle.trees.specs.TreeMap.{TreeMap, IsTree, is_directory, is_file, empty_tree, directory_meta}
use Rattle.trees.specs.Cause.{TreeOrCause, tree_or}
use Rattle.trees.specs.Make.{made, make_cause, with_directory}
use Rattle.trees.specs.Copy.{HasName as HasOwnName}
use Rattle.trees.specs.Over.{merged}
use Rattle.trees.proofs.CauseLaws.{tree_or-ok}
use Rattle.trees.proofs.CopyTrees.{copied-IsTree}
use Rattle.trees.proofs.TreeLaws.{empty-IsTree, merged-IsTree}
use Rattle.runs.specs.declared.run.RunRequest.{RunRequest}
use Rattle.runs.specs.declared.run.RunOutcome.{RunOutcome}
use Rattle.runs.specs.declared.run.RunOutcome.TheVariants.{Done, Exit}
use Rattle.llb.specs.declared.op.FileSource.{FileSource}
use Rattle.llb.specs.declared.op.FileSource.TheVariants.{Pattern, Data as Own}
use Rattle.llb.specs.declared.op.CopyFiles.{CopyFiles}
use Rattle.llb.specs.declared.op.Op.{Op}
use Rattle.llb.specs.declared.op.Op.TheVariants.{Source as SourceOp, Exec as ExecOp, Copy as CopyOp, MakeDirs as MakeDirsOp, Merge as MergeOp}
use Rattle.llb.specs.declared.vertex.Vertex.{Vertex}
use Rattle.llb.specs.Graph.{AreVertices}
use Rattle.llb.specs.WellFormed.{is_well_formed_copy, is_well_formed_on}
use Rattle.plans.specs.Files.{sources_in}
use Rattle.plans.specs.Request.{request_of}
use Rattle.plans.specs.Sources.{source_tree}
use Rattle.plans.specs.Value.{Value, World, ended, run_of, result_of, tree_of, with_tree, trees_at, value_in, values_of, value_of}
use Rattle.plans.proofs.ValueLaws.{value_of-is, value_within}
use Rattle.fileactions.specs.Copies.{Finder}
use Rattle.fileactions.specs.Claims.{place_tree, HasName}
use Rattle.fileactions.specs.Engine.{trees_of, IsMade, input_places, AreMade, FindsSources, FindsAll, IsNamedOp, AreNamedOps, GivesTrees}
use Rattle.fileactions.proofs.Steps.{Path}
use Rattle.fileactions.proofs.Layers.{and-then-some}
use Rattle.fileactions.proofs.Found.{made-tree}
use Rattle.fileactions.proofs.Gives.{copy-gives, folder-gives}

-- a value that has a tree
abbrev ok : TreeMap → TreeOrCause
ok tree = Ok tree

same_Ok : (a b : TreeMap) → Some (ok a) ≡ Some (ok b) → a ≡ b
same_Ok a b e = cc

pub there : (xs : List Vertex) (k : ℕ) → k < length xs → (x : Vertex) × (slice_get xs k ≡ Some x)
there [] k less = absurd (omega arith)
there (x ∷ xs) zero less = (x, refl)
there (x ∷ xs) (suc k) less = there xs k (omega arith)

-- ---- values are trees

named-sources : (from : TreeMap) (sources : List FileSource) → AllByRecursion HasName sources → AllByRecursion HasOwnName (sources_in from sources)
named-sources from [] named = tt
named-sources from (Pattern text ∷ sources) named = (tt, named-sources from sources named.1)
named-sources from (Own name content ∷ sources) named = (named.0, named-sources from sources named.1)

made-is : (tree new : TreeMap) (path : Path) → IsTree tree → IsClean path → made tree path ≡ Ok new → IsTree new
made-is tree new path is clean gives =
    let parts = tree_or-ok (make_cause (get tree) path) (with_directory directory_meta tree path) new gives in
    subst IsTree parts.1 (made-tree directory_meta tree path is clean parts.0)

no-file : (o : Option Entry) → is_directory o ≡ true → is_file o ≡ false
no-file None d = refl
no-file (Some (Directory m)) d = refl
no-file (Some (File m b)) d = absurd (true≢false (sym d))

-- the root is there
root-made : (tree : TreeMap) → IsTree tree → made tree [] ≡ ok tree
root-made tree is = (λ i. tree_or (cond (no-file (get tree []) is.root i) (Some F2) None) (with_directory-kept directory_meta tree [] is is.root i))

-- ---- what a vertex has

formed-copy : (files : CopyFiles) (count : Bool) → IsTrue (count && is_well_formed_copy files) → is_well_formed_copy files ≡ true
formed-copy files count formed = both_second count _ formed

module _ (lawful : (text : List ℕ) (path : Path) → (relates text path ≡ true) ↔ Relates text path) (finder : Finder) (world : World) (gives_trees : GivesTrees world) (trees : List ℕ → TreeMap) where
  -- an operation's tree is that at its place
  record HasTree (place : Option (List ℕ)) (tree : TreeMap) : Type 0 where
    same : place_tree trees place ≡ tree
    is : IsTree tree

  AllTrees : List (Option (List ℕ)) → List TreeMap → Type 0
  AllTrees [] [] = Unit {0}
  AllTrees [] (tree ∷ ts) = ⊥
  AllTrees (place ∷ places) [] = ⊥
  AllTrees (place ∷ places) (tree ∷ ts) = HasTree place tree × AllTrees places ts

  same-trees : (places : List (Option (List ℕ))) (ts : List TreeMap) → AllTrees places ts → trees_of trees places ≡ ts
  unfolding AllTrees
  same-trees [] [] all = refl
  same-trees [] (t ∷ ts) all = absurd all
  same-trees (p ∷ ps) [] all = absurd all
  same-trees (p ∷ ps) (t ∷ ts) all = λ i. all.0.same i ∷ same-trees ps ts all.1 i

  all-trees : (places : List (Option (List ℕ))) (ts : List TreeMap) → AllTrees places ts → AllByRecursion IsTree ts
  unfolding AllTrees
  all-trees [] [] all = tt
  all-trees [] (t ∷ ts) all = absurd all
  all-trees (p ∷ ps) [] all = absurd all
  all-trees (p ∷ ps) (t ∷ ts) all = (all.0.is, all-trees ps ts all.1)

  ended-is : (outcome : RunOutcome) (tree : TreeMap) → ((t : TreeMap) → outcome ≡ Done t → IsTree t) → ended outcome ≡ Ok tree → IsTree tree
  ended-is (Done t) tree lawful_run e = let same : t ≡ tree = cc in subst IsTree same (lawful_run t refl)
  ended-is (Exit status) tree lawful_run e = cc

  run-is : (r : Result RunRequest Cause) (tree : TreeMap) → run_of world.out r ≡ Ok tree → IsTree tree
  run-is (Ok request) tree e = ended-is (world.out request) tree (λ t. gives_trees.runs request t) e
  run-is (Err cause) tree e = cc

  source-is : (o : Option TreeMap) (tree : TreeMap) → ((t : TreeMap) → o ≡ Some t → IsTree t) → option_map Ok o ≡ Some (ok tree) → IsTree tree
  source-is None tree h e = absurd (true≢false (sym (ap is_some e)))
  source-is (Some t) tree h e = subst IsTree (same_Ok t tree e) (h t refl)

  copy-has : (files : CopyFiles) (places : List (Option (List ℕ))) (place : Option (List ℕ)) (base from tree : TreeMap) → IsMade finder world trees places (CopyOp files) place
      → FindsSources finder (place_tree trees (slice_index_or places 1 None)) (CopyOp files) → IsNamedOp (CopyOp files) → is_well_formed_copy files ≡ true
      → place_tree trees (slice_index_or places 0 None) ≡ base → place_tree trees (slice_index_or places 1 None) ≡ from → IsTree base → IsTree from
      → Rattle.plans.specs.Value.copied_files files base from ≡ Ok tree → HasTree place tree
  copy-has files places place base from tree made finds named formed base_at from_at base_is from_is e =
      let finds' : FindsSources finder from (CopyOp files) = subst (λ (t : TreeMap). FindsSources finder t (CopyOp files)) from_at finds in
      record {
        same = made tree (copy-gives lawful finder trees files places base from tree (sym base_at) (sym from_at) base_is from_is named.0 formed named.1.0 named.1.1 finds' e);
        is = copied-IsTree base from tree (sources_in from files.sources) files.dest files.options base_is from_is named.0 (named-sources from files.sources named.1.0) e;
      }

  has-tree : (op : Op) (places : List (Option (List ℕ))) (place : Option (List ℕ)) (ts : List TreeMap) (tree : TreeMap) → IsMade finder world trees places op place
      → (op ≡ MakeDirsOp [] → place ≡ slice_index_or places 0 None)
      → FindsSources finder (place_tree trees (slice_index_or places 1 None)) op → IsNamedOp op → IsTrue (is_well_formed_on op (length places)) → AllTrees places ts
      → result_of world.out world.sources op ts ≡ Some (Ok tree) → HasTree place tree
  unfolding AllTrees
  has-tree (SourceOp source) places place ts tree made rooted finds named formed all e =
      record { same = made tree (ap (result_of world.out world.sources (SourceOp source)) (same-trees places ts all) ∙ e); is = source-is (source_tree world.sources source) tree (gives_trees.sources source) e }
  has-tree (ExecOp exec) places place [] tree made rooted finds named formed all e = absurd (true≢false (sym (ap is_some e)))
  has-tree (ExecOp exec) places place (root ∷ ts) tree made rooted finds named formed all e =
      record { same = made tree (ap (result_of world.out world.sources (ExecOp exec)) (same-trees places (root ∷ ts) all) ∙ e); is = run-is (request_of exec root ts) tree (same_Some _ _ e) }
  has-tree MergeOp places place ts tree made rooted finds named formed all e =
      record { same = made tree (ap (result_of world.out world.sources MergeOp) (same-trees places ts all) ∙ e); is = subst IsTree (same_Ok (merged ts) tree e) (merged-IsTree ts (all-trees places ts all)) }
  has-tree (CopyOp files) places place [] tree made rooted finds named formed all e = absurd (true≢false (sym (ap is_some e)))
  has-tree (CopyOp files) [] place (base ∷ ts) tree made rooted finds named formed all e = absurd all
  has-tree (CopyOp files) (p ∷ []) place (base ∷ []) tree made rooted finds named formed all e =
      copy-has files (p ∷ []) place base empty_tree tree made finds named (formed-copy files _ formed) all.0.same refl all.0.is empty-IsTree (same_Some _ _ e)
  has-tree (CopyOp files) (p ∷ q ∷ ps) place (base ∷ []) tree made rooted finds named formed all e = absurd all.1
  has-tree (CopyOp files) (p ∷ []) place (base ∷ from ∷ ts) tree made rooted finds named formed all e = absurd all.1
  has-tree (CopyOp files) (p ∷ q ∷ []) place (base ∷ from ∷ []) tree made rooted finds named formed all e =
      copy-has files (p ∷ q ∷ []) place base from tree made finds named (formed-copy files _ formed) all.0.same all.1.0.same all.0.is all.1.0.is (same_Some _ _ e)
  has-tree (CopyOp files) (p ∷ q ∷ r ∷ ps) place (base ∷ from ∷ []) tree made rooted finds named formed all e = absurd all.1.1
  has-tree (CopyOp files) places place (base ∷ from ∷ more ∷ ts) tree made rooted finds named formed all e = absurd (true≢false (sym (ap is_some e)))
  has-tree (MakeDirsOp path) places place [] tree made rooted finds named formed all e = absurd (true≢false (sym (ap is_some e)))
  has-tree (MakeDirsOp path) [] place (t ∷ ts) tree made rooted finds named formed all e = absurd all
  has-tree (MakeDirsOp path) places place (t ∷ u ∷ ts) tree made rooted finds named formed all e = absurd (true≢false (sym (ap is_some e)))
  has-tree (MakeDirsOp []) (p ∷ ps) place (t ∷ []) tree made rooted finds named formed all e =
      let same : t ≡ tree = same_Ok t tree (ap Some (sym (root-made t all.0.is)) ∙ e) in
      record { same = ap (place_tree trees) (rooted refl) ∙ all.0.same ∙ same; is = subst IsTree same all.0.is }
  has-tree (MakeDirsOp (name ∷ names)) (p ∷ ps) place (t ∷ []) tree made rooted finds named formed all e =
      record { same = made tree (folder-gives finder trees (name ∷ names) (p ∷ ps) t tree (sym all.0.same) named (same_Some _ _ e)); is = made-is t tree (name ∷ names) all.0.is named (same_Some _ _ e) }

  -- ---- the inputs of a vertex

  with-tree-some : (o : Option TreeMap) (rest : Option (List TreeMap)) (ts : List TreeMap) → with_tree o rest ≡ Some ts → (t : TreeMap) × ((more : List TreeMap) × ((o ≡ Some t) × ((rest ≡ Some more) × (t ∷ more ≡ ts))))
  with-tree-some None rest ts e = absurd (true≢false (sym (ap is_some e)))
  with-tree-some (Some t) None ts e = absurd (true≢false (sym (ap is_some e)))
  with-tree-some (Some t) (Some more) ts e = (t, (more, (refl, (refl, same_Some (t ∷ more) ts e))))

  value-some : (v : Value) (t : TreeMap) → tree_of v ≡ Some t → v ≡ Some (ok t)
  value-some None t e = absurd (true≢false (sym (ap is_some e)))
  value-some (Some (Err cause)) t e = absurd (true≢false (sym (ap is_some e)))
  value-some (Some (Ok u)) t e = ap (λ x. Some (ok x)) (same_Some u t e)

  module _ (vertices : List Vertex) (places : List (Option (List ℕ))) where
    abbrev Has : ℕ → Type 0
    Has id = (t : TreeMap) → value_of world.out world.sources vertices id ≡ Some (ok t) → HasTree (slice_index_or places id None) t

    inputs-have : (inputs : List ℕ) (ts : List TreeMap) → trees_at (values_of world.out world.sources vertices) inputs ≡ Some ts → AllByRecursion Has inputs → AllTrees (map (λ id. slice_index_or places id None) inputs) ts
    unfolding AllTrees
    inputs-have [] ts e has = subst (AllTrees []) (same_Some [] ts e) tt
    inputs-have (id ∷ ids) ts e has =
        let parts = with-tree-some (tree_of (value_of world.out world.sources vertices id)) (trees_at (values_of world.out world.sources vertices) ids) ts e in
        subst (AllTrees (slice_index_or places id None ∷ map (λ x. slice_index_or places x None) ids)) parts.1.1.1.1
        (has.0 parts.0 (value-some (value_of world.out world.sources vertices id) parts.0 parts.1.1.0), inputs-have ids parts.1.0 parts.1.1.1.0 has.1)

    all-below : (k : ℕ) (ids : List ℕ) → AllByRecursion (λ id. id < k) ids → ((id : ℕ) → id < k → Has id) → AllByRecursion Has ids
    all-below k [] below h = tt
    all-below k (id ∷ ids) below h = (h id below.0, all-below k ids below.1 h)

    module _ (are : AreVertices vertices) (named : AreNamedOps vertices) (made : AreMade finder world trees vertices places) (finds : FindsAll finder trees vertices places)
        (rooted : (k : ℕ) (vertex : Vertex) → slice_get vertices k ≡ Some vertex → vertex.op ≡ MakeDirsOp [] → slice_index_or places k None ≡ slice_index_or (input_places places vertex) 0 None) where
      up-to : (n k : ℕ) → k < n → Has k
      up-to zero k less t e = absurd (omega arith)
      up-to (suc n) k less t e =
          let inside = value_within world.out world.sources vertices k (Ok t) e in
          let v = there vertices k inside in
          let vertex : Vertex = v.0 in
          let value : value_in world.out world.sources (values_of world.out world.sources vertices) vertex ≡ Some (ok t) = sym (value_of-is world.out world.sources vertices k vertex are v.1) ∙ e in
          let parts = and-then-some (result_of world.out world.sources vertex.op) (trees_at (values_of world.out world.sources vertices) vertex.inputs) (ok t) value in
          let below : AllByRecursion (λ id. id < k) vertex.inputs = recursion_from_All (λ id. id < k) vertex.inputs (are.after k vertex v.1) in
          let all = inputs-have vertex.inputs parts.0 parts.1.0 (all-below k vertex.inputs below (λ id small. up-to n id (omega (arith, small, less)))) in
          let formed : IsTrue (is_well_formed_on vertex.op (length (input_places places vertex))) =
          ap (is_well_formed_on vertex.op) (length-map vertex.inputs (λ id. slice_index_or places id None)) ∙ are.well_formed k vertex v.1 in
          has-tree vertex.op (input_places places vertex) (slice_index_or places k None) parts.0 t (made k vertex v.1) (rooted k vertex v.1) (finds k vertex v.1) (named k vertex v.1) formed all parts.1.1

      -- at the place of each vertex that has a tree is this tree
      pub plan-gives : (k : ℕ) (tree : TreeMap) → value_of world.out world.sources vertices k ≡ Some (Ok tree) → place_tree trees (slice_index_or places k None) ≡ tree
      plan-gives k tree e = (up-to (suc k) k (omega arith) tree e).same
