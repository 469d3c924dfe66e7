-- Where a COPY has a tree, BuildKit's actions give it; and so it is of a folder that is made.
use Rattle.llbmessages.specs.declared.file.FileAction.{FileAction}
use Rattle.std.specs.Prelude.{◌≡◌, ◌==◌, ℕ, ◌+◌, pos, negsuc, Bool, true, false, not, cond, Option, Some, None, Ok, Err, List, [], ◌∷◌, ◌++◌, ◌↔◌, map, length, slice_get, slice_index_or, ℤ}
use Rattle.std.proofs.Common.{sym, ap, refl, ◌∙◌, subst, true≢false, arith, append-nil}
use Rattle.std.proofs.lemmas.List.{length-map}
use Rattle.std.specs.List.{AllByRecursion, list_any}
use Rattle.std.specs.Option.{option_and_then}
use Rattle.paths.specs.Path.{IsClean, text_of}
use Rattle.paths.proofs.FrontLaws.{both_first}
use Rattle.globs.specs.Glob.{relates, Relates}
use Rattle.trees.specs.declared.cause.Cause.TheVariants.{F1}
use Rattle.trees.specs.TreeMap.{TreeMap, IsTree}
use Rattle.trees.specs.Cause.{TreeOrCause}
use Rattle.trees.specs.Make.{made}
use Rattle.trees.specs.Copy.{parent_meta, goes_into, changes_of, change_cause, first_cause, kind_placed, changed_tree, is_missing, copied}
use Rattle.trees.specs.PrivateCopy.{with_change}
use Rattle.trees.proofs.CopyLaws.{changed_tree-more}
use Rattle.trees.proofs.CauseLaws.{tree_or-ok}
use Rattle.llb.specs.declared.op.FileSource.{FileSource}
use Rattle.llb.specs.declared.op.CopyFiles.{CopyFiles}
use Rattle.llb.specs.WellFormed.{is_well_formed_copy}
use Rattle.plans.specs.Files.{sources_in}
use Rattle.plans.specs.Value.{copied_files}
use Rattle.exported.specs.Places.{inputs_of, index_at}
use Rattle.exported.specs.Files.{make_dir_actions, copy_actions, copied as copy_of}
use Rattle.fileactions.specs.Copying.{outcome_of}
use Rattle.fileactions.specs.Copies.{Finder, path_of}
use Rattle.fileactions.specs.Actions.{tree_at, folder_by, actions_by, output_number, operation_by, is_last_output}
use Rattle.fileactions.specs.Claims.{place_tree, FindsAlike, HasName, IsSettable}
use Rattle.fileactions.proofs.Steps.{Path, Lead, leads}
use Rattle.fileactions.proofs.Trees.{tree-of, next-tree}
use Rattle.fileactions.proofs.Chain.{Stand, chain, goes-base, last-output}
use Rattle.fileactions.proofs.Literal.{literal}
use Rattle.fileactions.proofs.Texts.{path_of-text, clean-text}

not-missing : (missing : Bool) (r : TreeOrCause) (new : TreeMap) → cond missing (Err F1) r ≡ Ok new → (missing ≡ false) × (r ≡ Ok new)
not-missing true r new e = cc
not-missing false r new e = (refl, e)

module _ (lawful : (text : List ℕ) (path : Path) → (relates text path ≡ true) ↔ Relates text path) where
  pub copy-gives : (finder : Finder) (trees : List ℕ → TreeMap) (files : CopyFiles) (places : List (Option (List ℕ))) (base from new : TreeMap)
      → base ≡ place_tree trees (slice_index_or places 0 None) → from ≡ place_tree trees (slice_index_or places 1 None) → IsTree base → IsTree from
      → IsClean files.dest → is_well_formed_copy files ≡ true → AllByRecursion HasName files.sources → IsSettable files.options → AllByRecursion (λ source. FindsAlike finder from source) files.sources
      → copied_files files base from ≡ Ok new → operation_by finder (map trees (inputs_of places)) (copy_of files places) ≡ Some new
  unfolding operation_by copy_of
  copy-gives finder trees files places base from new base_at from_at base_is from_is clean formed named settable alike gives =
      by files.sources refl (both_first _ _ formed) named alike
    where
      inputs : List TreeMap
      inputs = map trees (inputs_of places)

      into : Bool
      into = goes_into base files.dest files.options

      stands : Stand finder files into from from_is clean settable (literal lawful from from_is) (index_at (inputs_of places) places 1) (index_at (inputs_of places) places 0) inputs base
      stands = record {
        from_there = λ more. tree-of trees places 1 more ∙ ap Some (sym from_at);
        input_there = λ more. tree-of trees places 0 more ∙ ap Some (sym base_at);
      }

      from_number : ℤ
      from_number = index_at (inputs_of places) places 1

      base_number : ℤ
      base_number = index_at (inputs_of places) places 0

      acts : List FileSource → List FileAction
      acts ss = copy_actions files from_number (length (inputs_of places)) base_number ss

      by : (sources : List FileSource) → files.sources ≡ sources → not (length files.sources == 0) ≡ true → AllByRecursion HasName files.sources → AllByRecursion (λ source. FindsAlike finder from source) files.sources
          → cond (is_last_output (acts files.sources)) (option_and_then (λ all. slice_get all (length inputs + output_number (acts files.sources))) (actions_by finder inputs (acts files.sources))) None ≡ Some new
      by [] is some names alikes = absurd (true≢false (sym (ap (λ ss. not (length ss == 0)) (sym is) ∙ some)))
      by (source ∷ rest) is some names alikes =
          let all : List FileSource = source ∷ rest in
          let found = not-missing (list_any (is_missing from) (sources_in from all)) _ new (ap (λ ss. copied base from (sources_in from ss) files.dest files.options) (sym is) ∙ gives) in
          let changes = changes_of files.options into from files.dest (sources_in from all) in
          let done = tree_or-ok (first_cause (parent_meta files.options) base [] changes) (changed_tree (parent_meta files.options) base changes) new found.1 in
          let way = leads change_cause (with_change (parent_meta files.options)) (first_cause (parent_meta files.options) base) kind_placed (changed_tree (parent_meta files.options) base)
          (λ before c cs. refl) (changed_tree-more (parent_meta files.options) base) [] changes done.0 in
          let way' : Lead change_cause (with_change (parent_meta files.options)) base changes new = subst (λ (t : TreeMap). Lead change_cause (with_change (parent_meta files.options)) base changes t) done.1 way in
          let names' : AllByRecursion HasName all = subst (λ (ss : List FileSource). AllByRecursion HasName ss) is names in
          let alikes' : AllByRecursion (λ s. FindsAlike finder from s) all = subst (λ (ss : List FileSource). AllByRecursion (λ s. FindsAlike finder from s) ss) is alikes in
          let give = chain finder files into from from_is clean settable (literal lawful from from_is) source rest inputs (length (inputs_of places)) from_number base_number base new
          (sym (length-map (inputs_of places) trees)) stands alikes' names' base_is (goes-base base files.dest files.options base_is clean.names) found.0 way' in
          subst (λ (ss : List FileSource). cond (is_last_output (acts ss)) (option_and_then (λ ts. slice_get ts (length inputs + output_number (acts ss))) (actions_by finder inputs (acts ss))) None ≡ Some new) (sym is)
          (ap (λ b. cond b (option_and_then (λ ts. slice_get ts (length inputs + output_number (acts all))) (actions_by finder inputs (acts all))) None) (last-output files source rest from_number base_number (length (inputs_of places)))
          ∙ ap (option_and_then (λ ts. slice_get ts (length inputs + output_number (acts all)))) give.1.0 ∙ give.1.1)

-- ---- a folder that is made

pub folder-gives : (finder : Finder) (trees : List ℕ → TreeMap) (path : Path) (places : List (Option (List ℕ))) (tree new : TreeMap) → tree ≡ place_tree trees (slice_index_or places 0 None)
    → IsClean path → made tree path ≡ Ok new → operation_by finder (map trees (inputs_of places)) (make_dir_actions places path) ≡ Some new
unfolding operation_by make_dir_actions folder_by
folder-gives finder trees path places tree new at clean gives =
    let inputs : List TreeMap = map trees (inputs_of places) in
    let input : tree_at inputs (index_at (inputs_of places) places 0) ≡ Some tree = ap (λ ts. tree_at ts (index_at (inputs_of places) places 0)) (sym (append-nil inputs)) ∙ tree-of trees places 0 [] ∙ ap Some (sym at) in
    let acted : folder_by (record { path = text_of path; mode = pos 493; make_parents = true; owner = None; timestamp = negsuc 0 }) tree ≡ Some new =
    ap (λ b. cond b (outcome_of (made tree (path_of (text_of path)))) None) (clean-text path clean.names)
    ∙ ap (λ p. outcome_of (made tree p)) (path_of-text path clean.names) ∙ ap outcome_of gives in
    ap (option_and_then (λ ts. slice_get ts (length inputs + 0)))
    (ap (option_and_then (λ t. Some (inputs ++ t ∷ []))) (ap (option_and_then (λ t. folder_by (record { path = text_of path; mode = pos 493; make_parents = true; owner = None; timestamp = negsuc 0 }) t)) input ∙ acted))
    ∙ ap (slice_get (inputs ++ new ∷ [])) (plus-none (length inputs)) ∙ next-tree inputs new []
  where
    plus-none : (n : ℕ) → n + 0 ≡ n
    plus-none n = omega arith
