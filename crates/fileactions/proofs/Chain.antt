-- The actions of a copy, one after another, make the tree of its COPY.
use Rattle.std.proofs.lemmas.Bool.{le-leb, lt-ltb}
use Rattle.std.specs.Prelude.{◌≡◌, ◌==◌, ℕ, suc, ◌+◌, ℤ, pos, negsuc, Bool, true, false, ◌||◌, cond, Option, Some, None, List, [], ◌∷◌, ◌++◌, ◌⊎◌, is_some, length, slice_get, ◌&&◌, ◌<◌, ◌≤◌, IfSome}
use Rattle.std.proofs.Common.{sym, ap, refl, ◌∙◌, subst, true≢false, inl, inr, arith, append-nil, append_assoc}
use Rattle.std.proofs.lemmas.List.{length-append}
use Rattle.std.specs.List.{AllByRecursion, list_any, list_all}
use Rattle.std.specs.Option.{option_and_then}
use Rattle.std.specs.FinMap.{get, insert, get-insert}
use Rattle.paths.specs.OrderLaws.{path_cmp_total}
use Rattle.paths.specs.Path.{IsClean, is_name, climbed}
use Rattle.paths.specs.Name.{IsComponent}
use Rattle.paths.proofs.FrontLaws.{path_itself, both_first, both_hold}
use Rattle.plain.specs.declared.owner.Owner.{Owner}
use Rattle.trees.specs.declared.entry.Entry.{Entry}
use Rattle.trees.specs.declared.entry.Entry.TheVariants.{Directory, File}
use Rattle.trees.specs.declared.copy.CopyOptions.{CopyOptions}
use Rattle.trees.specs.declared.copy.Source.TheVariants.{Data}
use Rattle.trees.specs.TreeMap.{TreeMap, IsTree, empty_tree, file_meta, is_directory}
use Rattle.trees.specs.Put.{cause_at}
use Rattle.trees.specs.Copy.{parent_meta, placed_entry, file_path, goes_into, source_changes, changes_of, change_cause, is_missing, is_absent}
use Rattle.trees.specs.PrivateCopy.{with_change, IsNamed}
use Rattle.trees.proofs.TreeLaws.{get-empty_tree, free-from_cause}
use Rattle.trees.proofs.CopyTrees.{named-items, stepped-IsTree}
use Rattle.llb.specs.declared.op.FileSource.{FileSource}
use Rattle.llb.specs.declared.op.FileSource.TheVariants.{Pattern, Data as Own}
use Rattle.llb.specs.declared.op.CopyFiles.{CopyFiles}
use Rattle.plans.specs.Files.{matches_in, source_in, sources_in}
use Rattle.llbmessages.specs.declared.file.FileActionKind.TheVariants.{Copy}
use Rattle.llbmessages.specs.declared.file.FileAction.{FileAction}
use Rattle.exported.specs.Patterns.{source_path, allows_wildcard}
use Rattle.exported.specs.Files.{dest_of, owner_by_id, mode_number, copy_action, own_file_action, source_actions, copy_actions}
use Rattle.fileactions.specs.Copying.{with_paths}
use Rattle.fileactions.specs.Copies.{Finder, path_of, ends_in_slash, owner_of, mode_of, setting_of, some_of, paths_of, copied_by, is_clean_text, is_mode, can_be_set, is_modelled}
use Rattle.fileactions.specs.Actions.{file_by, kind_by, tree_at, action_by, is_output, actions_by, output_number, is_none_output, is_last_output}
use Rattle.fileactions.specs.Claims.{FindsAlike, HasName, IsSettable}
use Rattle.fileactions.proofs.Steps.{Path, Lead, split, lead-tree, free-placement, either-of, from-left, from-right}
use Rattle.fileactions.proofs.Paths.{setting_of as setting_for, Goes, file-copied}
use Rattle.fileactions.proofs.Rows.{placed-folder}
use Rattle.fileactions.proofs.Found.{paths-copied, still-goes}
use Rattle.fileactions.proofs.Texts.{path_of-dest, path_of-name, slash-dest, clean-dest, clean-name}
use Rattle.fileactions.proofs.Trees.{next-tree}

-- ---- actions one after another

-- these actions give this tree, on these trees
abbrev pub Give : Finder → List TreeMap → List FileAction → TreeMap → Type 0
Give finder trees actions new =
    (all : List TreeMap) × ((actions_by finder trees actions ≡ Some all) × (slice_get all (length trees + output_number actions) ≡ Some new))

done : (finder : Finder) (a : FileAction) (trees : List TreeMap) (tree from mid : TreeMap) → tree_at trees a.input ≡ Some tree → tree_at trees a.secondary_input ≡ Some from → kind_by finder a.kind from tree ≡ Some mid
    → action_by finder a trees ≡ Some mid
done finder a trees tree from mid input second by =
    ap (option_and_then (λ t. option_and_then (λ f. kind_by finder a.kind f t) (tree_at trees a.secondary_input))) input
    ∙ ap (option_and_then (λ f. kind_by finder a.kind f tree)) second ∙ by

one-further : (trees : List TreeMap) (mid : TreeMap) (n : ℕ) → length (trees ++ mid ∷ []) + n ≡ length trees + suc n
one-further trees mid n = let more : length (trees ++ mid ∷ []) ≡ length trees + 1 = length-append trees (mid ∷ []) in omega (arith, more)

-- an action whose tree isn't the operation's, before others
further : (finder : Finder) (a : FileAction) (rest : List FileAction) (trees : List TreeMap) (tree from mid new : TreeMap) → tree_at trees a.input ≡ Some tree → tree_at trees a.secondary_input ≡ Some from
    → kind_by finder a.kind from tree ≡ Some mid → is_output a.output ≡ false → Give finder (trees ++ mid ∷ []) rest new → Give finder trees (a ∷ rest) new
further finder a rest trees tree from mid new input second by none give = (
  give.0,
  (
    ap (option_and_then (λ t. actions_by finder (trees ++ t ∷ []) rest)) (done finder a trees tree from mid input second by) ∙ give.1.0,
    ap (slice_get give.0) ((λ i. length trees + cond (none i) 0 (suc (output_number rest))) ∙ sym (one-further trees mid (output_number rest))) ∙ give.1.1,
  ),
)

-- an action whose tree is the operation's
last : (finder : Finder) (a : FileAction) (trees : List TreeMap) (tree from mid : TreeMap) → tree_at trees a.input ≡ Some tree → tree_at trees a.secondary_input ≡ Some from
    → kind_by finder a.kind from tree ≡ Some mid → is_output a.output ≡ true → Give finder trees (a ∷ []) mid
last finder a trees tree from mid input second by out = (
  trees ++ mid ∷ [],
  (
    ap (option_and_then (λ t. actions_by finder (trees ++ t ∷ []) [])) (done finder a trees tree from mid input second by),
    ap (slice_get (trees ++ mid ∷ [])) ((λ i. length trees + cond (out i) 0 1) ∙ plus-none (length trees)) ∙ next-tree trees mid [],
  ),
)
  where
    plus-none : (n : ℕ) → n + 0 ≡ n
    plus-none n = omega arith

-- ---- what an action says

same-owner : (owner : Option Owner) → owner_of (owner_by_id owner) ≡ owner
same-owner None = refl
same-owner (Some owner) = refl

same-mode : (mode : Option ℕ) → mode_of (mode_number mode) ≡ mode
same-mode None = refl
same-mode (Some bits) = refl

pub goes-base : (base : TreeMap) (dest : Path) (o : CopyOptions) → IsTree base → list_all is_name dest ≡ true → Goes (ends_in_slash (dest_of dest o.into)) (goes_into base dest o) base dest
goes-base base [] o is names = record { said = λ s. from-right o.into _ is.root; why = λ w. inl refl }
goes-base base (c ∷ cs) o is names =
    let same = slash-dest c cs o.into names in
    record { said = λ s. from-left o.into _ (sym same ∙ s); why = λ w. by same (either-of o.into (is_directory (get base (c ∷ cs))) w) }
  where
    by : ends_in_slash (dest_of (c ∷ cs) o.into) ≡ o.into → (o.into ≡ true) ⊎ (is_directory (get base (c ∷ cs)) ≡ true) → (ends_in_slash (dest_of (c ∷ cs) o.into) ≡ true) ⊎ (is_directory (get base (c ∷ cs)) ≡ true)
    by same (inl e) = inl (same ∙ e)
    by same (inr d) = inr d

not-empty : (paths : List Path) → (length paths == 0) ≡ false → some_of paths ≡ Some paths
not-empty [] e = absurd (true≢false e)
not-empty (path ∷ paths) e = refl

both-false : (a b : Bool) → (a || b) ≡ false → (a ≡ false) × (b ≡ false)
both-false true b e = absurd (true≢false e)
both-false false b e = (refl, e)

only-some : {A : Type 0} (o : Option A) (x : A) → o ≡ Some x → option_and_then Some o ≡ Some x
only-some o x e = ap (option_and_then Some) e

-- the tree of a file of a COPY's own
abbrev pub own_tree : List ℕ → List ℕ → TreeMap
own_tree name content = insert empty_tree (name ∷ []) (File file_meta content)

own-made : (finder : Finder) (name content : List ℕ) (from : TreeMap) → is_name name ≡ true → kind_by finder (own_file_action name content).kind from empty_tree ≡ Some (own_tree name content)
unfolding own_file_action file_by
own-made finder name content from named =
    (λ i. cond (is_directory (get empty_tree (climbed (path_of-name name named i))) && clean-name name named i)
    (cond (is_some (get empty_tree (path_of-name name named i))) None (Some (insert empty_tree (path_of-name name named i) (File file_meta content)))) None)
    ∙ (λ i. cond (is_directory (root i) && true) (cond (is_some (nothing i)) None (Some (own_tree name content))) None)
  where
    root : get empty_tree (climbed (name ∷ [])) ≡ Some (Directory (record { mode = 493; uid = 0; gid = 0 }))
    root = get-empty_tree []

    nothing : get empty_tree (name ∷ []) ≡ None
    nothing = get-empty_tree (name ∷ [])

own-there : (name content : List ℕ) → get (own_tree name content) (name ∷ []) ≡ Some (File file_meta content)
own-there name content =
    get-insert path_cmp_total empty_tree (name ∷ []) (File file_meta content) (name ∷ [])
    ∙ ap (λ b. cond b (Some (File file_meta content)) (get empty_tree (name ∷ []))) (path_itself (name ∷ []))

-- a source that BuildKit isn't told to take for a pattern is the one path that it names
abbrev pub IsLiteral : TreeMap → List ℕ → Type 0
IsLiteral from text = (matches_in from text ≡ path_of (source_path text) ∷ []) × (is_clean_text (source_path text) ≡ true)

can-set-mode : (mode : Option ℕ) → IfSome mode (λ bits. bits ≤ 4095) → is_mode (mode_number mode) ≡ true
can-set-mode None h = refl
can-set-mode (Some bits) h = le-leb bits 4095 h

can-set-owner : (owner : Option Owner) → IfSome owner (λ o. (o.user < 4294967295) × (o.group < 4294967295)) → can_be_set (owner_by_id owner) ≡ true
can-set-owner None h = refl
can-set-owner (Some owner) h = both_hold _ _ (lt-ltb owner.user 4294967295 h.0) (lt-ltb owner.group 4294967295 h.1)

module _ (finder : Finder) (files : CopyFiles) (into : Bool) (from : TreeMap) (from_is : IsTree from) (clean : IsClean files.dest) (settable : IsSettable files.options)
    (literal : (text : List ℕ) → allows_wildcard text ≡ false → (length (matches_in from text) == 0) ≡ false → IsLiteral from text) where
  abbrev slash : Bool
  slash = ends_in_slash (dest_of files.dest files.options.into)

  same-setting : (src : List ℕ) (wild : Bool) → setting_of (copy_action files src wild) ≡ setting_for files.options
  unfolding copy_action
  same-setting src wild = λ i. record { owner = same-owner files.options.owner i; mode = same-mode files.options.mode i }

  modelled : (src : List ℕ) (wild : Bool) → (wild || is_clean_text src) ≡ true → is_modelled (copy_action files src wild) ≡ true
  unfolding copy_action
  modelled src wild src_clean =
      both_hold _ _ (can-set-mode files.options.mode settable.mode)
      (both_hold _ _ (can-set-owner files.options.owner settable.owner) (both_hold _ _ (clean-dest files.dest files.options.into clean.names) src_clean))

  copy-by : (src : List ℕ) (wild : Bool) (s tree new : TreeMap) (paths : List Path) → (wild || is_clean_text src) ≡ true → paths_of finder (copy_action files src wild) s ≡ Some paths
      → with_paths slash (setting_for files.options) s files.dest paths tree ≡ Some new → copied_by finder (copy_action files src wild) s tree ≡ Some new
  unfolding copied_by copy_action
  copy-by src wild s tree new paths src_clean found whole =
      ap (λ b. cond b (option_and_then (λ ps. with_paths slash (setting_of (copy_action files src wild)) s (path_of (dest_of files.dest files.options.into)) ps tree) (paths_of finder (copy_action files src wild) s)) None)
      (modelled src wild src_clean)
      ∙ ap (option_and_then (λ ps. with_paths slash (setting_of (copy_action files src wild)) s (path_of (dest_of files.dest files.options.into)) ps tree)) found
      ∙ (λ i. with_paths slash (same-setting src wild i) s (path_of-dest files.dest files.options.into clean.names i) paths tree) ∙ whole

  pattern-paths : (text : List ℕ) (wild : Bool) → allows_wildcard text ≡ wild → FindsAlike finder from (Pattern text) → (length (matches_in from text) == 0) ≡ false
      → (paths_of finder (copy_action files (source_path text) wild) from ≡ Some (matches_in from text)) × ((wild || is_clean_text (source_path text)) ≡ true)
  unfolding copy_action
  pattern-paths text true is alike some = (ap some_of (alike is) ∙ not-empty (matches_in from text) some, refl)
  pattern-paths text false is alike some = let one = literal text is some in (ap Some (sym one.0), one.1)

  -- what one source leaves
  record Left (tree new : TreeMap) : Type 0 where
    is : IsTree new
    goes : Goes slash into new files.dest

  pattern-copied : (text : List ℕ) (tree new : TreeMap) → FindsAlike finder from (Pattern text) → IsTree tree → Goes slash into tree files.dest → is_missing from (source_in from (Pattern text)) ≡ false
      → Lead change_cause (with_change (parent_meta files.options)) tree (source_changes files.options into from files.dest (source_in from (Pattern text))) new
      → (copied_by finder (copy_action files (source_path text) (allows_wildcard text)) from tree ≡ Some new) × Left tree new
  pattern-copied text tree new alike is goes there way =
      let both = both-false (length (matches_in from text) == 0) (list_any (is_absent from) (matches_in from text)) there in
      let all = paths-copied files.options into slash from files.dest from_is clean (matches_in from text) tree new both.1 is goes way in
      let paths = pattern-paths text (allows_wildcard text) refl alike both.0 in (
        copy-by (source_path text) (allows_wildcard text) from tree new (matches_in from text) paths.1 paths.0 all.copied,
        record { is = all.is; goes = still-goes files.options into slash from files.dest from_is clean tree new goes (all.keeps files.dest) },
      )

  own-path : (name content : List ℕ) → is_name name ≡ true → paths_of finder (copy_action files (47 ∷ name) false) (own_tree name content) ≡ Some ((name ∷ []) ∷ [])
  unfolding copy_action
  own-path name content named = ap (λ p. Some (p ∷ [])) (path_of-name name named)

  own-copied : (name content : List ℕ) (tree new : TreeMap) → IsComponent name → IsTree tree → Goes slash into tree files.dest
      → Lead change_cause (with_change (parent_meta files.options)) tree (source_changes files.options into from files.dest (Data name content)) new
      → (copied_by finder (copy_action files (47 ∷ name) false) (own_tree name content) tree ≡ Some new) × Left tree new
  own-copied name content tree new named is goes way =
      let o : CopyOptions = files.options in
      let q : Path = file_path into files.dest (name ∷ []) in
      let e : Entry = placed_entry o (File file_meta content) in
      let none : cause_at (get tree) q e ≡ None = free-placement (get tree) q e _ way.0.1 in
      let free = free-from_cause (get tree) q e none in
      let is_named : is_name name ≡ true = both_first (is_name name) true named.names in
      let new_is : IsTree new = lead-tree change_cause (with_change (parent_meta o)) IsNamed (λ t c before. stepped-IsTree (parent_meta o) t c before) (source_changes o into from files.dest (Data name content)) tree new is
      (named-items o into from files.dest from_is clean (Data name content ∷ []) (named, tt)) way in (
        copy-by (47 ∷ name) false (own_tree name content) tree new ((name ∷ []) ∷ []) (clean-name name is_named) (own-path name content is_named)
            (only-some _ new (file-copied o tree slash into (own_tree name content) files.dest (name ∷ []) name file_meta content is goes refl (own-there name content) none ∙ ap Some way.1)),
        record {
          is = new_is;
          goes = still-goes o into slash from files.dest from_is clean tree new goes (λ d. ap (λ t. is_directory (get t files.dest)) (sym way.1) ∙ placed-folder (parent_meta o) tree q files.dest e free.clash d);
        },
      )

  -- ---- all sources

  -- the trees so far, among which the one that is copied from and the one that is copied onto stand, whatever follows
  pub record Stand (from_at input : ℤ) (trees : List TreeMap) (tree : TreeMap) : Type 0 where
    pub from_there : (more : List TreeMap) → tree_at (trees ++ more) from_at ≡ Some from
    pub input_there : (more : List TreeMap) → tree_at (trees ++ more) input ≡ Some tree

  here : (trees : List TreeMap) (at : ℤ) (tree : TreeMap) → ((more : List TreeMap) → tree_at (trees ++ more) at ≡ Some tree) → tree_at trees at ≡ Some tree
  here trees at tree there = ap (λ ts. tree_at ts at) (sym (append-nil trees)) ∙ there []

  behind : (trees : List TreeMap) (mid : TreeMap) (at : ℤ) (tree : TreeMap) → ((more : List TreeMap) → tree_at (trees ++ more) at ≡ Some tree)
      → (more : List TreeMap) → tree_at ((trees ++ mid ∷ []) ++ more) at ≡ Some tree
  behind trees mid at tree there more = ap (λ ts. tree_at ts at) (append_assoc trees (mid ∷ []) more) ∙ there (mid ∷ more)

  new-there : (trees : List TreeMap) (mid : TreeMap) (number : ℕ) → number ≡ length trees → (more : List TreeMap) → tree_at ((trees ++ mid ∷ []) ++ more) (pos number) ≡ Some mid
  new-there trees mid number is more =
      ap (λ n. tree_at ((trees ++ mid ∷ []) ++ more) (pos n)) is ∙ ap (λ ts. slice_get ts (length trees)) (append_assoc trees (mid ∷ []) more) ∙ next-tree trees mid more

  abbrev act : ℤ → ℤ → ℤ → List ℕ → Bool → FileAction
  act input second output src wild = record { input = input; secondary_input = second; output = output; kind = Copy (copy_action files src wild) }

  one-more : (trees : List TreeMap) (mid : TreeMap) (number : ℕ) → number ≡ length trees → number + 1 ≡ length (trees ++ mid ∷ [])
  one-more trees mid number is = let more : length (trees ++ mid ∷ []) ≡ length trees + 1 = length-append trees (mid ∷ []) in omega (arith, more, is)

  -- the actions of sources, of which there is one
  pub chain : (source : FileSource) (rest : List FileSource) (trees : List TreeMap) (number : ℕ) (from_at input : ℤ) (tree new : TreeMap) → number ≡ length trees → Stand from_at input trees tree
      → AllByRecursion (λ s. FindsAlike finder from s) (source ∷ rest) → AllByRecursion HasName (source ∷ rest) → IsTree tree → Goes slash into tree files.dest
      → list_any (is_missing from) (sources_in from (source ∷ rest)) ≡ false
      → Lead change_cause (with_change (parent_meta files.options)) tree (changes_of files.options into from files.dest (sources_in from (source ∷ rest))) new
      → Give finder trees (copy_actions files from_at number input (source ∷ rest)) new
  unfolding source_actions own_file_action
  chain (Pattern text) [] trees number from_at input tree new is stand alike named tree_is goes there way =
      let parts = split change_cause (with_change (parent_meta files.options)) tree new (source_changes files.options into from files.dest (source_in from (Pattern text))) [] way in
      let mid : TreeMap = parts.0 in
      let one = pattern-copied text tree mid alike.0 tree_is goes (both-false (is_missing from (source_in from (Pattern text))) false there).0 parts.1.0 in
      subst (λ (t : TreeMap). Give finder trees (copy_actions files from_at number input (Pattern text ∷ [])) t) parts.1.1
      (last finder (act input from_at (pos 0) (source_path text) (allows_wildcard text)) trees tree from mid (here trees input tree stand.input_there) (here trees from_at from stand.from_there) one.0 refl)
  chain (Pattern text) (next ∷ rest) trees number from_at input tree new is stand alike named tree_is goes there way =
      let later = changes_of files.options into from files.dest (sources_in from (next ∷ rest)) in
      let parts = split change_cause (with_change (parent_meta files.options)) tree new (source_changes files.options into from files.dest (source_in from (Pattern text))) later way in
      let mid : TreeMap = parts.0 in
      let found = both-false (is_missing from (source_in from (Pattern text))) _ there in
      let one = pattern-copied text tree mid alike.0 tree_is goes found.0 parts.1.0 in
      let stand' : Stand from_at (pos number) (trees ++ mid ∷ []) mid = record { from_there = behind trees mid from_at from stand.from_there; input_there = new-there trees mid number is } in
      further finder (act input from_at (negsuc 0) (source_path text) (allows_wildcard text)) (copy_actions files from_at (number + 1) (pos number) (next ∷ rest)) trees tree from mid new (here trees input tree stand.input_there) (here trees from_at from stand.from_there) one.0 refl
      (chain next rest (trees ++ mid ∷ []) (number + 1) from_at (pos number) mid new (one-more trees mid number is) stand' alike.1 named.1 one.1.is one.1.goes found.1 parts.1.1)
  chain (Own name content) [] trees number from_at input tree new is stand alike named tree_is goes there way =
      let parts = split change_cause (with_change (parent_meta files.options)) tree new (source_changes files.options into from files.dest (source_in from (Own name content))) [] way in
      let mid : TreeMap = parts.0 in
      let own : TreeMap = own_tree name content in
      let is_named : is_name name ≡ true = both_first (is_name name) true named.0.names in
      let one = own-copied name content tree mid named.0 tree_is goes parts.1.0 in
      subst (λ (t : TreeMap). Give finder trees (copy_actions files from_at number input (Own name content ∷ [])) t) parts.1.1
      (further finder (own_file_action name content) (act input (pos number) (pos 0) (47 ∷ name) false ∷ []) trees empty_tree empty_tree own mid refl refl (own-made finder name content empty_tree is_named) refl
      (last finder (act input (pos number) (pos 0) (47 ∷ name) false) (trees ++ own ∷ []) tree own mid (here (trees ++ own ∷ []) input tree (behind trees own input tree stand.input_there))
      (here (trees ++ own ∷ []) (pos number) own (new-there trees own number is)) one.0 refl))
  chain (Own name content) (next ∷ rest) trees number from_at input tree new is stand alike named tree_is goes there way =
      let later = changes_of files.options into from files.dest (sources_in from (next ∷ rest)) in
      let parts = split change_cause (with_change (parent_meta files.options)) tree new (source_changes files.options into from files.dest (source_in from (Own name content))) later way in
      let mid : TreeMap = parts.0 in
      let own : TreeMap = own_tree name content in
      let is_named : is_name name ≡ true = both_first (is_name name) true named.0.names in
      let found = both-false (is_missing from (source_in from (Own name content))) _ there in
      let one = own-copied name content tree mid named.0 tree_is goes parts.1.0 in
      let trees' : List TreeMap = trees ++ own ∷ [] in
      let more : number + 1 ≡ length trees' = one-more trees own number is in
      let stand' : Stand from_at (pos (number + 1)) (trees' ++ mid ∷ []) mid = record {
        from_there = behind trees' mid from_at from (behind trees own from_at from stand.from_there);
        input_there = new-there trees' mid (number + 1) more;
      } in
      further finder (own_file_action name content) (act input (pos number) (negsuc 0) (47 ∷ name) false ∷ copy_actions files from_at (number + 1 + 1) (pos (number + 1)) (next ∷ rest))
      trees empty_tree empty_tree own new refl refl (own-made finder name content empty_tree is_named) refl
      (further finder (act input (pos number) (negsuc 0) (47 ∷ name) false) (copy_actions files from_at (number + 1 + 1) (pos (number + 1)) (next ∷ rest)) trees' tree own mid new (here trees' input tree (behind trees own input tree stand.input_there)) (here trees' (pos number) own (new-there trees own number is)) one.0 refl
      (chain next rest (trees' ++ mid ∷ []) (number + 1 + 1) from_at (pos (number + 1)) mid new (one-more trees' mid (number + 1) more) stand' alike.1 named.1 one.1.is one.1.goes found.1 parts.1.1))

-- ---- the output

last-more : (a : FileAction) (actions : List FileAction) → is_none_output a.output ≡ true → is_last_output actions ≡ true → is_last_output (a ∷ actions) ≡ true
last-more a [] none rest = absurd (true≢false (sym rest))
last-more a (next ∷ actions) none rest = both_hold _ _ none rest

-- the last action of a copy is its output, and no other one is
pub last-output : (files : CopyFiles) (source : FileSource) (rest : List FileSource) (from_at input : ℤ) (number : ℕ) → is_last_output (copy_actions files from_at number input (source ∷ rest)) ≡ true
unfolding source_actions own_file_action
last-output files (Pattern text) [] from_at input number = refl
last-output files (Own name content) [] from_at input number = refl
last-output files (Pattern text) (next ∷ rest) from_at input number =
    last-more (record { input = input; secondary_input = from_at; output = negsuc 0; kind = Copy (copy_action files (source_path text) (allows_wildcard text)) })
    (copy_actions files from_at (number + 1) (pos number) (next ∷ rest)) refl (last-output files next rest from_at (pos number) (number + 1))
last-output files (Own name content) (next ∷ rest) from_at input number =
    last-more (own_file_action name content)
    (record { input = input; secondary_input = pos number; output = negsuc 0; kind = Copy (copy_action files (47 ∷ name) false) } ∷ copy_actions files from_at (number + 1 + 1) (pos (number + 1)) (next ∷ rest)) refl
    (last-more (record { input = input; secondary_input = pos number; output = negsuc 0; kind = Copy (copy_action files (47 ∷ name) false) })
    (copy_actions files from_at (number + 1 + 1) (pos (number + 1)) (next ∷ rest)) refl (last-output files next rest from_at (pos (number + 1)) (number + 1 + 1)))
