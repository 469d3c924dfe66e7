-- An operation gives the same on trees that are alike at all that it may look at.
use Rattle.std.specs.Prelude.{◌≡◌, ◌==◌, ◌+◌, ℕ, zero, suc, Bool, true, false, ◌||◌, cond, not, T, Some, None, Ok, Err, List, [], ◌∷◌, ◌++◌, is_some, map, length, slice_get}
use Rattle.std.proofs.Common.{sym, ap, refl, ◌∙◌, subst, arith, append-nil}
use Rattle.std.proofs.lemmas.Option.{same_Some}
use Rattle.std.specs.List.{Any, AllByRecursion, filter, list_any, zip}
use Rattle.std.specs.FinMap.{get, entries, entries_sorted, get-entries}
use Rattle.std.specs.FinMap.Entries.{is_sorted, is_sorted-where_key, find-where_key, same_entries, where_key, find}
use Rattle.paths.specs.Order.{path_cmp}
use Rattle.paths.specs.OrderLaws.{path_cmp_total, path_cmp-IsAntisymmetric}
use Rattle.paths.specs.Path.{is_at_or_under}
use Rattle.globs.specs.Glob.{relates}
use Rattle.trees.specs.declared.cause.Cause.TheVariants.{F1}
use Rattle.trees.specs.declared.copy.CopyOptions.{CopyOptions}
use Rattle.trees.specs.declared.copy.Source.TheVariants.{Found}
use Rattle.trees.specs.declared.entry.Entry.{Entry}
use Rattle.trees.specs.Copy.{parent_meta, is_absent, is_missing, match_changes, paths_changes, source_changes, changes_of, goes_into, tree_of_changes}
use Rattle.trees.specs.Make.{made}
use Rattle.trees.specs.Over.{merged}
use Rattle.trees.specs.Subtree.{map_below, directory_tree, subtree}
use Rattle.trees.specs.TreeMap.{TreeMap}
use Rattle.trees.proofs.SubtreeLaws.{entries_below-IsBelow}
use Rattle.trees.proofs.TreeLaws.{same_tree}
use Rattle.llb.specs.declared.op.Bind.{Bind}
use Rattle.llb.specs.declared.op.CopyFiles.{CopyFiles}
use Rattle.llb.specs.declared.op.Exec.{Exec}
use Rattle.llb.specs.declared.op.FileSource.{FileSource}
use Rattle.llb.specs.declared.op.FileSource.TheVariants.{Pattern, Data}
use Rattle.llb.specs.declared.op.Op.{Op}
use Rattle.llb.specs.declared.op.Op.TheVariants.{Source as SourceOp, Exec as ExecOp, Copy as CopyOp, MakeDirs as MakeDirsOp, Merge as MergeOp}
use Rattle.plans.specs.Files.{matches_in, source_in, sources_in}
use Rattle.plans.specs.Request.{with_bind, binds_of, request_with}
use Rattle.plans.specs.Sources.{SourcesValue}
use Rattle.plans.specs.Value.{Out, run_of, copied_files, result_of}
use Rattle.fileactions.specs.Followed.{Takes, Reads}
use Rattle.fileactions.proofs.Steps.{Path}
use Rattle.fileactions.proofs.Followed.{under-front}

-- two trees are alike at all that an operation may look at of its input of this number
abbrev pub Alike : Op → ℕ → TreeMap → TreeMap → Type 0
Alike op number one other = (path : Path) → Reads op number path → get one path ≡ get other path

-- so are the trees of its inputs from this number on
abbrev pub AllAlike : Op → ℕ → List TreeMap → List TreeMap → Type 0
AllAlike op number [] [] = Unit {0}
AllAlike op number [] (other ∷ others) = ⊥
AllAlike op number (one ∷ ones) [] = ⊥
AllAlike op number (one ∷ ones) (other ∷ others) = Alike op number one other × AllAlike op (number + 1) ones others

-- ---- below a path

below-same : (one other : TreeMap) (top : Path) → ((path : Path) → is_at_or_under path top ≡ true → get one path ≡ get other path) → map_below one top ≡ map_below other top
below-same one other top alike = same_tree (map_below one top) (map_below other top) (λ q.
    (entries_below-IsBelow one top).at q ∙ alike (top ++ q) (under-front top q) ∙ sym ((entries_below-IsBelow other top).at q))

top-same : (one other : TreeMap) (top : Path) → ((path : Path) → is_at_or_under path top ≡ true → get one path ≡ get other path) → get one top ≡ get other top
top-same one other top alike = alike top (subst (λ (p : Path). is_at_or_under p top ≡ true) (append-nil top) (under-front top []))

subtree-same : (one other : TreeMap) (top : Path) → ((path : Path) → is_at_or_under path top ≡ true → get one path ≡ get other path) → subtree one top ≡ subtree other top
subtree-same one other top alike = λ i. directory_tree (top-same one other top alike i) (below-same one other top alike i)

-- ---- a COPY

-- the entries at paths to which a pattern relates
abbrev kept : List ℕ → TreeMap → List (Path × Entry)
kept text tree = where_key path_cmp (relates text) (entries tree)

kept-found : (text : List ℕ) (tree : TreeMap) (q : Path) → find path_cmp q (kept text tree) ≡ cond (relates text q) (get tree q) None
kept-found text tree q =
    find-where_key path_cmp (relates text) q (λ x tied. ap (relates text) (sym (path_cmp-IsAntisymmetric q x tied))) (entries tree) ∙ ap (λ o. cond (relates text q) o None) (sym (get-entries tree q))

kept-sorted : (text : List ℕ) (tree : TreeMap) → T (is_sorted path_cmp (kept text tree))
kept-sorted text tree = is_sorted-where_key path_cmp (relates text) (entries tree) (entries_sorted tree)

module _ (one other : TreeMap) where
  -- the paths to which a pattern relates are there in both
  matches-same : (text : List ℕ) → ((path : Path) → relates text path ≡ true → get one path ≡ get other path) → matches_in one text ≡ matches_in other text
  matches-same text alike =
      ap (map (λ row. row.0))
      (same_entries path_cmp path_cmp_total path_cmp-IsAntisymmetric (kept text one) (kept text other) (kept-sorted text one) (kept-sorted text other)
      (λ q. kept-found text one q ∙ by q (relates text q) refl ∙ sym (kept-found text other q)))
    where
      by : (q : Path) (b : Bool) → relates text q ≡ b → cond (relates text q) (get one q) None ≡ cond (relates text q) (get other q) None
      by q true r = ap (λ o. cond (relates text q) o None) (alike q r)
      by q false r = ap (λ b. cond b (get one q) None) r ∙ ap (λ b. cond b (get other q) None) (sym r)

  -- a path has the same in both, and so has all below it
  abbrev IsSame : Path → Type 0
  IsSame path = (get one path ≡ get other path) × (map_below one path ≡ map_below other path)

  matches-alike : (text : List ℕ) (rows : List (Path × Entry)) → ((found : Path) → relates text found ≡ true → IsSame found) → AllByRecursion IsSame (map (λ row. row.0) (filter (λ row. relates text row.0) rows))
  matches-alike text [] same = tt
  matches-alike text (row ∷ rows) same = by (relates text row.0) refl (matches-alike text rows same)
    where
      by : (b : Bool) → relates text row.0 ≡ b → AllByRecursion IsSame (map (λ r. r.0) (filter (λ r. relates text r.0) rows))
          → AllByRecursion IsSame (map (λ r. r.0) (cond b (row ∷ filter (λ r. relates text r.0) rows) (filter (λ r. relates text r.0) rows)))
      by true r rest = (same row.0 r, rest)
      by false r rest = rest

  absent-same : (paths : List Path) → AllByRecursion IsSame paths → list_any (is_absent one) paths ≡ list_any (is_absent other) paths
  absent-same [] all = refl
  absent-same (path ∷ paths) all = λ i. not (is_some (all.0.0 i)) || absent-same paths all.1 i

  changes-same : (options : CopyOptions) (into : Bool) (dest : Path) (paths : List Path) → AllByRecursion IsSame paths → paths_changes options into one dest paths ≡ paths_changes options into other dest paths
  changes-same options into dest [] all = refl
  changes-same options into dest (path ∷ paths) all =
      λ i. match_changes options into dest path (all.0.0 i) (entries (all.0.1 i)) ++ changes-same options into dest paths all.1 i

  -- what a COPY looks at of a source that is looked up
  record IsSourceSame (source : FileSource) : Type 0 where
    found : source_in one source ≡ source_in other source
    missing : is_missing one (source_in one source) ≡ is_missing other (source_in one source)
    changes : (options : CopyOptions) (into : Bool) (dest : Path) → source_changes options into one dest (source_in one source) ≡ source_changes options into other dest (source_in one source)

  source-same : (source : FileSource) → ((path : Path) → Takes path source → get one path ≡ get other path) → IsSourceSame source
  source-same (Data name content) alike = record { found = refl; missing = refl; changes = λ options into dest. refl }
  source-same (Pattern text) alike =
      let below = λ (found : Path) (r : relates text found ≡ true) (path : Path) (under : is_at_or_under path found ≡ true). alike path (found, (r, under)) in
      let all : AllByRecursion IsSame (matches_in one text) =
      matches-alike text (entries one) (λ found r. (top-same one other found (below found r), below-same one other found (below found r))) in
      record {
        found = ap Found (matches-same text (λ found r. top-same one other found (below found r)));
        missing = ap (λ b. length (matches_in one text) == 0 || b) (absent-same (matches_in one text) all);
        changes = λ options into dest. changes-same options into dest (matches_in one text) all;
      }

  record AreSourcesSame (sources : List FileSource) : Type 0 where
    found : sources_in one sources ≡ sources_in other sources
    missing : list_any (is_missing one) (sources_in one sources) ≡ list_any (is_missing other) (sources_in one sources)
    changes : (options : CopyOptions) (into : Bool) (dest : Path) → changes_of options into one dest (sources_in one sources) ≡ changes_of options into other dest (sources_in one sources)

  sources-same : (sources : List FileSource) → ((path : Path) → Any (λ source. Takes path source) sources → get one path ≡ get other path) → AreSourcesSame sources
  sources-same [] alike = record { found = refl; missing = refl; changes = λ options into dest. refl }
  sources-same (source ∷ sources) alike =
      let first = source-same source (λ path takes. alike path (0, source, omega arith, refl, takes)) in
      let rest = sources-same sources (λ path any. alike path (suc any.0, any.1, omega (arith, any.2), any.3, any.4)) in
      record {
        found = λ i. first.found i ∷ rest.found i;
        missing = λ i. first.missing i || rest.missing i;
        changes = λ options into dest i. first.changes options into dest i ++ rest.changes options into dest i;
      }

  copied-same : (files : CopyFiles) (base : TreeMap) → ((path : Path) → Any (λ source. Takes path source) files.sources → get one path ≡ get other path) → copied_files files base one ≡ copied_files files base other
  copied-same files base alike =
      let same = sources-same files.sources alike in
      let into : Bool = goes_into base files.dest files.options in
      (λ i. cond (same.missing i) (Err F1) (tree_of_changes (parent_meta files.options) base (same.changes files.options into files.dest i)))
      ∙ ap (λ sources. cond (list_any (is_missing other) sources) (Err F1) (tree_of_changes (parent_meta files.options) base (changes_of files.options into other files.dest sources))) same.found

-- ---- a command

zero-suc : (n : ℕ) → zero ≡ suc n → ⊥
zero-suc n e = omega (arith, e)

-- it may look at all of the tree that it runs in
root-reads : (exec : Exec) (path : Path) → Reads (ExecOp exec) 0 path
root-reads exec path n bind e at = absurd (zero-suc n e)

bind-reads : (exec : Exec) (number : ℕ) (bind : Bind) (path : Path) → slice_get exec.binds number ≡ Some bind → is_at_or_under path bind.source ≡ true → Reads (ExecOp exec) (suc number) path
bind-reads exec number bind path at under n found e there =
    let place : number ≡ n = omega (arith, e) in
    let same : bind ≡ found = same_Some bind found (sym at ∙ ap (slice_get exec.binds) place ∙ there) in
    subst (λ (b : Bind). is_at_or_under path b.source ≡ true) same under

binds-same : (exec : Exec) (number : ℕ) (binds : List Bind) (ones others : List TreeMap) → ((k : ℕ) → slice_get binds k ≡ slice_get exec.binds (number + k)) → AllAlike (ExecOp exec) (suc number) ones others
    → binds_of (zip binds ones) ≡ binds_of (zip binds others)
binds-same exec number [] ones others at alike = refl
binds-same exec number (bind ∷ binds) [] [] at alike = refl
binds-same exec number (bind ∷ binds) [] (other ∷ others) at alike = absurd alike
binds-same exec number (bind ∷ binds) (one ∷ ones) [] at alike = absurd alike
binds-same exec number (bind ∷ binds) (one ∷ ones) (other ∷ others) at alike =
    let here : slice_get exec.binds number ≡ Some bind = ap (slice_get exec.binds) (omega arith) ∙ sym (at 0) in
    let first = subtree-same one other bind.source (λ path under. alike.0 path (bind-reads exec number bind path here under)) in
    let place : suc number + 1 ≡ suc (number + 1) = omega arith in
    let rest = binds-same exec (number + 1) binds ones others (λ k. at (suc k) ∙ ap (slice_get exec.binds) (omega arith)) (subst (λ (n : ℕ). AllAlike (ExecOp exec) n ones others) place alike.1) in
    λ i. with_bind bind (first i) (rest i)

-- ---- operations

all-same : (number : ℕ) (ones others : List TreeMap) → AllAlike MergeOp number ones others → ones ≡ others
all-same number [] [] alike = refl
all-same number [] (other ∷ others) alike = absurd alike
all-same number (one ∷ ones) [] alike = absurd alike
all-same number (one ∷ ones) (other ∷ others) alike =
    let first : one ≡ other = same_tree one other (λ path. alike.0 path tt) in
    let rest = all-same (number + 1) ones others alike.1 in
    λ i. first i ∷ rest i

module _ (out : Out) (sources : SourcesValue) where
  -- a COPY may look at all of the tree that it copies into
  base-same : (files : CopyFiles) (one other : TreeMap) → Alike (CopyOp files) 0 one other → one ≡ other
  base-same files one other alike = same_tree one other (λ path. alike path (λ e. absurd (zero-suc 0 e)))

  pub result-same : (op : Op) (ones others : List TreeMap) → AllAlike op 0 ones others → result_of out sources op ones ≡ result_of out sources op others
  result-same (SourceOp source) ones others alike = refl
  result-same (ExecOp exec) [] [] alike = refl
  result-same (ExecOp exec) [] (other ∷ others) alike = absurd alike
  result-same (ExecOp exec) (one ∷ ones) [] alike = absurd alike
  result-same (ExecOp exec) (one ∷ ones) (other ∷ others) alike =
      let root : one ≡ other = same_tree one other (λ path. alike.0 path (root-reads exec path)) in
      let binds = binds-same exec 0 exec.binds ones others (λ k. ap (slice_get exec.binds) (omega arith)) alike.1 in
      λ i. Some (run_of out (request_with exec (root i) (binds i)))
  result-same (CopyOp files) [] [] alike = refl
  result-same (CopyOp files) [] (other ∷ others) alike = absurd alike
  result-same (CopyOp files) (one ∷ ones) [] alike = absurd alike
  result-same (CopyOp files) (one ∷ []) (other ∷ []) alike = ap (λ base. result_of out sources (CopyOp files) (base ∷ [])) (base-same files one other alike.0)
  result-same (CopyOp files) (one ∷ []) (other ∷ from ∷ others) alike = absurd alike.1
  result-same (CopyOp files) (one ∷ from ∷ ones) (other ∷ []) alike = absurd alike.1
  result-same (CopyOp files) (one ∷ from ∷ []) (other ∷ from' ∷ []) alike =
      ap Some (ap (λ base. copied_files files base from) (base-same files one other alike.0) ∙ copied-same from from' files other (λ path any. alike.1.0 path (λ e. any)))
  result-same (CopyOp files) (one ∷ from ∷ []) (other ∷ from' ∷ more ∷ others) alike = absurd alike.1.1
  result-same (CopyOp files) (one ∷ from ∷ more ∷ ones) (other ∷ from' ∷ []) alike = absurd alike.1.1
  result-same (CopyOp files) (one ∷ from ∷ more ∷ ones) (other ∷ from' ∷ more' ∷ others) alike = refl
  result-same (MakeDirsOp dir) [] [] alike = refl
  result-same (MakeDirsOp dir) [] (other ∷ others) alike = absurd alike
  result-same (MakeDirsOp dir) (one ∷ ones) [] alike = absurd alike
  result-same (MakeDirsOp dir) (one ∷ []) (other ∷ []) alike = ap (λ tree. Some (made tree dir)) (same_tree one other (λ path. alike.0 path tt))
  result-same (MakeDirsOp dir) (one ∷ []) (other ∷ more ∷ others) alike = absurd alike.1
  result-same (MakeDirsOp dir) (one ∷ more ∷ ones) (other ∷ []) alike = absurd alike.1
  result-same (MakeDirsOp dir) (one ∷ more ∷ ones) (other ∷ more' ∷ others) alike = refl
  result-same MergeOp ones others alike = ap (λ trees. Some (Ok (merged trees))) (all-same 0 ones others alike)

-- ---- by the numbers of inputs

all-from : (op : Op) (start : ℕ) (ones others : List TreeMap) → length ones ≡ length others
    → ((n : ℕ) (one other : TreeMap) → slice_get ones n ≡ Some one → slice_get others n ≡ Some other → Alike op (start + n) one other) → AllAlike op start ones others
all-from op start [] [] long alike = tt
all-from op start [] (other ∷ others) long alike = absurd (omega (arith, long))
all-from op start (one ∷ ones) [] long alike = absurd (omega (arith, long))
all-from op start (one ∷ ones) (other ∷ others) long alike =
    let here : start + 0 ≡ start = omega arith in
    let later = λ (n : ℕ). let e : start + suc n ≡ (start + 1) + n = omega arith in e in (
      subst (λ (n : ℕ). Alike op n one other) here (alike 0 one other refl refl),
      all-from op (start + 1) ones others (omega (arith, long)) (λ n a b at at'. subst (λ (m : ℕ). Alike op m a b) (later n) (alike (suc n) a b at at')),
    )

pub same-result : (out : Out) (sources : SourcesValue) (op : Op) (ones others : List TreeMap) → length ones ≡ length others
    → ((number : ℕ) (one other : TreeMap) (path : Path) → slice_get ones number ≡ Some one → slice_get others number ≡ Some other → Reads op number path → get one path ≡ get other path)
    → result_of out sources op ones ≡ result_of out sources op others
same-result out sources op ones others long alike =
    let place = λ (n : ℕ). let e : n ≡ 0 + n = omega arith in e in
    result-same out sources op ones others (all-from op 0 ones others long (λ n one other at at'. subst (λ (m : ℕ). Alike op m one other) (place n) (λ path reads. alike n one other path at at' reads)))
