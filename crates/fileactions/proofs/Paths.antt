-- One path of a copy: what BuildKit does step by step is what the changes of a COPY make.
use Rattle.std.specs.Prelude.{◌≡◌, ℕ, Bool, true, false, cond, Option, Some, None, List, [], ◌∷◌, ◌++◌, ◌⊎◌, is_some, is_none, drop, length}
use Rattle.std.proofs.Common.{sym, ap, refl, ◌∙◌, subst, true≢false, inl, inr, arith, suc, ◌+◌, ◌-◌}
use Rattle.std.proofs.lemmas.List.{length-append}
use Rattle.std.specs.Option.{option_or, option_and_then}
use Rattle.std.specs.Ordering.{eq_by_cmp}
use Rattle.std.specs.FinMap.{get, insert, get-insert}
use Rattle.paths.specs.OrderLaws.{path_cmp_total}
use Rattle.paths.specs.Order.{path_cmp}
use Rattle.paths.specs.Path.{climbed}
use Rattle.paths.specs.Fronts.{is_front}
use Rattle.paths.proofs.FrontLaws.{front-of, both_hold}
use Rattle.paths.proofs.PathLaws.{climbed-append}
use Rattle.trees.specs.declared.meta.Meta.{Meta}
use Rattle.trees.specs.declared.entry.Entry.{Entry}
use Rattle.trees.specs.declared.entry.Entry.TheVariants.{Directory, File}
use Rattle.trees.specs.declared.copy.CopyOptions.{CopyOptions}
use Rattle.trees.specs.declared.cause.Cause.{Cause}
use Rattle.trees.specs.TreeMap.{TreeMap, IsTree, is_directory, is_blocked}
use Rattle.trees.specs.Put.{cause_at, clash_of, placed}
use Rattle.trees.specs.Make.{with_directory}
use Rattle.trees.specs.Copy.{parent_meta, placed_entry, file_path}
use Rattle.trees.proofs.TreeLaws.{same_tree, get-placed, free-from_cause}
use Rattle.trees.proofs.WayLaws.{open-front}
use Rattle.fileactions.specs.Copying.{Setting, set_entry, with_folder, with_entry, with_file, first_folder, with_found, with_path}
use Rattle.fileactions.proofs.Steps.{Path, is_on, on-itself, on-trans, not-on, front-on, get-made, off-way, folder-there, folder-made, free-folder, still-open, from-left, not-true, folder-stays}

-- what a copy sets, by what COPY was asked
abbrev pub setting_of : CopyOptions → Setting
setting_of o = record { owner = o.owner; mode = o.mode }

pub set-placed : (o : CopyOptions) (e : Entry) → set_entry (setting_of o) e ≡ placed_entry o e
set-placed o (Directory meta) = refl
set-placed o (File meta content) = refl

-- ---- an entry in a folder

pub merged : (a b : Bool) (o : Option Entry) (d : Entry) → (a ≡ true → b ≡ true) → option_or (option_or o (cond a (Some d) None)) (cond b (Some d) None) ≡ option_or o (cond b (Some d) None)
merged true b None d imp = ap (λ x. cond x (Some d) None) (sym (imp refl)) ∙ refl
merged false b None d imp = refl
merged a b (Some x) d imp = refl

none-clash : (o : Option Cause) → o ≡ None → is_none o ≡ true
none-clash None e = refl
none-clash (Some c) e = absurd (true≢false (ap is_some e))

-- an entry that COPY places in a folder: the folders on the way are made, and then the entry stands where COPY has it
pub placed-in : (meta : Meta) (tree : TreeMap) (p f : Path) (name : List ℕ) (e : Entry) → is_on f p ≡ true → cause_at (get tree) (p ++ name ∷ []) e ≡ None
    → (with_folder meta p (with_directory meta tree f) ≡ Some (with_directory meta (with_directory meta tree f) p))
    × (with_entry (p ++ name ∷ []) e (with_directory meta (with_directory meta tree f) p) ≡ Some (placed meta tree (p ++ name ∷ []) e))
placed-in meta tree p f name e on none =
    let free = free-from_cause (get tree) (p ++ name ∷ []) e none in
    let t1 : TreeMap = with_directory meta tree f in
    let t2 : TreeMap = with_directory meta t1 p in
    let q : Path = p ++ name ∷ [] in
    let shut1 : is_blocked (get t1) q ≡ false = still-open meta tree f q free.way in
    let there : is_directory (get t2 (climbed q)) ≡ true =
    ap (λ x. is_directory (get t2 x)) (climbed-append p name) ∙ folder-there meta t1 p p (open-front (get t1) p q shut1 (front-of p name [])) (on-itself p) in
    let same : get t2 q ≡ get tree q = off-way meta t1 p q (not-on p name) ∙ off-way meta tree f q (off-first q) in
    let whole : insert t2 q e ≡ placed meta tree q e = same_tree (insert t2 q e) (placed meta tree q e) (λ x.
    get-insert path_cmp_total t2 q e x
    ∙ (λ i. cond (eq_by_cmp path_cmp x q) (Some e) (there-now x i))
    ∙ sym (get-placed meta tree q e x)) in (
      folder-made meta t1 p (free-folder t1 p p name shut1 (on-itself p)),
      (λ i. cond (both_hold _ _ there (none-clash _ (ap (λ x. clash_of x e) same ∙ free.clash)) i) (Some (insert t2 q e)) None) ∙ ap Some whole,
    )
  where
    off-first : (q : Path) → is_on (p ++ name ∷ []) f ≡ false
    off-first q = not-true (is_on (p ++ name ∷ []) f) (λ h. true≢false (sym (on-trans (p ++ name ∷ []) f p h on) ∙ not-on p name))

    there-now : (x : Path) → get (with_directory meta (with_directory meta tree f) p) x ≡ option_or (get tree x) (cond (is_front x (p ++ name ∷ [])) (Some (Directory meta)) None)
    there-now x =
        get-made meta (with_directory meta tree f) p x
        ∙ (λ i. option_or (get-made meta tree f x i) (cond (is_on x p) (Some (Directory meta)) None))
        ∙ merged (is_on x f) (is_on x p) (get tree x) (Directory meta) (λ h. on-trans x f p h on)
        ∙ (λ i. option_or (get tree x) (cond (sym (front-on x p name) i) (Some (Directory meta)) None))

-- ---- last names

pub last-of : (c : List ℕ) (cs : Path) → (p : Path) × ((name : List ℕ) × (c ∷ cs ≡ p ++ name ∷ []))
last-of c [] = ([], (c, refl))
last-of c (d ∷ ds) = let more = last-of d ds in (c ∷ more.0, (more.1.0, ap (λ x. c ∷ x) more.1.1))

pub drop-last : (p : Path) (name : List ℕ) → drop (length (p ++ name ∷ []) - 1) (p ++ name ∷ []) ≡ name ∷ []
drop-last [] name = refl
drop-last (c ∷ cs) name =
    let one : length (cs ++ name ∷ []) ≡ length cs + 1 = length-append cs (name ∷ []) in
    let more : length (c ∷ (cs ++ name ∷ [])) - 1 ≡ suc (length (cs ++ name ∷ []) - 1) = omega (arith, one) in
    ap (λ k. drop k (c ∷ (cs ++ name ∷ []))) more ∙ drop-last cs name

pub climbed-on : (dest : Path) → is_on (climbed dest) dest ≡ true
climbed-on [] = refl
climbed-on (c ∷ cs) =
    let last = last-of c cs in
    subst (λ (x : Path). is_on (climbed x) x ≡ true) (sym last.1.1)
    (subst (λ (x : Path). is_on x (last.0 ++ last.1.0 ∷ []) ≡ true) (sym (climbed-append last.0 last.1.0)) (from-left _ _ (front-of last.0 last.1.0 [])))

-- ---- a file

file-no-directory : (o : Option Entry) (meta : Meta) (content : List ℕ) → clash_of o (File meta content) ≡ None → is_directory o ≡ false
file-no-directory None meta content e = refl
file-no-directory (Some (Directory m)) meta content e = absurd (true≢false (ap is_some e))
file-no-directory (Some (File m c)) meta content e = refl

-- files go into the destination because its text says so, or because a folder is there
pub record Goes (slash into : Bool) (tree : TreeMap) (dest : Path) : Type 0 where
  pub said : slash ≡ true → into ≡ true
  pub why : into ≡ true → (slash ≡ true) ⊎ (is_directory (get tree dest) ≡ true)

module _ (o : CopyOptions) (tree : TreeMap) where
  file-in : (p f : Path) (name : List ℕ) (e : Entry) → is_on f p ≡ true → cause_at (get tree) (p ++ name ∷ []) (placed_entry o e) ≡ None
      → with_file (setting_of o) (p ++ name ∷ []) e (with_directory (parent_meta o) tree f) ≡ Some (placed (parent_meta o) tree (p ++ name ∷ []) (placed_entry o e))
  file-in p f name e on none =
      let both = placed-in (parent_meta o) tree p f name (placed_entry o e) on none in
      let t1 : TreeMap = with_directory (parent_meta o) tree f in
      ap (option_and_then (with_entry (p ++ name ∷ []) (set_entry (setting_of o) e))) (ap (λ x. with_folder (parent_meta o) x t1) (climbed-append p name) ∙ both.0)
      ∙ ap (λ x. with_entry (p ++ name ∷ []) x (with_directory (parent_meta o) t1 p)) (set-placed o e) ∙ both.1

  first-on : (slash : Bool) (dest : Path) → is_on (first_folder slash dest) dest ≡ true
  first-on true dest = on-itself dest
  first-on false dest = climbed-on dest

  first-there : (slash : Bool) (dest : Path) (name : List ℕ) → is_blocked (get tree) (dest ++ name ∷ []) ≡ false → (slash ≡ true) ⊎ (is_directory (get tree dest) ≡ true)
      → is_directory (get (with_directory (parent_meta o) tree (first_folder slash dest)) dest) ≡ true
  first-there slash dest name way (inr there) = folder-stays (parent_meta o) tree (first_folder slash dest) dest there
  first-there slash dest name way (inl said) =
      subst (λ (b : Bool). is_directory (get (with_directory (parent_meta o) tree (first_folder b dest)) dest) ≡ true) (sym said)
      (folder-there (parent_meta o) tree dest dest (open-front (get tree) dest (dest ++ name ∷ []) way (front-of dest name [])) (on-itself dest))

  pub file-copied : (slash into : Bool) (from : TreeMap) (dest path : Path) (name : List ℕ) (meta : Meta) (content : List ℕ) → IsTree tree → Goes slash into tree dest
      → drop (length path - 1) path ≡ name ∷ [] → get from path ≡ Some (File meta content)
      → cause_at (get tree) (file_path into dest (name ∷ [])) (placed_entry o (File meta content)) ≡ None
      → with_path slash (setting_of o) from dest path tree ≡ Some (placed (parent_meta o) tree (file_path into dest (name ∷ [])) (placed_entry o (File meta content)))
  file-copied slash true from dest path name meta content is goes last at none =
      let free = free-from_cause (get tree) (dest ++ name ∷ []) (placed_entry o (File meta content)) none in
      let f : Path = first_folder slash dest in
      let t1 : TreeMap = with_directory (parent_meta o) tree f in
      let on : is_on f dest ≡ true = first-on slash dest in
      ap (option_and_then (with_found (setting_of o) from dest path (get from path))) (folder-made (parent_meta o) tree f (free-folder tree dest f name free.way on))
      ∙ ap (λ x. with_found (setting_of o) from dest path x t1) at
      ∙ (λ i. with_file (setting_of o) (cond (first-there slash dest name free.way (goes.why refl) i) (dest ++ last i) dest) (File meta content) t1)
      ∙ file-in dest f name (File meta content) on none
  file-copied true false from dest path name meta content is goes last at none = absurd (true≢false (sym (goes.said refl)))
  file-copied false false from [] path name meta content is goes last at none =
      let free = free-from_cause (get tree) [] (placed_entry o (File meta content)) none in
      absurd (true≢false (sym is.root ∙ file-no-directory (get tree []) _ content free.clash))
  file-copied false false from (c ∷ cs) path name meta content is goes last at none =
      let parts = last-of c cs in
      let p : Path = parts.0 in
      let n : List ℕ = parts.1.0 in
      let here : cause_at (get tree) (p ++ n ∷ []) (placed_entry o (File meta content)) ≡ None = subst (λ (x : Path). cause_at (get tree) x (placed_entry o (File meta content)) ≡ None) parts.1.1 none in
      subst (λ (x : Path). with_path false (setting_of o) from x path tree ≡ Some (placed (parent_meta o) tree x (placed_entry o (File meta content)))) (sym parts.1.1)
      (by p n here)
    where
      by : (p : Path) (n : List ℕ) → cause_at (get tree) (p ++ n ∷ []) (placed_entry o (File meta content)) ≡ None
          → with_path false (setting_of o) from (p ++ n ∷ []) path tree ≡ Some (placed (parent_meta o) tree (p ++ n ∷ []) (placed_entry o (File meta content)))
      by p n here =
          let q : Path = p ++ n ∷ [] in
          let free = free-from_cause (get tree) q (placed_entry o (File meta content)) here in
          let t1 : TreeMap = with_directory (parent_meta o) tree p in
          let no : is_directory (get t1 q) ≡ false = ap is_directory (off-way (parent_meta o) tree p q (not-on p n)) ∙ file-no-directory (get tree q) _ content free.clash in
          ap (option_and_then (with_found (setting_of o) from q path (get from path)))
          (ap (λ x. with_folder (parent_meta o) x tree) (climbed-append p n) ∙ folder-made (parent_meta o) tree p (free-folder tree p p n free.way (on-itself p)))
          ∙ ap (λ x. with_found (setting_of o) from q path x t1) at
          ∙ (λ i. with_file (setting_of o) (cond (no i) (q ++ drop (length path - 1) path) q) (File meta content) t1)
          ∙ file-in p p n (File meta content) (on-itself p) here
