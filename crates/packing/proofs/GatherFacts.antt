-- What stands in a folder's tree after each name of the machine's folder that a walk was given.
use Rattle.std.proofs.Common.{◌≡◌, ◌∙◌, ℕ, Bool, true, false, not, cond, List, [], ◌∷◌, ◌++◌, Option, Some, None, Result, Ok, Err, IfOk, refl, sym, ap, subst, inl, inr, true≢false, append_assoc}
use Rattle.std.specs.Prelude.{◌⊎◌, ◌↔◌, ◌||◌, IsTrue}
use Rattle.std.specs.FinMap.{get}
use Rattle.std.specs.Option.{option_or}
use Rattle.std.specs.Ordering.{eq_by_cmp}
use Rattle.std.proofs.lemmas.Bool.{and_parts}
use Rattle.paths.specs.Fronts.{is_front}
use Rattle.paths.specs.Order.{name_cmp, path_cmp}
use Rattle.paths.proofs.FrontLaws.{path_itself, path_same}
use Rattle.trees.specs.Cause.{tree_or}
use Rattle.trees.specs.declared.cause.Cause.{Cause}
use Rattle.trees.specs.declared.cause.Cause.TheVariants.{F2, F5}
use Rattle.trees.specs.declared.entry.Entry.{Entry}
use Rattle.trees.specs.declared.entry.Entry.TheVariants.{Directory, File}
use Rattle.trees.specs.declared.meta.Meta.{Meta}
use Rattle.trees.specs.Put.{clash_of, placed, put_into}
use Rattle.trees.specs.TreeMap.{TreeMap, directory_meta, empty_tree, file_meta}
use Rattle.trees.proofs.TreeLaws.{get-empty_tree, get-put}
use Rattle.ignorefile.specs.Kept.{KeepsNothing, Kept, Touches}
use Rattle.ignorefile.specs.declared.line.Line.{Line}
use Rattle.packing.specs.Packed.{Asked, IsPlainEntry}
use Rattle.packing.specs.Leaving.{AreApplied, Gathers, HasIgnore, IsAmong, IsPacked, Keeping, Kind, LeadsTo, LeavesWhole, MayStand, Place, Seen, Stands, FileKind, FolderKind, OtherKind, has_bytes, ignore_path, is_own, keeping_of}
use Rattle.packing.specs.PrivateFound.{IsContext, IsFoundContext}
use Rattle.packing.specs.declared.fault.PackFault.{PackFault}
use Rattle.packing.specs.PrivateLeaving.{Adds, ExceptNothing, Taken, TakenAs, Takes, TakesAs, is_walked}

-- ---- a placement

-- what stands in a tree after a placement: the entry itself; what stood before; or a directory on the way
abbrev After : TreeMap → Place → Entry → Place → Entry → Type 0
After tree path entry q found =
    ((q ≡ path) × (found ≡ entry)) ⊎ ((get tree q ≡ Some found) ⊎ ((is_front q path ≡ true) × (found ≡ Directory directory_meta)))

some_same : {A : Type 0} (x y : A) → Some x ≡ Some y → x ≡ y
some_same x y e = cc

after_cases : (tree : TreeMap) (path : Place) (entry : Entry) (q : Place) (found : Entry) (same : Bool) → eq_by_cmp path_cmp q path ≡ same
    → (o : Option Entry) → get tree q ≡ o → (front : Bool) → is_front q path ≡ front
    → cond same (Some entry) (option_or o (cond front (Some (Directory directory_meta)) None)) ≡ Some found → After tree path entry q found
after_cases tree path entry q found true tie o was front is at = inl (path_same q path tie, some_same found entry (sym at))
after_cases tree path entry q found false tie (Some old) was front is at = inr (inl (was ∙ at))
after_cases tree path entry q found false tie None was true is at = inr (inr (is, some_same found (Directory directory_meta) (sym at)))
after_cases tree path entry q found false tie None was false is at = absurd cc

after : (tree new : TreeMap) (path : Place) (entry : Entry) → put_into tree path entry ≡ Ok new → (q : Place) (found : Entry) → get new q ≡ Some found
    → After tree path entry q found
after tree new path entry put q found at =
    after_cases tree path entry q found (eq_by_cmp path_cmp q path) refl (get tree q) refl (is_front q path) refl (sym (get-put tree new path q entry put) ∙ at)

here_cases : (same : Bool) (entry : Entry) (rest : Option Entry) → same ≡ true → cond same (Some entry) rest ≡ Some entry
here_cases true entry rest e = refl
here_cases false entry rest e = absurd cc

-- the entry stands at its path
here : (tree new : TreeMap) (path : Place) (entry : Entry) → put_into tree path entry ≡ Ok new → get new path ≡ Some entry
here tree new path entry put = get-put tree new path path entry put ∙ here_cases (eq_by_cmp path_cmp path path) entry _ (path_itself path)

no_cause : (deep blocked : Bool) (clash : Option Cause) (tree new : TreeMap)
    → tree_or (cond deep (Some F5) (cond blocked (Some F2) clash)) tree ≡ Ok new → clash ≡ None
no_cause true blocked clash tree new e = absurd cc
no_cause false true clash tree new e = absurd cc
no_cause false false None tree new e = refl
no_cause false false (Some cause) tree new e = absurd cc

-- it is of the kind of what stood there
no_clash : (tree new : TreeMap) (path : Place) (entry : Entry) → put_into tree path entry ≡ Ok new → clash_of (get tree path) entry ≡ None
no_clash tree new path entry put = no_cause _ _ (clash_of (get tree path) entry) (placed directory_meta tree path entry) new put

abbrev StandsAs : Keeping → Kind → Entry → Type 0
StandsAs keeping kind entry = Stands keeping kind (Some entry)

-- what stands there as a kind stands so after another entry of that kind is put there
replaced : (keeping : Keeping) (kind : Kind) (old : Option Entry) (entry : Entry) → IsPlainEntry entry → clash_of old entry ≡ None → Stands keeping kind old
    → StandsAs keeping kind entry
replaced keeping FileKind old (File meta content) plain clash stands = (content, ap (λ m. Some (File m content)) plain)
replaced keeping FileKind old (Directory meta) plain clash stands = absurd (clashes (subst (λ o. clash_of o (Directory meta) ≡ None) stands.1 clash))
  where
    clashes : clash_of (Some (File file_meta stands.0)) (Directory meta) ≡ None → ⊥
    clashes e = cc
replaced keeping FolderKind old (Directory meta) plain clash stands = ap (λ m. Some (Directory m)) plain
replaced keeping FolderKind old (File meta content) plain clash stands = absurd (clashes (subst (λ o. clash_of o (File meta content) ≡ None) stands clash))
  where
    clashes : clash_of (Some (Directory directory_meta)) (File meta content) ≡ None → ⊥
    clashes e = cc
replaced keeping OtherKind old entry plain clash stands = stands

still : (keeping : Keeping) (kind : Kind) (old : Option Entry) (rest : Option Entry) → Stands keeping kind old → Stands keeping kind (option_or old rest)
still keeping FileKind old rest stands = (stands.0, ap (λ o. option_or o rest) stands.1)
still keeping FolderKind old rest stands = ap (λ o. option_or o rest) stands
still keeping OtherKind old rest stands = stands

-- what stands somewhere stands there still
stays : (keeping : Keeping) (kind : Kind) (tree new : TreeMap) (path : Place) (entry : Entry) → IsPlainEntry entry → put_into tree path entry ≡ Ok new
    → (q : Place) → Stands keeping kind (get tree q) → Stands keeping kind (get new q)
stays keeping kind tree new path entry plain put q stands =
    subst (Stands keeping kind) (sym (get-put tree new path q entry put)) (by (eq_by_cmp path_cmp q path) refl)
  where
    by : (same : Bool) → eq_by_cmp path_cmp q path ≡ same
        → Stands keeping kind (cond same (Some entry) (option_or (get tree q) (cond (is_front q path) (Some (Directory directory_meta)) None)))
    by true tie =
        let at : get tree q ≡ get tree path = ap (get tree) (path_same q path tie) in
        replaced keeping kind (get tree q) entry plain (ap (λ o. clash_of o entry) at ∙ no_clash tree new path entry put) stands
    by false tie = still keeping kind (get tree q) _ stands

-- ---- the paths that may stand

-- an own path lies right in the root
above_own : (dockerfile : Bool) (q path : Place) → is_own dockerfile path ≡ true → is_front q path ≡ true → q ≡ []
above_own dockerfile [] path own front = refl
above_own dockerfile (d ∷ ds) [] own front = absurd (true≢false (sym front))
above_own dockerfile (d ∷ []) (c ∷ []) own front = absurd (true≢false (sym (and_parts (eq_by_cmp name_cmp d c) false front).1))
above_own dockerfile (d ∷ e ∷ ds) (c ∷ []) own front = absurd (true≢false (sym (and_parts (eq_by_cmp name_cmp d c) false front).1))
above_own dockerfile (d ∷ ds) (c ∷ n ∷ cs) own front = absurd (true≢false (sym own))

-- what leads to a packed name may stand
leads : (keeping : Keeping) (seen : List Seen) (one : Seen) → IsAmong one seen → IsPacked keeping one.path → (q : Place) → LeadsTo q one.path → MayStand keeping seen q
leads keeping seen one among (inr kept) q way = inr (inr (one, (among, (kept, way))))
leads keeping seen one among (inl own) q (inl same) = inr (inl (subst (λ p. is_own keeping.dockerfile p ≡ true) same own))
leads keeping seen one among (inl own) q (inr front) = inl (above_own keeping.dockerfile q one.path own front)

leads_own : (keeping : Keeping) (seen : List Seen) (path : Place) → is_own keeping.dockerfile path ≡ true → (q : Place) → LeadsTo q path → MayStand keeping seen q
leads_own keeping seen path own q (inl same) = inr (inl (subst (λ p. is_own keeping.dockerfile p ≡ true) same own))
leads_own keeping seen path own q (inr front) = inl (above_own keeping.dockerfile q path own front)

-- of more names the same may stand
wider : (keeping : Keeping) (seen : List Seen) (more : Seen) (q : Place) → MayStand keeping seen q → MayStand keeping (more ∷ seen) q
wider keeping seen more q (inl root) = inl root
wider keeping seen more q (inr (inl own)) = inr (inl own)
wider keeping seen more q (inr (inr way)) = inr (inr (way.0, (inr way.1.0, way.1.1)))

only_put : (keeping : Keeping) (seen : List Seen) (tree new : TreeMap) (path : Place) (entry : Entry) → put_into tree path entry ≡ Ok new
    → ((q : Place) → LeadsTo q path → MayStand keeping seen q) → ((q : Place) (found : Entry) → get tree q ≡ Some found → MayStand keeping seen q)
    → (q : Place) (found : Entry) → get new q ≡ Some found → MayStand keeping seen q
only_put keeping seen tree new path entry put may only q found at = by (after tree new path entry put q found at)
  where
    by : After tree path entry q found → MayStand keeping seen q
    by (inl same) = may q (inl (sym same.0))
    by (inr (inl old)) = only q found old
    by (inr (inr front)) = may q (inr front.0)

-- an entry has no bytes that its path may not have
abbrev IsBare : Keeping → Place → Entry → Type 0
IsBare keeping path entry = (meta : Meta) (content : List ℕ) → entry ≡ File meta content → has_bytes keeping path ≡ false → content ≡ []

bare_put : (keeping : Keeping) (tree new : TreeMap) (path : Place) (entry : Entry) → put_into tree path entry ≡ Ok new → IsBare keeping path entry
    → ((q : Place) (meta : Meta) (content : List ℕ) → get tree q ≡ Some (File meta content) → has_bytes keeping q ≡ false → content ≡ [])
    → (q : Place) (meta : Meta) (content : List ℕ) → get new q ≡ Some (File meta content) → has_bytes keeping q ≡ false → content ≡ []
bare_put keeping tree new path entry put this bare q meta content at without = by (after tree new path entry put q (File meta content) at)
  where
    by : After tree path entry q (File meta content) → content ≡ []
    by (inl same) = this meta content (sym same.1) (subst (λ p. has_bytes keeping p ≡ false) same.0 without)
    by (inr (inl old)) = bare q meta content old without
    by (inr (inr front)) = absurd (differ front.1)
      where
        differ : File meta content ≡ Directory directory_meta → ⊥
        differ e = cc

-- ---- a name is taken

-- the entry of a name that is packed is put at its path
gathers_put : (keeping : Keeping) (tree new : TreeMap) (one : Seen) (entry : Entry) → IsPlainEntry entry → IsBare keeping one.path entry
    → IsPacked keeping one.path → StandsAs keeping one.kind entry → put_into tree one.path entry ≡ Ok new → Gathers keeping tree → Gathers keeping new
gathers_put keeping tree new one entry plain bare packed stands put gathers = record {
  seen = one ∷ gathers.seen;
  left = gathers.left;
  only = only_put keeping (one ∷ gathers.seen) tree new one.path entry put (leads keeping (one ∷ gathers.seen) one (inl refl) packed) (λ q found at. wider keeping gathers.seen one q (gathers.only q found at));
  all = λ name among is. by name is among;
  bare = bare_put keeping tree new one.path entry put bare gathers.bare;
  whole = gathers.whole;
}
  where
    by : (name : Seen) → IsPacked keeping name.path → IsAmong name (one ∷ gathers.seen) → Stands keeping name.kind (get new name.path)
    by name is (inl same) = subst (λ (n : Seen). Stands keeping n.kind (get new n.path)) (sym same) (subst (Stands keeping one.kind) (sym (here tree new one.path entry put)) stands)
    by name is (inr among) = stays keeping name.kind tree new one.path entry plain put name.path (gathers.all name among is)

-- a name that isn't packed, or stands there already
gathers_seen : (keeping : Keeping) (tree : TreeMap) (one : Seen) → (IsPacked keeping one.path → Stands keeping one.kind (get tree one.path)) → Gathers keeping tree
    → Gathers keeping tree
gathers_seen keeping tree one stands gathers = record {
  seen = one ∷ gathers.seen;
  left = gathers.left;
  only = λ q found at. wider keeping gathers.seen one q (gathers.only q found at);
  all = λ name among is. by name is among;
  bare = gathers.bare;
  whole = gathers.whole;
}
  where
    by : (name : Seen) → IsPacked keeping name.path → IsAmong name (one ∷ gathers.seen) → Stands keeping name.kind (get tree name.path)
    by name is (inl same) =
        subst (λ (n : Seen). Stands keeping n.kind (get tree n.path)) (sym same) (stands (subst (λ (n : Seen). IsPacked keeping n.path) same is))
    by name is (inr among) = gathers.all name among is

-- a name at and below which nothing is kept
gathers_left : (keeping : Keeping) (tree : TreeMap) (path : Place) → LeavesWhole keeping path → Gathers keeping tree → Gathers keeping tree
gathers_left keeping tree path whole gathers = record {
  seen = gathers.seen;
  left = path ∷ gathers.left;
  only = gathers.only;
  all = gathers.all;
  bare = gathers.bare;
  whole = λ q among. by q among;
}
  where
    by : (q : Place) → IsAmong q (path ∷ gathers.left) → LeavesWhole keeping q
    by q (inl same) = subst (LeavesWhole keeping) (sym same) whole
    by q (inr among) = gathers.whole q among

content_of : Entry → List ℕ
content_of (Directory meta) = []
content_of (File meta content) = content

gathers_kind : (keeping : Keeping) (path : Place) (kind : Kind) (old new : TreeMap) → IsPacked keeping path → Adds keeping path kind old new → Gathers keeping old
    → Gathers keeping new
gathers_kind keeping path FileKind old new packed adds gathers =
    gathers_put keeping old new (record { path = path; kind = FileKind }) (File file_meta adds.0) refl
    (λ meta content is without. bytes content (adds.1.0 without) is) packed (adds.0, refl) adds.1.1 gathers
  where
    bytes : {meta : Meta} (content : List ℕ) → adds.0 ≡ [] → File file_meta adds.0 ≡ File meta content → content ≡ []
    bytes content none is = cc
gathers_kind keeping path FolderKind old new packed adds gathers =
    gathers_put keeping old new (record { path = path; kind = FolderKind }) (Directory directory_meta) refl
    (λ meta content is without. absurd (differ is)) packed refl adds gathers
  where
    differ : {meta : Meta} {content : List ℕ} → Directory directory_meta ≡ File meta content → ⊥
    differ is = cc
gathers_kind keeping path OtherKind old new packed adds gathers =
    subst (Gathers keeping) (sym adds.1) (gathers_seen keeping old (record { path = path; kind = OtherKind }) (λ is. adds.0) gathers)

-- what a name added
pub gathers_taken : (keeping : Keeping) (path : Place) (walked : Bool) (old new : TreeMap) → Taken keeping path walked old new → Gathers keeping old → Gathers keeping new
gathers_taken keeping path walked old new (inl left) gathers = subst (Gathers keeping) (sym left.1.1) (gathers_left keeping old path left.0 gathers)
gathers_taken keeping path walked old new (inr taken) gathers = by taken.1.1
  where
    by : ((IsPacked keeping path → ⊥) × (new ≡ old)) ⊎ (IsPacked keeping path × Adds keeping path taken.0 old new) → Gathers keeping new
    by (inl out) =
        subst (Gathers keeping) (sym out.1) (gathers_seen keeping old (record { path = path; kind = taken.0 }) (λ is. absurd (out.0 is)) gathers)
    by (inr packed) = gathers_kind keeping path taken.0 old new packed.0 packed.1 gathers

pub takes_as : (keeping : Keeping) (path : Place) (kind : Kind) (result : Result Bool PackFault) (old new : TreeMap) → TakesAs keeping path kind result old new
    → Takes keeping path result old new
takes_as keeping path kind (Ok walked) old new taken = inr (kind, taken)
takes_as keeping path kind (Err fault) old new before = before

-- nothing was read yet
root_only : (q : Place) (found : Entry) (same : Bool) → eq_by_cmp path_cmp q [] ≡ same → cond same (Some (Directory directory_meta)) None ≡ Some found → q ≡ []
root_only q found true tie at = path_same q [] tie
root_only q found false tie at = absurd cc

root_bare : (meta : Meta) (content : List ℕ) (same : Bool) → cond same (Some (Directory directory_meta)) None ≡ Some (File meta content) → content ≡ []
root_bare meta content true at = absurd cc
root_bare meta content false at = absurd cc

pub gathers_none : (keeping : Keeping) → Gathers keeping empty_tree
gathers_none keeping = record {
  seen = [];
  left = [];
  only = λ q found at. inl (root_only q found (eq_by_cmp path_cmp q []) refl (sym (get-empty_tree q) ∙ at));
  all = λ name among is. absurd among;
  bare = λ q meta content at without. root_bare meta content (eq_by_cmp path_cmp q []) (sym (get-empty_tree q) ∙ at);
  whole = λ q among. absurd among;
}

-- ---- the ignore file that counts

own_bytes : (keeping : Keeping) → has_bytes keeping ignore_path ≡ true
own_bytes keeping = by (not keeping.names)
  where
    by : (all : Bool) → (all || is_own keeping.dockerfile ignore_path) ≡ true
    by true = refl
    by false = refl

-- it is put into the folder
pub gathers_ignore : (keeping : Keeping) (tree new : TreeMap) (bytes : List ℕ) → put_into tree ignore_path (File file_meta bytes) ≡ Ok new → Gathers keeping tree
    → Gathers keeping new
gathers_ignore keeping tree new bytes put gathers = record {
  seen = gathers.seen;
  left = gathers.left;
  only = only_put keeping gathers.seen tree new ignore_path (File file_meta bytes) put (leads_own keeping gathers.seen ignore_path refl) gathers.only;
  all = λ name among is. stays keeping name.kind tree new ignore_path (File file_meta bytes) refl put name.path (gathers.all name among is);
  bare = bare_put keeping tree new ignore_path (File file_meta bytes) put (λ meta content is without. absurd (true≢false (sym (own_bytes keeping) ∙ without))) gathers.bare;
  whole = gathers.whole;
}

pub has_put : (tree new : TreeMap) (bytes : List ℕ) → put_into tree ignore_path (File file_meta bytes) ≡ Ok new → HasIgnore (Some bytes) new
has_put tree new bytes put = here tree new ignore_path (File file_meta bytes) put

-- a context by no ignore file
none_applied : (apply : Bool) → AreApplied apply None []
none_applied true = refl
none_applied false = refl

pub context_whole : (asked : Asked) (keeping : Keeping) (tree : TreeMap) → keeping ≡ keeping_of asked [] → Gathers keeping tree → IsContext asked None tree
context_whole asked keeping tree is gathers = record {
  lines = [];
  has_ignore = tt;
  applied = none_applied asked.apply_ignore;
  gathers = subst (λ k. Gathers k tree) is gathers;
}

-- and by one
pub context_by : (asked : Asked) (keeping : Keeping) (tree new : TreeMap) (bytes : List ℕ) → AreApplied asked.apply_ignore (Some bytes) keeping.lines
    → keeping ≡ keeping_of asked keeping.lines → put_into tree ignore_path (File file_meta bytes) ≡ Ok new → Gathers keeping tree → IsContext asked (Some bytes) new
context_by asked keeping tree new bytes applied is put gathers = record {
  lines = keeping.lines;
  has_ignore = has_put tree new bytes put;
  applied = applied;
  gathers = subst (λ k. Gathers k new) is (gathers_ignore keeping tree new bytes put gathers);
}

-- the same of what a call answers
pub whole_result : (asked : Asked) (keeping : Keeping) (result : Result TreeMap PackFault) → keeping ≡ keeping_of asked [] → IfOk result (Gathers keeping)
    → IfOk result (IsContext asked None)
whole_result asked keeping (Ok tree) is gathers = context_whole asked keeping tree is gathers
whole_result asked keeping (Err fault) is gathers = tt

pub by_result : (asked : Asked) (keeping : Keeping) (tree : TreeMap) (bytes : List ℕ) (result : Result TreeMap PackFault)
    → AreApplied asked.apply_ignore (Some bytes) keeping.lines → keeping ≡ keeping_of asked keeping.lines → Gathers keeping tree
    → IfOk result (λ new. put_into tree ignore_path (File file_meta bytes) ≡ Ok new) → IfOk result (IsContext asked (Some bytes))
by_result asked keeping tree bytes (Ok new) applied is gathers put = context_by asked keeping tree new bytes applied is put gathers
by_result asked keeping tree bytes (Err fault) applied is gathers put = tt

pub found_result : (asked : Asked) (ignore : Option (List ℕ)) (result : Result TreeMap PackFault) → IfOk result (IsContext asked ignore)
    → IfOk result (IsFoundContext asked)
found_result asked ignore (Ok tree) is = record { ignore = ignore; is = is }
found_result asked ignore (Err fault) is = tt

-- ---- what is left out whole

touched_below : (line : Line) (path rest : Place) → Touches line path → Touches line (path ++ rest)
touched_below line path rest touches =
    (touches.0, (touches.1.0 ++ rest, (ap (λ p. p ++ rest) touches.1.1.0 ∙ append_assoc touches.0 touches.1.0 rest, touches.1.1.1)))

-- where no line is an exception, nothing below what is left out is kept
kept_above : (lines : List Line) (path rest : Place) → ExceptNothing lines → Kept lines (path ++ rest) → Kept lines path
kept_above lines path rest none (inl untouched) =
    inl (λ n touches. untouched n (touches.0, (touches.1.0, touched_below touches.0 path rest touches.1.1)))
kept_above lines path rest none (inr excepted) = absurd (true≢false (sym excepted.1.1.1.1.0 ∙ none excepted.0 excepted.1.0 excepted.1.1.0))

own_not : (b : Bool) → (b ≡ true → ⊥) → b ≡ false
own_not true h = absurd (h refl)
own_not false h = refl

pub whole_left : (keeping : Keeping) (path : Place) → ExceptNothing keeping.lines → (IsPacked keeping path → ⊥) → LeavesWhole keeping path
whole_left keeping path none out = record {
  own = own_not (is_own keeping.dockerfile path) (λ own. out (inl own));
  below = λ rest kept. out (inr (kept_above keeping.lines path rest none kept));
}

pub whole_result_left : (keeping : Keeping) (path : Place) (packs : Bool) → ExceptNothing keeping.lines → (IsTrue packs ↔ IsPacked keeping path) → IsTrue (not packs)
    → LeavesWhole keeping path
whole_result_left keeping path true none packed left = absurd (left_not left)
  where
    left_not : IsTrue (not true) → ⊥
    left_not h = cc
whole_result_left keeping path false none packed left = whole_left keeping path none (λ is. out (packed.1 is))
  where
    out : IsTrue false → ⊥
    out h = cc

-- where the lines keep nothing at or below a path
pub whole_by_lines : (keeping : Keeping) (lines : List Line) (path : Place) → lines ≡ keeping.lines → is_own keeping.dockerfile path ≡ false → KeepsNothing lines path
    → LeavesWhole keeping path
whole_by_lines keeping lines path same own nothing = record {
  own = own;
  below = λ rest kept. nothing rest (subst (λ (ls : List Line). Kept ls (path ++ rest)) (sym same) kept);
}

pub whole_kept : (keeping : Keeping) (lines : List Line) (path given : Place) (own may : Bool) → lines ≡ keeping.lines → given ≡ path
    → own ≡ is_own keeping.dockerfile given → own ≡ false → (may ≡ false → KeepsNothing lines path) → IsTrue (not may) → LeavesWhole keeping path
whole_kept keeping lines path given own true same at is isnt nothing left = absurd (left_not left)
  where
    left_not : IsTrue (not true) → ⊥
    left_not h = cc
whole_kept keeping lines path given own false same at is isnt nothing left =
    whole_by_lines keeping lines path same (subst (λ p. is_own keeping.dockerfile p ≡ false) at (sym is ∙ isnt)) (nothing refl)

-- what is packed, where it isn't the ignore file's or the Dockerfile's path
pub packed_else : (keeping : Keeping) (lines : List Line) (path : Place) (kept : Bool) → lines ≡ keeping.lines → is_own keeping.dockerfile path ≡ false
    → (IsTrue kept ↔ Kept lines path) → IsTrue kept ↔ IsPacked keeping path
packed_else keeping lines path kept same own by_lines =
    (λ yes. inr (subst (λ (ls : List Line). Kept ls path) same (by_lines.0 yes)), λ packed. by packed)
  where
    by : IsPacked keeping path → IsTrue kept
    by (inl is) = absurd (true≢false (sym is ∙ own))
    by (inr is) = by_lines.1 (subst (λ (ls : List Line). Kept ls path) (sym same) is)

pub not_packed : (keeping : Keeping) (path : Place) (packs : Bool) → (IsTrue packs ↔ IsPacked keeping path) → packs ≡ false → IsPacked keeping path → ⊥
not_packed keeping path packs packed isnt is = true≢false (sym (packed.1 is) ∙ isnt)

pub not_taken : (keeping : Keeping) (path : Place) (kind : Kind) (packs : Bool) (tree : TreeMap) → (IsTrue packs ↔ IsPacked keeping path) → packs ≡ false
    → TakenAs keeping path kind (is_walked kind) tree tree
not_taken keeping path kind packs tree packed isnt = (refl, inl (not_packed keeping path packs packed isnt, refl))
