-- The images that are named: names are kept, and each has its tree.
use Rattle.std.specs.Prelude.{◌≡◌, ◌≤◌, ◌-◌, ◌||◌, ℕ, suc, Bool, true, false, cond, List, [], ◌∷◌, ◌++◌, Option, Some, None, option_map, length, map, reverse, nat_lt, bytes_eq, refl, if◌then◌else◌}
use Rattle.std.specs.List.{All}
use Rattle.std.specs.Cmp.Lexicographic.{nat_list_cmp_total, texts_ties}
use Rattle.std.specs.FinMap.{FinMap, empty, entries, get, insert, remove, contains_key, len, entries_sorted, get-entries, get-empty, get-insert, get-remove, len-empty, len-remove, same_map, slice_cmp-IsAntisymmetric, nat_cmp-IsAntisymmetric}
use Rattle.std.specs.FinMap.Entries.{find, below_all, is_sorted}
use Rattle.std.specs.Option.{option_or}
use Rattle.std.specs.Ordering.{flip_args, eq_by_cmp}
use Rattle.std.proofs.Common.{sym, ◌∙◌, ap, subst, arith}
use Rattle.std.proofs.lemmas.Bool.{true≢false}
use Rattle.std.proofs.lemmas.Bool.Decides.{nat_tests}
use Rattle.std.proofs.lemmas.Slice.Eq.{bytes_eq-Decides}
use Rattle.std.proofs.lemmas.List.Elements.{All-nil, All-cons}
use Rattle.std.proofs.lemmas.List.Folds.{list_any-append}
use Rattle.named.specs.Rows.{add_row, has_row}
use Rattle.paths.proofs.FrontLaws.{both_first, both_second}
use Rattle.plain.specs.Limits.{most_images}
use Rattle.trees.specs.TreeMap.{TreeMap}
use Rattle.llb.specs.declared.op.Source.TheVariants.{Scratch, Context, Image}
use Rattle.plans.specs.Images.{ImagesValue}
use Rattle.plans.specs.Sources.{name_cmp, SourcesValue}
use Rattle.plans.specs.declared.images.Image as image
use Rattle.plans.proofs.MapViews.{holds, sorted_reversed, unfound, find_reversed, find_falling}
use Rattle.rows.specs.declared.row.Origin.{Origin}
use Rattle.rows.specs.declared.row.Origin.TheVariants.{Source as SourceOf, Stage as StageOf}
use Rattle.evaluation.specs.Images.{ImageNames, is_among, with_name, with_origin, with_origins, named_tree, AreSources}

-- a row that is added to a set of names is a name that is added to theirs

any_named : {V : Type 0} (rows : List (List ℕ × V)) (name : List ℕ) → has_row name rows ≡ is_among (map (λ row. row.0) rows) name
any_named [] name = refl
any_named (row ∷ rows) name = ap (λ b. bytes_eq name row.0 || b) (any_named rows name)

names_push : {V : Type 0} (rows : List (List ℕ × V)) (row : List ℕ × V) → map (λ r. r.0) (rows ++ row ∷ []) ≡ map (λ r. r.0) rows ++ row.0 ∷ []
names_push [] row = refl
names_push (r ∷ rows) row = ap (λ (ns : ImageNames). r.0 ∷ ns) (names_push rows row)

row_added : {V : Type 0} (rows : List (List ℕ × V)) (name : List ℕ) (value : V) → map (λ r. r.0) (add_row rows name value) ≡ with_name (map (λ r. r.0) rows) name
row_added {V} rows name value = by (has_row name rows) ∙ ap (λ b. cond b (map (λ r. r.0) rows) (map (λ r. r.0) rows ++ name ∷ [])) (any_named rows name)
  where
    by : (b : Bool) → map (λ r. r.0) (cond b rows (rows ++ (name, value) ∷ [])) ≡ cond b (map (λ r. r.0) rows) (map (λ r. r.0) rows ++ name ∷ [])
    by true = refl
    by false = names_push rows (name, value)

pub name_added : {V : Type 0} (rows new : List (List ℕ × V)) (copied name : List ℕ) (value : V) (old : ImageNames) → new ≡ add_row rows copied value → copied ≡ name → map (λ r. r.0) rows ≡ old → map (λ r. r.0) new ≡ with_name old name
name_added {V} rows new copied name value old made is view =
    ap (λ (rs : List (List ℕ × V)). map (λ r. r.0) rs) made ∙ row_added rows copied value ∙ ap (λ (ns : ImageNames). with_name ns copied) view ∙ ap (with_name old) is

pub name_there : {V : Type 0} (rows : List (List ℕ × V)) (name : List ℕ) (names : ImageNames) (found : Bool) → found ≡ has_row name rows → map (λ r. r.0) rows ≡ names → found ≡ is_among names name
name_there rows name names found is view = is ∙ any_named rows name ∙ ap (λ (ns : ImageNames). is_among ns name) view

-- names that are there stay, and those that are added are there

or_first : (a b : Bool) → a ≡ true → (a || b) ≡ true
or_first true b h = refl
or_first false b h = absurd (true≢false (sym h))

or_second : (a b : Bool) → b ≡ true → (a || b) ≡ true
or_second true b h = refl
or_second false b h = h

text_itself : (name : List ℕ) → bytes_eq name name ≡ true
text_itself [] = refl
text_itself (c ∷ cs) = grind (arith, nat_tests, text_itself cs)

pushed_stays : (names : ImageNames) (more name : List ℕ) → is_among names name ≡ true → is_among (names ++ more ∷ []) name ≡ true
pushed_stays names more name h = list_any-append (bytes_eq name) names (more ∷ []) ∙ or_first (is_among names name) _ h

pushed_there : (names : ImageNames) (name : List ℕ) → is_among (names ++ name ∷ []) name ≡ true
pushed_there names name =
    list_any-append (bytes_eq name) names (name ∷ []) ∙ or_second (is_among names name) _ (or_first (bytes_eq name name) false (text_itself name))

stays_by : (names : ImageNames) (more name : List ℕ) (b : Bool) → is_among names name ≡ true → is_among (cond b names (names ++ more ∷ [])) name ≡ true
stays_by names more name true h = h
stays_by names more name false h = pushed_stays names more name h

there_by : (names : ImageNames) (name : List ℕ) (b : Bool) → is_among names name ≡ b → is_among (cond b names (names ++ name ∷ [])) name ≡ true
there_by names name true h = h
there_by names name false h = pushed_there names name

-- an image that is named is among the names
abbrev pub HasName : ImageNames → Origin → Type 0
HasName names (SourceOf Scratch) = Unit {0}
HasName names (SourceOf Context) = Unit {0}
HasName names (SourceOf (Image name)) = is_among names name ≡ true
HasName names (StageOf number) = Unit {0}

-- all names that are among some are among others
abbrev pub Stay : ImageNames → ImageNames → Type 0
Stay names more = (name : List ℕ) → is_among names name ≡ true → is_among more name ≡ true

pub has_stays : (names more : ImageNames) → Stay names more → (origin : Origin) → HasName names origin → HasName more origin
has_stays names more stay (SourceOf Scratch) h = tt
has_stays names more stay (SourceOf Context) h = tt
has_stays names more stay (SourceOf (Image name)) h = stay name h
has_stays names more stay (StageOf number) h = tt

pub origin_stays : (names : ImageNames) (origin : Origin) → Stay names (with_origin names origin)
origin_stays names (SourceOf Scratch) name h = h
origin_stays names (SourceOf Context) name h = h
origin_stays names (SourceOf (Image more)) name h = stays_by names more name (is_among names more) h
origin_stays names (StageOf number) name h = h

pub origin_there : (names : ImageNames) (origin : Origin) → HasName (with_origin names origin) origin
origin_there names (SourceOf Scratch) = tt
origin_there names (SourceOf Context) = tt
origin_there names (SourceOf (Image name)) = there_by names name (is_among names name) refl
origin_there names (StageOf number) = tt

pub origins_stay : (names : ImageNames) (origins : List Origin) → Stay names (with_origins names origins)
origins_stay names [] name h = h
origins_stay names (origin ∷ origins) name h = origins_stay (with_origin names origin) origins name (origin_stays names origin name h)

pub origins_there : (names : ImageNames) (origins : List Origin) → All (HasName (with_origins names origins)) origins
origins_there names [] = All-nil (HasName names)
origins_there names (origin ∷ origins) =
    All-cons (HasName (with_origins (with_origin names origin) origins)) origin origins
    (has_stays (with_origin names origin) (with_origins (with_origin names origin) origins) (origins_stay (with_origin names origin) origins) origin (origin_there names origin))
    (origins_there (with_origin names origin) origins)

-- images that aren't more than may be named

few_by : (most many : ℕ) → nat_lt most many ≡ false → many ≤ most
few_by most many h = grind (arith, nat_tests)

pub few_named : (names : ImageNames) → nat_lt most_images (length names) ≡ false → length names ≤ most_images
few_named names h = few_by most_images (length names) h

-- the trees of the images that are named

-- the tree of an image that was found, if the image is among those that are named
abbrev tree_if : {C : Type 0} → Bool → Option (image.Image C) → Option TreeMap
tree_if among found = if among then option_map (λ found. found.tree) found else None

-- the sources that were made of the images that came before these. Those that are left come in the order of their names, the last name first
pub record NamedSoFar {C : Type 0} (context : TreeMap) (all : ImagesValue C) (names : ImageNames) (rest : List (List ℕ × image.Image C)) (sources : SourcesValue) : Type 0 where
  pub same : sources.context ≡ context
  pub ordered : is_sorted (flip_args name_cmp) rest ≡ true
  pub trees : (name : List ℕ) → named_tree all names name ≡ option_or (tree_if (is_among names name) (find name_cmp name rest)) (get sources.images name)

or_none : {A : Type 0} (found : Option A) → option_or found None ≡ found
or_none None = refl
or_none (Some x) = refl

pub named_first : {C : Type 0} (context : TreeMap) (all : ImagesValue C) (names : ImageNames) (rest : List (List ℕ × image.Image C)) (sources : SourcesValue)
    → rest ≡ reverse (entries all) → sources ≡ (record { context = context; images = empty }) → NamedSoFar context all names rest sources
named_first context all names rest sources lent is =
    let rises : is_sorted name_cmp (entries all) ≡ true = holds _ (entries_sorted all) in
    record {
      same = ap (λ (s : SourcesValue). s.context) is;
      ordered = ap (is_sorted (flip_args name_cmp)) lent ∙ sorted_reversed name_cmp (entries all) rises;
      trees = λ name.
          sym (or_none (named_tree all names name))
          ∙ (λ i.
          option_or (tree_if (is_among names name) ((get-entries all name ∙ sym (find_reversed name_cmp nat_list_cmp_total name (entries all) rises) ∙ ap (find name_cmp name) (sym lent)) i))
          (sym (ap (λ (s : SourcesValue). get s.images name) is ∙ get-empty name_cmp name) i));
    }

same_name : (name next : List ℕ) → eq_by_cmp name_cmp name next ≡ true → name ≡ next
same_name name next h = (bytes_eq-Decides name next).0 (texts_ties name next ∙ h)

tree_moved : {C : Type 0} (found : image.Image C) (after : Option (image.Image C)) (now : Option TreeMap) (among same : Bool) → (same ≡ true → among ≡ true) → (same ≡ true → after ≡ None)
    → option_or (tree_if among (cond same (Some found) after)) now ≡ option_or (tree_if among after) (cond same (Some found.tree) now)
tree_moved found after now true true named once = sym (ap (λ (o : Option (image.Image _)). option_or (tree_if true o) (Some found.tree)) (once refl))
tree_moved found after now false true named once = absurd (true≢false (sym (named refl)))
tree_moved found after now among false named once = refl

tree_dropped : {C : Type 0} (found : image.Image C) (after : Option (image.Image C)) (now : Option TreeMap) (among same : Bool) → (same ≡ true → among ≡ false)
    → option_or (tree_if among (cond same (Some found) after)) now ≡ option_or (tree_if among after) now
tree_dropped found after now true true unnamed = absurd (true≢false (unnamed refl))
tree_dropped found after now false true unnamed = refl
tree_dropped found after now among false unnamed = refl

module _ {C : Type 0} (context : TreeMap) (all : ImagesValue C) (names : ImageNames) (rest after : List (List ℕ × image.Image C)) (next : List ℕ × image.Image C) (sources : SourcesValue)
    (far : NamedSoFar context all names rest sources) (is : rest ≡ next ∷ after) where
  falls : is_sorted (flip_args name_cmp) (next ∷ after) ≡ true
  falls = ap (is_sorted (flip_args name_cmp)) (sym is) ∙ far.ordered

  unfound_after : find name_cmp next.0 after ≡ None
  unfound_after = sym (find_falling next.0 after) ∙ unfound (flip_args name_cmp) next.0 after (both_first _ _ falls)

  trees_now : (name : List ℕ) → named_tree all names name ≡ option_or (tree_if (is_among names name) (find name_cmp name (next ∷ after))) (get sources.images name)
  trees_now name = far.trees name ∙ ap (λ (r : List (List ℕ × image.Image C)). option_or (tree_if (is_among names name) (find name_cmp name r)) (get sources.images name)) is

  pub named_some : (more : SourcesValue) → is_among names next.0 ≡ true → more ≡ (record sources { images = insert sources.images next.0 next.1.tree }) → NamedSoFar context all names after more
  named_some more named added = record {
    same = ap (λ (s : SourcesValue). s.context) added ∙ far.same;
    ordered = both_second (below_all (flip_args name_cmp) next.0 after) _ falls;
    trees = λ name.
        trees_now name
        ∙ tree_moved next.1 (find name_cmp name after) (get sources.images name) (is_among names name) (eq_by_cmp name_cmp name next.0)
        (λ same. ap (is_among names) (same_name name next.0 same) ∙ named)
        (λ same. ap (λ (n : List ℕ). find name_cmp n after) (same_name name next.0 same) ∙ unfound_after)
        ∙ ap (option_or (tree_if (is_among names name) (find name_cmp name after)))
        (sym (ap (λ (s : SourcesValue). get s.images name) added ∙ get-insert nat_list_cmp_total sources.images next.0 next.1.tree name));
  }

  pub named_none : is_among names next.0 ≡ false → NamedSoFar context all names after sources
  named_none unnamed = record {
    same = far.same;
    ordered = both_second (below_all (flip_args name_cmp) next.0 after) _ falls;
    trees = λ name.
        trees_now name
        ∙ tree_dropped next.1 (find name_cmp name after) (get sources.images name) (is_among names name) (eq_by_cmp name_cmp name next.0)
        (λ same. ap (is_among names) (same_name name next.0 same) ∙ unnamed);
  }

none_left : (C : Type 0) (among : Bool) (now : Option TreeMap) → option_or (tree_if {C = C} among None) now ≡ now
none_left C true now = refl
none_left C false now = refl

pub named_all : {C : Type 0} (context : TreeMap) (all : ImagesValue C) (names : ImageNames) (rest : List (List ℕ × image.Image C)) (sources : SourcesValue)
    → NamedSoFar context all names rest sources → rest ≡ [] → AreSources context all names sources
named_all {C} context all names rest sources far over = record {
  same = far.same;
  trees = λ name. sym (
      far.trees name ∙ ap (λ (r : List (List ℕ × image.Image C)). option_or (tree_if (is_among names name) (find name_cmp name r)) (get sources.images name)) over
      ∙ none_left C (is_among names name) (get sources.images name)
      );
}

-- trees whose names are all among some aren't more than these

one_less : (b : Bool) (n m : ℕ) → cond b (n - 1) n ≤ m → n ≤ suc m
one_less true n m h = omega (arith, h)
one_less false n m h = omega (arith, h)

few_among : (names : ImageNames) (trees : FinMap name_cmp TreeMap) → ((name : List ℕ) → is_among names name ≡ false → get trees name ≡ None) → len trees ≤ length names
few_among [] trees none =
    let same : trees ≡ empty = same_map nat_list_cmp_total (slice_cmp-IsAntisymmetric nat_cmp-IsAntisymmetric) trees empty (λ name. none name refl ∙ sym (get-empty name_cmp name)) in
    subst (λ (n : ℕ). n ≤ 0) (sym (ap len same ∙ len-empty name_cmp TreeMap)) (omega arith)
few_among (next ∷ names) trees none =
    one_less (contains_key trees next) (len trees) (length names)
    (subst (λ (n : ℕ). n ≤ length names) (len-remove nat_list_cmp_total trees next)
    (few_among names (remove trees next) (λ name apart. get-remove nat_list_cmp_total trees next name ∙ by name apart (eq_by_cmp name_cmp name next) refl)))
  where
    by : (name : List ℕ) → is_among names name ≡ false → (b : Bool) → eq_by_cmp name_cmp name next ≡ b → cond b None (get trees name) ≡ None
    by name apart true h = refl
    by name apart false h = none name (λ i. (texts_ties name next ∙ h) i || apart i)

pub few_sources : {C : Type 0} (context : TreeMap) (all : ImagesValue C) (names : ImageNames) (sources : SourcesValue) → AreSources context all names sources → len sources.images ≤ length names
few_sources context all names sources are =
    few_among names sources.images (λ name apart. are.trees name ∙ ap (λ among. tree_if among (get all name)) apart)
