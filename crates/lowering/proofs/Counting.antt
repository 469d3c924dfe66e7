-- A graph has no more sources than there are.
use Rattle.std.proofs.Common.{◌≡◌, ◌≤◌, ◌+◌, ◌==◌, ◌||◌, ℕ, suc, Bool, true, false, List, [], ◌∷◌, ◌++◌, map, length, Some, is_some, refl, sym, ap}
use Rattle.std.proofs.Common.{ap₂, ◌∙◌, subst, arith, true≢false}
use Rattle.std.specs.Prelude.{slice_get}
use Rattle.std.specs.List.{list_any, AllByRecursion, IsDistinct}
use Rattle.std.specs.Set.{is_member}
use Rattle.std.specs.Ordering.{eq_by_cmp}
use Rattle.std.specs.Cmp.{Equal-is}
use Rattle.std.specs.FinMap.{len, len-entries, entries, get-entries, nat_cmp-IsAntisymmetric, slice_cmp-IsAntisymmetric}
use Rattle.std.specs.FinMap.Entries.{is_some-find}
use Rattle.std.proofs.lemmas.Cmp.{nat_list_cmp_total, eq_by_cmp_equiv}
use Rattle.std.proofs.lemmas.Map.Keys.{IsDistinct-cons}
use Rattle.std.proofs.lemmas.Map.Made.{length-le_from_is_member}
use Rattle.std.proofs.lemmas.Bool.{eqb-true, or_right, and_parts}
use Rattle.paths.specs.Order.{name_cmp}
use Rattle.llb.specs.declared.op.Source.{Source}
use Rattle.llb.specs.declared.op.Source.TheVariants.{Scratch, Context, Image}
use Rattle.llb.specs.declared.op.Op.{Op}
use Rattle.llb.specs.declared.op.Op.TheVariants.{Source as SourceOp, Exec as ExecOp, Copy as CopyOp, MakeDirs as MakeDirsOp, Merge as MergeOp}
use Rattle.llb.specs.declared.vertex.Vertex.{Vertex}
use Rattle.llb.specs.Graph.{AreVertices}
use Rattle.llb.specs.WellFormed.{scratch_name, is_well_formed_source, is_well_formed, is_well_formed_on}
use Rattle.plans.specs.Sources.{SourcesValue, source_tree, HasSource, HasSources}
use Rattle.lowering.specs.PrivateRoom.{source_key, op_keys, keys}

ties : (x y : List ℕ) → eq_by_cmp name_cmp x y ≡ true → x ≡ y
ties x y e = slice_cmp-IsAntisymmetric nat_cmp-IsAntisymmetric x y ((Equal-is (name_cmp x y)).0 e)

-- a source is told by its key
key_tells : (a b : Source) → is_well_formed_source a ≡ true → is_well_formed_source b ≡ true → source_key a ≡ source_key b → a ≡ b
key_tells Scratch Scratch fa fb e = refl
key_tells Scratch Context fa fb e = absurd cc
key_tells Scratch (Image n) fa fb e = absurd (true≢false (sym fb ∙ ap (λ m. is_well_formed_source (Image m)) (sym e)))
key_tells Context Scratch fa fb e = absurd cc
key_tells Context Context fa fb e = refl
key_tells Context (Image n) fa fb e = absurd (true≢false (sym fb ∙ ap (λ m. is_well_formed_source (Image m)) (sym e)))
key_tells (Image m) Scratch fa fb e = absurd (true≢false (sym fa ∙ ap (λ n. is_well_formed_source (Image n)) e))
key_tells (Image m) Context fa fb e = absurd (true≢false (sym fa ∙ ap (λ n. is_well_formed_source (Image n)) e))
key_tells (Image m) (Image n) fa fb e = ap Image e

-- a source's vertex in a list
record Stands (vs : List Vertex) (key : List ℕ) : Type 0 where
  pub k : ℕ
  pub source : Source
  pub v : Vertex
  pub there : slice_get vs k ≡ Some v
  pub op : v.op ≡ SourceOp source
  pub is : source_key source ≡ key

later : (v : Vertex) (vs : List Vertex) (key : List ℕ) → Stands vs key → Stands (v ∷ vs) key
later v vs key s = record { k = suc s.k; source = s.source; v = s.v; there = s.there; op = s.op; is = s.is }

stands_by : (v : Vertex) (vs : List Vertex) (key : List ℕ) (op : Op) → v.op ≡ op
    → (list_any (eq_by_cmp name_cmp key) (keys vs) ≡ true → Stands vs key) → list_any (eq_by_cmp name_cmp key) (op_keys op ++ keys vs) ≡ true
    → Stands (v ∷ vs) key
stands_by v vs key (SourceOp source) is deeper e = by (eq_by_cmp name_cmp key (source_key source)) refl e
  where
    by : (b : Bool) → eq_by_cmp name_cmp key (source_key source) ≡ b → (b || list_any (eq_by_cmp name_cmp key) (keys vs)) ≡ true → Stands (v ∷ vs) key
    by true same e = record { k = 0; source = source; v = v; there = refl; op = is; is = sym (ties key (source_key source) same) }
    by false other e = later v vs key (deeper e)
stands_by v vs key (ExecOp exec) is deeper e = later v vs key (deeper e)
stands_by v vs key (CopyOp files) is deeper e = later v vs key (deeper e)
stands_by v vs key (MakeDirsOp path) is deeper e = later v vs key (deeper e)
stands_by v vs key MergeOp is deeper e = later v vs key (deeper e)

stands : (vs : List Vertex) (key : List ℕ) → list_any (eq_by_cmp name_cmp key) (keys vs) ≡ true → Stands vs key
stands [] key e = absurd (true≢false (sym e))
stands (v ∷ vs) key e = stands_by v vs key v.op refl (stands vs key) e

none_all : (p : List ℕ → Bool) (xs : List (List ℕ)) → list_any p xs ≡ false → AllByRecursion (λ y. p y ≡ false) xs
none_all p [] e = tt
none_all p (x ∷ xs) e = by (p x) refl e (none_all p xs)
  where
    by : (b : Bool) → p x ≡ b → (b || list_any p xs) ≡ false → (list_any p xs ≡ false → AllByRecursion (λ y. p y ≡ false) xs)
        → (p x ≡ false) × AllByRecursion (λ y. p y ≡ false) xs
    by true is e more = absurd (true≢false e)
    by false is e more = (is, more e)

no_inputs : (inputs : List ℕ) → (length inputs == 0) ≡ true → inputs ≡ []
no_inputs [] e = refl
no_inputs (i ∷ is) e = absurd (let f = eqb-true (length (i ∷ is)) 0 e in omega (arith, f))

abbrev vertex_of : Op → List ℕ → Vertex
vertex_of p xs = record { op = p; inputs = xs }

made : (p q : Op) (xs ys : List ℕ) → p ≡ q → xs ≡ ys → vertex_of p xs ≡ vertex_of q ys
made p q xs ys e f = ap₂ vertex_of e f

-- two sources' vertices of one key are one
one_vertex : (a b : Vertex) (s t : Source) → is_well_formed a ≡ true → is_well_formed b ≡ true → a.op ≡ SourceOp s → b.op ≡ SourceOp t
    → source_key s ≡ source_key t → a ≡ b
one_vertex a b s t fa fb oa ob e =
    let pa = and_parts (length a.inputs == 0) (is_well_formed_source s) (sym (ap (λ (op : Op). is_well_formed_on op (length a.inputs)) oa) ∙ fa) in
    let pb = and_parts (length b.inputs == 0) (is_well_formed_source t) (sym (ap (λ (op : Op). is_well_formed_on op (length b.inputs)) ob) ∙ fb) in
    let same : s ≡ t = key_tells s t pa.1 pb.1 e in
    let ops : a.op ≡ b.op = oa ∙ (ap SourceOp same ∙ sym ob) in
    let inputs : a.inputs ≡ b.inputs = no_inputs a.inputs pa.0 ∙ sym (no_inputs b.inputs pb.0) in
    made a.op b.op a.inputs b.inputs ops inputs

distinct_by : (v : Vertex) (vs : List Vertex) (op : Op) → v.op ≡ op
    → ((j k : ℕ) (u : Vertex) → slice_get (v ∷ vs) j ≡ Some u → slice_get (v ∷ vs) k ≡ Some u → j ≡ k)
    → ((k : ℕ) (u : Vertex) → slice_get (v ∷ vs) k ≡ Some u → is_well_formed u ≡ true)
    → IsDistinct (eq_by_cmp name_cmp) (keys vs) → IsDistinct (eq_by_cmp name_cmp) (op_keys op ++ keys vs)
distinct_by v vs (SourceOp source) is once formed rest = by (list_any (eq_by_cmp name_cmp (source_key source)) (keys vs)) refl
  where
    by : (b : Bool) → list_any (eq_by_cmp name_cmp (source_key source)) (keys vs) ≡ b → IsDistinct (eq_by_cmp name_cmp) (source_key source ∷ keys vs)
    by true e =
        let s = stands vs (source_key source) e in
        let same : v ≡ s.v = one_vertex v s.v source s.source (formed 0 v refl) (formed (suc s.k) s.v s.there) is s.op (sym s.is) in
        let zero_suc : 0 ≡ suc s.k = once 0 (suc s.k) s.v (ap Some same) s.there in
        absurd (omega (arith, zero_suc))
    by false e = IsDistinct-cons (eq_by_cmp name_cmp) (source_key source) (keys vs) (none_all (eq_by_cmp name_cmp (source_key source)) (keys vs) e) rest
distinct_by v vs (ExecOp exec) is once formed rest = rest
distinct_by v vs (CopyOp files) is once formed rest = rest
distinct_by v vs (MakeDirsOp path) is once formed rest = rest
distinct_by v vs MergeOp is once formed rest = rest

nil_distinct : IsDistinct (eq_by_cmp name_cmp) []
unfolding IsDistinct
nil_distinct = tt

distinct : (vs : List Vertex) → ((j k : ℕ) (u : Vertex) → slice_get vs j ≡ Some u → slice_get vs k ≡ Some u → j ≡ k)
    → ((k : ℕ) (u : Vertex) → slice_get vs k ≡ Some u → is_well_formed u ≡ true) → IsDistinct (eq_by_cmp name_cmp) (keys vs)
distinct [] once formed = nil_distinct
distinct (v ∷ vs) once formed = distinct_by v vs v.op refl once formed
    (distinct vs (λ j k u a b. omega (arith, once (suc j) (suc k) u a b)) (λ k u a. formed (suc k) u a))

source_member : (sources : SourcesValue) (source : Source) → is_some (source_tree sources source) ≡ true
    → is_member (eq_by_cmp name_cmp) ([] ∷ (scratch_name ∷ map (λ e. e.0) (entries sources.images))) (source_key source) ≡ true
source_member sources Scratch has = refl
source_member sources Context has = refl
source_member sources (Image name) has =
    let there : list_any (eq_by_cmp name_cmp name) (map (λ e. e.0) (entries sources.images)) ≡ true =
    sym (is_some-find name_cmp name (entries sources.images)) ∙ (ap is_some (sym (get-entries sources.images name)) ∙ has) in
    or_right (eq_by_cmp name_cmp name []) _ (or_right (eq_by_cmp name_cmp name scratch_name) _ there)

names_long : {X Y : Type 0} (f : X → Y) (xs : List X) → length (map f xs) ≡ length xs
names_long f [] = refl
names_long f (x ∷ xs) = ap suc (names_long f xs)

-- the sources among vertices are at most as many as there are
pub sources_few : (sources : SourcesValue) (vertices : List Vertex) → AreVertices vertices → HasSources sources vertices
    → length (keys vertices) ≤ len sources.images + 2
sources_few sources vertices are has =
    let le = length-le_from_is_member (eq_by_cmp_equiv nat_list_cmp_total) (keys vertices)
    ([] ∷ (scratch_name ∷ map (λ e. e.0) (entries sources.images))) (distinct vertices are.once are.well_formed) members in
    omega (arith, le, names_long (λ e. e.0) (entries sources.images), len-entries sources.images)
  where
    members : (q : List ℕ) → is_member (eq_by_cmp name_cmp) (keys vertices) q ≡ true
        → is_member (eq_by_cmp name_cmp) ([] ∷ (scratch_name ∷ map (λ e. e.0) (entries sources.images))) q ≡ true
    members q e =
        let s = stands vertices q e in
        let known : is_some (source_tree sources s.source) ≡ true = subst (HasSource sources) s.op (has s.k s.v s.there) in
        ap (is_member (eq_by_cmp name_cmp) ([] ∷ (scratch_name ∷ map (λ e. e.0) (entries sources.images)))) (sym s.is) ∙ source_member sources s.source known
