-- When no vertex is found to be a merge on a merge.
use Rattle.std.proofs.Common.{◌≡◌, ◌≢◌, ◌↔◌, ℕ, Bool, true, false, List, [], ◌∷◌, not, Option, Some, None, refl, sym, ap, ◌∙◌, get_or}
use Rattle.std.specs.Prelude.{IsTrue, slice_get}
use Rattle.std.specs.List.{list_all}
use Rattle.std.specs.Option.{is_some}
use Rattle.std.proofs.lemmas.List.Sums.{AllPass-from_list_all, list_all-from_AllPass}
use Rattle.std.proofs.lemmas.Option.{slice_get-get_or, get_or_from_slice_get, slice_get_within}
use Rattle.llb.specs.declared.op.Op.{Op}
use Rattle.llb.specs.declared.op.Op.TheVariants.{Source as SourceOp, Exec as ExecOp, Copy as CopyOp, MakeDirs as MakeDirsOp, Merge as MergeOp}
use Rattle.llb.specs.declared.vertex.Vertex.{Vertex}
use Rattle.reached.proofs.SpellingFacts.{merge_is}
use Rattle.reached.specs.Spelled.{is_merge}
use Rattle.rewrite.specs.Flat.{MergesAreFlat}
use Rattle.rewrite.specs.PrivateFlat.{merge_at, first_merge, link_below, stands_flat}

is_other : (op : Op) → op ≢ MergeOp → is_merge op ≡ false
is_other (SourceOp source) other = refl
is_other (ExecOp exec) other = refl
is_other (CopyOp files) other = refl
is_other (MakeDirsOp path) other = refl
is_other MergeOp other = absurd (other refl)

-- ---- where merges are flat, none is found

none_at : (first : ℕ) (at : Option Vertex) → ((u : Vertex) → at ≡ Some u → is_merge u.op ≡ false) → merge_at first at ≡ None
none_at first None plain = refl
none_at first (Some u) plain = rw (plain u refl) refl

none_first : (vs : List Vertex) (inputs : List ℕ) → ((first : ℕ) (rest : List ℕ) (u : Vertex) → inputs ≡ first ∷ rest → slice_get vs first ≡ Some u → is_merge u.op ≡ false)
    → first_merge vs inputs ≡ None
none_first vs [] plain = refl
none_first vs (first ∷ rest) plain = none_at first (slice_get vs first) (λ u there. plain first rest u refl there)

none_below : (vs : List Vertex) → MergesAreFlat vs → (k : ℕ) (v : Vertex) (b : Bool) → slice_get vs k ≡ Some v → is_merge v.op ≡ b → link_below vs v ≡ None
none_below vs flat k v false there is = rw is refl
none_below vs flat k v true there is =
    rw is (none_first vs v.inputs (λ first rest u in_is at_first. is_other u.op (flat k first v u rest there (merge_is v.op is) in_is at_first)))

all_flat : (vs : List Vertex) → MergesAreFlat vs → list_all (stands_flat vs) vs ≡ true
all_flat vs flat = list_all-from_AllPass (stands_flat vs) vs
    (λ k d lt. ap (λ o. not (is_some o)) (none_below vs flat k (get_or vs k d) (is_merge (get_or vs k d).op) (slice_get-get_or vs k d lt) refl))

-- ---- and where none is found, they are flat

link_found : (vs : List Vertex) (v u : Vertex) (first : ℕ) (rest : List ℕ) → v.op ≡ MergeOp → v.inputs ≡ first ∷ rest → slice_get vs first ≡ Some u → u.op ≡ MergeOp
    → link_below vs v ≡ Some first
link_found vs v u first rest op_is in_is at_first u_op =
    let below : first_merge vs v.inputs ≡ Some first =
    ap (first_merge vs) in_is ∙ (ap (merge_at first) at_first ∙ rw (ap is_merge u_op) refl) in
    rw (ap is_merge op_is) below

merges_flat : (vs : List Vertex) → list_all (stands_flat vs) vs ≡ true → MergesAreFlat vs
merges_flat vs all merge first v u rest at op_is in_is at_first u_op =
    let passed : stands_flat vs (get_or vs merge v) ≡ true =
    AllPass-from_list_all (stands_flat vs) vs all merge v (slice_get_within vs merge v at) in
    let here : stands_flat vs v ≡ true = sym (ap (stands_flat vs) (get_or_from_slice_get vs merge v v at)) ∙ passed in
    let found : stands_flat vs v ≡ false = ap (λ o. not (is_some o)) (link_found vs v u first rest op_is in_is at_first u_op) in
    let f : true ≡ false = sym here ∙ found in
    cc

pub flat_told : (vs : List Vertex) (b : Bool) → b ≡ list_all (stands_flat vs) vs → IsTrue b ↔ MergesAreFlat vs
flat_told vs b is = (λ told. merges_flat vs (sym is ∙ told), λ flat. is ∙ all_flat vs flat)
