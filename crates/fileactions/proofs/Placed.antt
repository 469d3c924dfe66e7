-- Where the places of a definition's vertices come from: each is that of what its vertex is.
use Rattle.std.specs.Prelude.{◌≡◌, ◌<◌, ℕ, zero, suc, ◌+◌, Bool, true, false, cond, Option, Some, None, Result, Ok, Err, List, [], ◌∷◌, ◌++◌, is_some, map, length, slice_get, slice_index_or}
use Rattle.std.proofs.Common.{sym, ap, refl, ◌∙◌, subst, true≢false, arith, append-nil, append_assoc}
use Rattle.std.proofs.lemmas.List.{length-append, get_or_append_left, get_or-append-add}
use Rattle.std.proofs.lemmas.List.Elements.{recursion_from_All}
use Rattle.std.proofs.lemmas.Option.{same_Some}
use Rattle.std.specs.List.{AllByRecursion}
use Rattle.llb.specs.declared.op.Op.TheVariants.{MakeDirs as MakeDirsOp}
use Rattle.llb.specs.declared.vertex.Vertex.{Vertex}
use Rattle.llb.specs.Graph.{AreVertices}
use Rattle.llb.specs.Places.{least_line}
use Rattle.llbmessages.specs.declared.definition.Definition.{Definition}
use Rattle.llbmessages.specs.Op.{op_bytes}
use Rattle.exported.specs.declared.making.Options.{Options}
use Rattle.exported.specs.declared.making.Made.{Made}
use Rattle.exported.specs.declared.making.Made.TheVariants.{Same, By}
use Rattle.exported.specs.declared.fault.Obstacle.{Obstacle}
use Rattle.exported.specs.declared.fault.Obstacle.TheVariants.{Unspeakable}
use Rattle.exported.specs.Places.{digest_of}
use Rattle.exported.specs.Making.{places_at, made_on, vertex_made}
use Rattle.exported.specs.Metadata.{vertex_name, metadata_of}
use Rattle.exported.specs.Exporting.{and_then, is_speakable, with_op, placed, vertex_placed, all_placed, nothing}
use Rattle.fileactions.specs.Engine.{place_of, input_places}

and_then-ok : {A B : Type 0} (r : Result A Obstacle) (f : A → Result B Obstacle) (y : B) → and_then r f ≡ Ok y → (x : A) × ((r ≡ Ok x) × (f x ≡ Ok y))
and_then-ok (Ok x) f y e = (x, (refl, e))
and_then-ok (Err obstacle) f y e = cc

-- a place and a definition
abbrev Step : Type 0
Step = Option (List ℕ) × Definition

told : Step → Result Step Obstacle
told step = Ok step

same-step : (a b : Step) → told a ≡ told b → a ≡ b
unfolding told
same-step a b e = cc

-- ---- one vertex

placed-at : (number : ℕ) (definition : Definition) (name : Option (List ℕ)) (made : Made) (next : Step) → placed number definition name made ≡ told next → next.0 ≡ place_of made
unfolding told
placed-at number definition name (Same place) next e = ap (λ (s : Step). s.0) (sym (same-step (place, definition) next e))
placed-at number definition name (By op) next e =
    let parts = and_then-ok (with_op number definition (op_bytes op) (metadata_of name op)) (λ more. Ok (Some (digest_of (op_bytes op)), more)) next e in
    ap (λ (s : Step). s.0) (sym (same-step (Some (digest_of (op_bytes op)), parts.0) next parts.1.1))

vertex-at : (options : Options) (names : List (Option (List ℕ))) (line : ℕ) (places : List (Option (List ℕ))) (definition : Definition) (vertex : Vertex) (next : Step)
    → vertex_placed options names line places definition vertex ≡ told next → next.0 ≡ place_of (vertex_made options places vertex)
unfolding vertex_placed told
vertex-at options names line places definition vertex next e = by (is_speakable options vertex.op) e
  where
    by : (b : Bool) → cond b (placed (length places) definition (vertex_name names line vertex.op) (vertex_made options places vertex)) (Err (Unspeakable (length places))) ≡ told next
        → next.0 ≡ place_of (vertex_made options places vertex)
    by true is = placed-at (length places) definition (vertex_name names line vertex.op) (vertex_made options places vertex) next is
    by false is = cc

-- ---- all vertices

-- a vertex's place stands behind those of the vertices before it
record IsBehind (options : Options) (number : ℕ) (vertex : Vertex) (places : List (Option (List ℕ))) : Type 0 where
  before : List (Option (List ℕ))
  after : List (Option (List ℕ))
  count : length before ≡ number
  whole : places ≡ before ++ place_of (vertex_made options before vertex) ∷ after

-- places and a definition
abbrev Known : Type 0
Known = List (Option (List ℕ)) × Definition

all_told : Known → Result Known Obstacle
all_told known = Ok known

same-known : (a b : Known) → all_told a ≡ all_told b → a ≡ b
unfolding all_told
same-known a b e = cc

module _ (options : Options) (names : List (Option (List ℕ))) (lines : List (List ℕ)) where
  grows : (vertices : List Vertex) (places : List (Option (List ℕ))) (definition : Definition) (known : Known) → all_placed options names lines places definition vertices ≡ all_told known
      → (more : List (Option (List ℕ))) × (known.0 ≡ places ++ more)
  unfolding all_told
  grows [] places definition known e = ([], ap (λ (k : Known). k.0) (sym (same-known (places, definition) known e)) ∙ sym (append-nil places))
  grows (vertex ∷ vertices) places definition known e =
      let parts = and_then-ok (vertex_placed options names (least_line (slice_index_or lines (length places) [])) places definition vertex) (λ next. all_placed options names lines (places ++ next.0 ∷ []) next.1 vertices) known e in
      let rest = grows vertices (places ++ parts.0.0 ∷ []) parts.0.1 known parts.1.1 in
      (parts.0.0 ∷ rest.0, rest.1 ∙ append_assoc places (parts.0.0 ∷ []) rest.0)

  behind : (vertices : List Vertex) (places : List (Option (List ℕ))) (definition : Definition) (known : Known) → all_placed options names lines places definition vertices ≡ all_told known
      → (j : ℕ) (vertex : Vertex) → slice_get vertices j ≡ Some vertex → IsBehind options (length places + j) vertex known.0
  unfolding all_told told
  behind [] places definition known e zero vertex at = absurd (true≢false (sym (ap is_some at)))
  behind [] places definition known e (suc j) vertex at = absurd (true≢false (sym (ap is_some at)))
  behind (first ∷ vertices) places definition known e zero vertex at =
      let line : ℕ = least_line (slice_index_or lines (length places) []) in
      let parts = and_then-ok (vertex_placed options names line places definition first) (λ next. all_placed options names lines (places ++ next.0 ∷ []) next.1 vertices) known e in
      let rest = grows vertices (places ++ parts.0.0 ∷ []) parts.0.1 known parts.1.1 in
      let here : parts.0.0 ≡ place_of (vertex_made options places vertex) =
      vertex-at options names line places definition first parts.0 parts.1.0 ∙ ap (λ v. place_of (vertex_made options places v)) (same_Some first vertex at) in
      record {
        before = places;
        after = rest.0;
        count = omega arith;
        whole = rest.1 ∙ append_assoc places (parts.0.0 ∷ []) rest.0 ∙ ap (λ p. places ++ p ∷ rest.0) here;
      }
  behind (first ∷ vertices) places definition known e (suc j) vertex at =
      let line : ℕ = least_line (slice_index_or lines (length places) []) in
      let parts = and_then-ok (vertex_placed options names line places definition first) (λ next. all_placed options names lines (places ++ next.0 ∷ []) next.1 vertices) known e in
      let one : length (places ++ parts.0.0 ∷ []) ≡ length places + 1 = length-append places (parts.0.0 ∷ []) in
      let number : length (places ++ parts.0.0 ∷ []) + j ≡ length places + suc j = omega (arith, one) in
      subst (λ n. IsBehind options n vertex known.0) number (behind vertices (places ++ parts.0.0 ∷ []) parts.0.1 known parts.1.1 j vertex at)

-- ---- the root

first-place : (before more : List (Option (List ℕ))) (inputs : List ℕ) → AllByRecursion (λ id. id < length before) inputs
    → slice_index_or (places_at before inputs) 0 None ≡ slice_index_or (map (λ id. slice_index_or (before ++ more) id None) inputs) 0 None
first-place before more [] all = refl
first-place before more (id ∷ ids) all = sym (get_or_append_left before more None id all.0)

root-made : (options : Options) (before more : List (Option (List ℕ))) (vertex : Vertex) → vertex.op ≡ MakeDirsOp [] → AllByRecursion (λ id. id < length before) vertex.inputs
    → place_of (vertex_made options before vertex) ≡ slice_index_or (input_places (before ++ more) vertex) 0 None
unfolding vertex_made
root-made options before more vertex root all = ap (λ op. place_of (made_on options (places_at before vertex.inputs) op)) root ∙ first-place before more vertex.inputs all

-- where a vertex makes the root, its place is that of its input
pub root-place : (options : Options) (names : List (Option (List ℕ))) (lines : List (List ℕ)) (vertices : List Vertex) (known : Known) → AreVertices vertices
    → all_placed options names lines [] nothing vertices ≡ Ok known → (k : ℕ) (vertex : Vertex) → slice_get vertices k ≡ Some vertex → vertex.op ≡ MakeDirsOp []
    → slice_index_or known.0 k None ≡ slice_index_or (input_places known.0 vertex) 0 None
unfolding all_told
root-place options names lines vertices known are e k vertex at root =
    let is = behind options names lines vertices [] nothing known e k vertex at in
    let place : Option (List ℕ) = place_of (vertex_made options is.before vertex) in
    let number : k ≡ length is.before + 0 = omega (arith, is.count) in
    let few : length is.before ≡ k = omega (arith, is.count) in
    let below : AllByRecursion (λ id. id < length is.before) vertex.inputs = subst (λ n. AllByRecursion (λ id. id < n) vertex.inputs) (sym few) (recursion_from_All (λ id. id < k) vertex.inputs (are.after k vertex at)) in
    (λ i. slice_index_or (is.whole i) (number i) None) ∙ get_or-append-add is.before (place ∷ is.after) 0 None
    ∙ root-made options is.before (place ∷ is.after) vertex root below ∙ ap (λ ps. slice_index_or (input_places ps vertex) 0 None) (sym is.whole)
