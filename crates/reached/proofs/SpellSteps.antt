-- From merge to merge, with what is found pushed from the last to the first.
use Rattle.std.proofs.Common.{◌≡◌, ◌<◌, ◌≤◌, ◌++◌, ◌∷◌, ◌-◌, ℕ, zero, suc, List, [], true, false, drop, take, length, Some, refl, sym, ap, ◌∙◌, subst, arith, append_assoc}
use Rattle.std.specs.Prelude.{reverse, slice_get, slice_index_or}
use Rattle.std.proofs.lemmas.List.{reverse-append, reverse-reverse}
use Rattle.std.proofs.lemmas.Option.{slice_get-get_or}
use Rattle.llb.specs.declared.op.Op.TheVariants.{Merge as MergeOp}
use Rattle.llb.specs.declared.vertex.Vertex.{Vertex}
use Rattle.llb.specs.Graph.{AreVertices}
use Rattle.reached.specs.Spelled.{with_first, spelled_out}
use Rattle.reached.specs.Spelled.{is_merge}
use Rattle.reached.proofs.SpellingFacts.{merge_is, merge_has_two, spelled_merge, spelled_itself}

some_same : (v u : Vertex) → Some v ≡ Some u → v ≡ u
some_same v u e = cc

pub here_is : (vs : List Vertex) (at i : ℕ) (d : Vertex) → at < length vs → i ≡ at → slice_get vs at ≡ Some (slice_index_or vs i d)
here_is vs at i d lt same = subst (λ n. slice_get vs at ≡ Some (slice_index_or vs n d)) (sym same) (slice_get-get_or vs at d lt)

-- a vertex that was read twice
record IsMergeAt (vs : List Vertex) (at : ℕ) (v : Vertex) : Type 0 where
  there : slice_get vs at ≡ Some v
  op : v.op ≡ MergeOp

merge_at : (vs : List Vertex) (at i j : ℕ) (d e : Vertex) → at < length vs → i ≡ at → j ≡ at → is_merge (slice_index_or vs i d).op ≡ true
    → IsMergeAt vs at (slice_index_or vs j e)
merge_at vs at i j d e lt i_is j_is merge =
    let first = here_is vs at i d lt i_is in
    let second = here_is vs at j e lt j_is in
    let same : slice_index_or vs i d ≡ slice_index_or vs j e = some_same (slice_index_or vs i d) (slice_index_or vs j e) (sym first ∙ second) in
    record { there = second; op = merge_is (slice_index_or vs j e).op (subst (λ (v : Vertex). is_merge v.op ≡ true) same merge) }

-- a merge has an input
pub spell_none : (vs : List Vertex) → AreVertices vs → (at i j : ℕ) (d e : Vertex) (ins : List ℕ) → at < length vs → i ≡ at → j ≡ at
    → is_merge (slice_index_or vs i d).op ≡ true → ins ≡ (slice_index_or vs j e).inputs → length ins < 1 → ⊥
spell_none vs are at i j d e ins lt i_is j_is merge same short =
    let is = merge_at vs at i j d e lt i_is j_is merge in
    let two = merge_has_two vs are (slice_index_or vs j e) at is.there is.op in
    let long = ap length same in
    omega (arith, two, long, short)

-- its first input stands before it
pub spell_low : (vs : List Vertex) → AreVertices vs → (at i j : ℕ) (d e : Vertex) (ins : List ℕ) (below : ℕ) → at < length vs → i ≡ at → j ≡ at
    → is_merge (slice_index_or vs i d).op ≡ true → ins ≡ (slice_index_or vs j e).inputs → 1 ≤ length ins → below ≡ slice_index_or ins 0 below → below < at
spell_low vs are at i j d e ins below lt i_is j_is merge same long is_first =
    let is = merge_at vs at i j d e lt i_is j_is merge in
    let v : Vertex = slice_index_or vs j e in
    let has : 0 < length v.inputs = (let l = ap length same in omega (arith, l, long)) in
    let less = are.after at v is.there 0 below has in
    subst (λ n. n < at) (sym (is_first ∙ ap (λ xs. slice_index_or xs 0 below) same)) less

take_all : (n : ℕ) (xs : List ℕ) → n ≡ length xs → take n xs ≡ xs
take_all zero [] long = refl
take_all zero (x ∷ xs) long = absurd (omega (arith, long))
take_all (suc n) [] long = refl
take_all (suc n) (x ∷ xs) long = ap (λ ys. x ∷ ys) (take_all n xs (omega (arith, long)))

over_inputs : (f : ℕ → List ℕ) (ins flat : List ℕ) (below : ℕ) → 1 ≤ length ins → below ≡ slice_index_or ins 0 below
    → with_first f ins ++ reverse flat ≡ f below ++ reverse (flat ++ reverse (take (length ins - 1) (drop 1 ins)))
over_inputs f [] flat below long is_first = absurd (omega (arith, long))
over_inputs f (first ∷ rest) flat below long is_first =
    let all : take (length (first ∷ rest) - 1) rest ≡ rest = take_all (length (first ∷ rest) - 1) rest (omega arith) in
    let back : reverse (flat ++ reverse rest) ≡ rest ++ reverse flat =
    reverse-append flat (reverse rest) ∙ ap (λ xs. xs ++ reverse flat) (reverse-reverse rest) in
    append_assoc (f first) rest (reverse flat)
    ∙ (ap (λ xs. f first ++ xs) (sym back)
    ∙ (ap (λ n. f n ++ reverse (flat ++ reverse rest)) (sym is_first)
    ∙ ap (λ xs. f below ++ reverse (flat ++ reverse xs)) (sym all)))

-- with its other inputs pushed, what is left to spell out is its first input
pub spell_over : (vs : List Vertex) → AreVertices vs → (at i j : ℕ) (d e : Vertex) (ins front flat more : List ℕ) (below : ℕ) → at < length vs → i ≡ at → j ≡ at
    → is_merge (slice_index_or vs i d).op ≡ true → ins ≡ (slice_index_or vs j e).inputs → 1 ≤ length ins → below ≡ slice_index_or ins 0 below
    → front ≡ spelled_out vs at ++ reverse flat → more ≡ flat ++ reverse (take (length ins - 1) (drop 1 ins)) → front ≡ spelled_out vs below ++ reverse more
spell_over vs are at i j d e ins front flat more below lt i_is j_is merge same long is_first so_far pushed =
    let is = merge_at vs at i j d e lt i_is j_is merge in
    let v : Vertex = slice_index_or vs j e in
    so_far
    ∙ (ap (λ xs. xs ++ reverse flat) (spelled_merge vs are at v is.there is.op ∙ ap (with_first (spelled_out vs)) (sym same))
    ∙ (over_inputs (spelled_out vs) ins flat below long is_first
    ∙ ap (λ xs. spelled_out vs below ++ reverse xs) (sym pushed)))

-- a vertex that is no merge stands for itself
pub spell_end : (vs : List Vertex) → AreVertices vs → (at i : ℕ) (d : Vertex) (front flat pushed reversed result : List ℕ) → at < length vs → i ≡ at
    → is_merge (slice_index_or vs i d).op ≡ false → front ≡ spelled_out vs at ++ reverse flat → pushed ≡ flat ++ at ∷ [] → reversed ≡ reverse pushed
    → result ≡ reversed → result ≡ front
spell_end vs are at i d front flat pushed reversed result lt i_is other so_far is_pushed is_reversed is =
    let there = here_is vs at i d lt i_is in
    let itself = spelled_itself vs are at (slice_index_or vs i d) there other in
    is
    ∙ (is_reversed
    ∙ (ap reverse is_pushed
    ∙ (reverse-append flat (at ∷ [])
    ∙ (ap (λ xs. xs ++ reverse flat) (sym itself)
    ∙ sym so_far))))
