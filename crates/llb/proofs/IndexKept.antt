-- What entering a hash keeps of an index, and where its ways lead.
use Rattle.std.specs.Prelude.{◌≡◌, ◌≢◌, ◌<◌, ◌≤◌, ◌+◌, ◌-◌, ◌%◌, ℕ, zero, suc, Some, Result, Ok, Err, OnOk, OnErr, List, [], ◌∷◌, ◌++◌, length, get_or, slice_get, slice_set, replicate}
use Rattle.std.proofs.Common.{ap, sym, ◌∙◌, subst, inl, inr, refl, arith, length-append, length-set}
use Rattle.std.proofs.lemmas.Bool.{cases_eq, cases_lt}
use Rattle.std.proofs.lemmas.List.{get_or_append_left, get_or-append-add, get_or-set_same, get_or-set_other}
use Rattle.std.proofs.lemmas.Option.{slice_get_within}
use Rattle.std.proofs.lemmas.Nat.{mod_below}
use Rattle.llb.specs.declared.index.Index.{Index}
use Rattle.llb.specs.declared.vertex.Vertex.{Vertex}
use Rattle.llb.specs.Hash.{hash_of}
use Rattle.llb.specs.Graph.{IsNew}
use Rattle.llb.specs.Index.{IsIndexed}
use Rattle.llb.specs.PrivateIndex.{places, place_of, IsEnd, IsIndex}

-- nothing is entered
pub no_end : (index : Index) (place : ℕ) → length index.hashes.items ≡ 0 → IsEnd index place (length index.hashes.items) 0
no_end index place none = record {
  low = omega arith;
  here = λ lt. absurd (omega (arith, lt));
  none = λ k lt le. absurd (omega (arith, lt, none));
}

abbrev zeros : ℕ → List ℕ
zeros n = replicate n 0

-- at each number stands 0
zeros_at : (n k : ℕ) → get_or (zeros n) k 0 ≡ 0
zeros_at zero k = refl
zeros_at (suc n) zero = refl
zeros_at (suc n) (suc k) = zeros_at n k

-- places, and no hash yet
pub open_index : (index : Index) (wide : ℕ) → length index.hashes.items ≡ 0 → length index.befores.items ≡ 0 → index.ends.items ≡ zeros wide → IsIndex index
open_index index wide none beside all = record {
  beside = omega (arith, none, beside);
  closed = λ e. none;
  ends = λ place lt. subst (IsEnd index place (length index.hashes.items)) (sym (ap (λ es. get_or es place 0) all ∙ zeros_at wide place)) (no_end index place none);
  befores = λ k lt. absurd (omega (arith, lt, none));
}

-- a hash is entered
module _ (old new : Index) (hash : ℕ) (is : IsIndex old) (some : 0 < places old)
    (hashes : new.hashes.items ≡ old.hashes.items ++ hash ∷ [])
    (befores : new.befores.items ≡ old.befores.items ++ get_or old.ends.items (place_of old hash) 0 ∷ [])
    (ends : new.ends.items ≡ slice_set old.ends.items (place_of old hash) (length old.hashes.items + 1)) where
  wide : places new ≡ places old
  wide = ap length ends ∙ length-set old.ends.items (place_of old hash) (length old.hashes.items + 1)

  long : length new.hashes.items ≡ length old.hashes.items + 1
  long = ap length hashes ∙ length-append old.hashes.items (hash ∷ [])

  place_same : (h : ℕ) → place_of new h ≡ place_of old h
  place_same h = ap (λ n. h % n) wide

  hash_before : (k : ℕ) → k < length old.hashes.items → get_or new.hashes.items k 0 ≡ get_or old.hashes.items k 0
  hash_before k lt = ap (λ hs. get_or hs k 0) hashes ∙ get_or_append_left old.hashes.items (hash ∷ []) 0 k lt

  hash_last : (k : ℕ) → k ≡ length old.hashes.items → get_or new.hashes.items k 0 ≡ hash
  hash_last k last =
      ap (λ hs. get_or hs k 0) hashes
      ∙ subst (λ n. get_or (old.hashes.items ++ hash ∷ []) n 0 ≡ hash) (omega (arith, last)) (get_or-append-add old.hashes.items (hash ∷ []) 0 0)

  place_before : (k : ℕ) → k < length old.hashes.items → place_of new (get_or new.hashes.items k 0) ≡ place_of old (get_or old.hashes.items k 0)
  place_before k lt = place_same (get_or new.hashes.items k 0) ∙ ap (place_of old) (hash_before k lt)

  place_last : (k : ℕ) → k ≡ length old.hashes.items → place_of new (get_or new.hashes.items k 0) ≡ place_of old hash
  place_last k last = place_same (get_or new.hashes.items k 0) ∙ ap (place_of old) (hash_last k last)

  end_stays : (place from end : ℕ) → from ≤ length old.hashes.items → IsEnd old place from end → IsEnd new place from end
  end_stays place from end within it = record {
    low = it.low;
    here = λ lt. place_before (end - 1) (let low = it.low in omega (arith, lt, low, within)) ∙ it.here lt;
    none = λ k lt le e. it.none k lt le (sym (place_before k (omega (arith, lt, within))) ∙ e);
  }

  -- the place of the hash ends with its number
  end_here : IsEnd new (place_of old hash) (length new.hashes.items) (length old.hashes.items + 1)
  end_here = record {
    low = omega (arith, long);
    here = λ lt. place_last (length old.hashes.items + 1 - 1) (omega arith);
    none = λ k lt le. absurd (omega (arith, lt, le, long));
  }

  -- any other one ends where it did
  end_there : (place end : ℕ) → place ≢ place_of old hash → IsEnd old place (length old.hashes.items) end → IsEnd new place (length new.hashes.items) end
  end_there place end ne it =
      let same = end_stays place (length old.hashes.items) end (omega arith) it in
      record {
        low = (let low = it.low in omega (arith, low, long));
        here = same.here;
        none = λ k lt le e. elim (cases_lt k (length old.hashes.items)) [
          | inl before ↦ same.none k before le e
          | inr past ↦ ne (sym e ∙ place_last k (omega (arith, lt, past, long)))
        ];
      }

  ends_enter : (place : ℕ) → place < places new → IsEnd new place (length new.hashes.items) (get_or new.ends.items place 0)
  ends_enter place lt = elim (cases_eq place (place_of old hash)) [
    | inl same ↦
        let at : get_or new.ends.items place 0 ≡ length old.hashes.items + 1 =
        ap (λ es. get_or es place 0) ends
        ∙ (ap (λ n. get_or (slice_set old.ends.items (place_of old hash) (length old.hashes.items + 1)) n 0) same
        ∙ get_or-set_same old.ends.items (place_of old hash) (length old.hashes.items + 1) 0 (mod_below hash (places old) some)) in
        subst (IsEnd new place (length new.hashes.items)) (sym at)
        (subst (λ n. IsEnd new n (length new.hashes.items) (length old.hashes.items + 1)) (sym same) end_here)
    | inr ne ↦
        let at : get_or new.ends.items place 0 ≡ get_or old.ends.items place 0 =
        ap (λ es. get_or es place 0) ends ∙ get_or-set_other old.ends.items (place_of old hash) place (length old.hashes.items + 1) 0 ne in
        subst (IsEnd new place (length new.hashes.items)) (sym at)
        (end_there place (get_or old.ends.items place 0) ne (is.ends place (omega (arith, lt, wide))))
  ]

  befores_enter : (k : ℕ) → k < length new.hashes.items → IsEnd new (place_of new (get_or new.hashes.items k 0)) k (get_or new.befores.items k 0)
  befores_enter k lt = elim (cases_lt k (length old.hashes.items)) [
    | inl before ↦
        let at : get_or new.befores.items k 0 ≡ get_or old.befores.items k 0 =
        ap (λ bs. get_or bs k 0) befores
        ∙ get_or_append_left old.befores.items (get_or old.ends.items (place_of old hash) 0 ∷ []) 0 k (let b = is.beside in omega (arith, before, b)) in
        subst (IsEnd new (place_of new (get_or new.hashes.items k 0)) k) (sym at)
        (subst (λ p. IsEnd new p k (get_or old.befores.items k 0)) (sym (place_before k before))
        (end_stays (place_of old (get_or old.hashes.items k 0)) k (get_or old.befores.items k 0) (omega (arith, before)) (is.befores k before)))
    | inr past ↦
        let last : k ≡ length old.hashes.items = omega (arith, lt, past, long) in
        let end : ℕ = get_or old.ends.items (place_of old hash) 0 in
        let at : get_or new.befores.items k 0 ≡ end =
        ap (λ bs. get_or bs k 0) befores
        ∙ subst (λ n. get_or (old.befores.items ++ end ∷ []) n 0 ≡ end) (let b = is.beside in omega (arith, last, b))
        (get_or-append-add old.befores.items (end ∷ []) 0 0) in
        subst (IsEnd new (place_of new (get_or new.hashes.items k 0)) k) (sym at)
        (subst (λ p. IsEnd new p k end) (sym (place_last k last))
        (subst (λ n. IsEnd new (place_of old hash) n end) (sym last)
        (end_stays (place_of old hash) (length old.hashes.items) end (omega arith) (is.ends (place_of old hash) (mod_below hash (places old) some)))))
  ]

  pub entered_index : IsIndex new
  entered_index = record {
    beside =
        (let b = is.beside in
        let l = ap length befores ∙ length-append old.befores.items (get_or old.ends.items (place_of old hash) 0 ∷ []) in
        omega (arith, b, l, long));
    closed = λ e. absurd (omega (arith, e, wide, some));
    ends = ends_enter;
    befores = befores_enter;
  }

-- ---- the vertices of what is entered

-- the same is entered
pub same_indexed : (vs : List Vertex) (old new : Index) → new.hashes.items ≡ old.hashes.items → IsIndexed vs old → IsIndexed vs new
same_indexed vs old new same indexed = record {
  entered = λ k lt.
      (let e = indexed.entered k (subst (λ (hs : List ℕ). k < length hs) same lt) in
      (e.0, e.1, ap (λ (hs : List ℕ). get_or hs k 0) same ∙ e.2));
}

-- the hash of the next vertex is entered
pub more_indexed : (vs : List Vertex) (old new : Index) (v : Vertex) (hash : ℕ) → new.hashes.items ≡ old.hashes.items ++ hash ∷ [] → IsIndexed vs old
    → slice_get vs (length old.hashes.items) ≡ Some v → hash ≡ hash_of v → IsIndexed vs new
more_indexed vs old new v hash hashes indexed there of = record {
  entered = λ k lt. elim (cases_lt k (length old.hashes.items)) [
    | inl before ↦
        let e = indexed.entered k before in
        (e.0, e.1, ap (λ (hs : List ℕ). get_or hs k 0) hashes ∙ (get_or_append_left old.hashes.items (hash ∷ []) 0 k before ∙ e.2))
    | inr past ↦
        let long : length new.hashes.items ≡ length old.hashes.items + 1 = ap length hashes ∙ length-append old.hashes.items (hash ∷ []) in
        let last : k ≡ length old.hashes.items = omega (arith, lt, past, long) in
        let here : get_or (old.hashes.items ++ hash ∷ []) k 0 ≡ hash =
        subst (λ n. get_or (old.hashes.items ++ hash ∷ []) n 0 ≡ hash) (omega (arith, last)) (get_or-append-add old.hashes.items (hash ∷ []) 0 0) in
        (v, ap (slice_get vs) last ∙ there, ap (λ (hs : List ℕ). get_or hs k 0) hashes ∙ (here ∙ of))
  ];
}

-- it is entered, or nothing is
pub entered_either : {A E : Type 0} (vs : List Vertex) (old new : Index) (v : Vertex) (hash : ℕ) (result : Result A E)
    → OnOk result (new.hashes.items ≡ old.hashes.items ++ hash ∷ []) → OnErr result (new.hashes.items ≡ old.hashes.items) → IsIndexed vs old
    → slice_get vs (length old.hashes.items) ≡ Some v → hash ≡ hash_of v → IsIndexed vs new
entered_either vs old new v hash (Ok x) ok err indexed there of = more_indexed vs old new v hash ok indexed there of
entered_either vs old new v hash (Err e) ok err indexed there of = same_indexed vs old new err indexed

first_ones : (vs more : List Vertex) (k : ℕ) (v : Vertex) → slice_get vs k ≡ Some v → slice_get (vs ++ more) k ≡ Some v
first_ones [] more k v e = absurd cc
first_ones (u ∷ vs) more zero v e = e
first_ones (u ∷ vs) more (suc k) v e = first_ones vs more k v e

-- the last one stands behind the others
pub last_there : (vs : List Vertex) (v : Vertex) → slice_get (vs ++ v ∷ []) (length vs) ≡ Some v
last_there [] v = refl
last_there (u ∷ vs) v = last_there vs v

-- vertices came that aren't entered
pub longer_indexed : (vs more : List Vertex) (index : Index) → IsIndexed vs index → IsIndexed (vs ++ more) index
longer_indexed vs more index indexed = record {
  entered = λ k lt. (let e = indexed.entered k lt in (e.0, first_ones vs more k e.0 e.1, e.2));
}

-- no more is entered than there is
pub indexed_within : (vs : List Vertex) (index : Index) → IsIndexed vs index → length index.hashes.items ≤ length vs
indexed_within vs index indexed = elim (cases_lt (length vs) (length index.hashes.items)) [
  | inl more ↦ (let e = indexed.entered (length vs) more in let lt = slice_get_within vs (length vs) e.0 e.1 in absurd (omega (arith, lt)))
  | inr le ↦ le
]

-- ---- looking for a vertex

-- what is left to be compared: those before the end; none of the others is the vertex
pub record IsSought (index : Index) (vertices : List Vertex) (hash : ℕ) (vertex : Vertex) (end : ℕ) : Type 0 where
  pub low : end ≤ length vertices
  pub here : 0 < end → place_of index (get_or index.hashes.items (end - 1) 0) ≡ place_of index hash
  pub none : (k : ℕ) → end ≤ k → slice_get vertices k ≢ Some vertex

module _ (index : Index) (vertices : List Vertex) (hash : ℕ) (vertex : Vertex) (of : hash ≡ hash_of vertex) (is : IsIndex index)
    (indexed : IsIndexed vertices index) (all : length index.hashes.items ≡ length vertices) where
  -- where the vertex stands is its hash
  pub hash_where : (k : ℕ) → slice_get vertices k ≡ Some vertex → get_or index.hashes.items k 0 ≡ hash
  hash_where k at =
      let within = slice_get_within vertices k vertex at in
      let e = indexed.entered k (omega (arith, within, all)) in
      let same : e.0 ≡ vertex = (let f : Some e.0 ≡ Some vertex = sym e.1 ∙ at in cc) in
      e.2 ∙ (ap hash_of same ∙ sym of)

  pub sought_first : (end : ℕ) → IsEnd index (place_of index hash) (length index.hashes.items) end → IsSought index vertices hash vertex end
  sought_first end it = record {
    low = (let low = it.low in omega (arith, low, all));
    here = it.here;
    none = λ k le at. (let within = slice_get_within vertices k vertex at in it.none k (omega (arith, within, all)) le (ap (place_of index) (hash_where k at)));
  }

  -- the one before the end isn't the vertex
  pub sought_next : (end at next : ℕ) → IsSought index vertices hash vertex end → 0 < end → at ≡ end - 1 → next ≡ get_or index.befores.items at 0
      → slice_get vertices at ≢ Some vertex → (next < end) × IsSought index vertices hash vertex next
  sought_next end at next so_far some is_at is_next other =
      let low = so_far.low in
      let it = is.befores at (omega (arith, some, is_at, low, all)) in
      let lower : next ≤ at = subst (λ n. n ≤ at) (sym is_next) it.low in
      let place : place_of index (get_or index.hashes.items at 0) ≡ place_of index hash =
      ap (λ n. place_of index (get_or index.hashes.items n 0)) is_at ∙ so_far.here some in
      let next_it : IsEnd index (place_of index hash) at next =
      subst (λ p. IsEnd index p at next) place (subst (IsEnd index (place_of index (get_or index.hashes.items at 0)) at) (sym is_next) it) in (
        omega (arith, lower, is_at, some),
        record {
          low = omega (arith, lower, is_at, low);
          here = next_it.here;
          none = λ k le there. elim (cases_lt k at) [
            | inl before ↦ next_it.none k before le (ap (place_of index) (hash_where k there))
            | inr past ↦ elim (cases_eq k at) [
              | inl same ↦ other (ap (slice_get vertices) (sym same) ∙ there)
              | inr ne ↦ so_far.none k (omega (arith, past, ne, is_at, some)) there
            ]
          ];
        },
      )

  pub sought_all : (end : ℕ) → IsSought index vertices hash vertex end → end ≡ 0 → IsNew vertices vertex
  sought_all end so_far over k = so_far.none k (omega (arith, over))
