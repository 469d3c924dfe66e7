-- Merges that are spelled out one after another, and lines that are taken of them one after another.
use Rattle.std.proofs.Common.{◌≡◌, ◌≢◌, ◌⊎◌, ◌↔◌, inl, inr, ◌<◌, ◌≤◌, ◌+◌, ℕ, Bool, true, false, List, [], ◌∷◌, ◌++◌, length, Option, Some, None, Result, Ok, Err, refl, sym, ap, ◌∙◌, subst, arith}
use Rattle.std.proofs.Common.{length-append, append-nil}
use Rattle.std.specs.Prelude.{Contains, slice_get, slice_index_or}
use Rattle.std.specs.List.{All}
use Rattle.std.proofs.lemmas.Bool.{cases_eq, cases_lt}
use Rattle.std.proofs.lemmas.Option.{slice_get_within, slice_get-get_or, get_or_from_slice_get}
use Rattle.plain.specs.declared.fault.Fault.{Fault}
use Rattle.plain.specs.declared.fault.Fault.TheVariants.{Because}
use Rattle.llb.specs.declared.fault.Full.{Full}
use Rattle.llb.specs.declared.vertex.Vertex.{Vertex}
use Rattle.llb.specs.Graph.{GraphValue, IsGraph, AreVertices, IsNew, IsFound, IsAppended, Adds}
use Rattle.lowering.specs.Means.{lines_at}
use Rattle.lowering.proofs.Fronts.{slice_get-kept}
use Rattle.lowering.proofs.RowFacts.{slice_get-end}
use Rattle.rewrite.specs.Pruned.{Names, AreNames, IsRenamed}
use Rattle.rewrite.specs.PrivateSpelled.{AreSpelled, HasMerge, HasSpelled, TakesLines, TakesOne, TakesSome, merge_on, spelled_vertex}
use Rattle.rewrite.specs.declared.spelled.Spelled.{Spelled}
use Rattle.rewrite.proofs.JoinFacts.{lines_with, places_long}
use Rattle.rewrite.proofs.ReachFacts.{one_renamed}

-- ---- spelled out

pub spelled_none : (graph : GraphValue) (marks : List Bool) (spelled : List (Option Spelled)) (at : ℕ) → spelled ≡ [] → at ≡ 0 → AreSpelled graph marks at spelled
spelled_none graph marks spelled at none start = rw (none, start) (record { long = refl; each = λ k v lt. absurd (omega (arith, lt)) })

pub spelled_more : (graph : GraphValue) (marks : List Bool) (old new : List (Option Spelled)) (at : ℕ) (v : Vertex) (one : Option Spelled) → AreSpelled graph marks at old
    → slice_get graph.vertices at ≡ Some v → new ≡ old ++ one ∷ [] → one ≡ spelled_vertex graph.vertices v (lines_at graph at) (slice_index_or marks at false)
    → AreSpelled graph marks (at + 1) new
spelled_more graph marks old new at v one so_far there pushed is = record {
  long = ap length pushed ∙ (length-append old (one ∷ []) ∙ ap (λ n. n + 1) so_far.long);
  each = λ k u lt u_there. elim (cases_eq k at) [
    | inl same ↦
        let same_vertex : v ≡ u = (let f : Some v ≡ Some u = sym there ∙ (ap (slice_get graph.vertices) (sym same) ∙ u_there) in cc) in
        let end : slice_get (old ++ one ∷ []) at ≡ Some one = subst (λ n. slice_get (old ++ one ∷ []) n ≡ Some one) so_far.long (slice_get-end old one) in
        ap (λ n. slice_get new n) same ∙ (ap (λ xs. slice_get xs at) pushed ∙ (end ∙ ap Some (is
        ∙ (ap (λ (x : Vertex). spelled_vertex graph.vertices x (lines_at graph at) (slice_index_or marks at false)) same_vertex
        ∙ ap (λ n. spelled_vertex graph.vertices u (lines_at graph n) (slice_index_or marks n false)) (sym same)))))
    | inr ne ↦
        let before = so_far.each k u (omega (arith, lt, ne)) u_there in
        ap (λ xs. slice_get xs k) pushed ∙ slice_get-kept old (one ∷ []) _ k before
  ];
}

-- ---- what stands

-- none of the first vertices is this one
abbrev pub NoneBefore : List Vertex → Vertex → ℕ → Type 0
NoneBefore vertices vertex at = (k : ℕ) → k < at → slice_get vertices k ≢ Some vertex

pub none_next : (vertices : List Vertex) (vertex other : Vertex) (at : ℕ) → NoneBefore vertices vertex at → slice_get vertices at ≡ Some other → (other ≡ vertex → ⊥)
    → NoneBefore vertices vertex (at + 1)
none_next vertices vertex other at none there differs k lt is = elim (cases_eq k at) [
  | inl same ↦ differs (let f : Some other ≡ Some vertex = sym there ∙ (ap (slice_get vertices) (sym same) ∙ is) in cc)
  | inr ne ↦ none k (omega (arith, lt, ne)) is
]

pub stands_at : (vertices : List Vertex) (vertex other : Vertex) (at : ℕ) → slice_get vertices at ≡ Some other → other ≡ vertex → Contains vertices vertex
stands_at vertices vertex other at there same =
    (at, slice_get_within vertices at other there, get_or_from_slice_get vertices at other vertex there ∙ same)

pub stands_not : (vertices : List Vertex) (vertex : Vertex) (at : ℕ) → NoneBefore vertices vertex at → length vertices ≤ at → Contains vertices vertex → ⊥
stands_not vertices vertex at none over among =
    none among.0 (let lt = among.1 in omega (arith, lt, over)) (slice_get-get_or vertices among.0 vertex among.1 ∙ ap Some among.2)

pub stands_there : (vertices : List Vertex) (vertex : Vertex) → Contains vertices vertex → (k : ℕ) × (slice_get vertices k ≡ Some vertex)
stands_there vertices vertex among = (among.0, slice_get-get_or vertices among.0 vertex among.1 ∙ ap Some among.2)

-- ---- the lines of one merge

-- a merge on its new numbers
pub renamed_merge : (names : Names) (inputs news : List ℕ) → AreNames names inputs news → IsRenamed names (merge_on inputs) (merge_on news)
renamed_merge names inputs news are = record { op = refl; inputs = are }

-- nothing stands that is equal to it
pub takes_none : (graph : GraphValue) (names : Names) (one : Spelled) (news : List ℕ) → IsGraph graph → AreNames names one.inputs news
    → (Contains graph.vertices (merge_on news) → ⊥) → TakesOne graph graph names one
takes_none graph names one news is are none = record {
  vertices = refl;
  beside = is.beside;
  lines = λ id line. (
    λ h. inl h,
    λ cases. elim cases [
      | inl before ↦ before
      | inr now ↦
          let same = one_renamed names (merge_on one.inputs) now.0.0 (merge_on news) now.0.2 (renamed_merge names one.inputs news are) in
          absurd (none (stands_at graph.vertices (merge_on news) now.0.0 id now.0.1 same))
    ],
  );
}

found_takes : (old new : GraphValue) (names : Names) (one : Spelled) (news : List ℕ) (at : ℕ) → IsGraph old → AreNames names one.inputs news
    → IsFound old new (merge_on news) one.lines at → TakesOne old new names one
found_takes old new names one news at is are found =
    let vertices : new.vertices ≡ old.vertices = ap (λ g. g.vertices) found.added in
    let places = ap (λ g. g.places) found.added in
    let within = slice_get_within old.vertices at (merge_on news) found.stood in
    record {
      vertices = vertices;
      beside = ap length places ∙ (places_long old.places one.lines at ∙ (is.beside ∙ sym (ap length vertices)));
      lines = λ id line.
          (let both = subst (λ ps. Contains (slice_index_or ps id []) line ↔ (Contains (lines_at old id) line ⊎ ((id ≡ at) × Contains one.lines line))) (sym places)
          (lines_with old.places one.lines at id line (omega (arith, within, is.beside))) in (
            λ h. elim (both.0 h) [
              | inl before ↦ inl before
              | inr now ↦ inr ((merge_on news, ap (slice_get old.vertices) now.0 ∙ found.stood, renamed_merge names one.inputs news are), now.1)
            ],
            λ cases. both.1 (elim cases [
              | inl before ↦ inl before
              | inr now ↦
                  let same = one_renamed names (merge_on one.inputs) now.0.0 (merge_on news) now.0.2 (renamed_merge names one.inputs news are) in
                  inr (is.vertices.once id at (merge_on news) (now.0.1 ∙ ap Some same) found.stood, now.1)
            ]),
          ));
    }

-- its lines were added to one that is equal to it
pub added_takes : (old new : GraphValue) (names : Names) (one : Spelled) (news : List ℕ) (at : ℕ) → IsGraph old → AreNames names one.inputs news
    → Contains old.vertices (merge_on news) → Adds old new (merge_on news) one.lines (Ok at) → TakesOne old new names one
added_takes old new names one news at is are among (inl found) = found_takes old new names one news at is are found
added_takes old new names one news at is are among (inr appended) =
    (let there = stands_there old.vertices (merge_on news) among in absurd (appended.fresh there.0 there.1))

-- the same by what the call answered
pub took : (old new : GraphValue) (names : Names) (one : Spelled) (news lines : List ℕ) (result : Result ℕ (Fault Full)) (at : ℕ) → IsGraph old
    → AreNames names one.inputs news → Contains old.vertices (merge_on news) → Adds old new (merge_on news) lines result → lines ≡ one.lines → result ≡ Ok at
    → TakesOne old new names one
took old new names one news lines result at is are among adds behind ended =
    added_takes old new names one news at is are among
    (subst (Adds old new (merge_on news) one.lines) ended (subst (λ ls. Adds old new (merge_on news) ls result) behind adds))

-- what stands is no new vertex
pub full_never : (old new : GraphValue) (vertex : Vertex) (lines : List ℕ) (result : Result ℕ (Fault Full)) (fault : Fault Full) (full : Full)
    → Adds old new vertex lines result → result ≡ Err fault → fault ≡ Because full → Contains old.vertices vertex → ⊥
full_never old new vertex lines result fault full adds ended because among =
    let no_room : Adds old new vertex lines (Err (Because full)) = subst (Adds old new vertex lines) (ended ∙ ap Err because) adds in
    let there = stands_there old.vertices vertex among in
    no_room.1 there.0 there.1

-- ---- the lines of merges, one after another

pub takes_first : (graph : GraphValue) (names : Names) (spelled : List (Option Spelled)) (at : ℕ) → length graph.places ≡ length graph.vertices → at ≡ 0
    → TakesLines graph graph names spelled at
takes_first graph names spelled at beside start = record {
  vertices = refl;
  beside = beside;
  lines = λ id line. (λ h. inl h, λ cases. elim cases [ inl before ↦ before | inr of ↦ absurd (let low = of.low in omega (arith, low, start)) ]);
}

has_more : (vertices : List Vertex) (names : Names) (spelled : List (Option Spelled)) (at id line : ℕ) → HasSpelled vertices names spelled at id line
    → HasSpelled vertices names spelled (at + 1) id line
has_more vertices names spelled at id line has =
    record { k = has.k; low = (let low = has.low in omega (arith, low)); one = has.one; there = has.there; equal = has.equal; behind = has.behind }

pub takes_next : (first old new : GraphValue) (names : Names) (spelled : List (Option Spelled)) (at : ℕ) (one : Option Spelled) → TakesLines first old names spelled at
    → slice_get spelled at ≡ Some one → TakesSome old new names one → TakesLines first new names spelled (at + 1)
takes_next first old new names spelled at None so_far there same = rw same (record {
  vertices = so_far.vertices;
  beside = so_far.beside;
  lines = λ id line. (
    λ h. elim ((so_far.lines id line).0 h) [ inl before ↦ inl before | inr of ↦ inr (has_more first.vertices names spelled at id line of) ],
    λ cases. (so_far.lines id line).1 (elim cases [
      | inl before ↦ inl before
      | inr of ↦ elim (cases_lt of.k at) [
        | inl low ↦ inr (record { k = of.k; low = low; one = of.one; there = of.there; equal = of.equal; behind = of.behind })
        | inr past ↦
            let here : of.k ≡ at = (let low = of.low in omega (arith, low, past)) in
            absurd (let f : Some None ≡ Some (Some of.one) = sym there ∙ (ap (slice_get spelled) (sym here) ∙ of.there) in cc)
      ]
    ]),
  );
})
takes_next first old new names spelled at (Some one) so_far there takes = record {
  vertices = takes.vertices ∙ so_far.vertices;
  beside = takes.beside;
  lines = λ id line. (
    λ h. elim ((takes.lines id line).0 h) [
      | inl before ↦ elim ((so_far.lines id line).0 before) [ inl at_first ↦ inl at_first | inr of ↦ inr (has_more first.vertices names spelled at id line of) ]
      | inr now ↦
          let equal : HasMerge first.vertices names one.inputs id = subst (λ vs. HasMerge vs names one.inputs id) so_far.vertices now.0 in
          inr (record { k = at; low = omega arith; one = one; there = there; equal = equal; behind = now.1 })
    ],
    λ cases. (takes.lines id line).1 (elim cases [
      | inl before ↦ inl ((so_far.lines id line).1 (inl before))
      | inr of ↦ elim (cases_lt of.k at) [
        | inl low ↦ inl ((so_far.lines id line).1 (inr (record { k = of.k; low = low; one = of.one; there = of.there; equal = of.equal; behind = of.behind })))
        | inr past ↦
            let here : of.k ≡ at = (let low = of.low in omega (arith, low, past)) in
            let same : of.one ≡ one = (let f : Some (Some of.one) ≡ Some (Some one) = sym of.there ∙ (ap (slice_get spelled) here ∙ there) in cc) in
            let equal : HasMerge old.vertices names one.inputs id =
            subst (λ vs. HasMerge vs names one.inputs id) (sym so_far.vertices) (subst (λ (s : Spelled). HasMerge first.vertices names s.inputs id) same of.equal) in
            inr (equal, subst (λ (s : Spelled). Contains s.lines line) same of.behind)
      ]
    ]),
  );
}

-- of all of them
pub takes_done : (first new : GraphValue) (names : Names) (spelled : List (Option Spelled)) (at : ℕ) → length spelled ≤ at → TakesLines first new names spelled at
    → TakesLines first new names spelled (length spelled)
takes_done first new names spelled at over takes = record {
  vertices = takes.vertices;
  beside = takes.beside;
  lines = λ id line. (
    λ h. elim ((takes.lines id line).0 h) [
      | inl before ↦ inl before
      | inr of ↦ inr (record { k = of.k; low = slice_get_within spelled of.k (Some of.one) of.there; one = of.one; there = of.there; equal = of.equal; behind = of.behind })
    ],
    λ cases. (takes.lines id line).1 (elim cases [
      | inl before ↦ inl before
      | inr of ↦ inr (record { k = of.k; low = (let low = of.low in omega (arith, low, over)); one = of.one; there = of.there; equal = of.equal; behind = of.behind })
    ]),
  );
}
