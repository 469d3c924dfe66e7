-- Joining the vertices of a graph makes none one: no two of them are equal, so each that comes is alone under its new number.
use Rattle.std.proofs.Common.{◌≡◌, inl, inr, ◌<◌, ℕ, Bool, List, [], ◌∷◌, length, Some, refl, sym, ap₂, subst, arith}
use Rattle.std.specs.Prelude.{Contains, slice_get}
use Rattle.std.proofs.lemmas.Bool.{cases_lt}
use Rattle.std.proofs.lemmas.List.Elements.{All-contains}
use Rattle.std.proofs.lemmas.Option.{slice_get_within}
use Rattle.llb.specs.Graph.{GraphValue, IsGraph}
use Rattle.llb.specs.Places.{AscendFrom}
use Rattle.llb.proofs.LineFacts.{contains_nil, contains_here, contains_there, contains_cases}
use Rattle.lowering.specs.Means.{lines_at}
use Rattle.rewrite.specs.PrivateJoined.{AreJoinable, AreJoined}
use Rattle.reached.specs.Reached.{AreReached}
use Rattle.rewrite.specs.Pruned.{Names}
use Rattle.rewrite.proofs.FreshFacts.{one_below, once_distinct}
use Rattle.rewrite.proofs.JoinFacts.{lines_at_are}

-- what a target reaches in a graph can make a graph
pub graph_joinable : (graph : GraphValue) (target : ℕ) (marks : List Bool) → IsGraph graph → AreReached graph.vertices target marks → AreJoinable graph marks
graph_joinable graph target marks is reached = record {
  few = is.vertices.few;
  beside = is.beside;
  places = is.places;
  long = reached.long;
  well_formed = λ k v marked there. is.vertices.well_formed k v there;
  inputs = λ k input marked has.
      (All-contains (λ i. i < k) has.v.inputs input (is.vertices.after k has.v has.there) has.among, reached.closed k input marked has);
}

-- ---- lines

-- what ascends is above where it ascends from
above : (low line : ℕ) (lines : List ℕ) → AscendFrom low lines → Contains lines line → low < line
above low line [] ascend among = absurd (contains_nil line among)
above low line (first ∷ lines) ascend among = elim (contains_cases first line lines among) [
  | inl same ↦ omega (arith, ascend.0, same)
  | inr more ↦ (let lt = above first line lines ascend.1.1 more in omega (arith, ascend.0, lt))
]

-- lines that are among each other are the same
same_lines : (low : ℕ) (xs ys : List ℕ) → AscendFrom low xs → AscendFrom low ys → ((line : ℕ) → Contains xs line → Contains ys line)
    → ((line : ℕ) → Contains ys line → Contains xs line) → xs ≡ ys
same_lines low [] [] a b on back = refl
same_lines low [] (y ∷ ys) a b on back = absurd (contains_nil y (back y (contains_here y ys)))
same_lines low (x ∷ xs) [] a b on back = absurd (contains_nil x (on x (contains_here x xs)))
same_lines low (x ∷ xs) (y ∷ ys) a b on back =
    let first : x ≡ y = elim (contains_cases y x ys (on x (contains_here x xs))) [
      | inl same ↦ same
      | inr x_later ↦ elim (contains_cases x y xs (back y (contains_here y ys))) [
        | inl same ↦ sym same
        | inr y_later ↦
            let y_x = above y x ys b.1.1 x_later in
            let x_y = above x y xs a.1.1 y_later in
            absurd (omega (arith, y_x, x_y))
      ]
    ] in
    let rest_ascends : AscendFrom x ys = subst (λ n. AscendFrom n ys) (sym first) b.1.1 in
    let rest : xs ≡ ys = same_lines x xs ys a.1.1 rest_ascends
    (λ line h. elim (contains_cases y line ys (on line (contains_there x line xs h))) [
      | inl same ↦ absurd (let lt = above x line xs a.1.1 h in omega (arith, lt, same, first))
      | inr more ↦ more
    ])
    (λ line h. elim (contains_cases x line xs (back line (contains_there y line ys h))) [
      | inl same ↦ absurd (let lt = above x line ys rest_ascends h in omega (arith, lt, same))
      | inr more ↦ more
    ]) in
    ap₂ (λ (n : ℕ) (ns : List ℕ). n ∷ ns) first rest

-- ---- numbers

module _ (old new : GraphValue) (marks : List Bool) (names : Names) (is : IsGraph old) (joined : AreJoined old marks (length old.vertices) new names) where
  -- two vertices don't have one new number
  pub one_old : (j k a : ℕ) → slice_get names j ≡ Some (Some a) → slice_get names k ≡ Some (Some a) → j ≡ k
  one_old j k a e f =
      let low = slice_get_within names j (Some a) e in
      let less = slice_get_within names k (Some a) f in
      one_below old new marks names (length old.vertices) (omega arith) (λ n v marked there. is.vertices.after n v there)
      (once_distinct old marks is) joined (length names) j k a low less e f

  -- they come in their order
  pub in_order : (j k a b : ℕ) → slice_get names j ≡ Some (Some a) → slice_get names k ≡ Some (Some b) → j < k → a < b
  in_order j k a b e f lt = elim (cases_lt a b) [
    | inl less ↦ less
    | inr ge ↦ elim (cases_lt b a) [
      | inl more ↦
          let i = joined.ordered j b a e more in
          let same : i.0 ≡ k = one_old i.0 k b i.2 f in
          absurd (omega (arith, same, i.1, lt))
      | inr le ↦
          let number : a ≡ b = omega (arith, ge, le) in
          let same : j ≡ k = one_old j k b (subst (λ n. slice_get names j ≡ Some (Some n)) number e) f in
          absurd (omega (arith, same, lt))
    ]
  ]

  -- each with its own lines
  pub own_lines : (k id : ℕ) → IsGraph new → slice_get names k ≡ Some (Some id) → lines_at new id ≡ lines_at old k
  own_lines k id news name =
      same_lines 0 (lines_at new id) (lines_at old k) (lines_at_are new id news.places) (lines_at_are old k is.places)
      (λ line h.
      (let from = joined.only id line (joined.inside k id name) h in
      subst (λ n. Contains (lines_at old n) line) (one_old from.0 k id from.1 name) from.2))
      (λ line h. joined.lines k id line name h)
