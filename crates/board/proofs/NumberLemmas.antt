-- A set of numbers in its tree of nodes: what a walk up sees, and what the leaves say.
use Rattle.std.proofs.Common.{◌≡◌, ℕ, ◌+◌, ◌-◌, ◌*◌, ◌/◌, ◌%◌, ◌<◌, ◌≤◌, zero, suc, ◌∷◌, Bool, false, inl, inr, List, length, map, drop, replicate, refl, sym, ap, ◌∙◌, subst, arith}
use Rattle.std.specs.Prelude.{nat_lt, slice_index, slice_set}
use Rattle.std.proofs.lemmas.Bool.{cases_lt, cases_eq, lt-ltb, le-ltb}
use Rattle.std.proofs.lemmas.List.{length-drop, length-map, length-replicate, drop-replicate, drop-set-add, map-set, get_or-map, get_or-drop, get_or_past}
use Rattle.board.specs.PrivateNumbers.{has, IsFirst, HasNone, IsLesser, members_in, IsHeap, IsNumberTree, IsLeafOrBound, IsFirstLeaf, IsSeen}

pub seen-all : (nodes : List ℕ) (leaf : ℕ) → length nodes ≡ 2 * (length nodes / 2) → length nodes / 2 ≤ leaf → IsSeen nodes leaf leaf (length nodes) (length nodes / 2)
seen-all nodes leaf even lower = record {
  above = λ l. omega (arith, l, even, lower);
  within = omega arith;
  most = omega arith;
  least = λ at from l. inr (at, from, l, omega arith);
  there = inl refl;
  nodes_there = λ i from l. inr (i, from, l, refl);
}

lesser_there : (nodes : List ℕ) (leaf left right lesser : ℕ) → IsLesser left right lesser → IsLeafOrBound nodes leaf left → IsLeafOrBound nodes leaf right → IsLeafOrBound nodes leaf lesser
lesser_there nodes leaf left right lesser is l r = elim is.one [
  | inl e ↦ subst (IsLeafOrBound nodes leaf) (sym e) l
  | inr e ↦ subst (IsLeafOrBound nodes leaf) (sym e) r
]

-- the node at low was looked at
pub seen-low : (nodes : List ℕ) (leaf low high first next : ℕ) → IsSeen nodes leaf low high first → low < high → IsLesser first (slice_index nodes low) next → IsSeen nodes leaf (low + 1) high next
seen-low nodes leaf low high first next seen l lesser = record {
  above = λ m. omega arith;
  within = seen.within;
  most = omega (arith, lesser.below_left, seen.most);
  least = λ at from within. elim (seen.least at from within) [
    | inl below ↦ inl (omega (arith, below, lesser.below_left))
    | inr found ↦ elim (cases_eq found.0 low) [
      | inl e ↦ inl (let same : slice_index nodes found.0 ≡ slice_index nodes low = ap (slice_index nodes) e in omega (arith, same, found.3, lesser.below_right))
      | inr ne ↦ inr (found.0, omega (arith, ne, found.1), found.2, found.3)
    ]
  ];
  there = lesser_there nodes leaf first (slice_index nodes low) next lesser seen.there (seen.nodes_there low (omega arith) l);
  nodes_there = λ i from m. seen.nodes_there i (omega (arith, from)) m;
}

-- the last node before high was looked at
pub seen-high : (nodes : List ℕ) (leaf low high first next : ℕ) → IsSeen nodes leaf low high first → low < high → IsLesser first (slice_index nodes (high - 1)) next → IsSeen nodes leaf low (high - 1) next
seen-high nodes leaf low high first next seen l lesser = record {
  above = λ m. seen.above l;
  within = omega (arith, seen.within);
  most = omega (arith, lesser.below_left, seen.most);
  least = λ at from within. elim (seen.least at from within) [
    | inl below ↦ inl (omega (arith, below, lesser.below_left))
    | inr found ↦ elim (cases_eq found.0 (high - 1)) [
      | inl e ↦ inl (let same : slice_index nodes found.0 ≡ slice_index nodes (high - 1) = ap (slice_index nodes) e in omega (arith, same, found.3, lesser.below_right))
      | inr ne ↦ inr (found.0, found.1, omega (arith, ne, found.2), found.3)
    ]
  ];
  there = lesser_there nodes leaf first (slice_index nodes (high - 1)) next lesser seen.there (seen.nodes_there (high - 1) (omega (arith, l)) (omega (arith, l)));
  nodes_there = λ i from m. seen.nodes_there i from (omega (arith, m));
}

-- a node is no greater than the one that it is above
above_below : (nodes : List ℕ) (i : ℕ) → IsHeap nodes → 1 < i → i / 2 < length nodes / 2 → slice_index nodes (i / 2) ≤ slice_index nodes i
above_below nodes i heap many within =
    let is = heap (i / 2) (omega (arith, many)) within in
    elim (cases_eq (i % 2) 0) [
      | inl e ↦ (let same : slice_index nodes (2 * (i / 2)) ≡ slice_index nodes i = ap (slice_index nodes) (omega (arith, e)) in omega (arith, is.below_left, same))
      | inr ne ↦ (let same : slice_index nodes (2 * (i / 2) + 1) ≡ slice_index nodes i = ap (slice_index nodes) (omega (arith, ne)) in omega (arith, is.below_right, same))
    ]

-- one level up
pub seen-up : (nodes : List ℕ) (leaf low high first : ℕ) → IsHeap nodes → IsSeen nodes leaf low high first → low % 2 ≡ 0 → high % 2 ≡ 0 → IsSeen nodes leaf (low / 2) (high / 2) first
seen-up nodes leaf low high first heap seen low_even high_even = record {
  above = λ m. (let some : 0 < low = seen.above (omega (arith, m)) in omega (arith, some, low_even));
  within = omega (arith, seen.within);
  most = seen.most;
  least = λ at from within. elim (seen.least at from within) [
    | inl below ↦ inl below
    | inr found ↦
        let some : 0 < low = seen.above (omega (arith, found.1, found.2)) in
        let under = above_below nodes found.0 heap (omega (arith, some, low_even, found.1)) (omega (arith, found.2, high_even, seen.within)) in
        inr (found.0 / 2, omega (arith, found.1), omega (arith, found.2, high_even), omega (arith, under, found.3))
  ];
  there = seen.there;
  nodes_there = λ i from m.
      let some : 0 < low = seen.above (omega (arith, from, m)) in
      let is = heap i (omega (arith, some, low_even, from)) (omega (arith, m, seen.within)) in
      lesser_there nodes leaf (slice_index nodes (2 * i)) (slice_index nodes (2 * i + 1)) (slice_index nodes i) is (seen.nodes_there (2 * i) (omega (arith, from, low_even)) (omega (arith, m, high_even))) (seen.nodes_there (2 * i + 1) (omega (arith, from, low_even)) (omega (arith, m, high_even)));
}

-- where nothing is left to look at, the first is found
pub seen-first : (nodes : List ℕ) (leaf low high first : ℕ) → IsSeen nodes leaf low high first → high ≤ low → IsFirstLeaf nodes leaf first
seen-first nodes leaf low high first seen past = record {
  most = seen.most;
  least = λ at from within. elim (seen.least at from within) [
    | inl below ↦ below
    | inr found ↦ absurd (omega (arith, found.1, found.2, past))
  ];
  there = seen.there;
}

-- a number is in the set where its leaf is below the bound
pub has-leaf : (nodes : List ℕ) (number : ℕ) → length nodes ≡ 2 * (length nodes / 2) → number < length nodes / 2 → has (members_in nodes) number ≡ nat_lt (slice_index nodes (length nodes / 2 + number)) (length nodes / 2)
has-leaf nodes number even l =
    let long : number < length (drop (length nodes / 2) nodes) = omega (arith, length-drop (length nodes / 2) nodes) in
    get_or-map (λ leaf. nat_lt leaf (length nodes / 2)) (drop (length nodes / 2) nodes) number 0 false long ∙ ap (λ leaf. nat_lt leaf (length nodes / 2)) (get_or-drop (length nodes / 2) nodes number 0)

pub members-long : (nodes : List ℕ) → length nodes ≡ 2 * (length nodes / 2) → length (members_in nodes) ≡ length nodes / 2
members-long nodes even =
    length-map (drop (length nodes / 2) nodes) (λ leaf. nat_lt leaf (length nodes / 2)) ∙ (length-drop (length nodes / 2) nodes ∙ omega (arith, even))

-- what a write of a leaf leaves
pub members-set : (nodes after : List ℕ) (number value : ℕ) (is : Bool) → length after ≡ length nodes → drop (length nodes / 2) after ≡ drop (length nodes / 2) (slice_set nodes (length nodes / 2 + number) value) → nat_lt value (length nodes / 2) ≡ is → members_in after ≡ slice_set (members_in nodes) number is
members-set nodes after number value is long leaves test =
    let half : length after / 2 ≡ length nodes / 2 = ap (λ n. n / 2) long in
    let f = λ (leaf : ℕ). nat_lt leaf (length nodes / 2) in
    ap (λ h. map (λ leaf. nat_lt leaf h) (drop h after)) half ∙ (ap (map f) (leaves ∙ drop-set-add (length nodes / 2) nodes number value) ∙ (map-set f (drop (length nodes / 2) nodes) number value ∙ ap (slice_set (map f (drop (length nodes / 2) nodes)) number) test))

-- the least that the leaves have is the first number of the set
pub first-is : (nodes : List ℕ) (from first : ℕ) → IsNumberTree nodes → IsFirstLeaf nodes (length nodes / 2 + from) first → first < length nodes / 2 → IsFirst (members_in nodes) from first
first-is nodes from first tree is l = elim is.there [
  | inl e ↦ absurd (omega (arith, e, l))
  | inr found ↦ at_leaf found.0 found.1 found.2 found.3
]
  where
    number_is : (number : ℕ) → length nodes / 2 + number < length nodes → slice_index nodes (length nodes / 2 + number) ≡ first → number ≡ first
    number_is number within e = elim (tree.leaves number (omega (arith, within, tree.even))) [
      | inl own ↦ sym own ∙ e
      | inr none ↦ absurd (omega (arith, none, e, l))
    ]

    before : (number : ℕ) → from ≤ number → number < first → has (members_in nodes) number ≡ false
    before number m n =
        let under = is.least (length nodes / 2 + number) (omega (arith, m)) (omega (arith, n, l, tree.even)) in
        has-leaf nodes number tree.even (omega (arith, n, l)) ∙ elim (tree.leaves number (omega (arith, n, l))) [
          | inl own ↦ absurd (omega (arith, own, under, n))
          | inr none ↦ le-ltb (slice_index nodes (length nodes / 2 + number)) (length nodes / 2) (omega (arith, none))
        ]

    at_leaf : (at : ℕ) → length nodes / 2 + from ≤ at → at < length nodes → slice_index nodes at ≡ first → IsFirst (members_in nodes) from first
    at_leaf at lower within e =
        let place : length nodes / 2 + (at - length nodes / 2) ≡ at = omega (arith, lower) in
        let here : slice_index nodes (length nodes / 2 + (at - length nodes / 2)) ≡ first = ap (slice_index nodes) place ∙ e in
        let same : at - length nodes / 2 ≡ first = number_is (at - length nodes / 2) (omega (arith, place, within)) here in
        let leaf : slice_index nodes (length nodes / 2 + first) ≡ first = ap (λ n. slice_index nodes (length nodes / 2 + n)) (sym same) ∙ here in
        record {
          from_there = omega (arith, same, lower);
          there = has-leaf nodes first tree.even l ∙ lt-ltb (slice_index nodes (length nodes / 2 + first)) (length nodes / 2) (omega (arith, leaf, l));
          least = before;
        }

-- where the leaves have nothing below the bound, no number from there on is in the set
pub none-is : (nodes : List ℕ) (from first : ℕ) → IsNumberTree nodes → IsFirstLeaf nodes (length nodes / 2 + from) first → length nodes / 2 ≤ first → HasNone (members_in nodes) from
none-is nodes from first tree is past number lower = elim (cases_lt number (length nodes / 2)) [
  | inl l ↦ (let under = is.least (length nodes / 2 + number) (omega (arith, lower)) (omega (arith, l, tree.even)) in has-leaf nodes number tree.even l ∙ le-ltb (slice_index nodes (length nodes / 2 + number)) (length nodes / 2) (omega (arith, under, past)))
  | inr out ↦ get_or_past (members_in nodes) number false (let long = members-long nodes tree.even in omega (arith, out, long))
]

map-replicate : (f : ℕ → Bool) (n x : ℕ) → map f (replicate n x) ≡ replicate n (f x)
map-replicate f zero x = refl
map-replicate f (suc n) x = ap (λ xs. f x ∷ xs) (map-replicate f n x)

-- the set that the bound everywhere means is empty
pub members-none : (nodes : List ℕ) (bound : ℕ) → nodes ≡ replicate (bound + bound) bound → members_in nodes ≡ replicate bound false
members-none nodes bound e =
    let long : length nodes ≡ bound + bound = ap length e ∙ length-replicate (bound + bound) bound in
    let half : length nodes / 2 ≡ bound = omega (arith, long) in
    let rest : drop bound nodes ≡ replicate bound bound = ap (drop bound) e ∙ (drop-replicate bound (bound + bound) bound ∙ ap (λ n. replicate n bound) (omega arith)) in
    ap (λ h. map (λ leaf. nat_lt leaf h) (drop h nodes)) half ∙ (ap (map (λ leaf. nat_lt leaf bound)) rest ∙ (map-replicate (λ leaf. nat_lt leaf bound) bound bound ∙ ap (replicate bound) (le-ltb bound bound (omega arith))))
