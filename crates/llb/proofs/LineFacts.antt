-- Which lines a vertex has after one was added to them.
use Rattle.std.proofs.Common.{◌≡◌, ◌⊎◌, inl, inr, ◌<◌, ◌≤◌, ℕ, zero, suc, Bool, true, false, List, [], ◌∷◌, refl, sym, ap, ◌∙◌, subst, arith}
use Rattle.std.specs.Prelude.{◌↔◌, Contains, min, nat_lt, slice_index_or}
use Rattle.std.specs.List.{filter}
use Rattle.std.proofs.lemmas.Bool.{lt-ltb, cases_lt}
use Rattle.std.proofs.lemmas.List.Elements.{Contains-append_left, Contains-append_right, Contains-append_cases}
use Rattle.llb.specs.Places.{with_line, with_lines, least_line}

module _ {X : Type 0} where
  pub contains_nil : (x : X) → Contains [] x → ⊥
  contains_nil x h = omega (arith, h.1)

  pub contains_here : (x : X) (xs : List X) → Contains (x ∷ xs) x
  contains_here x xs = (0, omega arith, refl)

  pub contains_there : (y x : X) (xs : List X) → Contains xs x → Contains (y ∷ xs) x
  contains_there y x xs h = Contains-append_right (y ∷ []) xs x h

  one_cases : (y x : X) → Contains (y ∷ []) x → x ≡ y
  one_cases y x h = at h.0 h.1 h.2
    where
      at : (k : ℕ) → k < 1 → slice_index_or (y ∷ []) k x ≡ x → x ≡ y
      at zero lt e = sym e
      at (suc k) lt e = absurd (omega (arith, lt))

  pub contains_cases : (y x : X) (xs : List X) → Contains (y ∷ xs) x → (x ≡ y) ⊎ Contains xs x
  contains_cases y x xs h = elim (Contains-append_cases (y ∷ []) xs x h) [ inl a ↦ inl (one_cases y x a) | inr b ↦ inr b ]

  filter_by : (p : X → Bool) (y x : X) (ys : List X) (b : Bool) → p x ≡ true → p y ≡ b → (x ≡ y) ⊎ Contains (filter p ys) x → Contains (filter p (y ∷ ys)) x
  filter_by p y x ys true holds e (inl same) = rw e (subst (λ z. Contains (z ∷ filter p ys) x) same (contains_here x (filter p ys)))
  filter_by p y x ys true holds e (inr more) = rw e (contains_there y x (filter p ys) more)
  filter_by p y x ys false holds e (inl same) = let f : true ≡ false = sym holds ∙ (ap p same ∙ e) in cc
  filter_by p y x ys false holds e (inr more) = rw e more

  pub contains_filter : (p : X → Bool) (xs : List X) (x : X) → p x ≡ true → Contains xs x → Contains (filter p xs) x
  contains_filter p [] x holds h = absurd (contains_nil x h)
  contains_filter p (y ∷ ys) x holds h = filter_by p y x ys (p y) holds refl (elim (contains_cases y x ys h) [
    | inl same ↦ inl same
    | inr more ↦ inr (contains_filter p ys x holds more)
  ])

  unfilter_by : (p : X → Bool) (y x : X) (ys : List X) (b : Bool) → (Contains (filter p ys) x → Contains ys x) → p y ≡ b → Contains (filter p (y ∷ ys)) x → Contains (y ∷ ys) x
  unfilter_by p y x ys true deeper e h = elim (contains_cases y x (filter p ys) (rw e at h)) [
    | inl same ↦ subst (λ z. Contains (z ∷ ys) x) same (contains_here x ys)
    | inr more ↦ contains_there y x ys (deeper more)
  ]
  unfilter_by p y x ys false deeper e h = contains_there y x ys (deeper (rw e at h))

  pub contains_unfilter : (p : X → Bool) (xs : List X) (x : X) → Contains (filter p xs) x → Contains xs x
  contains_unfilter p [] x h = h
  contains_unfilter p (y ∷ ys) x h = unfilter_by p y x ys (p y) (contains_unfilter p ys x) refl h

pub line_there : (line : ℕ) (lines : List ℕ) → Contains (with_line line lines) line
line_there line lines =
    Contains-append_right (filter (λ other. nat_lt other line) lines) (line ∷ filter (λ other. nat_lt line other) lines) line (contains_here line (filter (λ other. nat_lt line other) lines))

pub line_kept : (line other : ℕ) (lines : List ℕ) → Contains lines other → Contains (with_line line lines) other
line_kept line other lines h = elim (cases_lt other line) [
  | inl less ↦ Contains-append_left (filter (λ o. nat_lt o line) lines) (line ∷ filter (λ o. nat_lt line o) lines) other (contains_filter (λ o. nat_lt o line) lines other (lt-ltb other line less) h)
  | inr not_less ↦ elim (cases_lt line other) [
    | inl more ↦ Contains-append_right (filter (λ o. nat_lt o line) lines) (line ∷ filter (λ o. nat_lt line o) lines) other (contains_there line other (filter (λ o. nat_lt line o) lines) (contains_filter (λ o. nat_lt line o) lines other (lt-ltb line other more) h))
    | inr not_more ↦ (let same : line ≡ other = omega arith in subst (Contains (with_line line lines)) same (line_there line lines))
  ]
]

pub line_only : (line other : ℕ) (lines : List ℕ) → Contains (with_line line lines) other → Contains lines other ⊎ (other ≡ line)
line_only line other lines h = elim (Contains-append_cases (filter (λ o. nat_lt o line) lines) (line ∷ filter (λ o. nat_lt line o) lines) other h) [
  | inl a ↦ inl (contains_unfilter (λ o. nat_lt o line) lines other a)
  | inr b ↦ elim (contains_cases line other (filter (λ o. nat_lt line o) lines) b) [
    | inl same ↦ inr same
    | inr more ↦ inl (contains_unfilter (λ o. nat_lt line o) lines other more)
  ]
]

-- more lines are added one by one: what is among them afterwards
pub lines_cases : (more lines : List ℕ) (other : ℕ) → Contains (with_lines more lines) other → Contains more other ⊎ Contains lines other
lines_cases [] lines other h = inr h
lines_cases (line ∷ more) lines other h = elim (lines_cases more (with_line line lines) other h) [
  | inl among ↦ inl (contains_there line other more among)
  | inr one ↦ elim (line_only line other lines one) [
    | inl before ↦ inr before
    | inr same ↦ inl (subst (λ n. Contains (n ∷ more) other) same (contains_here other more))
  ]
]

pub lines_kept : (more lines : List ℕ) (other : ℕ) → Contains lines other → Contains (with_lines more lines) other
lines_kept [] lines other h = h
lines_kept (line ∷ more) lines other h = lines_kept more (with_line line lines) other (line_kept line other lines h)

pub lines_there : (more lines : List ℕ) (other : ℕ) → Contains more other → Contains (with_lines more lines) other
lines_there [] lines other h = absurd (contains_nil other h)
lines_there (line ∷ more) lines other h = elim (contains_cases line other more h) [
  | inl same ↦ lines_kept more (with_line line lines) other (subst (λ n. Contains (with_line n lines) other) same (line_there other lines))
  | inr among ↦ lines_there more (with_line line lines) other among
]

-- what the lines with more among them are
pub lines_added : (more lines : List ℕ) (other : ℕ) → Contains (with_lines more lines) other ↔ (Contains more other ⊎ Contains lines other)
lines_added more lines other = (lines_cases more lines other, λ h. elim h [ inl among ↦ lines_there more lines other among | inr before ↦ lines_kept more lines other before ])

-- the least of some lines is one of them
least_among : (first : ℕ) (lines : List ℕ) → Contains (first ∷ lines) (least_line (first ∷ lines))
least_among first [] = contains_here first []
least_among first (second ∷ lines) = elim (cases_lt first (least_line (second ∷ lines))) [
  | inl less ↦ (let least : min first (least_line (second ∷ lines)) ≡ first = omega arith in rw least (contains_here first (second ∷ lines)))
  | inr not_less ↦
      let least : min first (least_line (second ∷ lines)) ≡ least_line (second ∷ lines) = omega arith in
      rw least (contains_there first (least_line (second ∷ lines)) (second ∷ lines) (least_among second lines))
]

pub least_of : (lines : List ℕ) (line : ℕ) → Contains lines line → Contains lines (least_line lines)
least_of [] line h = absurd (contains_nil line h)
least_of (first ∷ lines) line h = least_among first lines

-- and no greater than any of them
pub least_below : (lines : List ℕ) (line : ℕ) → Contains lines line → least_line lines ≤ line
least_below [] line h = absurd (contains_nil line h)
least_below (first ∷ []) line h = elim (contains_cases first line [] h) [
  | inl same ↦ omega (arith, same)
  | inr none ↦ absurd (contains_nil line none)
]
least_below (first ∷ second ∷ lines) line h = elim (contains_cases first line (second ∷ lines) h) [
  | inl same ↦ omega (arith, same)
  | inr rest ↦ (let l = least_below (second ∷ lines) line rest in omega (arith, l))
]
