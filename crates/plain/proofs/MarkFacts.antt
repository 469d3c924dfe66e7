-- Marking all that steps lead to.
use Rattle.std.proofs.Common.{◌≡◌, ◌⊎◌, inl, inr, ◌<◌, ◌≤◌, ◌-◌, ℕ, Bool, true, false, List, [], ◌∷◌, ◌++◌, length, refl, sym, ap, ◌∙◌, subst, arith}
use Rattle.std.specs.Prelude.{slice_index_or, slice_set}
use Rattle.std.proofs.lemmas.Bool.{cases_eq, cases_lt, true≢false}
use Rattle.std.proofs.Math.ListN.{length-set}
use Rattle.std.proofs.lemmas.List.{get_or-set_same, get_or-set_other, get_or_past}
use Rattle.plain.specs.Marks.{is_marked, IsPath, IsReached}
use Rattle.plain.specs.PrivateMarks.{MarksMore, MarksReached}

-- ---- more marks

one_kept : (marks : List Bool) (id k : ℕ) → is_marked marks k ≡ true → is_marked (slice_set marks id true) k ≡ true
one_kept marks id k is = elim (cases_eq k id) [
  | inl same ↦
      let lt : k < length marks = elim (cases_lt k (length marks)) [ inl l ↦ l | inr past ↦ absurd (true≢false (sym is ∙ get_or_past marks k false past)) ] in
      subst (λ n. slice_index_or (slice_set marks n true) k false ≡ true) same (get_or-set_same marks k true false lt)
  | inr ne ↦ get_or-set_other marks id k true false ne ∙ is
]

one_only : (marks : List Bool) (id k : ℕ) → is_marked (slice_set marks id true) k ≡ true → (is_marked marks k ≡ true) ⊎ (id ≡ k)
one_only marks id k is = elim (cases_eq k id) [
  | inl same ↦ inr (sym same)
  | inr ne ↦ inl (sym (get_or-set_other marks id k true false ne) ∙ is)
]

-- there are none to mark
pub marks_none : (marks : List Bool) (These : ℕ → Type 0) → ((k : ℕ) → These k → ⊥) → MarksMore marks marks These
marks_none marks These none = record {
  long = refl;
  kept = λ k is. is;
  marked = λ k h. absurd (none k h);
  only = λ k is. inl is;
}

-- the same numbers, said otherwise
pub marks_same : (old new : List Bool) (These Those : ℕ → Type 0) → MarksMore old new These → ((k : ℕ) → Those k → These k)
    → ((k : ℕ) → These k → Those k) → MarksMore old new Those
marks_same old new These Those more back on = record {
  long = more.long;
  kept = more.kept;
  marked = λ k h. more.marked k (back k h);
  only = λ k is. elim (more.only k is) [ inl before ↦ inl before | inr this ↦ inr (on k this) ];
}

-- one number is marked
pub marks_one : (marks : List Bool) (id : ℕ) (These : ℕ → Type 0) → id < length marks → These id → ((k : ℕ) → These k → id ≡ k)
    → MarksMore marks (slice_set marks id true) These
marks_one marks id These lt is one = record {
  long = length-set marks id true;
  kept = λ k is_old. one_kept marks id k is_old;
  marked = λ k h. subst (λ n. slice_index_or (slice_set marks id true) n false ≡ true) (one k h) (get_or-set_same marks id true false lt);
  only = λ k is_new. elim (one_only marks id k is_new) [ inl before ↦ inl before | inr same ↦ inr (subst These same is) ];
}

-- some are marked, then others
pub marks_both : (old middle new : List Bool) (These Those All : ℕ → Type 0) → MarksMore old middle These → MarksMore middle new Those
    → ((k : ℕ) → All k → These k ⊎ Those k) → ((k : ℕ) → These k → All k) → ((k : ℕ) → Those k → All k) → MarksMore old new All
marks_both old middle new These Those All first second either left right = record {
  long = second.long ∙ first.long;
  kept = λ k is. second.kept k (first.kept k is);
  marked = λ k h. elim (either k h) [ inl this ↦ second.kept k (first.marked k this) | inr that ↦ second.marked k that ];
  only = λ k is. elim (second.only k is) [
    | inl before ↦ elim (first.only k before) [ inl is_old ↦ inl is_old | inr this ↦ inr (left k this) ]
    | inr that ↦ inr (right k that)
  ];
}

-- ---- paths

module _ (Step : ℕ → ℕ → Type 0) where
  -- a path and one step more
  pub path_more : (from : ℕ) (path : List ℕ) (last to : ℕ) → IsPath Step from path last → Step last to → IsPath Step from (path ++ to ∷ []) to
  path_more from [] last to leads step = (subst (λ n. Step n to) (sym leads) step, refl)
  path_more from (next ∷ path) last to leads step = (leads.0, path_more next path last to leads.1 step)

  pub reached_more : (first last to : ℕ) → IsReached Step first last → Step last to → IsReached Step first to
  reached_more first last to reaches step = (reaches.0 ++ to ∷ [], path_more first reaches.0 last to reaches.1 step)

  -- where a set has with each number all that a step leads to from it, it has all that a path leads to
  pub path_within : (has : ℕ → Bool) (from : ℕ) (path : List ℕ) (to : ℕ) → ((k next : ℕ) → has k ≡ true → Step k next → has next ≡ true)
      → has from ≡ true → IsPath Step from path to → has to ≡ true
  path_within has from [] to closed within leads = subst (λ n. has n ≡ true) leads within
  path_within has from (next ∷ path) to closed within leads = path_within has next path to closed (closed from next within leads.0) leads.1

-- ---- from the last number on

-- the numbers from one on are dealt with
pub record MarkedFrom (Step : ℕ → ℕ → Type 0) (size first at : ℕ) (marks : List Bool) : Type 0 where
  pub long : length marks ≡ size
  pub within : at ≤ size
  pub has_first : is_marked marks first ≡ true
  pub closed : (from to : ℕ) → at ≤ from → is_marked marks from ≡ true → Step from to → is_marked marks to ≡ true
  pub only : (to : ℕ) → is_marked marks to ≡ true → IsReached Step first to

module _ (Step : ℕ → ℕ → Type 0) (size first : ℕ) where
  -- only the first one is marked
  pub marked_first : (none marks : List Bool) (at : ℕ) → ((from to : ℕ) → Step from to → from < size) → length none ≡ size
      → ((k : ℕ) → is_marked none k ≡ false) → first < size → marks ≡ slice_set none first true → at ≡ size → MarkedFrom Step size first at marks
  marked_first none marks at inside long unmarked lt is from_end = record {
    long = ap length is ∙ length-set none first true ∙ long;
    within = omega arith;
    has_first = ap (λ ms. slice_index_or ms first false) is ∙ get_or-set_same none first true false (omega (arith, long));
    closed = λ from to past marked step. (let low = inside from to step in absurd (omega (arith, past, from_end, low)));
    only = λ to marked. elim (one_only none first to (ap (λ ms. slice_index_or ms to false) (sym is) ∙ marked)) [
      | inl before ↦ absurd (true≢false (sym before ∙ unmarked to))
      | inr same ↦ ([], same)
    ];
  }

  -- what a step leads to from a marked number was marked
  pub marked_step : (at next : ℕ) (old new : List Bool) → ((from to : ℕ) → Step from to → to < from) → MarkedFrom Step size first at old → 0 < at
      → next ≡ at - 1 → is_marked old next ≡ true → MarksMore old new (Step next) → MarkedFrom Step size first next new
  marked_step at next old new below so_far pos is marked more = record {
    long = more.long ∙ so_far.long;
    within = omega (arith, so_far.within);
    has_first = more.kept first so_far.has_first;
    closed = λ from to past is_new step. elim (cases_eq from next) [
      | inl here ↦ more.marked to (subst (λ n. Step n to) here step)
      | inr ne ↦ elim (more.only from is_new) [
        | inl before ↦ more.kept to (so_far.closed from to (omega (arith, past)) before step)
        | inr now ↦ (let low = below next from now in absurd (omega (arith, past, low)))
      ]
    ];
    only = λ to is_new. elim (more.only to is_new) [
      | inl before ↦ so_far.only to before
      | inr now ↦ reached_more Step first next to (so_far.only next marked) now
    ];
  }

  -- a number that isn't marked has nothing to mark
  pub unmarked_step : (at next : ℕ) (marks : List Bool) → MarkedFrom Step size first at marks → 0 < at → next ≡ at - 1 → is_marked marks next ≡ false
      → MarkedFrom Step size first next marks
  unmarked_step at next marks so_far pos is unmarked = record {
    long = so_far.long;
    within = omega (arith, so_far.within);
    has_first = so_far.has_first;
    closed = λ from to past marked step. elim (cases_eq from next) [
      | inl here ↦ absurd (true≢false (sym marked ∙ (ap (λ n. is_marked marks n) here ∙ unmarked)))
      | inr ne ↦ so_far.closed from to (omega (arith, past)) marked step
    ];
    only = so_far.only;
  }

  pub marked_all : (at : ℕ) (marks : List Bool) → MarkedFrom Step size first at marks → at ≤ 0 → MarksReached Step size first marks
  marked_all at marks so_far over = record {
    long = so_far.long;
    has_first = so_far.has_first;
    closed = λ from to. so_far.closed from to (omega (arith, over));
    only = so_far.only;
  }

-- ---- paths

-- a path, and one that goes on from its end
pub path_both : (Step : ℕ → ℕ → Type 0) (from middle to : ℕ) (path more : List ℕ) → IsPath Step from path middle → IsPath Step middle more to → IsPath Step from (path ++ more) to
path_both Step from middle to [] more first second = subst (λ n. IsPath Step n more to) (sym first) second
path_both Step from middle to (next ∷ path) more first second = (first.0, path_both Step next middle to path more first.1 second)
