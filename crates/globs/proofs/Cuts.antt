-- Laws of cuts, and one step of a search for a cut.
use Rattle.std.specs.Prelude.{◌≡◌, ℕ, ◌+◌, ◌-◌, ◌<◌, ◌≤◌, Bool, true, false, List, [], ◌∷◌, ◌++◌, ◌⊎◌, drop, take, length, get_or, ◌↔◌}
use Rattle.std.proofs.Common.{sym, ap, refl, ◌∙◌, subst, inl, inr, true≢false, append_assoc, arith, zero, suc}
use Rattle.std.proofs.lemmas.Grind.{common_steps}
use Rattle.std.proofs.lemmas.List.{drop-drop, append-nil, take-append-drop}
use Rattle.std.proofs.Math.Seq.{drop-cons}
use Rattle.globs.specs.declared.cut.Found.{Found}
use Rattle.globs.specs.declared.cut.Found.TheVariants.{Yes, No, Never}
use Rattle.globs.specs.Cut.{CanBeCut}
use Rattle.globs.specs.PrivateSearch.{IsFound}

module _ {A : Type 0} where
  whole_rest : (x : A) (xs : List A) → take (length (x ∷ xs) - 1) (drop 1 (x ∷ xs)) ≡ xs
  whole_rest x xs = grind (arith, common_steps)

  pub whole-tail : (xs : List A) (n : ℕ) → take (length xs - n) (drop n xs) ≡ drop n xs
  whole-tail xs n = grind (arith, common_steps)

  pub first-parts : (xs : List A) (x : A) → 1 ≤ length xs → x ≡ get_or xs 0 x → xs ≡ x ∷ take (length xs - 1) (drop 1 xs)
  first-parts [] x more is = absurd (omega arith)
  first-parts (c ∷ cs) x more is = λ i. sym is i ∷ sym (whole_rest c cs) i

  pub no-items : (xs : List A) → length xs < 1 → xs ≡ []
  no-items [] less = refl
  no-items (c ∷ cs) less = absurd (omega arith)

  pub nil-parts : (xs ys : List A) → [] ≡ xs ++ ys → (xs ≡ []) × (ys ≡ [])
  nil-parts [] ys e = (refl, sym e)
  nil-parts (x ∷ xs) ys e = absurd (cons_nil x (xs ++ ys) (sym e))
    where
      cons_nil : (x : A) (xs : List A) → x ∷ xs ≡ [] → ⊥
      cons_nil x xs e = let n : length (x ∷ xs) ≡ 0 = ap length e in omega arith

  pub cons-parts : (x y : A) (xs ys : List A) → x ∷ xs ≡ y ∷ ys → (x ≡ y) × (xs ≡ ys)
  cons-parts x y xs ys e = (ap (λ l. get_or l 0 x) e, ap (drop 1) e)

  drop-nil : (k : ℕ) → drop {A = A} k [] ≡ []
  drop-nil zero = refl
  drop-nil (suc k) = refl

  drop-front : (xs ys : List A) → drop (length xs) (xs ++ ys) ≡ ys
  drop-front [] ys = refl
  drop-front (x ∷ xs) ys = drop-front xs ys

module _ {P T : Type 0} (takes_any : P → Bool) (Holds : P → T → Type 0) where
  abbrev Rel : List P → List T → Type 0
  Rel = CanBeCut takes_any Holds

  pub run-here : (p : P) (ps : List P) (xs : List T) → takes_any p ≡ true → Rel ps xs → Rel (p ∷ ps) xs
  run-here p ps xs h r = ([], (xs, (refl, (inl h, r))))

  run-later : (p : P) (ps : List P) (x : T) (xs : List T) → takes_any p ≡ true → Rel (p ∷ ps) xs → Rel (p ∷ ps) (x ∷ xs)
  run-later p ps x xs h (piece, (rest, (e, (q, r)))) = (x ∷ piece, (rest, (ap (λ l. x ∷ l) e, (inl h, r))))

  -- a run takes some items, and the rest relates to the rest
  pub run-rest : (p : P) (ps : List P) (xs : List T) → Rel (p ∷ ps) xs → (k : ℕ) × Rel ps (drop k xs)
  run-rest p ps xs (piece, (rest, (e, (q, r)))) = (length piece, subst (Rel ps) (sym (ap (drop (length piece)) e ∙ drop-front piece rest)) r)

  run-cases : (p : P) (ps : List P) (x : T) (xs : List T) → takes_any p ≡ true → Rel (p ∷ ps) (x ∷ xs) → Rel ps (x ∷ xs) ⊎ Rel (p ∷ ps) xs
  run-cases p ps x xs h ([], (rest, (e, (q, r)))) = inl (subst (Rel ps) (sym e) r)
  run-cases p ps x xs h (y ∷ piece, (rest, (e, (q, r)))) = inr (piece, (rest, ((cons-parts x y xs (piece ++ rest) e).1, (inl h, r))))

  -- a run relates to items where the parts behind it relate to a tail of them
  pub run-tail : (p : P) (ps : List P) (xs : List T) (k : ℕ) → takes_any p ≡ true → Rel ps (drop k xs) → Rel (p ∷ ps) xs
  run-tail p ps xs k h r = (take k xs, (drop k xs, (sym (take-append-drop k xs), (inl h, r))))

  -- two runs behind one another take what the second takes alone
  run-run : (p q : P) (ps : List P) (xs : List T) → takes_any p ≡ true → takes_any q ≡ true → Rel (p ∷ q ∷ ps) xs → Rel (q ∷ ps) xs
  run-run p q ps xs h i r =
      let first = run-rest p (q ∷ ps) xs r in
      let second = run-rest q ps (drop first.0 xs) first.1 in
      run-tail q ps xs (first.0 + second.0) i (subst (Rel ps) (drop-drop second.0 first.0 xs) second.1)

  pub one-make : (p : P) (ps : List P) (x : T) (xs : List T) → takes_any p ≡ false → Holds p x → Rel ps xs → Rel (p ∷ ps) (x ∷ xs)
  one-make p ps x xs h holds r = (x ∷ [], (xs, (refl, (inr (h, (x, (refl, holds))), r))))

  -- what begins with a part for one item relates to a list with a first item
  pub one-first : (p : P) (ps : List P) (ys : List T) → takes_any p ≡ false → Rel (p ∷ ps) ys → (x : T) × ((xs : List T) × ((ys ≡ x ∷ xs) × (Holds p x × Rel ps xs)))
  one-first p ps ys h (piece, (rest, (e, (inl run, r)))) = absurd (true≢false (sym run ∙ h))
  one-first p ps ys h (piece, (rest, (e, (inr (n, (x, (is, holds))), r)))) = (x, (rest, (e ∙ ap (λ l. l ++ rest) is, (holds, r))))

  one-parts : (p : P) (ps : List P) (x : T) (xs : List T) → takes_any p ≡ false → Rel (p ∷ ps) (x ∷ xs) → Holds p x × Rel ps xs
  one-parts p ps x xs h r =
      let w = one-first p ps (x ∷ xs) h r in
      let same = cons-parts x w.0 xs w.1.0 w.1.1.0 in
      (subst (Holds p) (sym same.0) w.1.1.1.0, subst (Rel ps) (sym same.1) w.1.1.1.1)

  one-none : (p : P) (ps : List P) → takes_any p ≡ false → Rel (p ∷ ps) [] → ⊥
  one-none p ps h r =
      let w = one-first p ps [] h r in
      let n : 0 ≡ length (w.0 ∷ w.1.0) = ap length w.1.1.0 in omega arith

  one-tail : (p : P) (ps : List P) (ys : List T) → takes_any p ≡ false → Rel (p ∷ ps) ys → Rel ps (drop 1 ys)
  one-tail p ps [] h r = absurd (one-none p ps h r)
  one-tail p ps (y ∷ ys) h r = (one-parts p ps y ys h r).1

  -- ---- what a search says

  pub never-run : (p : P) (ps : List P) (xs : List T) → ((k : ℕ) → Rel ps (drop k xs) → ⊥) → (k : ℕ) → Rel (p ∷ ps) (drop k xs) → ⊥
  never-run p ps xs never k r =
      let w = run-rest p ps (drop k xs) r in never (k + w.0) (subst (Rel ps) (drop-drop w.0 k xs) w.1)

  pub never-run-empty : (p : P) (ps : List P) → (Rel ps [] → ⊥) → (k : ℕ) → Rel (p ∷ ps) (drop k []) → ⊥
  never-run-empty p ps none_here k r = never-run p ps [] (λ j s. none_here (subst (Rel ps) (drop-nil j) s)) k r

  pub never-one-empty : (p : P) (ps : List P) → takes_any p ≡ false → (k : ℕ) → Rel (p ∷ ps) (drop k []) → ⊥
  never-one-empty p ps h k r = one-none p ps h (subst (Rel (p ∷ ps)) (drop-nil k) r)

  run-none : (p : P) (ps : List P) (x : T) (xs : List T) → takes_any p ≡ true → (Rel ps (x ∷ xs) → ⊥) → (Rel (p ∷ ps) xs → ⊥) → Rel (p ∷ ps) (x ∷ xs) → ⊥
  run-none p ps x xs h here later r = elim (run-cases p ps x xs h r) [ inl a ↦ here a | inr b ↦ later b ]

  pub run-step : (f : Found) (p : P) (ps : List P) (x : T) (xs : List T) → takes_any p ≡ true → (Rel ps (x ∷ xs) → ⊥) → IsFound takes_any Holds f (p ∷ ps) xs → IsFound takes_any Holds f (p ∷ ps) (x ∷ xs)
  run-step Yes p ps x xs h none_here found = run-later p ps x xs h found
  run-step No p ps x xs h none_here found = run-none p ps x xs h none_here found
  run-step Never p ps x xs h none_here found = never
    where
      never : (k : ℕ) → Rel (p ∷ ps) (drop k (x ∷ xs)) → ⊥
      never zero r = run-none p ps x xs h none_here (found 0) r
      never (suc k) r = found k r

  pub one-step : (f : Found) (p : P) (ps : List P) (x : T) (xs : List T) → takes_any p ≡ false → Holds p x → IsFound takes_any Holds f ps xs → IsFound takes_any Holds f (p ∷ ps) (x ∷ xs)
  one-step Yes p ps x xs h holds found = one-make p ps x xs h holds found
  one-step No p ps x xs h holds found = λ r. found (one-parts p ps x xs h r).1
  one-step Never p ps x xs h holds found = never
    where
      never : (k : ℕ) → Rel (p ∷ ps) (drop k (x ∷ xs)) → ⊥
      never zero r = found 0 (one-parts p ps x xs h r).1
      never (suc k) r = found (k + 1) (subst (Rel ps) (drop-drop 1 k xs) (one-tail p ps (drop k xs) h r))

  found-same : (f : Found) (ps qs : List P) (xs : List T) → ((items : List T) → Rel ps items ↔ Rel qs items) → IsFound takes_any Holds f ps xs → IsFound takes_any Holds f qs xs
  found-same Yes ps qs xs same found = (same xs).0 found
  found-same No ps qs xs same found = λ r. found ((same xs).1 r)
  found-same Never ps qs xs same found = λ k r. found k ((same (drop k xs)).1 r)

  run-run-same : (p q : P) (ps : List P) → takes_any p ≡ true → takes_any q ≡ true → (items : List T) → Rel (q ∷ ps) items ↔ Rel (p ∷ q ∷ ps) items
  run-run-same p q ps h i items = ((λ r. run-here p (q ∷ ps) items h r), (λ r. run-run p q ps items h i r))

  -- ---- runs behind one another

  abbrev SameFrom : List P → ℕ → Type 0
  SameFrom parts k = (items : List T) → Rel (drop k parts) items ↔ Rel parts items

  same-step : (parts : List P) (j : ℕ) (a b : P) → suc j < length parts → a ≡ get_or parts j a → b ≡ get_or parts (suc j) b → takes_any a ≡ true → takes_any b ≡ true → SameFrom parts j → SameFrom parts (suc j)
  same-step parts j a b more a-is b-is h i same items =
      let here : j < length parts = omega arith in
      let at : drop j parts ≡ a ∷ b ∷ drop (suc (suc j)) parts = drop-cons parts j a here ∙ (λ k. sym a-is k ∷ (drop-cons parts (suc j) b more ∙ (λ n. sym b-is n ∷ drop (suc (suc j)) parts)) k) in
      let next : drop (suc j) parts ≡ b ∷ drop (suc (suc j)) parts = drop-cons parts (suc j) b more ∙ (λ n. sym b-is n ∷ drop (suc (suc j)) parts) in
      let both = run-run-same a b (drop (suc (suc j)) parts) h i items in (
        (λ r. (same items).0 (subst (λ (l : List P). Rel l items) (sym at) (both.0 (subst (λ (l : List P). Rel l items) next r)))),
        (λ r. subst (λ (l : List P). Rel l items) (sym next) (both.1 (subst (λ (l : List P). Rel l items) at ((same items).1 r)))),
      )

  pub same-next : (parts : List P) (k : ℕ) (a b : P) → 1 ≤ k → k < length parts → a ≡ get_or parts (k - 1) a → b ≡ get_or parts k b → takes_any a ≡ true → takes_any b ≡ true → SameFrom parts (k - 1) → SameFrom parts (k + 1 - 1)
  same-next parts zero a b some more a-is b-is h i same = absurd (omega arith)
  same-next parts (suc j) a b some more a-is b-is h i same =
      let back : suc j - 1 ≡ j = omega arith in
      let on : suc j + 1 - 1 ≡ suc j = omega arith in
      subst (λ (n : ℕ). SameFrom parts n) (sym on)
      (same-step parts j a b more (a-is ∙ ap (λ n. get_or parts n a) back) b-is h i (subst (λ (n : ℕ). SameFrom parts n) back same))

  -- the same of a slice's tail, as code takes it
  pub same-tail : (parts : List P) (k n : ℕ) → n ≡ k → SameFrom parts k → (items : List T) → Rel (take (length parts - n) (drop n parts)) items ↔ Rel parts items
  same-tail parts k n e same items =
      let whole : take (length parts - n) (drop n parts) ≡ drop k parts = whole-tail parts n ∙ ap (λ m. drop m parts) e in
      ((λ r. (same items).0 (subst (λ (l : List P). Rel l items) whole r)), (λ r. subst (λ (l : List P). Rel l items) (sym whole) ((same items).1 r)))

  -- ---- from the back

  snoc-make : (ps : List P) (p : P) (xs : List T) (x : T) → takes_any p ≡ false → Holds p x → Rel ps xs → Rel (ps ++ p ∷ []) (xs ++ x ∷ [])
  snoc-make [] p xs x h holds e = subst (λ (l : List T). Rel (p ∷ []) (l ++ x ∷ [])) (sym e) (one-make p [] x [] h holds refl)
  snoc-make (q ∷ qs) p xs x h holds (piece, (rest, (e, (is, r)))) =
      (piece, (rest ++ x ∷ [], (ap (λ l. l ++ x ∷ []) e ∙ append_assoc piece rest (x ∷ []), (is, snoc-make qs p rest x h holds r))))

  pub snoc-parts : (ps : List P) (p : P) (ys : List T) → takes_any p ≡ false → Rel (ps ++ p ∷ []) ys → (xs : List T) × ((x : T) × ((ys ≡ xs ++ x ∷ []) × (Holds p x × Rel ps xs)))
  snoc-parts [] p ys h r =
      let w = one-first p [] ys h r in
      ([], (w.0, (w.1.1.0 ∙ ap (λ l. w.0 ∷ l) w.1.1.1.1, (w.1.1.1.0, refl))))
  snoc-parts (q ∷ qs) p ys h (piece, (rest, (e, (is, r)))) =
      let w = snoc-parts qs p rest h r in
      (piece ++ w.0, (w.1.0, (e ∙ ap (λ l. piece ++ l) w.1.1.0 ∙ sym (append_assoc piece w.0 (w.1.0 ∷ [])), (w.1.1.1.0, (piece, (w.0, (refl, (is, w.1.1.1.1))))))))

  -- ---- the same, as the code meets them: the first part and the rest of a slice

  abbrev rest_of : {A : Type 0} → List A → List A
  rest_of xs = take (length xs - 1) (drop 1 xs)

  pub at-never : (parts : List P) (part : P) (items : List T) → 1 ≤ length parts → part ≡ get_or parts 0 part → ((k : ℕ) → Rel (rest_of parts) (drop k items) → ⊥) → (k : ℕ) → Rel parts (drop k items) → ⊥
  at-never parts part items more is never k r = never-run part (rest_of parts) items never k (subst (λ (l : List P). Rel l (drop k items)) (first-parts parts part more is) r)

  pub at-run-here : (parts : List P) (part : P) (items : List T) → 1 ≤ length parts → part ≡ get_or parts 0 part → takes_any part ≡ true → Rel (rest_of parts) items → Rel parts items
  at-run-here parts part items more is h r = subst (λ (l : List P). Rel l items) (sym (first-parts parts part more is)) (run-here part (rest_of parts) items h r)

  pub at-run-empty : (parts : List P) (part : P) (items : List T) → 1 ≤ length parts → part ≡ get_or parts 0 part → length items < 1 → (Rel (rest_of parts) items → ⊥) → (k : ℕ) → Rel parts (drop k items) → ⊥
  at-run-empty parts part items more is none none_here k r =
      let empty = no-items items none in
      never-run-empty part (rest_of parts) (λ s. none_here (subst (Rel (rest_of parts)) (sym empty) s)) k
      (subst (λ (l : List P). Rel l (drop k [])) (first-parts parts part more is) (subst (λ (l : List T). Rel parts (drop k l)) empty r))

  pub at-one-empty : (parts : List P) (part : P) (items : List T) → 1 ≤ length parts → part ≡ get_or parts 0 part → length items < 1 → takes_any part ≡ false → (k : ℕ) → Rel parts (drop k items) → ⊥
  at-one-empty parts part items more is none h k r =
      let empty = no-items items none in
      never-one-empty part (rest_of parts) h k
      (subst (λ (l : List P). Rel l (drop k [])) (first-parts parts part more is) (subst (λ (l : List T). Rel parts (drop k l)) empty r))

  abbrev Found_of : Found → List P → List T → Type 0
  Found_of = IsFound takes_any Holds

  -- runs behind a run: it takes what they take alone
  pub at-runs : (f : Found) (parts : List P) (part : P) (rest : List P) (next : P) (tight : List P) (items : List T) → 1 ≤ length parts → part ≡ get_or parts 0 part → rest ≡ rest_of parts → 1 ≤ length rest → next ≡ get_or rest 0 next → takes_any part ≡ true → takes_any next ≡ true
      → ((xs : List T) → Rel tight xs ↔ Rel rest xs) → Found_of f tight items → Found_of f parts items
  at-runs f parts part rest next tight items more is rest-is some first h i same found =
      let begins = first-parts rest next some first in
      let whole : parts ≡ part ∷ next ∷ rest_of rest = first-parts parts part more is ∙ ap (λ l. part ∷ l) (sym rest-is ∙ begins) in
      subst (λ (l : List P). Found_of f l items) (sym whole)
      (found-same f (next ∷ rest_of rest) (part ∷ next ∷ rest_of rest) items (run-run-same part next (rest_of rest) h i)
      (subst (λ (l : List P). Found_of f l items) begins (found-same f tight rest items same found)))

  pub at-run-step : (f : Found) (parts : List P) (part : P) (items : List T) → 1 ≤ length parts → part ≡ get_or parts 0 part → 1 ≤ length items → takes_any part ≡ true → (Rel (rest_of parts) items → ⊥) → Found_of f parts (rest_of items) → Found_of f parts items
  at-run-step f parts part [] more is some h none_here found = absurd (omega arith)
  at-run-step f parts part (x ∷ xs) more is some h none_here found =
      let whole = first-parts parts part more is in
      subst (λ (l : List P). Found_of f l (x ∷ xs)) (sym whole)
      (run-step f part (rest_of parts) x xs h none_here (subst (λ (l : List T). Found_of f (part ∷ rest_of parts) l) (whole_rest x xs) (subst (λ (l : List P). Found_of f l (rest_of (x ∷ xs))) whole found)))

  pub at-one-step : (f : Found) (parts : List P) (part : P) (items : List T) (item : T) → 1 ≤ length parts → part ≡ get_or parts 0 part → 1 ≤ length items → item ≡ get_or items 0 item → takes_any part ≡ false → Holds part item → Found_of f (rest_of parts) (rest_of items) → Found_of f parts items
  at-one-step f parts part items item more is some first h holds found =
      subst (λ (l : List P). Found_of f l items) (sym (first-parts parts part more is))
      (subst (λ (l : List T). Found_of f (part ∷ rest_of parts) l) (sym (first-parts items item some first)) (one-step f part (rest_of parts) item (rest_of items) h holds found))

  -- ---- the last part and the others

  pub last-parts : {A : Type 0} (xs : List A) (x : A) → 1 ≤ length xs → x ≡ get_or xs (length xs - 1) x → xs ≡ take (length xs - 1) xs ++ x ∷ []
  last-parts xs x more is = grind (arith, common_steps)

  pub found-no : (f : Found) (parts : List P) (items : List T) → Found_of f parts items → (f ≡ Yes → ⊥) → Rel parts items → ⊥
  found-no Yes parts items found none_here r = none_here refl
  found-no No parts items found none_here r = found r
  found-no Never parts items found none_here r = found 0 r

  nil-ends : {A : Type 0} (ys : List A) (x y : A) → x ∷ [] ≡ ys ++ y ∷ [] → (ys ≡ []) × (x ≡ y)
  nil-ends [] x y e = (refl, (cons-parts x y [] [] e).0)
  nil-ends (b ∷ bs) x y e = absurd (longer bs y ((cons-parts x b [] (bs ++ y ∷ []) e).1))
    where
      longer : {A : Type 0} (bs : List A) (y : A) → [] ≡ bs ++ y ∷ [] → ⊥
      longer bs y n = let m : 0 ≡ length (y ∷ []) = ap length (sym (nil-parts bs (y ∷ []) n).1) in omega arith

  pub same-ends : {A : Type 0} (xs ys : List A) (x y : A) → xs ++ x ∷ [] ≡ ys ++ y ∷ [] → (xs ≡ ys) × (x ≡ y)
  same-ends [] ys x y e = let w = nil-ends ys x y e in (sym w.0, w.1)
  same-ends (a ∷ xs) [] x y e = let w = nil-ends (a ∷ xs) y x (sym e) in (w.0, sym w.1)
  same-ends (a ∷ xs) (b ∷ ys) x y e =
      let parts = cons-parts a b (xs ++ x ∷ []) (ys ++ y ∷ []) e in
      let more = same-ends xs ys x y parts.1 in
      ((λ i. parts.0 i ∷ more.0 i), more.1)

  pub at-back-empty : (parts : List P) (last : P) (items : List T) → 1 ≤ length parts → last ≡ get_or parts (length parts - 1) last → takes_any last ≡ false → length items < 1 → Rel parts items → ⊥
  at-back-empty parts last items more is h none r =
      let w = snoc-parts (take (length parts - 1) parts) last items h (subst (λ (l : List P). Rel l items) (last-parts parts last more is) r) in
      let e : [] ≡ w.0 ++ w.1.0 ∷ [] = sym (no-items items none) ∙ w.1.1.0 in
      let n : 0 ≡ length (w.1.0 ∷ []) = ap length (sym (nil-parts w.0 (w.1.0 ∷ []) e).1) in omega arith

  pub at-back : (parts : List P) (last : P) (items : List T) (item : T) → 1 ≤ length parts → last ≡ get_or parts (length parts - 1) last → 1 ≤ length items → item ≡ get_or items (length items - 1) item → takes_any last ≡ false
      → Rel parts items ↔ (Holds last item × Rel (take (length parts - 1) parts) (take (length items - 1) items))
  at-back parts last items item more is some end h =
      let front = take (length parts - 1) parts in
      let others = take (length items - 1) items in
      let whole = last-parts parts last more is in
      let all = last-parts items item some end in (
        (λ r.
            let w = snoc-parts front last items h (subst (λ (l : List P). Rel l items) whole r) in
            let same = same-ends w.0 others w.1.0 item (sym w.1.1.0 ∙ all) in
            (subst (Holds last) same.1 w.1.1.1.0, subst (Rel front) same.0 w.1.1.1.1)),
        (λ b. subst (λ (l : List P). Rel l items) (sym whole) (subst (λ (l : List T). Rel (front ++ last ∷ []) l) (sym all) (snoc-make front last others item h b.0 b.1))),
      )

  -- ---- the same for items that aren't a slice: their first one and the rest are told by an equation

  pub on-nil : (parts : List P) (items : List T) → length parts < 1 → items ≡ [] → Rel parts items
  on-nil [] items less none = none
  on-nil (p ∷ ps) items less none = absurd (omega arith)

  pub off-nil : (parts : List P) (items : List T) (x : T) (xs : List T) → length parts < 1 → items ≡ x ∷ xs → Rel parts items → ⊥
  off-nil [] items x xs less some r = let n : length (x ∷ xs) ≡ 0 = ap length (sym some ∙ r) in omega arith
  off-nil (p ∷ ps) items x xs less some r = absurd (omega arith)

  pub at-run-last : (parts : List P) (part : P) (items : List T) → 1 ≤ length parts → part ≡ get_or parts 0 part → takes_any part ≡ true → length (rest_of parts) < 1 → Rel parts items
  at-run-last parts part items more is h none =
      subst (λ (l : List P). Rel l items) (sym (first-parts parts part more is ∙ ap (λ l. part ∷ l) (no-items (rest_of parts) none)))
      (items, ([], (sym (append-nil items), (inl h, refl))))

  pub on-run-empty : (parts : List P) (part : P) (items : List T) → 1 ≤ length parts → part ≡ get_or parts 0 part → items ≡ [] → (Rel (rest_of parts) items → ⊥) → (k : ℕ) → Rel parts (drop k items) → ⊥
  on-run-empty parts part items more is none not k r = at-run-empty parts part items more is (let n : length items ≡ 0 = ap length none in omega arith) not k r

  pub on-one-empty : (parts : List P) (part : P) (items : List T) → 1 ≤ length parts → part ≡ get_or parts 0 part → items ≡ [] → takes_any part ≡ false → (k : ℕ) → Rel parts (drop k items) → ⊥
  on-one-empty parts part items more is none h k r = at-one-empty parts part items more is (let n : length items ≡ 0 = ap length none in omega arith) h k r

  pub on-run-step : (f : Found) (parts : List P) (part : P) (items : List T) (x : T) (xs : List T) → 1 ≤ length parts → part ≡ get_or parts 0 part → items ≡ x ∷ xs → takes_any part ≡ true → (Rel (rest_of parts) items → ⊥) → Found_of f parts xs → Found_of f parts items
  on-run-step f parts part items x xs more is some h not found =
      let whole = first-parts parts part more is in
      subst (λ (l : List T). Found_of f parts l) (sym some)
      (subst (λ (l : List P). Found_of f l (x ∷ xs)) (sym whole)
      (run-step f part (rest_of parts) x xs h (λ r. not (subst (Rel (rest_of parts)) (sym some) r)) (subst (λ (l : List P). Found_of f l xs) whole found)))

  pub on-one-step : (f : Found) (parts : List P) (part : P) (items : List T) (x : T) (xs : List T) → 1 ≤ length parts → part ≡ get_or parts 0 part → items ≡ x ∷ xs → takes_any part ≡ false → Holds part x → Found_of f (rest_of parts) xs → Found_of f parts items
  on-one-step f parts part items x xs more is some h holds found =
      subst (λ (l : List P). Found_of f l items) (sym (first-parts parts part more is))
      (subst (λ (l : List T). Found_of f (part ∷ rest_of parts) l) (sym some) (one-step f part (rest_of parts) x xs h holds found))

  pub on-one-off : (parts : List P) (part : P) (items : List T) (x : T) (xs : List T) → 1 ≤ length parts → part ≡ get_or parts 0 part → items ≡ x ∷ xs → takes_any part ≡ false → (Holds part x → ⊥) → Rel parts items → ⊥
  on-one-off parts part items x xs more is some h off r =
      off (one-parts part (rest_of parts) x xs h (subst (λ (l : List P). Rel l (x ∷ xs)) (first-parts parts part more is) (subst (Rel parts) some r))).0

  pub on-back-empty : (parts : List P) (last : P) (items : List T) → 1 ≤ length parts → last ≡ get_or parts (length parts - 1) last → takes_any last ≡ false → items ≡ [] → Rel parts items → ⊥
  on-back-empty parts last items more is h none r = at-back-empty parts last items more is h (let n : length items ≡ 0 = ap length none in omega arith) r

  pub on-back : (parts : List P) (last : P) (items : List T) (x : T) (xs : List T) → 1 ≤ length parts → last ≡ get_or parts (length parts - 1) last → items ≡ xs ++ x ∷ [] → takes_any last ≡ false
      → Rel parts items ↔ (Holds last x × Rel (take (length parts - 1) parts) xs)
  on-back parts last items x xs more is some h =
      let front = take (length parts - 1) parts in
      let whole = last-parts parts last more is in (
        (λ r.
            let w = snoc-parts front last items h (subst (λ (l : List P). Rel l items) whole r) in
            let same = same-ends w.0 xs w.1.0 x (sym w.1.1.0 ∙ some) in
            (subst (Holds last) same.1 w.1.1.1.0, subst (Rel front) same.0 w.1.1.1.1)),
        (λ b. subst (λ (l : List P). Rel l items) (sym whole) (subst (λ (l : List T). Rel (front ++ last ∷ []) l) (sym some) (snoc-make front last xs x h b.0 b.1))),
      )
