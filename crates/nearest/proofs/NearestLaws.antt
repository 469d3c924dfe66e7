-- Laws of the name that is found: of any names there is a best one or none is near, and the search finds that.
use Rattle.std.proofs.Common.{◌≡◌, ◌≤◌, ◌<◌, ◌+◌, ◌&&◌, ◌||◌, ◌++◌, ◌∙◌, ℕ, Bool, true, false, List, [], ◌∷◌, Option, Some, None, length, get_or, map, take, nat_le, not, refl, sym, ap, subst, if◌then◌else◌, arith, append_assoc}
use Rattle.std.specs.List.{All, find, list_all}
use Rattle.std.specs.Option.{option_or}
use Rattle.std.proofs.lemmas.Bool.Decides.{nat_tests}
use Rattle.std.proofs.lemmas.List.{append-nil, map-append, take_more}
use Rattle.std.proofs.lemmas.List.Elements.{All-head, All-nil, All-push, All-tail, All-weaker}
use Rattle.std.proofs.lemmas.List.Folds.{find-append, list_all-append}
use Rattle.std.proofs.lemmas.List.Sums.{list_all-from_AllPass}
use Rattle.nearest.specs.Nearness.{edits, is_near, is_as_near, is_nearest, nearest, IsFirstNearest}
use Rattle.nearest.specs.PrivateNearness.{better, fewer, IsBest}

abbrev IsFar : List ℕ → List ℕ → Type 0
IsFar word name = is_near word name ≡ false

abbrev TakesNoMore : List ℕ → List ℕ → List ℕ → Type 0
TakesNoMore word name other = is_near word other ≡ true → edits word name ≤ edits word other

abbrev TakesFewer : List ℕ → List ℕ → List ℕ → Type 0
TakesFewer word name other = is_near word other ≡ true → edits word name < edits word other

never : (t : Bool) → t ≡ false → t ≡ true → ⊥
never t e f = cc

-- ---- the best so far, and one more name

first_near : (word : List ℕ) (seen : List (List ℕ)) (name : List ℕ) → All (IsFar word) seen → is_near word name ≡ true
    → IsFirstNearest word (seen ++ name ∷ []) name
first_near word seen name far near = record {
  front = seen;
  back = [];
  is = refl;
  near = near;
  fewest = All-push (TakesNoMore word name) seen name
      (All-weaker (IsFar word) (TakesNoMore word name) (λ other e f. absurd (never (is_near word other) e f)) seen far) (λ f. omega arith);
  first = All-weaker (IsFar word) (TakesFewer word name) (λ other e f. absurd (never (is_near word other) e f)) seen far;
}

nearer : (word : List ℕ) (seen : List (List ℕ)) (best name : List ℕ) → IsFirstNearest word seen best → is_near word name ≡ true
    → edits word name < edits word best → IsFirstNearest word (seen ++ name ∷ []) name
nearer word seen best name found near less = record {
  front = seen;
  back = [];
  is = refl;
  near = near;
  fewest = All-push (TakesNoMore word name) seen name
      (All-weaker (TakesNoMore word best) (TakesNoMore word name) (λ other h f. omega (arith, h f, less)) seen found.fewest) (λ f. omega arith);
  first = All-weaker (TakesNoMore word best) (TakesFewer word name) (λ other h f. omega (arith, h f, less)) seen found.fewest;
}

no_nearer : (word : List ℕ) (seen : List (List ℕ)) (best name : List ℕ) → IsFirstNearest word seen best → TakesNoMore word best name
    → IsFirstNearest word (seen ++ name ∷ []) best
no_nearer word seen best name found more = record {
  front = found.front;
  back = found.back ++ name ∷ [];
  is = ap (λ (names : List (List ℕ)). names ++ name ∷ []) found.is ∙ append_assoc found.front (best ∷ found.back) (name ∷ []);
  near = found.near;
  fewest = All-push (TakesNoMore word best) seen name found.fewest more;
  first = found.first;
}

best_by : (word : List ℕ) (seen : List (List ℕ)) (best : Option (List ℕ)) (name : List ℕ) (near less : Bool) → is_near word name ≡ near
    → fewer word best name ≡ less → IsBest word seen best → IsBest word (seen ++ name ∷ []) (if near && less then Some name else best)
best_by word seen None name true true e f h = first_near word seen name h e
best_by word seen None name true false e f h = absurd (never true f refl)
best_by word seen None name false less e f h = All-push (IsFar word) seen name h e
best_by word seen (Some best) name true true e f h = nearer word seen best name h e (grind (arith, nat_tests, f))
best_by word seen (Some best) name true false e f h = no_nearer word seen best name h (λ g. grind (arith, nat_tests, f))
best_by word seen (Some best) name false less e f h = no_nearer word seen best name h (λ g. absurd (never (is_near word name) e g))

-- the better of the best so far and of the next name is the best of both
pub IsBest-more : (word : List ℕ) (seen : List (List ℕ)) (best : Option (List ℕ)) (name : List ℕ) → IsBest word seen best
    → IsBest word (seen ++ name ∷ []) (better word best name)
IsBest-more word seen best name h = best_by word seen best name (is_near word name) (fewer word best name) refl refl h

-- the same of the first names of a list, and of what is taken for its names
pub IsBest-next : {A : Type 0} (word : List ℕ) (name : A → List ℕ) (all : List A) (at : ℕ) (d : A) (best found : Option (List ℕ)) → at < length all
    → found ≡ better word best (name (get_or all at d)) → IsBest word (map name (take at all)) best → IsBest word (map name (take (at + 1) all)) found
IsBest-next word name all at d best found l e h =
    let more = ap (map name) (take_more all at d l) ∙ map-append name (take at all) (get_or all at d ∷ []) in
    subst (λ (names : List (List ℕ)). IsBest word names found) (sym more)
    (subst (λ (it : Option (List ℕ)). IsBest word (map name (take at all) ++ name (get_or all at d) ∷ []) it) (sym e)
    (IsBest-more word (map name (take at all)) best (name (get_or all at d)) h))

-- ---- of any names there is a best one, or none is near

best_from : (word : List ℕ) (seen : List (List ℕ)) (best : Option (List ℕ)) (names : List (List ℕ)) → IsBest word seen best
    → (found : Option (List ℕ)) × IsBest word (seen ++ names) found
best_from word seen best [] h = (best, subst (λ (all : List (List ℕ)). IsBest word all best) (sym (append-nil seen)) h)
best_from word seen best (name ∷ names) h =
    let rest = best_from word (seen ++ name ∷ []) (better word best name) names (IsBest-more word seen best name h) in
    (rest.0, subst (λ (all : List (List ℕ)). IsBest word all rest.0) (append_assoc seen (name ∷ []) names) rest.1)

some_best : (word : List ℕ) (names : List (List ℕ)) → (found : Option (List ℕ)) × IsBest word names found
some_best word names = best_from word [] None names (All-nil (IsFar word))

-- ---- it is what the search finds

find_none : (test : List ℕ → Bool) (names : List (List ℕ)) → All (λ name. test name ≡ false) names → find test names ≡ None
find_none test [] h = refl
find_none test (name ∷ names) h =
    ap (λ t. if t then Some name else find test names) (All-head (λ it. test it ≡ false) name names h)
    ∙ find_none test names (All-tail (λ it. test it ≡ false) name names h)

far_fails : (word : List ℕ) (names : List (List ℕ)) (name : List ℕ) → IsFar word name → is_nearest word names name ≡ false
unfolding is_nearest
far_fails word names name e = ap (λ t. t && list_all (λ other. is_as_near word name other) names) e

and_false : (t : Bool) → (t && false) ≡ false
and_false true = refl
and_false false = refl

as_near : (near : Bool) (one other : ℕ) → (near ≡ true → one ≤ other) → (not near || nat_le one other) ≡ true
as_near true one other h = grind (arith, nat_tests, h refl)
as_near false one other h = refl

further : (near : Bool) (one other : ℕ) → near ≡ true → other < one → (not near || nat_le one other) ≡ false
further true one other e l = grind (arith, nat_tests)
further false one other e l = absurd (never false refl e)

further_fails : (word : List ℕ) (names : List (List ℕ)) (found : List ℕ) → IsFirstNearest word names found → (other : List ℕ) (near : Bool)
    → is_near word other ≡ near → TakesFewer word found other → is_nearest word names other ≡ false
unfolding is_nearest
further_fails word names found h other false e fewer = far_fails word names other e
further_fails word names found h other true e fewer =
    let test = λ (it : List ℕ). is_as_near word other it in
    let fails : test found ≡ false = further (is_near word found) (edits word other) (edits word found) h.near (fewer e) in
    let all : list_all test names ≡ false =
    ap (λ (them : List (List ℕ)). list_all test them) h.is
    ∙ list_all-append test h.front (found ∷ h.back)
    ∙ ap (λ t. list_all test h.front && (t && list_all test h.back)) fails
    ∙ and_false (list_all test h.front) in
    ap (λ t. is_near word other && t) all ∙ and_false (is_near word other)

nearest_passes : (word : List ℕ) (names : List (List ℕ)) (found : List ℕ) → IsFirstNearest word names found → is_nearest word names found ≡ true
unfolding is_nearest
nearest_passes word names found h =
    ap (λ t. t && list_all (λ other. is_as_near word found other) names) h.near
    ∙ list_all-from_AllPass (λ other. is_as_near word found other) names
    (All-weaker (TakesNoMore word found) (λ other. is_as_near word found other ≡ true)
    (λ other g. as_near (is_near word other) (edits word found) (edits word other) g) names h.fewest)

-- what is best is found
pub nearest-is : (word : List ℕ) (names : List (List ℕ)) (found : Option (List ℕ)) → IsBest word names found → nearest word names ≡ found
unfolding nearest
nearest-is word names None h =
    find_none (λ name. is_nearest word names name) names
    (All-weaker (IsFar word) (λ name. is_nearest word names name ≡ false) (far_fails word names) names h)
nearest-is word names (Some found) h =
    let test = λ (name : List ℕ). is_nearest word names name in
    let none : find test h.front ≡ None =
    find_none test h.front
    (All-weaker (TakesFewer word found) (λ name. test name ≡ false)
    (λ other g. further_fails word names found h other (is_near word other) refl g) h.front h.first) in
    ap (λ (them : List (List ℕ)). find test them) h.is
    ∙ find-append test h.front (found ∷ h.back)
    ∙ ap (λ (o : Option (List ℕ)). option_or o (find test (found ∷ h.back))) none
    ∙ ap (λ t. if t then Some found else find test h.back) (nearest_passes word names found h)

-- and what is found is best
pub nearest-best : (word : List ℕ) (names : List (List ℕ)) (found : Option (List ℕ)) → nearest word names ≡ found → IsBest word names found
nearest-best word names found e =
    let best = some_best word names in
    subst (λ (it : Option (List ℕ)). IsBest word names it) (sym (nearest-is word names best.0 best.1) ∙ e) best.1
