-- Laws of reading: `cleaned` alone gives clean forms, and what callers use: texts read back, what is read is clean, and a text
-- may be cut at a slash.
use Rattle.std.specs.Prelude.{◌≡◌, ◌-◌, ◌<◌, ◌≤◌, ◌==◌, ◌⊎◌, ℕ, Bool, true, false, cond, Some, None, List, [], ◌∷◌, ◌++◌, if◌then◌else◌, length, take, not, nat_lt, refl}
use Rattle.std.specs.List.{list_all, onto_first, join_with_byte, All}
use Rattle.std.proofs.Common.{sym, ◌∙◌, ap, inl, inr, append_assoc, arith, suc, zero}
use Rattle.std.proofs.lemmas.Bool.{and_parts, and_from, not-true, false≢true, ltb-false, le-ltb}
use Rattle.std.proofs.lemmas.List.{append-nil}
use Rattle.std.proofs.lemmas.List.Folds.{list_all-append}
use Rattle.std.proofs.lemmas.List.Splits.{slice_split_none, slice_split_at, length-slice_split}
use Rattle.paths.specs.Path.{is_idle, is_up, is_whole, is_normal, is_name, are_short, climbed, rooted, text_of, IsClean}
use Rattle.paths.proofs.PathLaws.{climbed-append}
use Rattle.paths.specs.Reading.{pieces, stepped, walked, cleaned, IsCleaning, is_absolute, read_from, limit_of}
use Rattle.paths.specs.declared.fault.PathLimit.TheVariants.{TooDeep, TooLong}

-- one piece

stepped-idle : (p : List (List ℕ)) (piece : List ℕ) → is_idle piece ≡ true → stepped p piece ≡ p
stepped-idle p piece h = rw h refl

up_not_idle : (piece : List ℕ) → is_up piece ≡ true → is_idle piece ≡ false
up_not_idle [] h = absurd (false≢true h)
up_not_idle (b ∷ []) h = absurd (false≢true h)
up_not_idle (b ∷ c ∷ bs) h = refl

stepped-up : (p : List (List ℕ)) (piece : List ℕ) → is_up piece ≡ true → stepped p piece ≡ climbed p
stepped-up p piece h = rw (up_not_idle piece h, h) refl

stepped-other : (p : List (List ℕ)) (piece : List ℕ) → is_idle piece ≡ false → is_up piece ≡ false → stepped p piece ≡ p ++ piece ∷ []
stepped-other p piece i u = rw (i, u) refl

stepped-name : (p : List (List ℕ)) (piece : List ℕ) → is_normal piece ≡ true → stepped p piece ≡ p ++ piece ∷ []
stepped-name p piece h =
    let both = and_parts (not (is_idle piece)) (not (is_up piece)) h in
    stepped-other p piece (not-true (is_idle piece) both.0) (not-true (is_up piece) both.1)

-- many pieces

pub walked-append : (p front back : List (List ℕ)) → walked p (front ++ back) ≡ walked (walked p front) back
walked-append p [] back = refl
walked-append p (piece ∷ front) back = walked-append (stepped p piece) front back

pub walked-names : (p names : List (List ℕ)) → list_all is_normal names ≡ true → walked p names ≡ p ++ names
walked-names p [] h = sym (append-nil p)
walked-names p (name ∷ names) h =
    let both = and_parts (is_normal name) (list_all is_normal names) h in
    ap (λ q. walked q names) (stepped-name p name both.0) ∙ (walked-names (p ++ name ∷ []) names both.1 ∙ append_assoc p (name ∷ []) names)

walked-idle : (p front back : List (List ℕ)) (piece : List ℕ) → is_idle piece ≡ true → walked p (front ++ piece ∷ back) ≡ walked p (front ++ back)
walked-idle p [] back piece h = ap (λ q. walked q back) (stepped-idle p piece h)
walked-idle p (f ∷ front) back piece h = walked-idle (stepped p f) front back piece h

walked-cancel : (p front back : List (List ℕ)) (name up : List ℕ) → is_normal name ≡ true → is_up up ≡ true → walked p (front ++ name ∷ up ∷ back) ≡ walked p (front ++ back)
walked-cancel p [] back name up n u =
    ap (λ q. walked (stepped q up) back) (stepped-name p name n) ∙ ap (λ q. walked q back) (stepped-up (p ++ name ∷ []) up u ∙ climbed-append p name)
walked-cancel p (f ∷ front) back name up n u = walked-cancel (stepped p f) front back name up n u

pub cleaned-IsCleaning : IsCleaning cleaned
cleaned-IsCleaning = record {
  idle = λ front back piece h. walked-idle [] front back piece h;
  cancel = λ front back name up n u. walked-cancel [] front back name up n u;
  top = λ back up u. ap (λ q. walked q back) (stepped-up [] up u);
  names = λ p h. walked-names [] p h;
}

-- a list is empty or has a last element
ends : (p : List (List ℕ)) → (p ≡ []) ⊎ ((front : List (List ℕ)) × (last : List ℕ) × (p ≡ front ++ last ∷ []))
ends [] = inl refl
ends (c ∷ cs) = inr (elim (ends cs) [ inl e ↦ ([], c, ap (λ x. c ∷ x) e) | inr w ↦ (c ∷ w.0, w.1, ap (λ x. c ∷ x) w.2) ])

module _ (f : List (List ℕ) → List (List ℕ)) (o : IsCleaning f) where
  only_up : (p ps : List (List ℕ)) (up : List ℕ) → is_up up ≡ true → list_all is_normal p ≡ true → ((q : List (List ℕ)) → list_all is_normal q ≡ true → f (q ++ ps) ≡ walked q ps) → ((p ≡ []) ⊎ ((front : List (List ℕ)) × (last : List ℕ) × (p ≡ front ++ last ∷ []))) → f (p ++ up ∷ ps) ≡ walked (climbed p) ps
  only_up p ps up u h more (inl e) = rw e (o.top ps up u ∙ more [] refl)
  only_up p ps up u h more (inr w) =
      let split = list_all-append is_normal w.0 (w.1 ∷ []) in
      let all = and_parts (list_all is_normal w.0) (list_all is_normal (w.1 ∷ [])) (sym split ∙ (ap (λ x. list_all is_normal x) (sym w.2) ∙ h)) in
      let last = and_parts (is_normal w.1) true all.1 in
      rw w.2 (ap f (append_assoc w.0 (w.1 ∷ []) (up ∷ ps)) ∙ (o.cancel w.0 ps w.1 up last.0 u ∙ (more w.0 all.0 ∙ ap (λ q. walked q ps) (sym (climbed-append w.0 w.1)))))

  only_more : (p ps : List (List ℕ)) (piece : List ℕ) → list_all is_normal p ≡ true → ((q : List (List ℕ)) → list_all is_normal q ≡ true → f (q ++ ps) ≡ walked q ps) → (i u : Bool) → is_idle piece ≡ i → is_up piece ≡ u → f (p ++ piece ∷ ps) ≡ walked p (piece ∷ ps)
  only_more p ps piece h more true u i_is u_is =
      o.idle p ps piece i_is ∙ (more p h ∙ ap (λ q. walked q ps) (sym (stepped-idle p piece i_is)))
  only_more p ps piece h more false true i_is u_is =
      only_up p ps piece u_is h more (ends p) ∙ ap (λ q. walked q ps) (sym (stepped-up p piece u_is))
  only_more p ps piece h more false false i_is u_is =
      let naming : is_normal piece ≡ true = rw (i_is, u_is) refl in
      let all : list_all is_normal (p ++ piece ∷ []) ≡ true = rw (list_all-append is_normal p (piece ∷ [])) (and_from _ _ h (and_from _ _ naming refl)) in
      ap f (sym (append_assoc p (piece ∷ []) ps)) ∙ (more (p ++ piece ∷ []) all ∙ ap (λ q. walked q ps) (sym (stepped-other p piece i_is u_is)))

  pub only_walk : (p ps : List (List ℕ)) → list_all is_normal p ≡ true → f (p ++ ps) ≡ walked p ps
  only_walk p [] h = ap f (append-nil p) ∙ o.names p h
  only_walk p (piece ∷ ps) h = only_more p ps piece h (λ q n. only_walk q ps n) (is_idle piece) (is_up piece) refl refl

-- no other function gives clean forms
pub only_cleaning : (f : List (List ℕ) → List (List ℕ)) → IsCleaning f → (ps : List (List ℕ)) → f ps ≡ cleaned ps
only_cleaning f o ps = only_walk f o [] ps refl

-- names

naming_names : (p : List (List ℕ)) → list_all is_name p ≡ true → list_all is_normal p ≡ true
naming_names [] h = refl
naming_names (c ∷ cs) h =
    let both = and_parts (is_name c) (list_all is_name cs) h in
    let name = and_parts (is_normal c) (is_whole c) both.0 in
    and_from (is_normal c) (list_all is_normal cs) name.0 (naming_names cs both.1)

pub whole_names : (p : List (List ℕ)) → list_all is_name p ≡ true → list_all is_whole p ≡ true
whole_names [] h = refl
whole_names (c ∷ cs) h =
    let both = and_parts (is_name c) (list_all is_name cs) h in
    let name = and_parts (is_normal c) (is_whole c) both.0 in
    and_from (is_whole c) (list_all is_whole cs) name.1 (whole_names cs both.1)

pub list_all-take : (test : List ℕ → Bool) (n : ℕ) (p : List (List ℕ)) → list_all test p ≡ true → list_all test (take n p) ≡ true
list_all-take test zero p h = refl
list_all-take test (suc n) [] h = refl
list_all-take test (suc n) (c ∷ cs) h =
    let both = and_parts (test c) (list_all test cs) h in
    and_from (test c) (list_all test (take n cs)) both.0 (list_all-take test n cs both.1)

names-by : (p : List (List ℕ)) (piece : List ℕ) → list_all is_name p ≡ true → is_whole piece ≡ true → (i u : Bool) → is_idle piece ≡ i → is_up piece ≡ u → list_all is_name (stepped p piece) ≡ true
names-by p piece h w true u i_is u_is = ap (list_all is_name) (stepped-idle p piece i_is) ∙ h
names-by p piece h w false true i_is u_is = ap (list_all is_name) (stepped-up p piece u_is) ∙ list_all-take is_name (length p - 1) p h
names-by p piece h w false false i_is u_is =
    let name : is_name piece ≡ true = rw (i_is, u_is) w in
    ap (list_all is_name) (stepped-other p piece i_is u_is) ∙ (list_all-append is_name p (piece ∷ []) ∙ and_from (list_all is_name p) (list_all is_name (piece ∷ [])) h (and_from (is_name piece) true name refl))

pub names-walked : (p ps : List (List ℕ)) → list_all is_name p ≡ true → list_all is_whole ps ≡ true → list_all is_name (walked p ps) ≡ true
names-walked p [] h w = h
names-walked p (piece ∷ ps) h w =
    let both = and_parts (is_whole piece) (list_all is_whole ps) w in
    names-walked (stepped p piece) ps (names-by p piece h both.0 (is_idle piece) (is_up piece) refl refl) both.1

-- pieces

whole-by : (b : ℕ) (ps : List (List ℕ)) → list_all is_whole ps ≡ true → (e : Bool) → (b == 47) ≡ e → list_all is_whole (cond e ([] ∷ ps) (onto_first b ps)) ≡ true
whole-by b ps h true e_is = h
whole-by b [] h false e_is = rw e_is refl
whole-by b (piece ∷ ps) h false e_is = rw e_is h

pub whole-pieces : (text : List ℕ) → list_all is_whole (pieces text) ≡ true
whole-pieces [] = refl
whole-pieces (b ∷ bs) = whole-by b (pieces bs) (whole-pieces bs) (b == 47) refl

no_slash : (piece : List ℕ) → is_whole piece ≡ true → All (λ b. (b == 47) ≡ false) piece
no_slash [] h k d l = absurd (omega arith)
no_slash (b ∷ bs) h zero d l = not-true (b == 47) (and_parts (not (b == 47)) (is_whole bs) h).0
no_slash (b ∷ bs) h (suc k) d l = no_slash bs (and_parts (not (b == 47)) (is_whole bs) h).1 k d (omega arith)

-- whole pieces, joined by slashes, are the pieces of that text
pub pieces-join : (piece : List ℕ) (ps : List (List ℕ)) → is_whole piece ≡ true → list_all is_whole ps ≡ true → pieces (join_with_byte 47 (piece ∷ ps)) ≡ piece ∷ ps
pieces-join piece [] h w = slice_split_none (λ b. b == 47) piece (no_slash piece h)
pieces-join piece (q ∷ qs) h w =
    let both = and_parts (is_whole q) (list_all is_whole qs) w in
    slice_split_at (λ b. b == 47) piece 47 (join_with_byte 47 (q ∷ qs)) (no_slash piece h) refl ∙ ap (λ x. piece ∷ x) (pieces-join q qs both.0 both.1)

onto_first-append : (b : ℕ) (ps qs : List (List ℕ)) → 0 < length ps → onto_first b (ps ++ qs) ≡ onto_first b ps ++ qs
onto_first-append b [] qs h = absurd (omega arith)
onto_first-append b (p ∷ ps) qs h = refl

pub some_pieces : (text : List ℕ) → 0 < length (pieces text)
some_pieces text = let e = length-slice_split (λ b. b == 47) text in omega arith

cut-by : (b : ℕ) (ps qs : List (List ℕ)) → 0 < length ps → (e : Bool) → cond e ([] ∷ (ps ++ qs)) (onto_first b (ps ++ qs)) ≡ cond e ([] ∷ ps) (onto_first b ps) ++ qs
cut-by b ps qs h true = refl
cut-by b ps qs h false = onto_first-append b ps qs h

-- a text may be cut at a slash
pub pieces-append : (front rest : List ℕ) → pieces (front ++ 47 ∷ rest) ≡ pieces front ++ pieces rest
pieces-append [] rest = refl
pieces-append (b ∷ front) rest =
    ap (λ x. cond (b == 47) ([] ∷ x) (onto_first b x)) (pieces-append front rest) ∙ cut-by b (pieces front) (pieces rest) (some_pieces front) (b == 47)

-- reading

pub rooted-join : (c : List ℕ) (cs : List (List ℕ)) → c ++ rooted cs ≡ join_with_byte 47 (c ∷ cs)
rooted-join c [] = append-nil c
rooted-join c (d ∷ ds) = ap (λ x. c ++ (47 ∷ x)) (rooted-join d ds)

walked-text_of : (p : List (List ℕ)) → list_all is_name p ≡ true → walked [] (pieces (text_of p)) ≡ p
walked-text_of [] h = refl
walked-text_of (c ∷ cs) h =
    let whole = and_parts (is_whole c) (list_all is_whole cs) (whole_names (c ∷ cs) h) in
    ap (λ x. walked [] (pieces x)) (rooted-join c cs) ∙ (ap (λ x. walked [] x) (pieces-join c cs whole.0 whole.1) ∙ walked-names [] (c ∷ cs) (naming_names (c ∷ cs) h))

-- the text of a path reads back to it, whatever the base
pub read_from-text_of : (p base : List (List ℕ)) → list_all is_name p ≡ true → read_from (text_of p) base ≡ p
read_from-text_of [] base h = refl
read_from-text_of (c ∷ cs) base h = walked-text_of (c ∷ cs) h

limit-by : (p : List (List ℕ)) (deep short : Bool) → nat_lt 64 (length p) ≡ deep → are_short p ≡ short → limit_of p ≡ None → (length p ≤ 64) × (are_short p ≡ true)
limit-by p true short d s h = let e : Some TooDeep ≡ None = sym (rw d refl) ∙ h in cc
limit-by p false true d s h = (ltb-false 64 (length p) d, s)
limit-by p false false d s h = let e : Some TooLong ≡ None = sym (rw (d, s) refl) ∙ h in cc

pub limit_of-none : (p : List (List ℕ)) → limit_of p ≡ None → (length p ≤ 64) × (are_short p ≡ true)
limit_of-none p h = limit-by p (nat_lt 64 (length p)) (are_short p) refl refl h

pub limit_of-clean : (p : List (List ℕ)) → IsClean p → limit_of p ≡ None
limit_of-clean p h =
    let shallow : nat_lt 64 (length p) ≡ false = le-ltb 64 (length p) h.few in
    rw (shallow, h.short) refl

names-start : (absolute : Bool) (base : List (List ℕ)) → list_all is_name base ≡ true → list_all is_name (cond absolute [] base) ≡ true
names-start true base h = refl
names-start false base h = h

-- what is read has names only
pub names-read_from : (text : List ℕ) (base : List (List ℕ)) → list_all is_name base ≡ true → list_all is_name (read_from text base) ≡ true
names-read_from text base h = names-walked (cond (is_absolute text) [] base) (pieces text) (names-start (is_absolute text) base h) (whole-pieces text)

-- what is read is clean where no limit is broken
pub read_from-clean : (text : List ℕ) (base : List (List ℕ)) → IsClean base → limit_of (read_from text base) ≡ None → IsClean (read_from text base)
read_from-clean text base h l =
    let both = limit_of-none (read_from text base) l in
    record { names = names-read_from text base h.names; short = both.1; few = both.0 }

start-cleaned : (absolute : Bool) (base ps : List (List ℕ)) → list_all is_name base ≡ true → walked (cond absolute [] base) ps ≡ cleaned (cond absolute ps (base ++ ps))
start-cleaned true base ps h = refl
start-cleaned false base ps h =
    sym (walked-append [] base ps ∙ ap (λ q. walked q ps) (walked-names [] base (naming_names base h)))

-- reading is the clean form of the base's components, unless the text is absolute, and then the text's pieces
pub read_from-cleaned : (text : List ℕ) (base : List (List ℕ)) → IsClean base → read_from text base ≡ cleaned (if is_absolute text then pieces text else base ++ pieces text)
read_from-cleaned text base h = start-cleaned (is_absolute text) base (pieces text) h.names

-- reading a text is reading its front, and then the rest behind a slash from there
pub read_from-append : (b : ℕ) (front rest : List ℕ) (base : List (List ℕ)) → is_absolute rest ≡ false → read_from (b ∷ front ++ 47 ∷ rest) base ≡ read_from rest (read_from (b ∷ front) base)
read_from-append b front rest base h =
    let start = cond (b == 47) [] base in
    ap (λ x. walked start x) (pieces-append (b ∷ front) rest) ∙ (walked-append start (pieces (b ∷ front)) (pieces rest) ∙ ap (λ e. walked (cond e [] (read_from (b ∷ front) base)) (pieces rest)) (sym h))
