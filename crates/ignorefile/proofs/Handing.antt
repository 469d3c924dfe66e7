-- What is decided of folders, handed down from path to path, and the making of the index.
use Rattle.std.specs.Prelude.{◌≡◌, ℕ, ◌+◌, ◌<◌, ◌≤◌, Bool, true, false, ◌==◌, cond, List, [], ◌∷◌, ◌++◌, ◌⊎◌, Some, None, take, length, get_or, slice_get, ◌↔◌, IsTrue, nat_lt}
use Rattle.std.proofs.Common.{sym, ap, refl, ◌∙◌, subst, inl, inr, true≢false, arith, zero, suc, set, eq-eqb}
use Rattle.std.proofs.lemmas.Bool.{ltb-true, ltb-false}
use Rattle.std.proofs.lemmas.Option.{same_Some, none-some}
use Rattle.std.proofs.lemmas.List.{append-nil, take_more, take-take, get_or-set_same, get_or-set_other}
use Rattle.std.specs.List.{AllZip}
use Rattle.std.specs.declared.cmp.Ordering.{Ordering}
use Rattle.std.specs.declared.cmp.Ordering.TheVariants.{Less, Equal, Greater}
use Rattle.std.specs.Ordering.{nat_cmp, is_eq}
use Rattle.std.specs.Cmp.{tied_itself}
use Rattle.std.specs.FinMap.{slice_cmp-IsAntisymmetric, nat_cmp-IsAntisymmetric}
use Rattle.std.specs.Map.{lookup}
use Rattle.std.specs.BTreeMap.{is_at}
use Rattle.std.specs.Cmp.Lexicographic.{slice_cmp, nat_list_cmp_total}
use Rattle.ignorefile.specs.declared.line.Line.{Line}
use Rattle.ignorefile.specs.declared.positions.Positions.{Positions}
use Rattle.ignorefile.specs.Kept.{Kept}
use Rattle.ignorefile.specs.PrivateRanks.{EndsIn, LastBegins, LiesIn, HasCount, Member, AreInOrder, IsVerdict, IsDecided, Lets, IsShared}
use Rattle.ignorefile.specs.PrivatePositions.{under, Enters}
use Rattle.ignorefile.specs.PrivateIndex.{IsIndex, IsAdded, StandsIn, named, positions_of}
use Rattle.ignorefile.proofs.Deciding.{decided-start, decided-more, decided-all}

-- the ranks of a path's fronts
abbrev pub Handed : List Line → List (List ℕ) → List ℕ → ℕ → Type 0
Handed lines names ranks n = (i : ℕ) → i ≤ n → IsDecided lines (take i names) (get_or ranks i 0)

pub handed-start : (lines : List Line) (ranks : List ℕ) (rank : ℕ) → get_or ranks 0 0 ≡ rank → IsVerdict lines [] 0 rank → Handed lines [] ranks 0
handed-start lines ranks rank is v zero l = subst (IsDecided lines []) (sym is) (decided-start lines rank v)
handed-start lines ranks rank is v (suc i) l = absurd (omega arith)

pub handed-more : (lines : List Line) (names : List (List ℕ)) (ranks : List ℕ) (d rank : ℕ) → d + 1 < length ranks → d < length names → Handed lines names ranks d → IsVerdict lines (take (d + 1) names) (get_or ranks d 0) rank → Handed lines names (set ranks (d + 1) rank) (d + 1)
handed-more lines names ranks d rank room less h v i l = by (nat_lt i (d + 1)) refl
  where
    by : (x : Bool) → nat_lt i (d + 1) ≡ x → IsDecided lines (take i names) (get_or (set ranks (d + 1) rank) i 0)
    by true e =
        let b = ltb-true i (d + 1) e in
        subst (IsDecided lines (take i names)) (sym (get_or-set_other ranks (d + 1) i rank 0 (λ same. omega arith))) (h i (omega arith))
    by false e =
        let b = ltb-false i (d + 1) e in
        let same : d + 1 ≡ i = omega arith in
        subst (λ (x : ℕ). IsDecided lines (take x names) (get_or (set ranks (d + 1) rank) x 0)) same
        (subst (IsDecided lines (take (d + 1) names)) (sym (get_or-set_same ranks (d + 1) rank 0 room)) (decided-more lines names (take (d + 1) names) d (get_or ranks d 0) rank less refl (h d (omega arith)) v))

-- two paths with the same first names have the same ranks there
pub handed-shared : (lines : List Line) (last names : List (List ℕ)) (ranks : List ℕ) (shared : ℕ) → IsShared last names shared → Handed lines last ranks (length last) → Handed lines names ranks shared
handed-shared lines last names ranks shared s h i l =
    let left = s.left in
    let same : take i last ≡ take i names = sym (take-take i shared last l) ∙ ap (take i) s.same ∙ take-take i shared names l in
    subst (λ (x : List (List ℕ)). IsDecided lines x (get_or ranks i 0)) same (h i (omega arith))

push-zip : {A B : Type 0} (R : A → B → Type 0) (xs : List A) (ys : List B) (x : A) (y : B) → AllZip R xs ys → R x y → AllZip R (xs ++ x ∷ []) (ys ++ y ∷ [])
push-zip R [] [] x y a r = (r, tt)
push-zip R [] (b ∷ bs) x y a r = absurd a
push-zip R (c ∷ cs) [] x y a r = absurd a
push-zip R (c ∷ cs) (b ∷ bs) x y a r = (a.0, push-zip R cs bs x y a.1 r)

abbrev pub Flags : {T : Type 0} → List Line → List (List (List ℕ) × T) → List Bool → Type 0
Flags lines rows flags = AllZip (λ row flag. IsTrue flag ↔ Kept lines row.0) rows flags

pub flags-none : (T : Type 0) (lines : List Line) (flags : List Bool) → flags ≡ [] → Flags {T = T} lines [] flags
flags-none T lines flags is = subst (λ (l : List Bool). Flags {T = T} lines [] l) (sym is) tt

pub flags-more : {T : Type 0} (lines : List Line) (rows : List (List (List ℕ) × T)) (flags flags' : List Bool) (i : ℕ) (row : List (List ℕ) × T) (names : List (List ℕ)) (ranks : List ℕ) (flag : Bool) → i < length rows → row ≡ get_or rows i row → names ≡ row.0
    → Flags lines (take i rows) flags → Handed lines names ranks (length names) → (IsTrue flag ↔ Lets lines (get_or ranks (length names) 0)) → flags' ≡ flags ++ flag ∷ [] → Flags lines (take (i + 1) rows) flags'
flags-more {T} lines rows flags flags' i row names ranks flag less is same old h lets done =
    let both = decided-all lines names row.0 (length names) (get_or ranks (length names) 0) (omega arith) same (h (length names) (omega arith)) in
    subst (λ (l : List Bool). Flags lines (take (i + 1) rows) l) (sym done)
    (subst (λ (x : List (List (List ℕ) × T)). Flags lines x (flags ++ flag ∷ [])) (sym (take_more rows i row less ∙ ap (λ (p : List (List ℕ) × T). take i rows ++ p ∷ []) (sym is)))
    (push-zip (λ row flag. IsTrue flag ↔ Kept lines row.0) (take i rows) flags row flag old ((λ t. both.0 (lets.0 t)), (λ k. lets.1 (both.1 k)))))

-- ---- the index

equal : (r : Ordering) → is_eq r ≡ true → r ≡ Equal
equal Less e = absurd (true≢false (sym e))
equal Equal e = refl
equal Greater e = absurd (true≢false (sym e))

name_same : (c d : List ℕ) → is_at (slice_cmp nat_cmp c) d ≡ true → c ≡ d
name_same c d e = slice_cmp-IsAntisymmetric nat_cmp-IsAntisymmetric c d (equal (slice_cmp nat_cmp c d) e)

pub added : (old new : List (List ℕ × List ℕ)) (name key : List ℕ) (number : ℕ) (numbers : List ℕ) → key ≡ name → numbers ≡ named old name ++ number ∷ []
    → ((q : List ℕ) → lookup (is_at (slice_cmp nat_cmp q)) new ≡ cond (is_at (slice_cmp nat_cmp key) q) (Some numbers) (lookup (is_at (slice_cmp nat_cmp q)) old)) → IsAdded old new name number
added old new name key number numbers same is at = record { at = λ q. ap positions_of (at q) ∙ by q (is_at (slice_cmp nat_cmp key) q) refl ∙ ap (λ k. cond (is_at (slice_cmp nat_cmp k) q) (named old q ++ number ∷ []) (named old q)) same }
  where
    by : (q : List ℕ) (b : Bool) → is_at (slice_cmp nat_cmp key) q ≡ b → positions_of (cond b (Some numbers) (lookup (is_at (slice_cmp nat_cmp q)) old)) ≡ cond b (named old q ++ number ∷ []) (named old q)
    by q true e = is ∙ ap (λ k. named old k ++ number ∷ []) (sym same ∙ name_same key q e)
    by q false e = refl

pub add-some : (old new : List (List ℕ × List ℕ)) (name : List ℕ) (number : ℕ) (before numbers : List ℕ) → Some before ≡ lookup (is_at (slice_cmp nat_cmp name)) old
    → ((q : List ℕ) → lookup (is_at (slice_cmp nat_cmp q)) new ≡ cond (is_at (slice_cmp nat_cmp name) q) (Some numbers) (lookup (is_at (slice_cmp nat_cmp q)) old)) → numbers ≡ before ++ number ∷ [] → IsAdded old new name number
add-some old new name number before numbers found at is = added old new name name number numbers refl (is ∙ ap (λ o. positions_of o ++ number ∷ []) found) at

pub add-none : (old old' new : List (List ℕ × List ℕ)) (name key : List ℕ) (number : ℕ) (empty numbers : List ℕ) → old' ≡ old → None ≡ lookup (is_at (slice_cmp nat_cmp name)) old → key ≡ name → empty ≡ [] → numbers ≡ empty ++ number ∷ []
    → ((q : List ℕ) → lookup (is_at (slice_cmp nat_cmp q)) new ≡ cond (is_at (slice_cmp nat_cmp key) q) (Some numbers) (lookup (is_at (slice_cmp nat_cmp q)) old')) → IsAdded old new name number
add-none old old' new name key number empty numbers same_old found same none is at =
    added old new name key number numbers same (is ∙ ap (λ e. e ++ number ∷ []) (none ∙ ap positions_of found)) (λ q. at q ∙ ap (λ o. cond (is_at (slice_cmp nat_cmp key) q) (Some numbers) (lookup (is_at (slice_cmp nat_cmp q)) o)) same_old)

pub member-more : (ns : List ℕ) (n m : ℕ) → Member m ns → Member m (ns ++ n ∷ [])
member-more [] n m (i, (l, e)) = absurd (omega arith)
member-more (x ∷ xs) n m (zero, (l, e)) = (zero, (omega arith, e))
member-more (x ∷ xs) n m (suc i, (l, e)) = let w = member-more xs n m (i, (omega arith, e)) in (suc w.0, (let q = w.1.0 in omega arith, w.1.1))

pub member-new : (ns : List ℕ) (n : ℕ) → Member n (ns ++ n ∷ [])
member-new [] n = (zero, (omega arith, refl))
member-new (x ∷ xs) n = let w = member-new xs n in (suc w.0, (let q = w.1.0 in omega arith, w.1.1))

pub member-either : (ns : List ℕ) (n m : ℕ) → Member m (ns ++ n ∷ []) → Member m ns ⊎ (m ≡ n)
member-either [] n m (zero, (l, e)) = inr (sym e)
member-either [] n m (suc i, (l, e)) = absurd (omega arith)
member-either (x ∷ xs) n m (zero, (l, e)) = inl (zero, (omega arith, e))
member-either (x ∷ xs) n m (suc i, (l, e)) = elim (member-either xs n m (i, (omega arith, e))) [ inl w ↦ inl (suc w.0, (let q = w.1.0 in omega arith, w.1.1)) | inr s ↦ inr s ]

get-snoc : (xs : List Line) (x y : Line) (m : ℕ) → slice_get (xs ++ x ∷ []) m ≡ Some y → (slice_get xs m ≡ Some y) ⊎ ((m ≡ length xs) × (x ≡ y))
get-snoc [] x y zero e = inr (refl, same_Some x y e)
get-snoc [] x y (suc m) e = absurd (none-some y e)
get-snoc (z ∷ zs) x y zero e = inl e
get-snoc (z ∷ zs) x y (suc m) e = elim (get-snoc zs x y m e) [ inl w ↦ inl w | inr w ↦ inr (let q = w.0 in omega arith, w.1) ]

pub length-snoc : {A : Type 0} (xs : List A) (x : A) → length (xs ++ x ∷ []) ≡ length xs + 1
length-snoc [] x = refl
length-snoc (y ∷ ys) x = let e = length-snoc ys x in omega arith

pub get-front : (ns : List ℕ) (n k : ℕ) → k < length ns → get_or (ns ++ n ∷ []) k 0 ≡ get_or ns k 0
get-front [] n k l = absurd (omega arith)
get-front (x ∷ xs) n zero l = refl
get-front (x ∷ xs) n (suc k) l = get-front xs n k (omega arith)

pub get-end : (ns : List ℕ) (n k : ℕ) → k ≡ length ns → get_or (ns ++ n ∷ []) k 0 ≡ n
get-end [] n zero e = refl
get-end [] n (suc k) e = absurd (omega arith)
get-end (x ∷ xs) n zero e = absurd (omega arith)
get-end (x ∷ xs) n (suc k) e = get-end xs n k (omega arith)

rise-more : (ns : List ℕ) (n : ℕ) → AreInOrder n ns → (i j : ℕ) → i < j → j < length (ns ++ n ∷ []) → get_or (ns ++ n ∷ []) i 0 < get_or (ns ++ n ∷ []) j 0
rise-more ns n order i j l m = by (nat_lt j (length ns)) refl
  where
    by : (x : Bool) → nat_lt j (length ns) ≡ x → get_or (ns ++ n ∷ []) i 0 < get_or (ns ++ n ∷ []) j 0
    by true e =
        let h = ltb-true j (length ns) e in
        let a = get-front ns n i (omega arith) in let b = get-front ns n j h in let r = order.rise i j l h in omega arith
    by false e =
        let h = ltb-false j (length ns) e in
        let s = length-snoc ns n in
        let a = get-front ns n i (omega arith) in let b = get-end ns n j (omega arith) in
        let w = order.within (get_or ns i 0) (i, (omega arith, refl)) in omega arith

-- positions stay, or get one more at their end
abbrev Grown : List ℕ → List ℕ → ℕ → Type 0
Grown old new n = (new ≡ old ++ n ∷ []) ⊎ (new ≡ old)

grown-keeps : (old new : List ℕ) (n m : ℕ) → Grown old new n → Member m old → Member m new
grown-keeps old new n m (inl more) r = subst (Member m) (sym more) (member-more old n m r)
grown-keeps old new n m (inr same) r = subst (Member m) (sym same) r

grown-order : (old new : List ℕ) (n bound : ℕ) → bound ≡ n + 1 → Grown old new n → AreInOrder n old → AreInOrder bound new
grown-order old new n bound is (inl more) order = subst (AreInOrder bound) (sym more) (record {
  within = λ m r. elim (member-either old n m r) [ inl w ↦ (let l = order.within m w in omega arith) | inr w ↦ omega arith ];
  rise = rise-more old n order;
})
grown-order old new n bound is (inr same) order = subst (AreInOrder bound) (sym same) (record {
  within = λ m r. let l = order.within m r in omega arith;
  rise = order.rise;
})

-- the lists of an index grow by a position and keep what they had
module _ (old new : List (List ℕ × List ℕ)) (name : List ℕ) (n : ℕ) (add : IsAdded old new name n) where
  named-grown : (q : List ℕ) → Grown (named old q) (named new q) n
  named-grown q = by (is_at (slice_cmp nat_cmp name) q) refl
    where
      by : (b : Bool) → is_at (slice_cmp nat_cmp name) q ≡ b → Grown (named old q) (named new q) n
      by true e = inl (add.at q ∙ ap (λ b. cond b (named old q ++ n ∷ []) (named old q)) e)
      by false e = inr (add.at q ∙ ap (λ b. cond b (named old q ++ n ∷ []) (named old q)) e)

  named-new : Member n (named new name)
  named-new =
      subst (Member n) (sym (add.at name ∙ ap (λ b. cond b (named old name ++ n ∷ []) (named old name)) (ap is_eq (tied_itself nat_list_cmp_total name)))) (member-new (named old name) n)

module _ (before after : Positions) (number n : ℕ) (enters : Enters before after number n) where
  under-grown : (q : ℕ) → Grown (under before q) (under after q) n
  under-grown q = by (q == number) refl
    where
      by : (b : Bool) → (q == number) ≡ b → Grown (under before q) (under after q) n
      by true e = inl (enters q ∙ ap (λ b. under before q ++ cond b (n ∷ []) []) e)
      by false e = inr (enters q ∙ ap (λ b. under before q ++ cond b (n ∷ []) []) e ∙ append-nil (under before q))

  under-new : Member n (under after number)
  under-new = subst (Member n) (sym (enters number ∙ ap (λ b. under before number ++ cond b (n ∷ []) []) (eq-eqb number number refl))) (member-new (under before number) n)

module _ (xs : List Line) (x : Line) (old new folders folders' : List (List ℕ × List ℕ)) (begins begins' before after : Positions) (others others' : List ℕ) (h : IsIndex xs old folders begins before others)
    (by_name : (q : List ℕ) → Grown (named old q) (named new q) (length xs)) (by_folder : (q : List ℕ) → Grown (named folders q) (named folders' q) (length xs)) (by_begin : (q : ℕ) → Grown (under begins q) (under begins' q) (length xs))
    (by_count : (q : ℕ) → Grown (under before q) (under after q) (length xs)) (rest : Grown others others' (length xs)) where
  keeps : (line : Line) (m : ℕ) → StandsIn line m old folders begins before others → StandsIn line m new folders' begins' after others'
  keeps line m (inl r) = inl (grown-keeps others others' (length xs) m rest r)
  keeps line m (inr (inl w)) = inr (inl (w.0, (w.1.0, grown-keeps (named old w.0) (named new w.0) (length xs) m (by_name w.0) w.1.1)))
  keeps line m (inr (inr (inl w))) = inr (inr (inl (w.0, (w.1.0, grown-keeps (under begins w.0) (under begins' w.0) (length xs) m (by_begin w.0) w.1.1))))
  keeps line m (inr (inr (inr (inl w)))) = inr (inr (inr (inl (w.0, (w.1.0, grown-keeps (named folders w.0) (named folders' w.0) (length xs) m (by_folder w.0) w.1.1)))))
  keeps line m (inr (inr (inr (inr w)))) = inr (inr (inr (inr (w.0, (w.1.0, grown-keeps (under before w.0) (under after w.0) (length xs) m (by_count w.0) w.1.1)))))

  index-more : StandsIn x (length xs) new folders' begins' after others' → IsIndex (xs ++ x ∷ []) new folders' begins' after others'
  index-more stands = record {
    there = λ m line at. elim (get-snoc xs x line m at) [
      | inl earlier ↦ keeps line m (h.there m line earlier)
      | inr w ↦ subst (λ (k : ℕ). StandsIn line k new folders' begins' after others') (sym w.0) (subst (λ (l : Line). StandsIn l (length xs) new folders' begins' after others') w.1 stands)
    ];
    named_order = λ q. grown-order (named old q) (named new q) (length xs) (length (xs ++ x ∷ [])) (length-snoc xs x) (by_name q) (h.named_order q);
    lying_order = λ q. grown-order (named folders q) (named folders' q) (length xs) (length (xs ++ x ∷ [])) (length-snoc xs x) (by_folder q) (h.lying_order q);
    begun_order = λ q. grown-order (under begins q) (under begins' q) (length xs) (length (xs ++ x ∷ [])) (length-snoc xs x) (by_begin q) (h.begun_order q);
    counted_order = λ q. grown-order (under before q) (under after q) (length xs) (length (xs ++ x ∷ [])) (length-snoc xs x) (by_count q) (h.counted_order q);
    others_order = grown-order others others' (length xs) (length (xs ++ x ∷ [])) (length-snoc xs x) rest h.others_order;
  }

length-front : (lines : List Line) (n : ℕ) → n < length lines → length (take n lines) ≡ n
length-front [] n l = absurd (omega arith)
length-front (x ∷ xs) zero l = refl
length-front (x ∷ xs) (suc n) l = let e = length-front xs n (omega arith) in omega arith

module _ (lines : List Line) (n : ℕ) (line : Line) (old folders : List (List ℕ × List ℕ)) (begins before : Positions) (others : List ℕ) (less : n < length lines) (is : line ≡ get_or lines n line) (h : IsIndex (take n lines) old folders begins before others) where
  to-front : (new folders' : List (List ℕ × List ℕ)) (begins' after : Positions) (others' : List ℕ) → IsIndex (take n lines ++ line ∷ []) new folders' begins' after others' → IsIndex (take (n + 1) lines) new folders' begins' after others'
  to-front new folders' begins' after others' index =
      subst (λ (l : List Line). IsIndex l new folders' begins' after others') (sym (take_more lines n line less ∙ ap (λ (l : Line). take n lines ++ l ∷ []) (sym is))) index

  pub index-more-named : (new : List (List ℕ × List ℕ)) (name : List ℕ) → EndsIn line name → IsAdded old new name n → IsIndex (take (n + 1) lines) new folders begins before others
  index-more-named new name ends add =
      let add' = subst (IsAdded old new name) (sym (length-front lines n less)) add in
      to-front new folders begins before others
      (index-more (take n lines) line old new folders folders begins begins before before others others h (λ q. named-grown old new name (length (take n lines)) add' q) (λ q. inr refl) (λ q. inr refl) (λ q. inr refl) (inr refl)
      (inr (inl (name, (ends, named-new old new name (length (take n lines)) add')))))

  pub index-more-lying : (folders' : List (List ℕ × List ℕ)) (name : List ℕ) → LiesIn line name → IsAdded folders folders' name n → IsIndex (take (n + 1) lines) old folders' begins before others
  index-more-lying folders' name lies add =
      let add' = subst (IsAdded folders folders' name) (sym (length-front lines n less)) add in
      to-front old folders' begins before others
      (index-more (take n lines) line old old folders folders' begins begins before before others others h (λ q. inr refl) (λ q. named-grown folders folders' name (length (take n lines)) add' q) (λ q. inr refl) (λ q. inr refl) (inr refl)
      (inr (inr (inr (inl (name, (lies, named-new folders folders' name (length (take n lines)) add')))))))

  pub index-more-begun : (begins' : Positions) (byte : ℕ) → LastBegins line byte → Enters begins begins' byte n → IsIndex (take (n + 1) lines) old folders begins' before others
  index-more-begun begins' byte first enters =
      let enters' = subst (Enters begins begins' byte) (sym (length-front lines n less)) enters in
      to-front old folders begins' before others
      (index-more (take n lines) line old old folders folders begins begins' before before others others h (λ q. inr refl) (λ q. inr refl) (λ q. under-grown begins begins' byte (length (take n lines)) enters' q) (λ q. inr refl) (inr refl)
      (inr (inr (inl (byte, (first, under-new begins begins' byte (length (take n lines)) enters'))))))

  pub index-more-counted : (after : Positions) (count : ℕ) → HasCount line count → Enters before after count n → IsIndex (take (n + 1) lines) old folders begins after others
  index-more-counted after count has enters =
      let enters' = subst (Enters before after count) (sym (length-front lines n less)) enters in
      to-front old folders begins after others
      (index-more (take n lines) line old old folders folders begins begins before after others others h (λ q. inr refl) (λ q. inr refl) (λ q. inr refl) (λ q. under-grown before after count (length (take n lines)) enters' q) (inr refl)
      (inr (inr (inr (inr (count, (has, under-new before after count (length (take n lines)) enters')))))))

  pub index-more-other : (others' : List ℕ) → others' ≡ others ++ n ∷ [] → IsIndex (take (n + 1) lines) old folders begins before others'
  index-more-other others' add =
      let add' : others' ≡ others ++ length (take n lines) ∷ [] = add ∙ ap (λ k. others ++ k ∷ []) (sym (length-front lines n less)) in
      to-front old folders begins before others'
      (index-more (take n lines) line old old folders folders begins begins before before others others' h (λ q. inr refl) (λ q. inr refl) (λ q. inr refl) (λ q. inr refl) (inl add')
      (inl (subst (Member (length (take n lines))) (sym add') (member-new others (length (take n lines))))))

pub index-moved : (lines : List Line) (e e' f f' : List (List ℕ × List ℕ)) (b b' c c' : Positions) (o o' : List ℕ) → e' ≡ e → f' ≡ f → b' ≡ b → c' ≡ c → o' ≡ o → IsIndex lines e f b c o → IsIndex lines e' f' b' c' o'
index-moved lines e e' f f' b b' c c' o o' same folders begins counts also h =
    subst (λ (x : List (List ℕ × List ℕ)). IsIndex lines x f' b' c' o') (sym same)
    (subst (λ (x : List (List ℕ × List ℕ)). IsIndex lines e x b' c' o') (sym folders)
    (subst (λ (x : Positions). IsIndex lines e f x c' o') (sym begins) (subst (λ (x : Positions). IsIndex lines e f b x o') (sym counts) (subst (IsIndex lines e f b c) (sym also) h))))

pub order-none : (ns : List ℕ) → ns ≡ [] → AreInOrder 0 ns
order-none ns is = subst (AreInOrder 0) (sym is) (record {
  within = λ n m. let l = m.1.0 in absurd (omega arith);
  rise = λ i j l m. absurd (omega arith);
})

pub index-none : (begins counts : Positions) → ((q : ℕ) → under begins q ≡ []) → ((q : ℕ) → under counts q ≡ []) → IsIndex [] [] [] begins counts []
index-none begins counts unbegun none = record {
  there = λ n line at. absurd (none-some line at);
  named_order = λ name. order-none [] refl;
  lying_order = λ name. order-none [] refl;
  begun_order = λ q. order-none (under begins q) (unbegun q);
  counted_order = λ q. order-none (under counts q) (none q);
  others_order = order-none [] refl;
}
