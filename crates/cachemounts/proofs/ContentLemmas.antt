-- What the trees in contents are after each change.
use Rattle.std.proofs.Common.{◌≡◌, ℕ, zero, suc, ◌<◌, ◌==◌, Bool, true, false, ◌||◌, cond, List, [], ◌∷◌, ◌++◌, length, Option, Some, None, refl, sym, ap, ◌∙◌, subst, arith}
use Rattle.std.specs.Prelude.{find, slice_get, slice_set}
use Rattle.std.specs.List.{list_any, list_all, fold, slice_index_or}
use Rattle.std.specs.Option.{option_map_or}
use Rattle.std.specs.Cmp.Lexicographic.{texts_ties}
use Rattle.std.proofs.lemmas.Bool.{eqb-true, eq-eqb, or_parts, or_from, or_right, and_parts, and_from, both_ways}
use Rattle.std.proofs.lemmas.List.Folds.{list_any-append, list_all-append}
use Rattle.std.proofs.lemmas.List.Sums.{fold-append}
use Rattle.std.proofs.lemmas.Option.{get_or_from_slice_get}
use Rattle.trees.specs.TreeMap.{TreeMap, empty_tree}
use Rattle.paths.proofs.FrontLaws.{name_same, name_itself}
use Rattle.cachemounts.specs.declared.holds.Hold.{Hold}
use Rattle.cachemounts.specs.declared.content.Content.{Content}
use Rattle.cachemounts.specs.Holds.{same_id, of_holder}
use Rattle.cachemounts.specs.Content.{slot_of, same_slot, same_content, is_content, tree_in, given_back, have_contents}
use Rattle.cachemounts.specs.PrivateContent.{IsFirst, AreEmpty}
use Rattle.cachemounts.specs.Changes.{Change, holds_then, holders, content_then, content_from, content_after}

id_same : (id other : List ℕ) → same_id id other ≡ true → id ≡ other
id_same id other e = name_same id other (sym (texts_ties id other) ∙ e)

pub id_itself : (id : List ℕ) → same_id id id ≡ true
id_itself id = texts_ties id id ∙ name_itself id

place_same : (slot other : Option ℕ) → same_slot slot other ≡ true → slot ≡ other
place_same None None e = refl
place_same None (Some slot) e = cc
place_same (Some slot) None e = cc
place_same (Some slot) (Some other) e = ap Some (eqb-true slot other e)

place_itself : (slot : Option ℕ) → same_slot slot slot ≡ true
place_itself None = refl
place_itself (Some slot) = eq-eqb slot slot refl

-- an entry is of one content alone
pub cell-is : (id : List ℕ) (slot : Option ℕ) (content : Content) → is_content id slot content ≡ true → (content.id ≡ id) × (content.slot ≡ slot)
cell-is id slot content e =
    let parts = and_parts (same_id content.id id) (same_slot content.slot slot) e in
    (id_same content.id id parts.0, place_same content.slot slot parts.1)

pub first-found : (contents : List Content) (id : List ℕ) (slot : Option ℕ) (at : ℕ) (first : IsFirst contents id slot at) → find (is_content id slot) contents ≡ Some first.content
first-found [] id slot at first = (let there = first.there in cc)
first-found (content ∷ contents) id slot zero first =
    let same : content ≡ first.content = (let there = first.there in cc) in
    let is : is_content id slot content ≡ true = rw same first.is in
    rw is (ap Some same)
first-found (content ∷ contents) id slot (suc at) first =
    let no : is_content id slot content ≡ false = first.before 0 content (omega arith) refl in
    rw no (first-found contents id slot at (record { content = first.content; there = first.there; is = first.is; before = λ k other l e. first.before (suc k) other (omega (arith, l)) e }))

-- a content, with another tree
abbrev pub with_tree : Content → TreeMap → Content
with_tree content tree = record { id = content.id; slot = content.slot; tree = tree }

-- a tree that is put into the first entry of a content is the tree in it, and the other contents are as they were
pub content-set : (contents : List Content) (id : List ℕ) (slot : Option ℕ) (at : ℕ) (tree : TreeMap) (first : IsFirst contents id slot at) → (other : List ℕ) (there : Option ℕ) → tree_in (slice_set contents at (with_tree first.content tree)) other there ≡ cond (same_content id slot other there) tree (tree_in contents other there)
content-set [] id slot at tree first other there = (let e = first.there in cc)
content-set (content ∷ contents) id slot zero tree first other there = by_test (same_content id slot other there) refl
  where
    same : content ≡ first.content
    same = (let e = first.there in cc)

    keys : (content.id ≡ id) × (content.slot ≡ slot)
    keys = cell-is id slot content (rw same first.is)

    by_test : (b : Bool) → same_content id slot other there ≡ b → tree_in (with_tree first.content tree ∷ contents) other there ≡ cond (same_content id slot other there) tree (tree_in (content ∷ contents) other there)
    by_test b t =
        let now : is_content other there (with_tree first.content tree) ≡ b = rw (← same) (rw (keys.0, keys.1) t) in
        let old : is_content other there content ≡ b = rw (keys.0, keys.1) t in
        decide b t now old
      where
        decide : (b : Bool) → same_content id slot other there ≡ b → is_content other there (with_tree first.content tree) ≡ b → is_content other there content ≡ b → tree_in (with_tree first.content tree ∷ contents) other there ≡ cond (same_content id slot other there) tree (tree_in (content ∷ contents) other there)
        decide true t now old = rw (t, now) refl
        decide false t now old = rw (t, now, old) refl
content-set (content ∷ contents) id slot (suc at) tree first other there = by_test (is_content other there content) refl (content-set contents id slot at tree later other there)
  where
    later : IsFirst contents id slot at
    later = record { content = first.content; there = first.there; is = first.is; before = λ k other l e. first.before (suc k) other (omega (arith, l)) e }

    no : is_content id slot content ≡ false
    no = first.before 0 content (omega arith) refl

    differ : is_content other there content ≡ true → same_content id slot other there ≡ false
    differ e = by_same (same_content id slot other there) refl
      where
        by_same : (b : Bool) → same_content id slot other there ≡ b → same_content id slot other there ≡ false
        by_same false t = t
        by_same true t =
            let keys = cell-is other there content e in
            let parts = and_parts (same_id id other) (same_slot slot there) t in
            let here : is_content id slot content ≡ true = and_from (same_id content.id id) (same_slot content.slot slot) (rw (keys.0, id_same id other parts.0) (id_itself other)) (rw (keys.1, place_same slot there parts.1) (place_itself there)) in
            absurd (both_ways (is_content id slot content) no here)

    by_test : (b : Bool) → is_content other there content ≡ b → tree_in (slice_set contents at (with_tree first.content tree)) other there ≡ cond (same_content id slot other there) tree (tree_in contents other there) → tree_in (slice_set (content ∷ contents) (suc at) (with_tree first.content tree)) other there ≡ cond (same_content id slot other there) tree (tree_in (content ∷ contents) other there)
    by_test true e rest = (let d = differ e in rw (e, d) refl)
    by_test false e rest = rw e rest

-- a content that isn't listed is the empty tree
pub content-none : (contents : List Content) (id : List ℕ) (slot : Option ℕ) → list_any (is_content id slot) contents ≡ false → tree_in contents id slot ≡ empty_tree
content-none [] id slot e = refl
content-none (content ∷ contents) id slot e =
    let parts = or_parts (is_content id slot content) (list_any (is_content id slot) contents) e in
    let rest : option_map_or (λ (c : Content). c.tree) (find (is_content id slot) contents) empty_tree ≡ empty_tree = content-none contents id slot parts.1 in
    rw parts.0 rest

content_empty : (contents : List Content) (id : List ℕ) (slot : Option ℕ) → AreEmpty contents → tree_in contents id slot ≡ empty_tree
content_empty [] id slot e = refl
content_empty (content ∷ contents) id slot e = by_test (is_content id slot content) refl (content_empty contents id slot e.1)
  where
    by_test : (b : Bool) → is_content id slot content ≡ b → tree_in contents id slot ≡ empty_tree → tree_in (content ∷ contents) id slot ≡ empty_tree
    by_test true t rest = rw t e.0
    by_test false t rest = rw t rest

-- more empty contents change none
pub content-more : (contents more : List Content) (id : List ℕ) (slot : Option ℕ) → AreEmpty more → tree_in (contents ++ more) id slot ≡ tree_in contents id slot
content-more [] more id slot e = content_empty more id slot e
content-more (content ∷ contents) more id slot e = by_test (is_content id slot content) refl (content-more contents more id slot e)
  where
    by_test : (b : Bool) → is_content id slot content ≡ b → tree_in (contents ++ more) id slot ≡ tree_in contents id slot → tree_in ((content ∷ contents) ++ more) id slot ≡ tree_in (content ∷ contents) id slot
    by_test true t rest = rw t refl
    by_test false t rest = rw t rest

-- the holds after one change more
pub holders-push : (changes : List Change) (change : Change) → holders (changes ++ change ∷ []) ≡ holds_then (holders changes) change
holders-push changes change = fold-append holds_then [] changes (change ∷ [])

content_from_push : (holds : List Hold) (changes : List Change) (change : Change) (id : List ℕ) (slot : Option ℕ) (before : TreeMap) → content_from holds (changes ++ change ∷ []) id slot before ≡ content_then (fold holds_then holds changes) change id slot (content_from holds changes id slot before)
content_from_push holds [] change id slot before = refl
content_from_push holds (first ∷ changes) change id slot before = content_from_push (holds_then holds first) changes change id slot (content_then holds first id slot before)

-- the tree in a content after one change more
pub content-push : (start : List ℕ → Option ℕ → TreeMap) (changes : List Change) (change : Change) (id : List ℕ) (slot : Option ℕ) → content_after start (changes ++ change ∷ []) id slot ≡ content_then (holders changes) change id slot (content_after start changes id slot)
content-push start changes change id slot = content_from_push [] changes change id slot (start id slot)

-- a change to equal contents leaves equal ones
pub given_back-same : (new_holds : List Hold) (trees : List TreeMap) (id : List ℕ) (slot : Option ℕ) (before other : TreeMap) → before ≡ other → given_back new_holds trees id slot before ≡ given_back new_holds trees id slot other
given_back-same new_holds trees id slot before other e = ap (given_back new_holds trees id slot) e

-- another tree in a content leaves the same contents listed
pub any_cell-set : (contents : List Content) (at : ℕ) (content : Content) (tree : TreeMap) → slice_get contents at ≡ Some content → (id : List ℕ) (slot : Option ℕ) → list_any (is_content id slot) (slice_set contents at (with_tree content tree)) ≡ list_any (is_content id slot) contents
any_cell-set [] at content tree e id slot = cc
any_cell-set (first ∷ contents) zero content tree e id slot = (let same : first ≡ content = cc in rw same refl)
any_cell-set (first ∷ contents) (suc at) content tree e id slot = ap (λ b. is_content id slot first || b) (any_cell-set contents at content tree e id slot)

pub all_same : {X : Type 0} (p q : X → Bool) → ((x : X) → p x ≡ q x) → (xs : List X) → list_all p xs ≡ list_all q xs
all_same p q same [] = refl
all_same p q same (x ∷ xs) = rw (same x, all_same p q same xs) refl

-- contents that are listed are so among more
pub have_cells-more : (contents more : List Content) (holds : List Hold) → have_contents contents holds ≡ true → have_contents (contents ++ more) holds ≡ true
have_cells-more contents more [] e = refl
have_cells-more contents more (hold ∷ holds) e =
    let parts = and_parts (list_any (is_content hold.id (slot_of hold.access)) contents) (have_contents contents holds) e in
    let here : list_any (is_content hold.id (slot_of hold.access)) (contents ++ more) ≡ true = list_any-append (is_content hold.id (slot_of hold.access)) contents more ∙ ap (λ b. b || list_any (is_content hold.id (slot_of hold.access)) more) parts.0 in
    and_from _ _ here (have_cells-more contents more holds parts.1)

-- one tree given back, and the rest to be given
pub give-step : (holder : ℕ) (rest : List Hold) (hold : Hold) (tree : TreeMap) (trees : List TreeMap) (id : List ℕ) (slot : Option ℕ) (before now : TreeMap) → (hold.holder == holder) ≡ true → now ≡ cond (same_content hold.id (slot_of hold.access) id slot) tree before → given_back (of_holder holder rest) trees id slot now ≡ given_back (of_holder holder (hold ∷ rest)) (tree ∷ trees) id slot before
give-step holder rest hold tree trees id slot before now t e = rw (t, e) refl

-- what no element passes
pub none_pass : {X : Type 0} (p : X → Bool) (xs : List X) → ((k : ℕ) (x : X) → slice_get xs k ≡ Some x → p x ≡ false) → list_any p xs ≡ false
none_pass p [] all = refl
none_pass p (x ∷ xs) all = or_from (p x) (list_any p xs) (all 0 x refl) (none_pass p xs (λ k y e. all (suc k) y e))

-- the tree in a content is that of its first entry
pub content-first : (contents : List Content) (id : List ℕ) (slot : Option ℕ) (at : ℕ) (first : IsFirst contents id slot at) → tree_in contents id slot ≡ first.content.tree
content-first contents id slot at first = ap (λ o. option_map_or (λ (c : Content). c.tree) o empty_tree) (first-found contents id slot at first)

pub has_cell-first : (contents : List Content) (id : List ℕ) (slot : Option ℕ) (at : ℕ) → IsFirst contents id slot at → list_any (is_content id slot) contents ≡ true
has_cell-first [] id slot at first = (let there = first.there in cc)
has_cell-first (content ∷ contents) id slot zero first =
    let same : content ≡ first.content = (let there = first.there in cc) in
    let is : is_content id slot content ≡ true = rw same first.is in
    rw is refl
has_cell-first (content ∷ contents) id slot (suc at) first =
    let rest = has_cell-first contents id slot at (record { content = first.content; there = first.there; is = first.is; before = λ k other l e. first.before (suc k) other (omega (arith, l)) e }) in
    or_right (is_content id slot content) (list_any (is_content id slot) contents) rest

pub have_cells-append : (contents : List Content) (holds more : List Hold) → have_contents contents holds ≡ true → have_contents contents more ≡ true → have_contents contents (holds ++ more) ≡ true
have_cells-append contents holds more e f = list_all-append (λ (hold : Hold). list_any (is_content hold.id (slot_of hold.access)) contents) holds more ∙ and_from _ _ e f

pub AreEmpty-append : (contents more : List Content) → AreEmpty contents → AreEmpty more → AreEmpty (contents ++ more)
AreEmpty-append [] more e f = f
AreEmpty-append (content ∷ contents) more e f = (e.0, AreEmpty-append contents more e.1 f)

pub any_cell-append : (contents more : List Content) (id : List ℕ) (slot : Option ℕ) → list_any (is_content id slot) contents ≡ true → list_any (is_content id slot) (contents ++ more) ≡ true
any_cell-append contents more id slot e = list_any-append (is_content id slot) contents more ∙ ap (λ b. b || list_any (is_content id slot) more) e

pub get-there : {X : Type 0} (xs : List X) (at : ℕ) (x : X) → at < length xs → x ≡ slice_index_or xs at x → slice_get xs at ≡ Some x
get-there [] at x l e = absurd (omega (arith, l))
get-there (y ∷ xs) zero x l e = ap Some (sym e)
get-there (y ∷ xs) (suc at) x l e = get-there xs at x (omega (arith, l)) e

append_twice : (contents more : List Content) (fresh : Content) → contents ++ (more ++ fresh ∷ []) ≡ (contents ++ more) ++ fresh ∷ []
append_twice [] more fresh = refl
append_twice (content ∷ contents) more fresh = ap (λ cs. content ∷ cs) (append_twice contents more fresh)

-- one hold more, whose content is added
pub missing-then : (contents more : List Content) (holds : List Hold) (hold : Hold) (fresh : Content) → have_contents (contents ++ more) holds ≡ true → fresh.id ≡ hold.id → fresh.slot ≡ slot_of hold.access → have_contents (contents ++ (more ++ fresh ∷ [])) (holds ++ hold ∷ []) ≡ true
missing-then contents more holds hold fresh e f g =
    let here : is_content hold.id (slot_of hold.access) fresh ≡ true = and_from (same_id fresh.id hold.id) (same_slot fresh.slot (slot_of hold.access)) (rw f (id_itself hold.id)) (rw g (place_itself (slot_of hold.access))) in
    let last : list_any (is_content hold.id (slot_of hold.access)) ((contents ++ more) ++ fresh ∷ []) ≡ true = list_any-append (is_content hold.id (slot_of hold.access)) (contents ++ more) (fresh ∷ []) ∙ or_right (list_any (is_content hold.id (slot_of hold.access)) (contents ++ more)) (list_any (is_content hold.id (slot_of hold.access)) (fresh ∷ [])) (rw here refl) in
    rw (append_twice contents more fresh) (have_cells-append ((contents ++ more) ++ fresh ∷ []) holds (hold ∷ []) (have_cells-more (contents ++ more) (fresh ∷ []) holds e) (and_from _ _ last refl))

-- one hold more, whose content is listed
pub missing-else : (contents more : List Content) (holds : List Hold) (hold : Hold) → have_contents (contents ++ more) holds ≡ true → list_any (is_content hold.id (slot_of hold.access)) contents ≡ true → have_contents (contents ++ more) (holds ++ hold ∷ []) ≡ true
missing-else contents more holds hold e f =
    have_cells-append (contents ++ more) holds (hold ∷ []) e (and_from _ _ (any_cell-append contents more hold.id (slot_of hold.access) f) refl)

-- the same, of a list that is the same, and of the entry that is there
pub put-contents : (contents seen : List Content) (id : List ℕ) (slot : Option ℕ) (at : ℕ) (here : Content) (tree : TreeMap) → seen ≡ contents → IsFirst seen id slot at → here ≡ slice_index_or contents at here → (other : List ℕ) (there : Option ℕ) → tree_in (slice_set contents at (with_tree here tree)) other there ≡ cond (same_content id slot other there) tree (tree_in contents other there)
put-contents contents seen id slot at here tree same found e other there =
    let first : IsFirst contents id slot at = subst (λ cs. IsFirst cs id slot at) same found in
    let is : here ≡ first.content = e ∙ get_or_from_slice_get contents at first.content here first.there in
    subst (λ (content : Content). tree_in (slice_set contents at (with_tree content tree)) other there ≡ cond (same_content id slot other there) tree (tree_in contents other there)) (sym is) (content-set contents id slot at tree first other there)

pub put-kept : (contents seen : List Content) (id : List ℕ) (slot : Option ℕ) (at : ℕ) (here : Content) (tree : TreeMap) → seen ≡ contents → IsFirst seen id slot at → here ≡ slice_index_or contents at here → (other : List ℕ) (there : Option ℕ) → list_any (is_content other there) (slice_set contents at (with_tree here tree)) ≡ list_any (is_content other there) contents
put-kept contents seen id slot at here tree same found e other there =
    let first : IsFirst contents id slot at = subst (λ cs. IsFirst cs id slot at) same found in
    let is : here ≡ first.content = e ∙ get_or_from_slice_get contents at first.content here first.there in
    subst (λ (content : Content). list_any (is_content other there) (slice_set contents at (with_tree content tree)) ≡ list_any (is_content other there) contents) (sym is) (any_cell-set contents at first.content tree first.there other there)

pub content-at : (contents : List Content) (id : List ℕ) (slot : Option ℕ) (at : ℕ) (here : Content) (tree : TreeMap) → IsFirst contents id slot at → tree ≡ (slice_index_or contents at here).tree → tree ≡ tree_in contents id slot
content-at contents id slot at here tree first e =
    e ∙ (ap (λ (c : Content). c.tree) (get_or_from_slice_get contents at first.content here first.there) ∙ sym (content-first contents id slot at first))

pub content-seen : (seen contents : List Content) (id : List ℕ) (slot : Option ℕ) (at : ℕ) (here : Content) (tree : TreeMap) → seen ≡ contents → IsFirst contents id slot at → tree ≡ (slice_index_or seen at here).tree → tree ≡ tree_in contents id slot
content-seen seen contents id slot at here tree same first e =
    content-at contents id slot at here tree first (subst (λ (cs : List Content). tree ≡ (slice_index_or cs at here).tree) same e)

pub missing-some : (contents more : List Content) (holds : List Hold) (hold : Hold) (slot : Option ℕ) (at : ℕ) → slot ≡ slot_of hold.access → IsFirst contents hold.id slot at → have_contents (contents ++ more) holds ≡ true → have_contents (contents ++ more) (holds ++ hold ∷ []) ≡ true
missing-some contents more holds hold slot at e first have =
    missing-else contents more holds hold have (subst (λ p. list_any (is_content hold.id p) contents ≡ true) e (has_cell-first contents hold.id slot at first))
