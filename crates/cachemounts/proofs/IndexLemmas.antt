-- What an index beside a list of contents keeps, and that the first place under an id at which a content stands is the content's first.
use Rattle.std.proofs.Common.{◌≡◌, ℕ, zero, suc, ◌+◌, ◌<◌, ◌≤◌, Bool, true, false, true≢false, ◌&&◌, cond, ◌⊎◌, inl, inr, List, [], ◌∷◌, ◌++◌, length, take, get_or, Option, Some, None, Result, Ok, Err, OnOk, OnErr, IfSome, IfNone, refl, sym, ap, ◌∙◌, subst, arith}
use Rattle.std.specs.Prelude.{slice_get, slice_set, slice_index_or}
use Rattle.std.specs.List.{Contains, list_any}
use Rattle.std.specs.Option.{unwrap_or, option_map_or}
use Rattle.std.specs.Ordering.{nat_cmp}
use Rattle.std.specs.Map.{lookup}
use Rattle.std.specs.BTreeMap.{is_at}
use Rattle.std.specs.Cmp.Lexicographic.{slice_cmp}
use Rattle.std.proofs.lemmas.Bool.{ltb-true, ltb-false, cases_lt}
use Rattle.std.proofs.lemmas.List.{take-append-le, take_all}
use Rattle.std.proofs.lemmas.List.Elements.{Contains-append_left, Contains-push}
use Rattle.std.proofs.lemmas.Option.{get_or_from_slice_get}
use Rattle.plain.specs.declared.memory.Memory.{Memory}
use Rattle.paths.proofs.FrontLaws.{name_same, name_itself}
use Rattle.trees.specs.TreeMap.{TreeMap}
use Rattle.cachemounts.specs.declared.content.Content.{Content}
use Rattle.cachemounts.specs.Content.{is_content, same_content, tree_in}
use Rattle.cachemounts.specs.PrivateContent.{IsFirst, IsFirstAmong, stands_at, is_before, earlier, IsUpTo}
use Rattle.cachemounts.specs.PrivateIndex.{under, IsPut, Grows, AreEntered, IsIndexed}
use Rattle.cachemounts.proofs.ContentLemmas.{cell-is, none_pass, with_tree, put-contents, put-kept}

-- the places under an id, by what a map answers
found_under : (entries : List (List ℕ × List ℕ)) (id : List ℕ) (found : Option (List ℕ)) → found ≡ lookup (is_at (slice_cmp nat_cmp id)) entries → unwrap_or found [] ≡ under entries id
found_under entries id found e = ap (λ o. unwrap_or o []) e

put_under : (old new : List (List ℕ × List ℕ)) (id places : List ℕ) → IsPut old new id places → (other : List ℕ) (b : Bool) → is_at (slice_cmp nat_cmp id) other ≡ b → under new other ≡ unwrap_or (cond b (Some places) (lookup (is_at (slice_cmp nat_cmp other)) old)) []
put_under old new id places put other b e =
    ap (λ o. unwrap_or o []) (put other) ∙ ap (λ c. unwrap_or (cond c (Some places) (lookup (is_at (slice_cmp nat_cmp other)) old)) []) e

put-grows : (old new : List (List ℕ × List ℕ)) (id places : List ℕ) → IsPut old new id places → ((place : ℕ) → Contains (under old id) place → Contains places place) → Grows old new
put-grows old new id places put more other place h = by (is_at (slice_cmp nat_cmp id) other) refl
  where
    by : (b : Bool) → is_at (slice_cmp nat_cmp id) other ≡ b → Contains (under new other) place
    by true e =
        let here : under new other ≡ places = put_under old new id places put other true e in
        let same : id ≡ other = name_same id other e in
        subst (λ (ps : List ℕ). Contains ps place) (sym here) (more place (subst (λ (k : List ℕ). Contains (under old k) place) (sym same) h))
    by false e =
        let here : under new other ≡ under old other = put_under old new id places put other false e in
        subst (λ (ps : List ℕ). Contains ps place) (sym here) h

put-there : (old new : List (List ℕ × List ℕ)) (id places : List ℕ) (place : ℕ) → IsPut old new id places → Contains places place → Contains (under new id) place
put-there old new id places place put h =
    let here : under new id ≡ places = put_under old new id places put id true (name_itself id) in
    subst (λ (ps : List ℕ). Contains ps place) (sym here) h

-- a place that is pushed to those under an id, or was to be
pub pushed-grows : (result : Result (Unit {0}) Memory) (old new : List (List ℕ × List ℕ)) (id before after : List ℕ) (place : ℕ) → Some before ≡ lookup (is_at (slice_cmp nat_cmp id)) old → IsPut old new id after → OnOk result (after ≡ before ++ place ∷ []) → OnErr result (after ≡ before) → Grows old new
pushed-grows (Ok done) old new id before after place found put ok err =
    put-grows old new id after put (λ p h.
    subst (λ (ps : List ℕ). Contains ps p) (sym ok) (Contains-append_left before (place ∷ []) p (subst (λ (ps : List ℕ). Contains ps p) (sym (found_under old id (Some before) found)) h)))
pushed-grows (Err memory) old new id before after place found put ok err =
    put-grows old new id after put (λ p h.
    subst (λ (ps : List ℕ). Contains ps p) (sym err) (subst (λ (ps : List ℕ). Contains ps p) (sym (found_under old id (Some before) found)) h))

pub pushed-there : (result : Result (Unit {0}) Memory) (old new : List (List ℕ × List ℕ)) (id before after : List ℕ) (place : ℕ) → IsPut old new id after → OnOk result (after ≡ before ++ place ∷ []) → OnOk result (Contains (under new id) place)
pushed-there (Ok done) old new id before after place put ok = put-there old new id after place put (subst (λ (ps : List ℕ). Contains ps place) (sym ok) (Contains-push before place))
pushed-there (Err memory) old new id before after place put ok = tt

nothing : (place : ℕ) → Contains [] place → ⊥
nothing place h = (let l = h.1 in absurd (omega (arith, l)))

-- a place that is the first under an id, or was to be
pub first-grows : (result : Result (Unit {0}) Memory) (old seen new : List (List ℕ × List ℕ)) (id : List ℕ) (place : ℕ) → seen ≡ old → None ≡ lookup (is_at (slice_cmp nat_cmp id)) old → OnOk result (IsPut seen new id (place ∷ [])) → OnErr result (new ≡ seen) → Grows old new
first-grows (Ok done) old seen new id place same none ok err =
    put-grows old new id (place ∷ []) (subst (λ (es : List (List ℕ × List ℕ)). IsPut es new id (place ∷ [])) same ok) (λ p h.
    absurd (nothing p (subst (λ (ps : List ℕ). Contains ps p) (sym (found_under old id None none)) h)))
first-grows (Err memory) old seen new id place same none ok err =
    λ other p h. subst (λ (es : List (List ℕ × List ℕ)). Contains (under es other) p) (sym (err ∙ same)) h

pub first-there : (result : Result (Unit {0}) Memory) (seen new : List (List ℕ × List ℕ)) (id : List ℕ) (place : ℕ) → OnOk result (IsPut seen new id (place ∷ [])) → OnOk result (Contains (under new id) place)
first-there (Ok done) seen new id place ok = put-there seen new id (place ∷ []) place ok (Contains-push [] place)
first-there (Err memory) seen new id place ok = tt

-- one content more is entered
pub entered-more : (contents : List Content) (from at : ℕ) (before after : List (List ℕ × List ℕ)) (here : Content) → ((k : ℕ) (content : Content) → from ≤ k → k < at → slice_get contents k ≡ Some content → Contains (under before content.id) k) → Grows before after → slice_get contents at ≡ Some here → Contains (under after here.id) at → (k : ℕ) (content : Content) → from ≤ k → k < at + 1 → slice_get contents k ≡ Some content → Contains (under after content.id) k
entered-more contents from at before after here known grows there entered k content above l e = by (cases_lt k at)
  where
    by : (k < at) ⊎ (at ≤ k) → Contains (under after content.id) k
    by (inl b) = grows content.id k (known k content above b e)
    by (inr b) =
        let place : at ≡ k = omega (arith, l, b) in
        let same : here ≡ content = sym (get_or_from_slice_get contents at here content there) ∙ ap (λ (n : ℕ). get_or contents n content) place ∙ get_or_from_slice_get contents k content content e in
        subst (λ (n : ℕ). Contains (under after content.id) n) place (subst (λ (c : Content). Contains (under after c.id) at) same entered)

front_get : (old more : List Content) (k : ℕ) (content : Content) → k < length old → slice_get (old ++ more) k ≡ Some content → slice_get old k ≡ Some content
front_get [] more k content l e = absurd (omega (arith, l))
front_get (c ∷ old) more zero content l e = e
front_get (c ∷ old) more (suc k) content l e = front_get old more k content (omega (arith, l)) e

-- a list that was indexed, with contents that are entered
pub added-indexed : (old more now : List Content) (from : ℕ) (before after : List (List ℕ × List ℕ)) → now ≡ old ++ more → from ≡ length old → IsIndexed old before → Grows before after → AreEntered after from now → IsIndexed now after
added-indexed old more now from before after same end indexed grows entered = record { entered = λ k content e. by k content e (cases_lt k from) }
  where
    by : (k : ℕ) (content : Content) → slice_get now k ≡ Some content → (k < from) ⊎ (from ≤ k) → Contains (under after content.id) k
    by k content e (inl l) =
        let within : k < length old = omega (arith, l, end) in
        grows content.id k (indexed.entered k content (front_get old more k content within (subst (λ (cs : List Content). slice_get cs k ≡ Some content) same e)))
    by k content e (inr l) = entered.entered k content l e

-- the list as it was before more contents
pub cut-back : (old more now cut : List Content) (from : ℕ) → now ≡ old ++ more → from ≡ length old → cut ≡ take from now → cut ≡ old
cut-back old more now cut from same end is =
    is ∙ ap (λ (cs : List Content). take from cs) same ∙ take-append-le from old more (omega (arith, end)) ∙ take_all from old (omega (arith, end))

pub kept-indexed : (old now : List Content) (before after : List (List ℕ × List ℕ)) → now ≡ old → IsIndexed old before → Grows before after → IsIndexed now after
kept-indexed old now before after same indexed grows =
    subst (λ (cs : List Content). IsIndexed cs after) (sym same) (record { entered = λ k content e. grows content.id k (indexed.entered k content e) })

set_get : (contents : List Content) (at : ℕ) (here : Content) (tree : TreeMap) (k : ℕ) (content : Content) → slice_get contents at ≡ Some here → slice_get (slice_set contents at (with_tree here tree)) k ≡ Some content → (old : Content) × (slice_get contents k ≡ Some old) × (old.id ≡ content.id)
set_get [] at here tree k content there e = absurd (true≢false cc)
set_get (c ∷ contents) zero here tree zero content there e =
    let same : c ≡ here = cc in
    let now : with_tree here tree ≡ content = cc in
    (c, refl, ap (λ (d : Content). d.id) same ∙ ap (λ (d : Content). d.id) now)
set_get (c ∷ contents) zero here tree (suc k) content there e = (content, e, refl)
set_get (c ∷ contents) (suc at) here tree zero content there e = (content, e, refl)
set_get (c ∷ contents) (suc at) here tree (suc k) content there e = set_get contents at here tree k content there e

-- another tree in a content leaves the list indexed
pub set-indexed : (contents seen : List Content) (id : List ℕ) (slot : Option ℕ) (at : ℕ) (here : Content) (tree : TreeMap) (entries : List (List ℕ × List ℕ)) → contents ≡ seen → IsFirst seen id slot at → here ≡ slice_index_or contents at here → IsIndexed contents entries → IsIndexed (slice_set contents at (with_tree here tree)) entries
set-indexed contents seen id slot at here tree entries same found e indexed =
    let first : IsFirst contents id slot at = subst (λ (cs : List Content). IsFirst cs id slot at) (sym same) found in
    let is : here ≡ first.content = e ∙ get_or_from_slice_get contents at first.content here first.there in
    let there : slice_get contents at ≡ Some here = first.there ∙ ap Some (sym is) in
    record {
      entered = λ k content g.
          let old = set_get contents at here tree k content there g in
          subst (λ (i : List ℕ). Contains (under entries i) k) old.2 (indexed.entered k old.0 old.1);
    }

-- a tree that is put into the first entry of a content, of a list that is seen as it is
pub put-into : (contents seen : List Content) (id : List ℕ) (slot : Option ℕ) (at : ℕ) (here : Content) (tree : TreeMap) → contents ≡ seen → IsFirst seen id slot at → here ≡ slice_index_or contents at here → (other : List ℕ) (there : Option ℕ) → tree_in (slice_set contents at (with_tree here tree)) other there ≡ cond (same_content id slot other there) tree (tree_in seen other there)
put-into contents seen id slot at here tree same found e other there =
    put-contents contents seen id slot at here tree (sym same) found e other there ∙ ap (λ (cs : List Content). cond (same_content id slot other there) tree (tree_in cs other there)) same

pub put-stays : (contents seen : List Content) (id : List ℕ) (slot : Option ℕ) (at : ℕ) (here : Content) (tree : TreeMap) → contents ≡ seen → IsFirst seen id slot at → here ≡ slice_index_or contents at here → (other : List ℕ) (there : Option ℕ) → list_any (is_content other there) (slice_set contents at (with_tree here tree)) ≡ list_any (is_content other there) seen
put-stays contents seen id slot at here tree same found e other there =
    put-kept contents seen id slot at here tree (sym same) found e other there ∙ ap (λ (cs : List Content). list_any (is_content other there) cs) same

stands_there : (contents : List Content) (id : List ℕ) (slot : Option ℕ) (at : ℕ) → stands_at contents id slot at ≡ true → (content : Content) × (slice_get contents at ≡ Some content) × (is_content id slot content ≡ true)
stands_there contents id slot at e = by (slice_get contents at) refl e
  where
    by : (o : Option Content) → slice_get contents at ≡ o → option_map_or (is_content id slot) o false ≡ true → (content : Content) × (slice_get contents at ≡ Some content) × (is_content id slot content ≡ true)
    by None s t = absurd (true≢false (sym t))
    by (Some content) s t = (content, s, t)

stands_from : (contents : List Content) (id : List ℕ) (slot : Option ℕ) (at : ℕ) (content : Content) → slice_get contents at ≡ Some content → is_content id slot content ≡ true → stands_at contents id slot at ≡ true
stands_from contents id slot at content s t = ap (λ o. option_map_or (is_content id slot) o false) s ∙ t

before_all : (first : Option ℕ) (at k : ℕ) → is_before at first ≡ true → IsUpTo first k → at ≤ k
before_all None at k e u = absurd u
before_all (Some known) at k e u = (let l = ltb-true at known e in omega (arith, l, u))

not_before : (first : Option ℕ) (at : ℕ) → is_before at first ≡ false → IsUpTo first at
not_before None at e = absurd (true≢false e)
not_before (Some known) at e = ltb-false at known e

step_at : (contents : List Content) (id : List ℕ) (slot : Option ℕ) (places : List ℕ) (n at : ℕ) (first now : Option ℕ) → at ≡ get_or places n 0 → now ≡ earlier contents id slot first at → IsFirstAmong contents id slot places n first → IsFirstAmong contents id slot places (n + 1) now
step_at contents id slot places n at first now place e is = by (is_before at first) (stands_at contents id slot at) refl refl
  where
    last : (k : ℕ) → n ≤ k → k < n + 1 → at ≡ get_or places k 0
    last k b l = (let same : n ≡ k = omega (arith, l, b) in place ∙ ap (λ (j : ℕ). get_or places j 0) same)

    chosen : (b s : Bool) → is_before at first ≡ b → stands_at contents id slot at ≡ s → now ≡ cond (b && s) (Some at) first
    chosen b s eb es = e ∙ ap (λ c. cond (c && stands_at contents id slot at) (Some at) first) eb ∙ ap (λ c. cond (b && c) (Some at) first) es

    stays : ((k : ℕ) → n ≤ k → k < n + 1 → stands_at contents id slot (get_or places k 0) ≡ true → IsUpTo first (get_or places k 0)) → now ≡ first → IsFirstAmong contents id slot places (n + 1) now
    stays new same = subst (IsFirstAmong contents id slot places (n + 1)) (sym same) (record { stands = is.stands; least = λ k l s. each k l s (cases_lt k n) })
      where
        each : (k : ℕ) → k < n + 1 → stands_at contents id slot (get_or places k 0) ≡ true → (k < n) ⊎ (n ≤ k) → IsUpTo first (get_or places k 0)
        each k l s (inl b) = is.least k b s
        each k l s (inr b) = new k b l s

    least_now : is_before at first ≡ true → (k : ℕ) → k < n + 1 → stands_at contents id slot (get_or places k 0) ≡ true → (k < n) ⊎ (n ≤ k) → at ≤ get_or places k 0
    least_now eb k l s (inl b) = before_all first at (get_or places k 0) eb (is.least k b s)
    least_now eb k l s (inr b) = subst (λ (p : ℕ). at ≤ p) (last k b l) (omega arith)

    by : (b s : Bool) → is_before at first ≡ b → stands_at contents id slot at ≡ s → IsFirstAmong contents id slot places (n + 1) now
    by true true eb es = subst (IsFirstAmong contents id slot places (n + 1)) (sym (chosen true true eb es)) (record { stands = es; least = λ k l s. least_now eb k l s (cases_lt k n) })
    by true false eb es = stays (λ k b l s. absurd (true≢false (sym s ∙ ap (stands_at contents id slot) (sym (last k b l)) ∙ es))) (chosen true false eb es)
    by false true eb es = stays (λ k b l s. subst (IsUpTo first) (last k b l) (not_before first at eb)) (chosen false true eb es)
    by false false eb es = stays (λ k b l s. subst (IsUpTo first) (last k b l) (not_before first at eb)) (chosen false false eb es)

-- one place more
pub first-step : (contents : List Content) (id : List ℕ) (slot : Option ℕ) (places : List ℕ) (n : ℕ) (first now : Option ℕ) → now ≡ earlier contents id slot first (get_or places n 0) → IsFirstAmong contents id slot places n first → IsFirstAmong contents id slot places (n + 1) now
first-step contents id slot places n first now e is = step_at contents id slot places n (get_or places n 0) first now refl e is

get_either : (xs : List ℕ) (i d e : ℕ) → i < length xs → get_or xs i d ≡ get_or xs i e
get_either [] i d e l = absurd (omega (arith, l))
get_either (x ∷ xs) zero d e l = refl
get_either (x ∷ xs) (suc i) d e l = get_either xs i d e (omega (arith, l))

-- no content stands before the first that is found
up_to_each : (contents : List Content) (entries : List (List ℕ × List ℕ)) (id : List ℕ) (slot first : Option ℕ) → IsIndexed contents entries → IsFirstAmong contents id slot (under entries id) (length (under entries id)) first → (k : ℕ) (other : Content) → slice_get contents k ≡ Some other → is_content id slot other ≡ true → IsUpTo first k
up_to_each contents entries id slot first indexed is k other e t =
    let keys = cell-is id slot other t in
    let listed : Contains (under entries id) k = subst (λ (i : List ℕ). Contains (under entries i) k) keys.0 (indexed.entered k other e) in
    let same : get_or (under entries id) listed.0 0 ≡ k = get_either (under entries id) listed.0 0 k listed.1 ∙ listed.2 in
    let stands : stands_at contents id slot (get_or (under entries id) listed.0 0) ≡ true = subst (λ (p : ℕ). stands_at contents id slot p ≡ true) (sym same) (stands_from contents id slot k other e t) in
    subst (IsUpTo first) same (is.least listed.0 listed.1 stands)

first_is : (contents : List Content) (entries : List (List ℕ × List ℕ)) (id : List ℕ) (slot first : Option ℕ) → IsIndexed contents entries → IsFirstAmong contents id slot (under entries id) (length (under entries id)) first → IfSome first (IsFirst contents id slot)
first_is contents entries id slot None indexed is = tt
first_is contents entries id slot (Some at) indexed is =
    let there = stands_there contents id slot at is.stands in
    record { content = there.0; there = there.1; is = there.2; before = λ k other l e. by k other l e (is_content id slot other) refl }
  where
    by : (k : ℕ) (other : Content) → k < at → slice_get contents k ≡ Some other → (b : Bool) → is_content id slot other ≡ b → is_content id slot other ≡ false
    by k other l e false t = t
    by k other l e true t =
        let up : at ≤ k = up_to_each contents entries id slot (Some at) indexed is k other e t in
        absurd (omega (arith, l, up))

none_is : (contents : List Content) (entries : List (List ℕ × List ℕ)) (id : List ℕ) (slot first : Option ℕ) → IsIndexed contents entries → IsFirstAmong contents id slot (under entries id) (length (under entries id)) first → IfNone first (list_any (is_content id slot) contents ≡ false)
none_is contents entries id slot (Some at) indexed is = tt
none_is contents entries id slot None indexed is = none_pass (is_content id slot) contents (λ k other e. by k other e (is_content id slot other) refl)
  where
    by : (k : ℕ) (other : Content) → slice_get contents k ≡ Some other → (b : Bool) → is_content id slot other ≡ b → is_content id slot other ≡ false
    by k other e false t = t
    by k other e true t = absurd (up_to_each contents entries id slot None indexed is k other e t)

seen_among : (seen contents : List Content) (id : List ℕ) (slot : Option ℕ) (places listed : List ℕ) (first : Option ℕ) → seen ≡ contents → places ≡ listed → IsFirstAmong seen id slot places (length places) first → IsFirstAmong contents id slot listed (length listed) first
seen_among seen contents id slot places listed first same at is =
    subst (λ (cs : List Content). IsFirstAmong cs id slot listed (length listed) first) same (subst (λ (ps : List ℕ). IsFirstAmong seen id slot ps (length ps) first) at is)

-- what is found among the places under an id is the first entry of a content, and where none is found there is none
pub position-found : (seen contents now : List Content) (entries : List (List ℕ × List ℕ)) (id : List ℕ) (slot : Option ℕ) (places : List ℕ) (first : Option ℕ) → seen ≡ contents → contents ≡ now → places ≡ under entries id → IsIndexed contents entries → IsFirstAmong seen id slot places (length places) first → IfSome first (IsFirst now id slot)
position-found seen contents now entries id slot places first same view at indexed is =
    subst (λ (cs : List Content). IfSome first (IsFirst cs id slot)) view (first_is contents entries id slot first indexed (seen_among seen contents id slot places (under entries id) first same at is))

pub position-none : (seen contents now : List Content) (entries : List (List ℕ × List ℕ)) (id : List ℕ) (slot : Option ℕ) (places : List ℕ) (first : Option ℕ) → seen ≡ contents → contents ≡ now → places ≡ under entries id → IsIndexed contents entries → IsFirstAmong seen id slot places (length places) first → IfNone first (list_any (is_content id slot) now ≡ false)
position-none seen contents now entries id slot places first same view at indexed is =
    subst (λ (cs : List Content). IfNone first (list_any (is_content id slot) cs ≡ false)) view (none_is contents entries id slot first indexed (seen_among seen contents id slot places (under entries id) first same at is))
