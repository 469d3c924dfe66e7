-- How deep it is below a node, after each change of what is below it.
use Rattle.std.specs.Prelude.{◌≡◌, ℕ, max, ◌+◌, ◌-◌, ◌<◌, ◌≤◌, Bool, true, false, cond, Option, Some, None, List, [], ◌∷◌, ◌++◌, length, get_or, take, drop, is_some, option_and_then}
use Rattle.std.proofs.Common.{sym, ap, refl, ◌∙◌, subst, true≢false, arith, length-append}
use Rattle.std.specs.Option.{option_or}
use Rattle.std.specs.Ordering.{eq_by_cmp}
use Rattle.std.specs.List.Sorted.{IsStrictlySortedBy}
use Rattle.std.specs.Map.{keys_of}
use Rattle.std.specs.FinMap.{get, find, get-empty}
use Rattle.plain.specs.Limits.{most_components}
use Rattle.paths.specs.Path.{is_at_or_under}
use Rattle.paths.specs.Order.{name_cmp, path_cmp}
use Rattle.paths.specs.Fronts.{is_front}
use Rattle.paths.proofs.FrontLaws.{path_same, front-parts}
use Rattle.trees.specs.declared.meta.Meta.{Meta}
use Rattle.trees.specs.declared.entry.Entry.{Entry}
use Rattle.trees.specs.declared.entry.Entry.TheVariants.{Directory}
use Rattle.trees.specs.declared.copy.CopyOptions.{CopyOptions}
use Rattle.trees.specs.TreeMap.{TreeMap}
use Rattle.trees.specs.Put.{planted}
use Rattle.trees.specs.PrivateNode.{NodeValue, map_of, joined, filled, IsDepth, IsDeeper, IsPlanted, ArePlanted, AreCut, AreFilled, AreLaid, node_of}
use Rattle.trees.specs.PrivateCopy.{IsPlacedNode}
use Rattle.trees.proofs.NodeLaws.{get-map_of_root, get-map_of_cons, get-joined, lookup-find}
use Rattle.trees.proofs.NodeSteps.{path-parts, blocked_in, at_kid, chain-step}
use Rattle.trees.proofs.KidLists.{found-among}
use Rattle.trees.proofs.PartLists.{find-append}
use Rattle.trees.proofs.OverSteps.{laid-get}
use Rattle.trees.proofs.PlacedSteps.{placed-some}

abbrev Path : Type 0
Path = List (List ℕ)

abbrev Kids : Type 0
Kids = List (List ℕ × NodeValue)

-- ---- numbers that are a depth

pub max-left : (a b m : ℕ) → m ≡ max a b → a ≤ m
max-left a b m is = omega arith

pub max-right : (a b m : ℕ) → m ≡ max a b → b ≤ m
max-right a b m is = omega arith

-- what has no other paths is no deeper
pub depth-kept : (d : ℕ) (old new : TreeMap) → ((c : List ℕ) (cs : Path) → is_some (get new (c ∷ cs)) ≡ true → is_some (get old (c ∷ cs)) ≡ true) → IsDepth d old → IsDepth d new
depth-kept d old new stood h = record { few = by }
  where
    by : d ≤ most_components → (path : Path) → is_some (get new path) ≡ true → length path ≤ d
    by few [] some = omega arith
    by few (c ∷ cs) some = h.few few (c ∷ cs) (stood c cs some)

-- a greater number is a depth too
pub depth-more : (d e : ℕ) (below : TreeMap) → d ≤ e → IsDepth d below → IsDepth e below
depth-more d e below less h = record { few = λ few path some. let l : length path ≤ d = h.few (omega arith) path some in omega arith }

-- one that is too great says nothing
pub depth-unknown : (d : ℕ) (below : TreeMap) → most_components < d → IsDepth d below
depth-unknown d below great = record { few = λ few path some. absurd (omega arith) }

-- nothing is below no children
pub depth-none : (d : ℕ) (kids : Kids) → kids ≡ [] → IsDepth d (joined kids)
depth-none d kids none =
    subst (λ (l : Kids). IsDepth d (joined l)) (sym none) (record { few = λ few path some. absurd (true≢false (sym some ∙ ap is_some (get-empty path_cmp path))) })

-- ---- an entry is put at a path

planted-few : (at : Path → Option Entry) (p q : Path) (meta : Meta) (entry : Entry) (e : ℕ) → length p ≤ e → (is_some (at q) ≡ true → length q ≤ e) → is_some (planted at p meta entry q) ≡ true → length q ≤ e
planted-few at p q meta entry e long stood some = by (eq_by_cmp path_cmp q p) refl (at q) stood (is_front q p) refl some
  where
    by : (tie : Bool) → eq_by_cmp path_cmp q p ≡ tie → (o : Option Entry) → (is_some o ≡ true → length q ≤ e) → (front : Bool) → is_front q p ≡ front → is_some (cond tie (Some entry) (option_or o (cond front (Some (Directory meta)) None))) ≡ true → length q ≤ e
    by true t o s front f some = let same : length q ≡ length p = ap length (path_same q p t) in omega arith
    by false t (Some x) s front f some = s refl
    by false t None s true f some =
        let parts = front-parts q p f in
        let l : length p ≡ length q + length (parts.0 ∷ parts.1.0) = ap length parts.1.1 ∙ length-append q (parts.0 ∷ parts.1.0) in
        omega arith
    by false t None s false f some = absurd (true≢false (sym some))

pub depth-planted : (d e : ℕ) (old new : TreeMap) (path : Path) (name : List ℕ) (parent : Meta) (entry : Entry) → 1 ≤ length path → name ≡ get_or path 0 name → d ≤ e → length path ≤ e → ArePlanted old new name (take (length path - 1) (drop 1 path)) parent entry → IsDepth d old → IsDepth e new
depth-planted d e old new path name parent entry more first less long changed h = record { few = by }
  where
    whole : length path ≡ length (name ∷ take (length path - 1) (drop 1 path))
    whole = ap length (path-parts path name more first)

    by : e ≤ most_components → (q : Path) → is_some (get new q) ≡ true → length q ≤ e
    by few [] some = omega arith
    by few (c ∷ cs) some =
        let w = whole in
        planted-few (get old) (name ∷ take (length path - 1) (drop 1 path)) (c ∷ cs) parent entry e (omega arith) (λ stood. let l : length (c ∷ cs) ≤ d = h.few (omega arith) (c ∷ cs) stood in omega arith) (sym (ap is_some (changed.at c cs)) ∙ some)

-- directories down a path are as deep as it
pub depth-chain : (top : Entry) (kids : Kids) (path : Path) (parent : Meta) (entry : Entry) → IsPlanted (λ _. None) (map_of (node_of top kids)) path parent entry → IsDepth (length path) (joined kids)
depth-chain top kids path parent entry h = record { few = by }
  where
    by : length path ≤ most_components → (q : Path) → is_some (get (joined kids) q) ≡ true → length q ≤ length path
    by few [] some = omega arith
    by few (c ∷ cs) some =
        planted-few (λ _. None) path (c ∷ cs) parent entry (length path) (omega arith) (λ stood. absurd (true≢false (sym stood)))
        (sym (ap is_some (sym (get-map_of_cons (node_of top kids) c cs) ∙ h.at (c ∷ cs))) ∙ some)

-- so is one child that is made so
pub depth-one : (path : Path) (name : List ℕ) (parent : Meta) (entry : Entry) (kid : NodeValue) → 1 ≤ length path → name ≡ get_or path 0 name → IsPlanted (λ _. None) (map_of kid) (take (length path - 1) (drop 1 path)) parent entry → IsDepth (length path) (joined ((name, kid) ∷ []))
depth-one path name parent entry kid more first chain = depth-chain (Directory parent) ((name, kid) ∷ []) path parent entry (chain-step ((name, kid) ∷ []) path name parent entry kid more first refl chain)

-- ---- a path is cut

pub depth-cut : (d : ℕ) (old new : TreeMap) (name : List ℕ) (rest : Path) → AreCut old new name rest → IsDepth d old → IsDepth d new
depth-cut d old new name rest changed h = depth-kept d old new (λ c cs some. stood (is_at_or_under (c ∷ cs) (name ∷ rest)) (get old (c ∷ cs)) (sym (ap is_some (changed.at c cs)) ∙ some)) h
  where
    stood : (b : Bool) (o : Option Entry) → is_some (cond b None o) ≡ true → is_some o ≡ true
    stood true o some = absurd (true≢false (sym some))
    stood false o some = some

-- ---- other things are put below a path

filled-few : (n e f : ℕ) (old : Path → Option Entry) (below : TreeMap) (p q : Path) → ((r : Path) → is_some (old r) ≡ true → n + length r ≤ e) → ((r : Path) → is_some (get below r) ≡ true → length r ≤ f) → n + length p + f ≤ e → is_some (filled old below p q) ≡ true → n + length q ≤ e
filled-few n e f old below [] [] h g s some = h [] some
filled-few n e f old below [] (c ∷ cs) h g s some = let l : length (c ∷ cs) ≤ f = g (c ∷ cs) some in omega arith
filled-few n e f old below (d ∷ ds) [] h g s some = h [] some
filled-few n e f old below (d ∷ ds) (c ∷ cs) h g s some =
    by (eq_by_cmp name_cmp c d) some (filled-few (n + 1) e f (λ q. old (c ∷ q)) below ds cs (λ r stood. let k : n + length (c ∷ r) ≤ e = h (c ∷ r) stood in omega arith) g (omega arith))
  where
    by : (tie : Bool) → is_some (cond tie (filled (λ q. old (c ∷ q)) below ds cs) (old (c ∷ cs))) ≡ true → (is_some (filled (λ q. old (c ∷ q)) below ds cs) ≡ true → n + 1 + length cs ≤ e) → n + length (c ∷ cs) ≤ e
    by true there rest = let l : n + 1 + length cs ≤ e = rest there in omega arith
    by false there rest = h (c ∷ cs) there

pub depth-filled : (d f l e : ℕ) (old new : TreeMap) (path : Path) (name : List ℕ) (below : TreeMap) → 1 ≤ length path → name ≡ get_or path 0 name → d ≤ e → l ≤ e → (l ≤ most_components → f + length path ≤ l) → AreFilled old new name (take (length path - 1) (drop 1 path)) below → IsDepth d old → IsDepth f below → IsDepth e new
depth-filled d f l e old new path name below more first less lift_less lift changed h g = record { few = by }
  where
    whole : length path ≡ length (name ∷ take (length path - 1) (drop 1 path))
    whole = ap length (path-parts path name more first)

    stood : e ≤ most_components → (r : Path) → is_some (get old r) ≡ true → length r ≤ e
    stood few r some = let k : length r ≤ d = h.few (omega arith) r some in omega arith

    by_there : e ≤ most_components → (c : List ℕ) (cs : Path) (b : Bool) → is_some (get old (name ∷ take (length path - 1) (drop 1 path))) ≡ b → is_some (get new (c ∷ cs)) ≡ true → length (c ∷ cs) ≤ e
    by_there few c cs false there some = stood few (c ∷ cs) (sym (ap is_some (changed.kept there c cs)) ∙ some)
    by_there few c cs true there some =
        let w = whole in
        let s : f + length path ≤ l = lift (omega arith) in
        let k : 0 + length (c ∷ cs) ≤ e = filled-few 0 e f (get old) below (name ∷ take (length path - 1) (drop 1 path)) (c ∷ cs) (λ r there. let x : length r ≤ e = stood few r there in omega arith) (λ r there. g.few (omega arith) r there) (omega arith) (sym (ap is_some (changed.at there c cs)) ∙ some) in
        omega arith

    by : e ≤ most_components → (q : Path) → is_some (get new q) ≡ true → length q ≤ e
    by few [] some = omega arith
    by few (c ∷ cs) some = by_there few c cs (is_some (get old (name ∷ take (length path - 1) (drop 1 path)))) refl some

-- ---- trees are laid over each other

pub depth-laid : (d f e : ℕ) (old upper new : Kids) → AreLaid old upper new → d ≤ e → f ≤ e → IsDepth d (joined old) → IsDepth f (joined upper) → IsDepth e (joined new)
depth-laid d f e old upper new laid less less_upper h g = record { few = by }
  where
    from : e ≤ most_components → (q : Path) (up low : Option Entry) (shut : Bool) → up ≡ get (joined upper) q → low ≡ get (joined old) q → is_some (option_or up (cond shut None low)) ≡ true → length q ≤ e
    from few q (Some x) low shut up_is low_is some = let l : length q ≤ f = g.few (omega arith) q (ap is_some (sym up_is)) in omega arith
    from few q None low true up_is low_is some = absurd (true≢false (sym some))
    from few q None low false up_is low_is some = let l : length q ≤ d = h.few (omega arith) q (ap is_some (sym low_is) ∙ some) in omega arith

    by : e ≤ most_components → (q : Path) → is_some (get (joined new) q) ≡ true → length q ≤ e
    by few [] some = omega arith
    by few (c ∷ cs) some =
        from few (c ∷ cs) (get (joined upper) (c ∷ cs)) (get (joined old) (c ∷ cs)) (blocked_in (find name_cmp c upper) cs) refl refl (sym (ap is_some (laid-get old upper new laid c cs)) ∙ some)

-- ---- entries get other owners and modes

pub depth-placed : (d : ℕ) (o : CopyOptions) (old : NodeValue) (top entry : Entry) (kids new_kids : Kids) → node_of top kids ≡ old → IsPlacedNode o old (node_of entry new_kids) → IsDepth d (joined kids) → IsDepth d (joined new_kids)
depth-placed d o old top entry kids new_kids is placed h = depth-kept d (joined kids) (joined new_kids) stood h
  where
    stood : (c : List ℕ) (cs : Path) → is_some (get (joined new_kids) (c ∷ cs)) ≡ true → is_some (get (joined kids) (c ∷ cs)) ≡ true
    stood c cs some =
        sym (ap is_some ((λ i. get (map_of (sym is i)) (c ∷ cs)) ∙ get-map_of_cons (node_of top kids) c cs))
        ∙ placed-some o old (node_of entry new_kids) placed (c ∷ cs) (ap is_some (get-map_of_cons (node_of entry new_kids) c cs) ∙ some)

-- ---- children are gone through

kid-few : (k m : ℕ) (kid : NodeValue) (cs : Path) → k + 1 ≤ m → m ≤ most_components → IsDepth k kid.below → is_some (get (map_of kid) cs) ≡ true → length cs + 1 ≤ m
kid-few k m kid [] more few below some = omega arith
kid-few k m kid (d ∷ ds) more few below some = let l : length (d ∷ ds) ≤ k = below.few (omega arith) (d ∷ ds) (sym (ap is_some (get-map_of_cons kid d ds)) ∙ some) in omega arith

-- one child more, no deeper than so
pub depth-step : (m k : ℕ) (its rest : Kids) (name : List ℕ) (kid : NodeValue) → its ≡ (name, kid) ∷ rest → (m ≤ most_components → k + 1 ≤ m) → IsDepth k kid.below → IsDepth m (joined rest) → IsDepth m (joined its)
depth-step m k its rest name kid next more below h = subst (λ (l : Kids). IsDepth m (joined l)) (sym next) (record { few = by })
  where
    by_name : m ≤ most_components → (c : List ℕ) (cs : Path) (tie : Bool) → is_some (option_and_then (λ v. get (map_of v) cs) (cond tie (Some kid) (find name_cmp c rest))) ≡ true → length (c ∷ cs) ≤ m
    by_name few c cs true some = let l : length cs + 1 ≤ m = kid-few k m kid cs (more few) few below some in omega arith
    by_name few c cs false some = h.few few (c ∷ cs) (ap is_some (get-joined rest c cs) ∙ some)

    by : m ≤ most_components → (q : Path) → is_some (get (joined ((name, kid) ∷ rest)) q) ≡ true → length q ≤ m
    by few [] some = omega arith
    by few (c ∷ cs) some = by_name few c cs (eq_by_cmp name_cmp c name) (sym (ap is_some (get-joined ((name, kid) ∷ rest) c cs)) ∙ some)

-- the same of one after all others
pub depth-last : (m k : ℕ) (kids : Kids) (name : List ℕ) (kid : NodeValue) → (m ≤ most_components → k + 1 ≤ m) → IsDepth k kid.below → IsDepth m (joined kids) → IsDepth m (joined (kids ++ (name, kid) ∷ []))
depth-last m k kids name kid more below h = record { few = by }
  where
    by_found : m ≤ most_components → (c : List ℕ) (cs : Path) (o : Option NodeValue) → find name_cmp c kids ≡ o → (tie : Bool) → is_some (option_and_then (λ v. get (map_of v) cs) (option_or o (cond tie (Some kid) None))) ≡ true → length (c ∷ cs) ≤ m
    by_found few c cs (Some v) is tie some = h.few few (c ∷ cs) (ap is_some (get-joined kids c cs ∙ ap (option_and_then (λ v. get (map_of v) cs)) is) ∙ some)
    by_found few c cs None is true some = let l : length cs + 1 ≤ m = kid-few k m kid cs (more few) few below some in omega arith
    by_found few c cs None is false some = absurd (true≢false (sym some))

    by : m ≤ most_components → (q : Path) → is_some (get (joined (kids ++ (name, kid) ∷ [])) q) ≡ true → length q ≤ m
    by few [] some = omega arith
    by few (c ∷ cs) some =
        by_found few c cs (find name_cmp c kids) refl (eq_by_cmp name_cmp c name) (sym (ap is_some (get-joined (kids ++ (name, kid) ∷ []) c cs ∙ ap (option_and_then (λ v. get (map_of v) cs)) (find-append c kids ((name, kid) ∷ [])))) ∙ some)

-- ---- a folder is put below a destination

-- none of its paths gets too deep there
pub depth-fits : (d : ℕ) (folder : NodeValue) (dest : Path) → length dest ≤ most_components → d ≤ most_components - length dest → IsDepth d folder.below → (rest : Path) → is_some (get (map_of folder) rest) ≡ true → length (dest ++ rest) ≤ 64
depth-fits d folder dest few less h [] some = let l : length (dest ++ []) ≡ length dest + 0 = length-append dest [] in omega arith
depth-fits d folder dest few less h (c ∷ cs) some =
    let l = length-append dest (c ∷ cs) in
    let k : length (c ∷ cs) ≤ d = h.few (omega arith) (c ∷ cs) (sym (ap is_some (get-map_of_cons folder c cs)) ∙ some) in
    omega arith

-- ---- a path that is too long is found

module _ (all before rest its : Kids) (name : List ℕ) (kid : NodeValue) (ordered : IsStrictlySortedBy name_cmp (keys_of all)) (so_far : before ++ its ≡ all) (next : its ≡ (name, kid) ∷ rest) where
  in-kid : (cs : Path) → get (joined all) (name ∷ cs) ≡ get (map_of kid) cs
  in-kid cs = get-joined all name cs ∙ ap (λ o. at_kid o cs) (sym (lookup-find name all) ∙ found-among all before rest its name kid ordered so_far next)

  -- the name itself is longer than nothing
  pub deeper-name : (most : ℕ) → most ≡ 0 → IsDeeper most (joined all)
  deeper-name most none = record { path = name ∷ []; stands = ap is_some (in-kid [] ∙ get-map_of_root kid); long = omega arith }

  -- and with its name a path below the child is longer by one
  pub deeper-kid : (most : ℕ) → 0 < most → IsDeeper (most - 1) kid.below → IsDeeper most (joined all)
  deeper-kid most some deeper = by deeper.path deeper.stands deeper.long
    where
      by : (r : Path) → is_some (get kid.below r) ≡ true → most - 1 < length r → IsDeeper most (joined all)
      by [] stands long = absurd (omega arith)
      by (c ∷ cs) stands long = record { path = name ∷ c ∷ cs; stands = ap is_some (in-kid (c ∷ cs) ∙ get-map_of_cons kid c cs) ∙ stands; long = omega arith }
