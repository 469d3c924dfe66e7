-- What holds where nothing stands below a node.
use Rattle.std.specs.Prelude.{◌≡◌, ◌<◌, ◌≤◌, ◌-◌, length, take, drop, get_or, ℕ, Bool, true, false, cond, IsTrue, ◌↔◌, Option, Some, None, List, [], ◌∷◌, ◌++◌, is_some, option_and_then}
use Rattle.std.proofs.Common.{sym, ap, refl, ◌∙◌, subst, true≢false, append-nil, arith}
use Rattle.std.specs.FinMap.{get, insert, empty, find, entries}
use Rattle.paths.specs.Order.{name_cmp}
use Rattle.paths.specs.Path.{is_at_or_under}
use Rattle.paths.proofs.FrontLaws.{name_itself}
use Rattle.std.specs.Option.{option_or}
use Rattle.trees.specs.declared.meta.Meta.{Meta}
use Rattle.trees.specs.declared.entry.Entry.{Entry}
use Rattle.trees.specs.declared.copy.Change.{Change}
use Rattle.trees.specs.declared.copy.CopyOptions.{CopyOptions}
use Rattle.trees.specs.TreeMap.{TreeMap}
use Rattle.trees.specs.Copy.{placements}
use Rattle.trees.specs.Put.{planted}
use Rattle.trees.specs.PrivateCopy.{MeetInDirectories}
use Rattle.trees.specs.PrivateNode.{NodeValue, map_of, joined, node_of, rows_under, IsPlanted, IsCut, IsFilled}
use Rattle.trees.specs.PrivateHeld.{held_value}
use Rattle.trees.specs.declared.node.Held.{Held}
use Rattle.trees.specs.declared.node.Held.TheVariants.{Leaf}
use Rattle.trees.proofs.NodeLaws.{get-joined, get-map_of_root, get-map_of_cons}
use Rattle.trees.proofs.NodeSteps.{is-kid, there, plant-kid, plant-step}
use Rattle.trees.proofs.KidLists.{keys-from_sorted}
use Rattle.trees.proofs.RowLists.{entries-kids}

abbrev Kids : Type 0
Kids = List (List ℕ × NodeValue)

-- nothing stands below
stands-not : (kids : Kids) → kids ≡ [] → (c : List ℕ) (cs : List (List ℕ)) → get (joined kids) (c ∷ cs) ≡ None
stands-not kids none c cs = ap (λ (k : Kids). get (joined k) (c ∷ cs)) none ∙ get-joined [] c cs

-- where nothing stands below, there are no children
none-from : (kids : Kids) → joined kids ≡ joined [] → kids ≡ []
none-from [] same = refl
none-from (k ∷ ks) same =
    let here : get (joined (k ∷ ks)) (k.0 ∷ []) ≡ Some k.1.top =
    get-joined (k ∷ ks) k.0 [] ∙ ap (λ b. option_and_then (λ v. get (map_of v) []) (cond b (Some k.1) (find name_cmp k.0 ks))) (name_itself k.0) ∙ get-map_of_root k.1 in
    absurd (true≢false (ap is_some (sym here ∙ ap (λ m. get m (k.0 ∷ [])) same ∙ get-joined [] k.0 [])))

pub bare-same : (v w : NodeValue) (told : Bool) → node_of v.top [] ≡ v → v.top ≡ w.top → (IsTrue told → w.below ≡ empty) → (told ≡ false → (name : List ℕ) × (is_some (get w.below (name ∷ [])) ≡ true)) → IsTrue told ↔ (map_of v ≡ map_of w)
bare-same v w told is tops bare full = (
  λ t. (λ i. insert ((sym (ap (λ (n : NodeValue). n.below) is) ∙ sym (bare t)) i) [] (tops i)),
  λ e. by told full e,
)
  where
    none : (c : List ℕ) (cs : List (List ℕ)) → get (map_of v) (c ∷ cs) ≡ None
    none c cs = get-map_of_cons v c cs ∙ ap (λ (n : NodeValue). get n.below (c ∷ cs)) (sym is) ∙ stands-not [] refl c cs

    by : (told : Bool) → (told ≡ false → (name : List ℕ) × (is_some (get w.below (name ∷ [])) ≡ true)) → map_of v ≡ map_of w → IsTrue told
    by true full e = refl
    by false full e =
        let one = full refl in
        absurd (true≢false (sym one.1 ∙ ap is_some (sym (get-map_of_cons w one.0 []) ∙ ap (λ m. get m (one.0 ∷ [])) (sym e) ∙ none one.0 [])))

pub none-same : (seen kids others : Kids) (told : Bool) → seen ≡ kids → others ≡ [] → IsTrue told ↔ (seen ≡ []) → IsTrue told ↔ (joined kids ≡ joined others)
none-same seen kids others told lent none says = (
  λ t. ap joined (sym lent ∙ says.0 t ∙ sym none),
  λ e. says.1 (lent ∙ none-from kids (e ∙ ap joined none)),
)

pub meets-none : (kids : Kids) (other : TreeMap) → kids ≡ [] → MeetInDirectories (joined kids) other
meets-none kids other none = record { at = λ c cs stands _. absurd (true≢false (sym stands ∙ ap is_some (stands-not kids none c cs))) }

pub meets-nothing : (one : TreeMap) (kids : Kids) → kids ≡ [] → MeetInDirectories one (joined kids)
meets-nothing one kids none = record { at = λ c cs _ stands. absurd (true≢false (sym stands ∙ ap is_some (stands-not kids none c cs))) }

pub meets-below : (v w : NodeValue) (kids others : Kids) → node_of v.top kids ≡ v → node_of w.top others ≡ w → MeetInDirectories (joined kids) (joined others) → MeetInDirectories v.below w.below
meets-below v w kids others v-is w-is h = subst (λ (n : NodeValue). MeetInDirectories n.below w.below) v-is (subst (λ (n : NodeValue). MeetInDirectories (joined kids) n.below) w-is h)

none-entries : (kids : Kids) → kids ≡ [] → entries (joined kids) ≡ []
none-entries kids none = ap (λ (k : Kids). entries (joined k)) none ∙ entries-kids [] (keys-from_sorted [] refl)

pub none-rows : (rows : List (List (List ℕ) × Entry)) (at : List (List ℕ)) (kids : Kids) → kids ≡ [] → rows ≡ rows ++ rows_under at (entries (joined kids))
none-rows rows at kids none = sym (append-nil rows) ∙ ap (λ (l : List (List (List ℕ) × Entry)). rows ++ rows_under at l) (sym (none-entries kids none))

pub none-changes : (changes : List Change) (options : CopyOptions) (at : List (List ℕ)) (kids : Kids) → kids ≡ [] → changes ≡ changes ++ placements options at (entries (joined kids))
none-changes changes options at kids none = sym (append-nil changes) ∙ ap (λ (l : List (List (List ℕ) × Entry)). changes ++ placements options at l) (sym (none-entries kids none))

-- ---- a node with nothing below it

pub leaf-bare : (held : Held) (v : NodeValue) (entry : Entry) → held_value held ≡ v → held ≡ Leaf entry → v.below ≡ empty
leaf-bare held v entry view leaf = sym (ap (λ (n : NodeValue). n.below) (sym (ap held_value leaf) ∙ view))

-- nothing stands below it
leaf-at : (v : NodeValue) → v.below ≡ empty → (c : List ℕ) (cs : List (List ℕ)) → get (map_of v) (c ∷ cs) ≡ None
leaf-at v bare c cs = get-map_of_cons v c cs ∙ ap (λ m. get m (c ∷ cs)) bare ∙ stands-not [] refl c cs

pub leaf-set : (v leaf : NodeValue) (path : List (List ℕ)) (parent : Meta) (entry : Entry) → v.below ≡ empty → leaf.top ≡ entry → leaf.below ≡ empty → length path < 1 → IsPlanted (get (map_of v)) (map_of leaf) path parent entry
leaf-set v leaf (c ∷ cs) parent entry bare top below less = absurd (omega arith)
leaf-set v leaf [] parent entry bare top below less = record { at = by }
  where
    nothing : (o : Option Entry) → o ≡ option_or o None
    nothing None = refl
    nothing (Some e) = refl

    by : (q : List (List ℕ)) → get (map_of leaf) q ≡ planted (get (map_of v)) [] parent entry q
    by [] = get-map_of_root leaf ∙ ap Some top
    by (c ∷ cs) = leaf-at leaf below c cs ∙ sym (leaf-at v bare c cs) ∙ nothing (get (map_of v) (c ∷ cs))

-- an entry is put below it
pub leaf-plant : (v new : NodeValue) (path : List (List ℕ)) (name : List ℕ) (parent : Meta) (entry : Entry) (kid : NodeValue) → v.below ≡ empty → new ≡ node_of v.top ((name, kid) ∷ []) → 1 ≤ length path → name ≡ get_or path 0 name
    → IsPlanted (λ _. None) (map_of kid) (take (length path - 1) (drop 1 path)) parent entry → IsPlanted (get (map_of v)) (map_of new) path parent entry
leaf-plant v new path name parent entry kid bare is more first chain =
    let same : map_of (node_of v.top []) ≡ map_of v = λ i. insert (sym bare i) [] v.top in
    subst (λ (n : NodeValue). IsPlanted (get (map_of v)) (map_of n) path parent entry) (sym is)
    (subst (λ (m : TreeMap). IsPlanted (get m) (map_of (node_of v.top ((name, kid) ∷ []))) path parent entry) same
    (plant-step (node_of v.top []) v.top [] ((name, kid) ∷ []) path name parent entry refl more first
    (plant-kid [] ((name, kid) ∷ []) name (take (length path - 1) (drop 1 path)) parent entry kid None (there [] name None refl) (is-kid [] ((name, kid) ∷ []) name kid (record { at = λ d. refl })) chain)))

pub leaf-filled : (v : NodeValue) (path : List (List ℕ)) (below : TreeMap) → v.below ≡ empty → 0 < length path → IsFilled (get (map_of v)) (get (map_of v)) path below
leaf-filled v [] below bare long = absurd (omega arith)
leaf-filled v (c ∷ cs) below bare long = record {
  at = λ stands. absurd (true≢false (sym stands ∙ ap is_some (leaf-at v bare c cs)));
  kept = λ _ q. refl;
}

pub leaf-cut : (v : NodeValue) (path : List (List ℕ)) → v.below ≡ empty → 0 < length path → IsCut (get (map_of v)) (get (map_of v)) path
leaf-cut v [] bare long = absurd (omega arith)
leaf-cut v (c ∷ cs) bare long = record { at = λ q. by q }
  where
    gone : (b : Bool) (o : Option Entry) → o ≡ None → o ≡ cond b None o
    gone true o none = none
    gone false o none = refl

    by : (q : List (List ℕ)) → get (map_of v) q ≡ cond (is_at_or_under q (c ∷ cs)) None (get (map_of v) q)
    by [] = refl
    by (d ∷ ds) = gone (is_at_or_under (d ∷ ds) (c ∷ cs)) (get (map_of v) (d ∷ ds)) (leaf-at v bare d ds)
