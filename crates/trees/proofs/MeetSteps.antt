-- Whether the children of two folders meet in directories alone, name by name.
use Rattle.std.specs.Prelude.{◌≡◌, ℕ, Bool, true, false, cond, Option, Some, None, List, [], ◌∷◌, is_some}
use Rattle.std.proofs.Common.{sym, ap, refl, ◌∙◌, true≢false}
use Rattle.std.specs.Ordering.{eq_by_cmp}
use Rattle.std.specs.Map.{lookup}
use Rattle.std.specs.BTreeMap.{is_at}
use Rattle.std.specs.FinMap.{get, find}
use Rattle.paths.specs.Order.{name_cmp}
use Rattle.paths.proofs.FrontLaws.{name_same, name_itself}
use Rattle.trees.specs.declared.entry.Entry.{Entry}
use Rattle.trees.specs.TreeMap.{is_directory}
use Rattle.trees.specs.PrivateNode.{NodeValue, joined, node_of}
use Rattle.trees.specs.PrivateCopy.{MeetInDirectories}
use Rattle.trees.proofs.NodeLaws.{get-map_of_root, get-map_of_cons, get-joined, lookup-find}
use Rattle.trees.proofs.NodeSteps.{at_kid}

abbrev Kids : Type 0
Kids = List (List ℕ × NodeValue)

-- a folder that has children has one
pub full-kid : (value : NodeValue) (top : Entry) (kids : Kids) → node_of top kids ≡ value → (kids ≡ [] → ⊥) → (name : List ℕ) × (is_some (get value.below (name ∷ [])) ≡ true)
full-kid value top [] is full = absurd (full refl)
full-kid value top (k ∷ ks) is full = (
  k.0,
  (λ i. is_some (get (sym is i).below (k.0 ∷ [])))
      ∙ ap is_some (get-joined (k ∷ ks) k.0 [])
      ∙ (λ i. is_some (at_kid (cond (name_itself k.0 i) (Some k.1) (find name_cmp k.0 ks)) []))
      ∙ ap is_some (get-map_of_root k.1),
)

-- what stands in two children of one name, if both are there, is a directory in both
abbrev pub MeetKids : Option NodeValue → Option NodeValue → Type 0
MeetKids one other = (p : List (List ℕ)) → is_some (at_kid one p) ≡ true → is_some (at_kid other p) ≡ true → (is_directory (at_kid one p) ≡ true) × (is_directory (at_kid other p) ≡ true)

pub kids-apart : (other : Option NodeValue) → MeetKids None other
kids-apart other p s t = absurd (true≢false (sym s))

pub kids-meet : (one other : NodeValue) → is_directory (Some one.top) ≡ true → is_directory (Some other.top) ≡ true → MeetInDirectories one.below other.below → MeetKids (Some one) (Some other)
kids-meet one other d g h [] s t = (ap is_directory (get-map_of_root one) ∙ d, ap is_directory (get-map_of_root other) ∙ g)
kids-meet one other d g h (c ∷ cs) s t =
    let both = h.at c cs (ap is_some (sym (get-map_of_cons one c cs)) ∙ s) (ap is_some (sym (get-map_of_cons other c cs)) ∙ t) in
    (ap is_directory (get-map_of_cons one c cs) ∙ both.0, ap is_directory (get-map_of_cons other c cs) ∙ both.1)

-- one child more
pub meet-step : (own others rest : Kids) (name : List ℕ) (kid : NodeValue) (found : Option NodeValue) → others ≡ (name, kid) ∷ rest → found ≡ lookup (is_at (name_cmp name)) own → MeetKids found (Some kid) → MeetInDirectories (joined own) (joined rest) → MeetInDirectories (joined own) (joined others)
meet-step own others rest name kid found next has kids h = record { at = λ c cs. at c cs (eq_by_cmp name_cmp c name) refl }
  where
    mine : (c : List ℕ) (cs : List (List ℕ)) → get (joined own) (c ∷ cs) ≡ at_kid (find name_cmp c own) cs
    mine c cs = get-joined own c cs

    its : (c : List ℕ) (cs : List (List ℕ)) → get (joined others) (c ∷ cs) ≡ at_kid (cond (eq_by_cmp name_cmp c name) (Some kid) (find name_cmp c rest)) cs
    its c cs = ap (λ (l : Kids). get (joined l) (c ∷ cs)) next ∙ get-joined ((name, kid) ∷ rest) c cs

    at : (c : List ℕ) (cs : List (List ℕ)) (tie : Bool) → eq_by_cmp name_cmp c name ≡ tie → is_some (get (joined own) (c ∷ cs)) ≡ true → is_some (get (joined others) (c ∷ cs)) ≡ true
        → (is_directory (get (joined own) (c ∷ cs)) ≡ true) × (is_directory (get (joined others) (c ∷ cs)) ≡ true)
    at c cs true t s u =
        let here : get (joined own) (c ∷ cs) ≡ at_kid found cs = mine c cs ∙ (λ i. at_kid (find name_cmp (name_same c name t i) own) cs) ∙ ap (λ k. at_kid k cs) (sym (has ∙ lookup-find name own)) in
        let there : get (joined others) (c ∷ cs) ≡ at_kid (Some kid) cs = its c cs ∙ (λ i. at_kid (cond (t i) (Some kid) (find name_cmp c rest)) cs) in
        let both = kids cs (ap is_some (sym here) ∙ s) (ap is_some (sym there) ∙ u) in
        (ap is_directory here ∙ both.0, ap is_directory there ∙ both.1)
    at c cs false t s u =
        let there : get (joined others) (c ∷ cs) ≡ get (joined rest) (c ∷ cs) = its c cs ∙ (λ i. at_kid (cond (t i) (Some kid) (find name_cmp c rest)) cs) ∙ sym (get-joined rest c cs) in
        let both = h.at c cs s (ap is_some (sym there) ∙ u) in
        (both.0, ap is_directory there ∙ both.1)

-- none is left
pub meet-none : (own : Kids) → MeetInDirectories (joined own) (joined [])
meet-none own = record { at = λ c cs s t. absurd (true≢false (sym t ∙ ap is_some (get-joined [] c cs))) }

-- no children meet anything
pub none-meets : (own others : Kids) → own ≡ [] → MeetInDirectories (joined own) (joined others)
none-meets own others none = record { at = λ c cs s t. absurd (true≢false (sym s ∙ (λ i. is_some (get (joined (none i)) (c ∷ cs))) ∙ ap is_some (get-joined [] c cs))) }
