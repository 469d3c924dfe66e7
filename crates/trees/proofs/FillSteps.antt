-- One step down a path below whose end other things are put.
use Rattle.std.specs.Prelude.{◌≡◌, ℕ, ◌-◌, ◌≤◌, Bool, true, false, ◌&&◌, cond, Option, Some, None, List, [], ◌∷◌, ◌++◌, length, get_or, take, drop, is_some, option_and_then, Result, Ok, Err, OnOk, ◌==◌}
use Rattle.std.proofs.Common.{sym, ap, refl, ◌∙◌, true≢false, arith}
use Rattle.std.proofs.lemmas.Bool.{eqb-true}
use Rattle.std.specs.Map.{lookup}
use Rattle.std.specs.BTreeMap.{is_at}
use Rattle.std.specs.Ordering.{eq_by_cmp}
use Rattle.std.specs.FinMap.{get, find}
use Rattle.paths.specs.Order.{name_cmp}
use Rattle.paths.specs.Fronts.{is_front}
use Rattle.trees.specs.declared.entry.Entry.{Entry}
use Rattle.trees.specs.TreeMap.{TreeMap}
use Rattle.trees.specs.PrivateNode.{NodeValue, map_of, joined, filled, IsFilled, AreFilled, node_of}
use Rattle.paths.proofs.FrontLaws.{name_same, name_itself}
use Rattle.trees.proofs.NodeLaws.{get-map_of_root, get-map_of_cons, get-joined, lookup-find}
use Rattle.trees.proofs.NodeSteps.{at_kid, path-parts, IsKid, find_changed}

pulled : (b : Bool) (f : NodeValue → Option Entry) (kid : NodeValue) (o : Option NodeValue) → option_and_then f (cond b (Some kid) o) ≡ cond b (f kid) (option_and_then f o)
pulled true f kid o = refl
pulled false f kid o = refl

one_name : (tie : Bool) (now then_now old : Option Entry) → (tie ≡ true → now ≡ then_now) → cond tie now old ≡ cond tie then_now old
one_name true now then_now old h = h refl
one_name false now then_now old h = refl

either : (tie : Bool) (o : Option Entry) → cond tie o o ≡ o
either true o = refl
either false o = refl

-- a child that was filled is one of children that were filled
pub fill-kid : (old_kids kids : List (List ℕ × NodeValue)) (name : List ℕ) (rest : List (List ℕ)) (below : TreeMap) (kid before : NodeValue) → Some before ≡ lookup (is_at (name_cmp name)) old_kids → IsKid old_kids kids name kid
    → IsFilled (get (map_of before)) (get (map_of kid)) rest below → AreFilled (joined old_kids) (joined kids) name rest below
fill-kid old_kids kids name rest below kid before has changed h =
    record {
      at = λ some d ds.
          get-joined kids d ds
          ∙ ap (λ o. at_kid o ds) (find_changed old_kids kids name kid changed d)
          ∙ pulled (eq_by_cmp name_cmp d name) (λ v. get (map_of v) ds) kid (find name_cmp d old_kids)
          ∙ (λ i. cond (eq_by_cmp name_cmp d name) (get (map_of kid) ds) (sym (get-joined old_kids d ds) i))
          ∙ one_name (eq_by_cmp name_cmp d name) (get (map_of kid) ds) (filled (λ q. get (joined old_kids) (d ∷ q)) below rest ds) (get (joined old_kids) (d ∷ ds))
          (λ tie. h.at (ap is_some (sym (here name refl rest)) ∙ some) ds ∙ (λ i. filled (λ q. sym (here d (name_same d name tie) q) i) below rest ds));
      kept = λ none d ds.
          get-joined kids d ds
          ∙ ap (λ o. at_kid o ds) (find_changed old_kids kids name kid changed d)
          ∙ pulled (eq_by_cmp name_cmp d name) (λ v. get (map_of v) ds) kid (find name_cmp d old_kids)
          ∙ (λ i. cond (eq_by_cmp name_cmp d name) (get (map_of kid) ds) (sym (get-joined old_kids d ds) i))
          ∙ one_name (eq_by_cmp name_cmp d name) (get (map_of kid) ds) (get (joined old_kids) (d ∷ ds)) (get (joined old_kids) (d ∷ ds))
          (λ tie. h.kept (ap is_some (sym (here name refl rest)) ∙ none) ds ∙ sym (here d (name_same d name tie) ds))
          ∙ either (eq_by_cmp name_cmp d name) (get (joined old_kids) (d ∷ ds));
    }
  where
    here : (d : List ℕ) → d ≡ name → (q : List (List ℕ)) → get (joined old_kids) (d ∷ q) ≡ get (map_of before) q
    here d same q = get-joined old_kids d q ∙ (λ i. at_kid (find name_cmp (same i) old_kids) q) ∙ ap (λ o. at_kid o q) (sym (has ∙ lookup-find name old_kids))

-- where there is no such child, nothing stood at the path
pub fill-none : (old_kids kids : List (List ℕ × NodeValue)) (name : List ℕ) (rest : List (List ℕ)) (below : TreeMap) → None ≡ lookup (is_at (name_cmp name)) old_kids → kids ≡ old_kids → AreFilled (joined old_kids) (joined kids) name rest below
fill-none old_kids kids name rest below none same =
    record {
      at = λ some. absurd (true≢false (sym some ∙ ap is_some (get-joined old_kids name rest ∙ ap (λ o. at_kid o rest) (sym (none ∙ lookup-find name old_kids)))));
      kept = λ missing d ds. ap (λ (k : List (List ℕ × NodeValue)). get (joined k) (d ∷ ds)) same;
    }

-- children that were filled make a node that was
pub fill-step : (value : NodeValue) (top : Entry) (old_kids kids : List (List ℕ × NodeValue)) (path : List (List ℕ)) (name : List ℕ) (below : TreeMap) → node_of top old_kids ≡ value → 1 ≤ length path → name ≡ get_or path 0 name → AreFilled (joined old_kids) (joined kids) name (take (length path - 1) (drop 1 path)) below
    → IsFilled (get (map_of value)) (get (map_of (node_of top kids))) path below
fill-step value top old_kids kids path name below is more first h =
    record {
      at = λ some q. filled_at ((λ i. is_some (get (map_of value) (sym (path-parts path name more first) i))) ∙ some) q ∙ (λ i. filled (get (map_of value)) below (sym (path-parts path name more first) i) q);
      kept = λ none q. kept_at ((λ i. is_some (get (map_of value) (sym (path-parts path name more first) i))) ∙ none) q;
    }
  where
    under : (d : List ℕ) (ds : List (List ℕ)) → get (joined old_kids) (d ∷ ds) ≡ get (map_of value) (d ∷ ds)
    under d ds = sym (get-map_of_cons (node_of top old_kids) d ds) ∙ (λ i. get (map_of (is i)) (d ∷ ds))

    filled_at : is_some (get (map_of value) (name ∷ take (length path - 1) (drop 1 path))) ≡ true → (q : List (List ℕ)) → get (map_of (node_of top kids)) q ≡ filled (get (map_of value)) below (name ∷ take (length path - 1) (drop 1 path)) q
    filled_at some [] = get-map_of_root (node_of top kids) ∙ sym ((λ i. get (map_of (sym is i)) []) ∙ get-map_of_root (node_of top old_kids))
    filled_at some (d ∷ ds) =
        get-map_of_cons (node_of top kids) d ds
        ∙ h.at (ap is_some (under name (take (length path - 1) (drop 1 path))) ∙ some) d ds
        ∙ (λ i. cond (eq_by_cmp name_cmp d name) (filled (λ q. under d q i) below (take (length path - 1) (drop 1 path)) ds) (under d ds i))

    kept_at : is_some (get (map_of value) (name ∷ take (length path - 1) (drop 1 path))) ≡ false → (q : List (List ℕ)) → get (map_of (node_of top kids)) q ≡ get (map_of value) q
    kept_at none [] = get-map_of_root (node_of top kids) ∙ sym ((λ i. get (map_of (sym is i)) []) ∙ get-map_of_root (node_of top old_kids))
    kept_at none (d ∷ ds) = get-map_of_cons (node_of top kids) d ds ∙ h.kept (ap is_some (under name (take (length path - 1) (drop 1 path))) ∙ none) d ds ∙ under d ds

-- at the node itself, which keeps its entry
pub fill-own : {X E : Type 0} (r : Result X E) (value new : NodeValue) (path : List (List ℕ)) (below : TreeMap) (told : Bool) → told ≡ (length path == 0) → told ≡ true → OnOk r (new.top ≡ value.top) → OnOk r (new.below ≡ below) → OnOk r (IsFilled (get (map_of value)) (get (map_of new)) path below)
fill-own (Err e) value new path below told is empty top same = tt
fill-own (Ok x) value new (c ∷ cs) below told is empty top same = absurd (omega (arith, eqb-true (length (c ∷ cs)) 0 (sym is ∙ empty)))
fill-own (Ok x) value new [] below told is empty top same = record {
  at = λ some q. by q;
  kept = λ none q. absurd (true≢false (sym (ap is_some (get-map_of_root value)) ∙ none));
}
  where
    by : (q : List (List ℕ)) → get (map_of new) q ≡ filled (get (map_of value)) below [] q
    by [] = get-map_of_root new ∙ ap Some top ∙ sym (get-map_of_root value)
    by (c ∷ cs) = get-map_of_cons new c cs ∙ ap (λ m. get m (c ∷ cs)) same

pub filled-under : (old : List (List ℕ) → Option Entry) (below : TreeMap) (path : List (List ℕ)) (c : List ℕ) (cs : List (List ℕ)) → filled old below path (path ++ c ∷ cs) ≡ get below (c ∷ cs)
filled-under old below [] c cs = refl
filled-under old below (d ∷ ds) c cs = ap (λ b. cond b (filled (λ q. old (d ∷ q)) below ds (ds ++ c ∷ cs)) (old (d ∷ ds ++ c ∷ cs))) (name_itself d) ∙ filled-under (λ q. old (d ∷ q)) below ds c cs

pub filled-apart : (old : List (List ℕ) → Option Entry) (below : TreeMap) (path q : List (List ℕ)) → is_front path q ≡ false → filled old below path q ≡ old q
filled-apart old below [] [] f = refl
filled-apart old below [] (c ∷ cs) f = absurd (true≢false f)
filled-apart old below (d ∷ ds) [] f = refl
filled-apart old below (d ∷ ds) (c ∷ cs) f =
    by (eq_by_cmp name_cmp c d) (λ t. filled-apart (λ q. old (c ∷ q)) below ds cs (sym (ap (λ b. b && is_front ds cs) ((λ i. eq_by_cmp name_cmp d (name_same c d t i)) ∙ name_itself d)) ∙ f)) refl
  where
    by : (tie : Bool) → (eq_by_cmp name_cmp c d ≡ true → filled (λ q. old (c ∷ q)) below ds cs ≡ old (c ∷ cs)) → eq_by_cmp name_cmp c d ≡ tie → cond tie (filled (λ q. old (c ∷ q)) below ds cs) (old (c ∷ cs)) ≡ old (c ∷ cs)
    by true more t = more t
    by false more t = refl
