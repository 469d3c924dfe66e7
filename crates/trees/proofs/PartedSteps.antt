-- Children in parts and after them, gathered from the first to the last.
use Rattle.std.specs.Prelude.{◌≡◌, ◌<◌, ◌≤◌, ◌+◌, ℕ, true, List, [], ◌∷◌, ◌++◌, length}
use Rattle.std.proofs.Common.{sym, ap, refl, ◌∙◌, subst, append_assoc, append-nil, arith}
use Rattle.std.specs.FinMap.Entries.{is_sorted}
use Rattle.plain.specs.Limits.{most_components}
use Rattle.paths.specs.Order.{name_cmp}
use Rattle.paths.proofs.FrontLaws.{both_hold}
use Rattle.trees.specs.PrivateNode.{NodeValue, flat, is_full, are_full, joined, IsDepth}
use Rattle.trees.specs.PrivateSpine.{AreParted, ArePutAway}
use Rattle.trees.proofs.PartLists.{full-append, flat-append, sorted-second}
use Rattle.trees.proofs.DepthSteps.{depth-more, depth-none, depth-last}

abbrev Kids : Type 0
Kids = List (List ℕ × NodeValue)

pub parted-none : (parts : List Kids) (rows : Kids) → parts ≡ [] → rows ≡ [] → AreParted parts rows 0
parted-none parts rows no_parts none =
    let empty : flat parts ++ rows ≡ [] = λ i. flat (no_parts i) ++ none i in record { full = ap are_full no_parts; rise = ap (is_sorted name_cmp) empty; deep = depth-none 0 (flat parts ++ rows) empty }

pub parted-rows : (parts : List Kids) (rows : Kids) (depth : ℕ) → AreParted parts rows depth → is_sorted name_cmp rows ≡ true
parted-rows parts rows depth h = sorted-second (flat parts) rows h.rise

full-some : (rows : Kids) → 0 < length rows → is_full rows ≡ true
full-some [] some = absurd (omega arith)
full-some (row ∷ rows) some = refl

pub put-away-part : (parts new_parts : List Kids) (rows new_rows part : Kids) → are_full parts ≡ true → 0 < length rows → part ≡ rows → new_rows ≡ [] → new_parts ≡ parts ++ part ∷ [] → ArePutAway parts rows new_parts new_rows
put-away-part parts new_parts rows new_rows part f some is none pushed = record {
  full = ap are_full pushed ∙ full-append parts (part ∷ []) f (both_hold _ _ (ap is_full is ∙ full-some rows some) refl);
  same = (λ i. flat (pushed i) ++ none i) ∙ append-nil (flat (parts ++ part ∷ [])) ∙ flat-append parts (part ∷ []) ∙ ap (λ l. flat parts ++ l) (append-nil part ∙ is);
}

-- a child more
pub parted-more : (parts new_parts : List Kids) (rows mid_rows new_rows kids : Kids) (depth deepest lift kid_depth : ℕ) (name : List ℕ) (x : List ℕ × NodeValue) (kid : NodeValue) → AreParted parts rows depth → flat parts ++ rows ≡ kids → ArePutAway parts rows new_parts mid_rows → new_rows ≡ mid_rows ++ x ∷ [] → x ≡ (name, kid) → is_sorted name_cmp (kids ++ (name, kid) ∷ []) ≡ true
    → depth ≤ deepest → lift ≤ deepest → (lift ≤ most_components → kid_depth + 1 ≤ lift) → IsDepth kid_depth x.1.below → AreParted new_parts new_rows deepest
parted-more parts new_parts rows mid_rows new_rows kids depth deepest lift kid_depth name x kid h view moved pushed is rise less less_lift lifts deep = record {
  full = moved.full;
  rise = ap (is_sorted name_cmp) whole ∙ rise;
  deep =
      subst (λ (l : Kids). IsDepth deepest (joined l)) (sym whole)
      (depth-last deepest kid_depth kids name kid (λ few. let l : kid_depth + 1 ≤ lift = lifts (omega arith) in omega arith) (subst (λ (y : List ℕ × NodeValue). IsDepth kid_depth y.1.below) is deep) (subst (λ (l : Kids). IsDepth deepest (joined l)) view (depth-more depth deepest (joined (flat parts ++ rows)) less h.deep)));
}
  where
    whole : flat new_parts ++ new_rows ≡ kids ++ (name, kid) ∷ []
    whole =
        ap (λ l. flat new_parts ++ l) pushed ∙ sym (append_assoc (flat new_parts) mid_rows (x ∷ [])) ∙ ap (λ l. l ++ x ∷ []) (moved.same ∙ view) ∙ ap (λ y. kids ++ y ∷ []) is
