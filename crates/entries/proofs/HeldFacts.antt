-- What is held of a path's text, as a walk goes on.
use Rattle.std.proofs.Common.{◌≡◌, ℕ, ◌+◌, ◌-◌, ◌<◌, ◌≤◌, List, [], ◌∷◌, ◌++◌, min, length, take, drop, get_or, set, Bor, refl, sym, ap, ◌∙◌, subst, inl, inr, append_assoc, append-nil, arith, codes, length-append, length-take-le}
use Rattle.std.proofs.lemmas.Bool.{cases_lt}
use Rattle.std.proofs.lemmas.List.{take_more, take_at, take-take, take-append-drop, length-map, length-set, get_or-set_same, get_or-set_other, map-append}
use Rattle.std.proofs.Math.Seq.{take-nil}
use Rattle.std.specs.List.{take-map, drop-map}
use Rattle.json.specs.Print.{escape_byte, escape}
use Rattle.paths.specs.Path.{rooted, text_of}
use Rattle.trees.specs.declared.meta.Meta.{Meta}
use Rattle.trees.specs.Rows.{lent_names}
use Rattle.entries.specs.declared.front.PathFront.{PathFront}
use Rattle.entries.specs.Written.{mode_text}
use Rattle.entries.specs.PrivateFront.{HoldsNames}
use Rattle.entries.specs.PrivatePrinting.{mode_and_key, user_end, end_text, text_behind}
use Rattle.entries.proofs.PrintingFacts.{escape-rooted}

-- the text of some names and then of others
pub escape-both : (front back : List (List ℕ)) → escape (rooted (front ++ back)) ≡ escape (rooted front) ++ escape (rooted back)
escape-both [] back = refl
escape-both (name ∷ front) back =
    escape-rooted name (front ++ back)
    ∙ ap (λ e. (47 ∷ escape name) ++ e) (escape-both front back)
    ∙ sym (append_assoc (47 ∷ escape name) (escape (rooted front)) (escape (rooted back)))
    ∙ ap (λ e. e ++ escape (rooted back)) (sym (escape-rooted name front))

-- ---- a name is added

-- the names up to one that is lent
lent-more : (names : List (Bor (List ℕ))) (k : ℕ) (name : Bor (List ℕ)) → k < length names → get_or names k name ≡ name → take (k + 1) (lent_names names) ≡ take k (lent_names names) ++ name.now ∷ []
lent-more names k name lt is =
    take-map (λ (n : Bor (List ℕ)). n.now) (k + 1) names
    ∙ ap lent_names (take_more names k name lt ∙ ap (λ n. take k names ++ n ∷ []) is)
    ∙ map-append (λ (n : Bor (List ℕ)). n.now) (take k names) (name ∷ [])
    ∙ ap (λ ns. ns ++ name.now ∷ []) (sym (take-map (λ (n : Bor (List ℕ)). n.now) k names))

-- the text of one name more
text-more : (names : List (List ℕ)) (k : ℕ) (name : List ℕ) → take (k + 1) names ≡ take k names ++ name ∷ [] → escape name ≡ name → escape (rooted (take (k + 1) names)) ≡ escape (rooted (take k names)) ++ (47 ∷ name)
text-more names k name more plain =
    ap (λ ns. escape (rooted ns)) more
    ∙ escape-both (take k names) (name ∷ [])
    ∙ ap (λ e. escape (rooted (take k names)) ++ e) (escape-rooted name [] ∙ append-nil (47 ∷ escape name) ∙ ap (λ e. 47 ∷ e) plain)

-- what is held then
pub holds-more : (names : List (Bor (List ℕ))) (front : PathFront) (name : Bor (List ℕ)) (bytes first text : List ℕ) → HoldsNames (lent_names names) front.names front → front.names < length names
    → get_or names front.names name ≡ name → bytes ≡ name.now → escape bytes ≡ bytes → front.names + 1 < 65 → get_or front.ends front.names 0 + 1 + length bytes ≤ 4096
    → take (get_or front.ends front.names 0 + 1) first ≡ take (get_or front.ends front.names 0) front.text ++ 47 ∷ [] → length first ≡ length front.text
    → take (get_or front.ends front.names 0 + 1 + length bytes) text ≡ take (get_or front.ends front.names 0 + 1) first ++ bytes → length text ≡ length first
    → HoldsNames (lent_names names) (front.names + 1) record { text = text; ends = set front.ends (front.names + 1) (get_or front.ends front.names 0 + 1 + length bytes); names = front.names + 1 }
holds-more names front name bytes first text held lt is same plain room fits slash first_long all long =
    let k = front.names in
    let begin = get_or front.ends k 0 in
    let end = begin + 1 + length bytes in
    let places : length front.ends ≡ 65 = held.places in
    let here : k + 1 < length front.ends = omega arith in
    let more : take (k + 1) (lent_names names) ≡ take k (lent_names names) ++ bytes ∷ [] = lent-more names k name lt is ∙ ap (λ n. take k (lent_names names) ++ n ∷ []) (sym same) in
    let said = text-more (lent_names names) k bytes more plain in
    let ended : get_or (set front.ends (k + 1) end) (k + 1) 0 ≡ end = get_or-set_same front.ends (k + 1) end 0 here in
    let before : begin ≡ length (escape (rooted (take k (lent_names names)))) = held.ends k (omega arith) in
    let whole : end ≡ length (escape (rooted (take (k + 1) (lent_names names)))) =
    omega (arith, before, ap length said, length-append (escape (rooted (take k (lent_names names)))) (47 ∷ bytes)) in
    record {
      long = long ∙ first_long ∙ held.long;
      places = length-set front.ends (k + 1) end ∙ held.places;
      few = omega (arith, length-map names (λ (n : Bor (List ℕ)). n.now));
      room = omega arith;
      inside = omega (arith, ended);
      text = ap (λ n. take n text) ended ∙ all ∙ ap (λ t. t ++ bytes) (slash ∙ ap (λ t. t ++ 47 ∷ []) held.text) ∙ append_assoc (escape (rooted (take k (lent_names names)))) (47 ∷ []) bytes ∙ sym said;
      ends = λ i le. elim (cases_lt i (k + 1)) [
        | inl below ↦ get_or-set_other front.ends (k + 1) i end 0 (λ (e : i ≡ k + 1). omega arith) ∙ held.ends i (omega arith)
        | inr top ↦
            let e : i ≡ k + 1 = omega arith in
            rw e (ended ∙ whole)
      ];
    }

-- ---- a front is cut

-- of fewer names
pub holds-fewer : (names : List (List ℕ)) (front : PathFront) (k j : ℕ) → HoldsNames names k front → j ≤ k → HoldsNames names j front
holds-fewer names front k j held le =
    let few = held.few in
    let room = held.room in
    let most = held.inside in
    let j_end : get_or front.ends j 0 ≡ length (escape (rooted (take j names))) = held.ends j le in
    let k_end : get_or front.ends k 0 ≡ length (escape (rooted (take k names))) = held.ends k (omega arith) in
    let parts : escape (rooted (take k names)) ≡ escape (rooted (take j names)) ++ escape (rooted (drop j (take k names))) =
    ap (λ ns. escape (rooted ns)) (sym (take-append-drop j (take k names)) ∙ ap (λ ns. ns ++ drop j (take k names)) (take-take j k names le))
    ∙ escape-both (take j names) (drop j (take k names)) in
    let rises : get_or front.ends j 0 ≤ get_or front.ends k 0 =
    omega (arith, j_end, k_end, ap length parts, length-append (escape (rooted (take j names))) (escape (rooted (drop j (take k names))))) in
    record {
      long = held.long;
      places = held.places;
      few = omega arith;
      room = omega arith;
      inside = omega arith;
      text = sym (take-take (get_or front.ends j 0) (get_or front.ends k 0) front.text rises)
          ∙ ap (take (get_or front.ends j 0)) (held.text ∙ parts)
          ∙ take_at (escape (rooted (take j names))) (escape (rooted (drop j (take k names)))) (get_or front.ends j 0) (sym j_end);
      ends = λ i lower. held.ends i (omega arith);
    }

-- of a path with the same names there
pub holds-other : (names others : List (List ℕ)) (front : PathFront) (k : ℕ) → HoldsNames names k front → take k names ≡ take k others → k ≤ length others → HoldsNames others k front
holds-other names others front k held same few = record {
  long = held.long;
  places = held.places;
  few = few;
  room = held.room;
  inside = held.inside;
  text = held.text ∙ ap (λ ns. escape (rooted ns)) same;
  ends = λ i le. held.ends i le ∙ ap (λ ns. length (escape (rooted ns))) (sym (take-take i k names le) ∙ ap (take i) same ∙ take-take i k others le);
}

-- as a walk goes on, all names but the last stay
holds-next : (old new : List (List ℕ)) (front : PathFront) → HoldsNames old front.names front → take (length new - 1) new ≡ take (length new - 1) old → HoldsNames new (min front.names (length new - 1)) front
holds-next old new front held keeps =
    let n = length new - 1 in
    let k = min front.names n in
    let below : k ≤ n = omega arith in
    let fewer = holds-fewer old front front.names k held (omega arith) in
    holds-other old new front k fewer (sym (take-take k n old below) ∙ ap (take k) (sym keeps) ∙ take-take k n new below) (omega arith)

-- the same for names that are lent
pub holds-on : (old at : List (List ℕ)) (names : List (Bor (List ℕ))) (front : PathFront) → HoldsNames old front.names front → take (length at - 1) at ≡ take (length at - 1) old → lent_names names ≡ at
    → HoldsNames (lent_names names) (min front.names (length names - 1)) front
holds-on old at names front held keeps same =
    let long : length (lent_names names) ≡ length names = length-map names (λ (n : Bor (List ℕ)). n.now) in
    subst (λ (n : ℕ). HoldsNames (lent_names names) (min front.names (n - 1)) front) long
    (subst (λ (ns : List (List ℕ)). HoldsNames ns (min front.names (length ns - 1)) front) (sym same) (holds-next old at front held keeps))

-- at first no name is held, of any path
pub holds-none : (names : List (List ℕ)) (front : PathFront) → HoldsNames [] 0 front → front.names ≡ 0 → HoldsNames names front.names front
holds-none names front held none = subst (λ (k : ℕ). HoldsNames names k front) (sym none) (holds-other [] names front 0 held refl (omega arith))

-- ---- a name stays out

-- what was written behind the text that is held changes nothing
pub holds-behind : (names : List (List ℕ)) (front : PathFront) (k : ℕ) (first text : List ℕ) → HoldsNames names k front
    → take (get_or front.ends k 0 + 1) first ≡ take (get_or front.ends k 0) front.text ++ 47 ∷ [] → length first ≡ length front.text
    → take (get_or front.ends k 0 + 1) text ≡ take (get_or front.ends k 0 + 1) first → length text ≡ length first
    → HoldsNames names k record { text = text; ends = front.ends; names = front.names }
holds-behind names front k first text held slash first_long before long =
    let begin = get_or front.ends k 0 in
    let within : begin ≤ length front.text = omega (arith, held.long, held.inside) in
    let lower : begin ≤ begin + 1 = omega arith in
    record {
      long = long ∙ first_long ∙ held.long;
      places = held.places;
      few = held.few;
      room = held.room;
      inside = held.inside;
      text = sym (take-take begin (begin + 1) text lower)
          ∙ ap (take begin) (before ∙ slash)
          ∙ take_at (take begin front.text) (47 ∷ []) begin (length-take-le begin front.text within)
          ∙ held.text;
      ends = held.ends;
    }

-- ---- a path is said

-- what is held and then the other names
path-both : (names : List (List ℕ)) (front : PathFront) → HoldsNames names front.names front
    → take (get_or front.ends front.names 0) front.text ++ text_behind front.names names ≡ escape (text_of names)
unfolding escape_byte
path-both [] front held = ap (λ t. t ++ codes "/") (held.text ∙ ap (λ ns. escape (rooted ns)) (take-nil front.names))
path-both (name ∷ names) front held =
    ap (λ t. t ++ escape (rooted (drop front.names (name ∷ names)))) held.text
    ∙ sym (escape-both (take front.names (name ∷ names)) (drop front.names (name ∷ names)))
    ∙ ap (λ ns. escape (rooted ns)) (take-append-drop front.names (name ∷ names))

-- the names that aren't held, of a path that has some
pub behind-some : (names : List (Bor (List ℕ))) (k : ℕ) → (length names ≡ 0 → ⊥) → escape (rooted (lent_names (drop k names))) ≡ text_behind k (lent_names names)
behind-some [] k some = absurd (some refl)
behind-some (name ∷ names) k some = ap (λ ns. escape (rooted ns)) (sym (drop-map (λ (n : Bor (List ℕ)). n.now) k (name ∷ names)))

-- a mode with the front of a path, then the rest of the path and the user
pub end-parts : (names : List (List ℕ)) (front : PathFront) (meta : Meta) (mode size k : ℕ) (text : List ℕ) → HoldsNames names front.names front
    → mode ≡ meta.mode → text ≡ front.text → size ≡ get_or front.ends front.names 0 → k ≡ front.names
    → (mode_and_key mode ++ take size text) ++ (text_behind k names ++ user_end meta.uid) ≡ end_text names meta
end-parts names front meta mode size k text held same_mode same_text same_size same_names =
    let begin = get_or front.ends front.names 0 in
    let m = mode_text meta.mode in
    let key = codes "\",\"path\":\"" in
    let part = take begin front.text in
    let rest = text_behind front.names names in
    let user = user_end meta.uid in
    ap (λ n. (mode_and_key n ++ take size text) ++ (text_behind k names ++ user)) same_mode
    ∙ ap (λ n. (mode_and_key meta.mode ++ take n text) ++ (text_behind k names ++ user)) same_size
    ∙ ap (λ t. (mode_and_key meta.mode ++ take begin t) ++ (text_behind k names ++ user)) same_text
    ∙ ap (λ n. (mode_and_key meta.mode ++ part) ++ (text_behind n names ++ user)) same_names
    ∙ append_assoc (m ++ key) part (rest ++ user)
    ∙ append_assoc m key (part ++ (rest ++ user))
    ∙ ap (λ t. m ++ (key ++ t)) (sym (append_assoc part rest user) ∙ ap (λ t. t ++ user) (path-both names front held))
