use Rattle.std.proofs.Common.{ℕ, ◌≡◌, ◌∙◌, ◌-◌, ◌==◌, List, [], ◌∷◌, Bor, map, length, refl, sym, ap, lit<, arith, suc}
use Rattle.std.specs.Prelude.{Option, Some, None, unwrap_or, slice_index_or}
use Rattle.std.specs.List.{last_or, slice_split}
use Rattle.std.proofs.lemmas.Iterator.{items_from_drains}
use Rattle.std.proofs.lemmas.Iterator.Splits.{YieldsList-from_str_split}
use Rattle.instructions.specs.Copy.{last_of}
use Rattle.actions.proofs.copy.last_component.Goals as goal

last_further : (first second : List ℕ) (texts : List (List ℕ)) → last_of (first ∷ second ∷ texts) ≡ last_of (second ∷ texts)
last_further first second texts =
    let e : length (first ∷ second ∷ texts) - 1 ≡ suc (length (second ∷ texts) - 1) = omega arith in
    ap (λ (n : ℕ). slice_index_or (first ∷ second ∷ texts) n []) e

last_from : (text other : Bor (List ℕ)) (texts : List (Bor (List ℕ))) → (unwrap_or (last_or (Some text) texts) other).now ≡ last_of (map (λ (x : Bor (List ℕ)). x.now) (text ∷ texts))
last_from text other [] = refl
last_from text other (next ∷ texts) = last_from next other texts ∙ sym (last_further text.now next.now (map (λ (x : Bor (List ℕ)). x.now) texts))

last_is : (other : Bor (List ℕ)) (texts : List (Bor (List ℕ))) → other.now ≡ [] → (unwrap_or (last_or None texts) other).now ≡ last_of (map (λ (x : Bor (List ℕ)). x.now) texts)
last_is other [] e = e
last_is other (text ∷ texts) e = last_from text other texts

last_text : (result other : Bor (List ℕ)) (found : Option (Bor (List ℕ))) (texts : List (Bor (List ℕ))) (all : List (List ℕ)) → result ≡ unwrap_or found other → found ≡ last_or None texts → other.now ≡ []
    → map (λ (x : Bor (List ℕ)). x.now) texts ≡ all → result.now ≡ last_of all
last_text result other found texts all r f e m =
    ap (λ (x : Bor (List ℕ)). x.now) (r ∙ ap (λ (x : Option (Bor (List ℕ))). unwrap_or x other) f) ∙ last_is other texts e ∙ ap last_of m

pub returns : goal.returns
returns c =
    last_text c.unwrap_or.result _ c.last.result c.last.ensures.ran.0 (slice_split (λ b. b == 47) c.args.text.now) c.unwrap_or.ensures c.last.ensures.ran.2 refl
    (items_from_drains c.last.ensures.ran.0 (c.last.ensures.ran.1.1.0, c.last.ensures.ran.1.1.1, λ w. (c.last.ensures.ran.1.0, c.last.ensures.ran.1.1.2))
    (YieldsList-from_str_split 47 c.args.text.now (lit< tt) c.split.ensures.text c.split.ensures.has_more c.split.ensures.pattern))
