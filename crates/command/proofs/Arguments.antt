-- What the texts of an option whose values are `N=V`, which are lent, give.
use Rattle.std.proofs.Common.{◌≡◌, ◌∙◌, true, false, List, [], ◌∷◌, Some, None, refl, sym, ap, map, unwrap_or}
use Rattle.std.specs.Prelude.{◌&&◌}
use Rattle.std.specs.Borrow.{Bor}
use Rattle.std.specs.List.{list_all}
use Rattle.clap.specs.Words.{Row, Text}
use Rattle.clap.specs.Walk.{all_of}
use Rattle.command.specs.Sources.{all_texts, halves_of, has_equals, pairs_of}

all_lent : (texts : List (Bor Text)) → list_all (λ text. has_equals text.now) texts ≡ list_all has_equals (map (λ text. text.now) texts)
all_lent [] = refl
all_lent (text ∷ texts) = ap (λ later. has_equals text.now && later) (all_lent texts)

map_lent : (texts : List (Bor Text)) → map (λ text. halves_of text.now) texts ≡ map halves_of (map (λ text. text.now) texts)
map_lent [] = refl
map_lent (text ∷ texts) = ap (λ later. halves_of text.now ∷ later) (map_lent texts)

texts_are : (id : Text) (rows : List Row) (texts : List (Bor Text)) → Some (map (λ text. text.now) texts) ≡ all_of id rows
    → all_texts id rows ≡ map (λ text. text.now) texts
texts_are id rows texts given = ap (λ found. unwrap_or found []) (sym given)

-- one of them has no `=`
pub bare_lent : (id : Text) (rows : List Row) (texts : List (Bor Text)) → Some (map (λ text. text.now) texts) ≡ all_of id rows
    → list_all (λ text. has_equals text.now) texts ≡ false → None ≡ pairs_of id rows
bare_lent id rows texts given bare =
    let all : list_all has_equals (all_texts id rows) ≡ false = ap (list_all has_equals) (texts_are id rows texts given) ∙ sym (all_lent texts) ∙ bare in
    rw all refl

-- each has one
pub cut_lent : (id : Text) (rows : List Row) (texts : List (Bor Text)) (args : List (Text × Text)) → Some (map (λ text. text.now) texts) ≡ all_of id rows
    → list_all (λ text. has_equals text.now) texts ≡ true → args ≡ map (λ text. halves_of text.now) texts → Some args ≡ pairs_of id rows
cut_lent id rows texts args given every cut =
    let all : list_all has_equals (all_texts id rows) ≡ true = ap (list_all has_equals) (texts_are id rows texts given) ∙ sym (all_lent texts) ∙ every in
    rw all (ap Some (cut ∙ map_lent texts ∙ ap (map halves_of) (sym (texts_are id rows texts given))))
