-- Patterns of paths, and their list: it has no number, so its JSON text is one.
use Rattle.std.specs.Prelude.{◌≡◌, ℕ, Bool, false, List, [], ◌∷◌, ◌++◌, ◌==◌, length, map}
use Rattle.std.proofs.Common.{refl, sym, ap, ◌∙◌, append_assoc}
use Rattle.std.specs.Str.{chars, encode_utf8_all}
use Rattle.std.proofs.lemmas.Str.{encodes-append}
use Rattle.exported.specs.Excluding.{as_plain, plain_from}
use Rattle.serde_json.specs.Data.{string}
use Rattle.serde_json.specs.View.{items_of}
use Rattle.serde_json.specs.Written.{has_float, items_have_float}
use Rattle.strict.specs.Written.{list_data}

items_plain : (texts : List (List ℕ)) → items_have_float (items_of (map string texts)) ≡ false
items_plain [] = refl
items_plain (text ∷ texts) = items_plain texts

pub list_plain : (texts : List (List ℕ)) → has_float (list_data string texts) ≡ false
list_plain texts = items_plain texts

-- one character more of a path
pub plain_more : (pattern new whole left rest : List ℕ) (c : ℕ) (begins ends : Bool) → chars left ≡ c ∷ chars rest → ends ≡ (length (chars rest) == 0)
    → new ≡ pattern ++ encode_utf8_all (as_plain begins ends c) → pattern ++ encode_utf8_all (plain_from begins (chars left)) ≡ whole
    → new ++ encode_utf8_all (plain_from false (chars rest)) ≡ whole
plain_more pattern new whole left rest c begins ends first over pushed so_far =
    ap (λ l. l ++ encode_utf8_all (plain_from false (chars rest))) (pushed ∙ ap (λ b. pattern ++ encode_utf8_all (as_plain begins b c)) over)
    ∙ append_assoc pattern (encode_utf8_all (as_plain begins (length (chars rest) == 0) c)) (encode_utf8_all (plain_from false (chars rest)))
    ∙ ap (λ l. pattern ++ l) (sym (encodes-append (as_plain begins (length (chars rest) == 0) c) (plain_from false (chars rest))))
    ∙ ap (λ cs. pattern ++ encode_utf8_all (plain_from begins cs)) (sym first)
    ∙ so_far
