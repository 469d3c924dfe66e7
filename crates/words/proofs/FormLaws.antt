-- A text that doesn't begin as a list in JSON has no JSON form.
use Rattle.std.proofs.Common.{◌≡◌, ◌==◌, ◌&&◌, ℕ, Bool, true, false, cond, Option, Some, None, List, [], ◌∷◌, refl, sym, ap, ◌∙◌, true≢false}
use Rattle.std.specs.Prelude.{option_map, option_and_then}
use Rattle.std.proofs.lemmas.Bool.{or_parts}
use Rattle.json.specs.Text.{content, plain}
use Rattle.json.specs.Word.{is_space, is_operator, ends_word, word, number_before, after_number, head}
use Rattle.json.specs.Token.{Token, begin_object, end_object, begin_array, end_array, key, string, number, boolean, null, bad}
use Rattle.json.specs.Lex.{Lexeme, token, comma, colon, quote, backslash, operator, space, other, Mode, between, lex_byte, lex, string_token, Place, fresh, begins_colon, place_token, punctuate, tokens}
use Rattle.json.specs.Json as json
use Rattle.json.proofs.Grammar.{value_is}
use Rattle.serde_json.specs.Read.{of_json, of_members, number_of, max_depth}
use Rattle.serde_json.specs.Data.{Num, number as number_data, object as object_data, Members, no_members}
use Rattle.words.specs.Form.{texts_in, json_form}
use Rattle.words.specs.PrivateForm.{begins_list}

-- whether a token opens a list
abbrev opens : Token → Bool
opens begin_object = false
opens end_object = false
opens begin_array = true
opens end_array = false
opens (key s) = false
opens (string s) = false
opens (number s) = false
opens (boolean b) = false
opens null = false
opens bad = false

either : (b : Bool) (x y : Token) → opens x ≡ false → opens y ≡ false → opens (cond b x y) ≡ false
either true x y p q = p
either false x y p q = q

-- no text, number or literal does

opens-string_token : (found : Option (List ℕ)) → opens (string_token found) ≡ false
opens-string_token None = refl
opens-string_token (Some s) = refl

opens-number_before : (text : List ℕ) (behind : Option (List ℕ)) → opens (number_before text behind) ≡ false
opens-number_before text None = refl
opens-number_before text (Some rest) = either (ends_word rest) _ bad refl refl

opens-word : (text : List ℕ) → opens (word text) ≡ false
unfolding word
opens-word text =
    either (head text == 116) _ _ (either _ (boolean true) bad refl refl) (either (head text == 102) _ _ (either _ (boolean false) bad refl refl)
    (either (head text == 110) _ _ (either _ null bad refl refl) (opens-number_before text (after_number text))))

-- whether the first lexeme opens a list
abbrev first_opens : List Lexeme → Bool
first_opens [] = false
first_opens (token t ∷ ls) = opens t
first_opens (comma ∷ ls) = false
first_opens (colon ∷ ls) = false

-- an operator other than `[` doesn't
other_operator : (a b c d e : Bool) (ls : List Lexeme) → c ≡ false
    → first_opens (cond a (token begin_object) (cond b (token end_object) (cond c (token begin_array) (cond d (token end_array) (cond e comma colon)))) ∷ ls) ≡ false
other_operator true b c d e ls h = refl
other_operator false true c d e ls h = refl
other_operator false false true d e ls h = absurd (true≢false h)
other_operator false false false true e ls h = refl
other_operator false false false false true ls h = refl
other_operator false false false false false ls h = refl

-- a byte's lexeme, by what the byte is: a quote, a backslash, an operator, white space
by_class : (q b o s : Bool) (byte : ℕ) (bytes : List ℕ) (k : Mode → List Lexeme) → (byte == 91) ≡ false → (s ≡ true → first_opens (k between) ≡ false)
    → first_opens (lex_byte between (cond q quote (cond b backslash (cond o operator (cond s space other)))) byte bytes k) ≡ false
by_class true b o s byte bytes k h blank = opens-string_token (content plain bytes)
by_class false true o s byte bytes k h blank = refl
by_class false false true s byte bytes k h blank = other_operator (byte == 123) (byte == 125) (byte == 91) (byte == 93) (byte == 44) _ h
by_class false false false true byte bytes k h blank = blank refl
by_class false false false false byte bytes k h blank = opens-word (byte ∷ bytes)

first_opens-lex : (text : List ℕ) → begins_list text ≡ false → first_opens (lex between text) ≡ false
unfolding lex
first_opens-lex [] h = refl
first_opens-lex (byte ∷ bytes) h =
    let parts = or_parts (byte == 91) (is_space byte && begins_list bytes) h in
    by_class (byte == 34) (byte == 92) (is_operator byte) (is_space byte) byte bytes (λ next. lex next bytes) parts.0
    (λ blank. first_opens-lex bytes (sym (ap (λ s. s && begins_list bytes) blank) ∙ parts.1))

-- whether the first token opens a list
abbrev first_token_opens : List Token → Bool
first_token_opens [] = false
first_token_opens (t ∷ ts) = opens t

-- the rules for commas and colons make no such token
placed : (t : Token) (before_colon : Bool) (k : Place → List Token) → opens t ≡ false → first_token_opens (place_token fresh t before_colon k) ≡ false
placed begin_object before_colon k h = refl
placed end_object before_colon k h = refl
placed begin_array before_colon k h = absurd (true≢false h)
placed end_array before_colon k h = refl
placed (key s) before_colon k h = refl
placed (string s) true k h = refl
placed (string s) false k h = refl
placed (number s) before_colon k h = refl
placed (boolean b) before_colon k h = refl
placed null before_colon k h = refl
placed bad before_colon k h = refl

first_token_opens-punctuate : (ls : List Lexeme) → first_opens ls ≡ false → first_token_opens (punctuate fresh ls) ≡ false
unfolding punctuate
first_token_opens-punctuate [] h = refl
first_token_opens-punctuate (token t ∷ ls) h = placed t (begins_colon ls) (λ next. punctuate next ls) h
first_token_opens-punctuate (comma ∷ ls) h = refl
first_token_opens-punctuate (colon ∷ ls) h = refl

-- whether a value is a list
abbrev is_list : json.Json → Bool
is_list json.null = false
is_list (json.boolean b) = false
is_list (json.number s) = false
is_list (json.string s) = false
is_list (json.array js) = true
is_list (json.object ms) = false

-- whether a list was read
abbrev reads_list : Option (json.Json × List Token) → Bool
reads_list None = false
reads_list (Some found) = is_list found.0

reads_list-object : (found : Option (json.Members × List Token)) → reads_list (json.parse_map json.object found) ≡ false
reads_list-object None = refl
reads_list-object (Some members) = refl

-- a list is read only where its first token opens one
reads_list-value_with : (a : json.Parse json.Items) (o : json.Parse json.Members) (ts : List Token) → first_token_opens ts ≡ false → reads_list (json.value_with a o ts) ≡ false
reads_list-value_with a o [] h = refl
reads_list-value_with a o (begin_object ∷ ts) h = reads_list-object (o ts)
reads_list-value_with a o (end_object ∷ ts) h = refl
reads_list-value_with a o (begin_array ∷ ts) h = absurd (true≢false h)
reads_list-value_with a o (end_array ∷ ts) h = refl
reads_list-value_with a o (key s ∷ ts) h = refl
reads_list-value_with a o (string s ∷ ts) h = refl
reads_list-value_with a o (number s ∷ ts) h = refl
reads_list-value_with a o (boolean b ∷ ts) h = refl
reads_list-value_with a o (null ∷ ts) h = refl
reads_list-value_with a o (bad ∷ ts) h = refl

-- what is no list has no texts

no_texts_in_number : (n : Option Num) → option_and_then texts_in (option_map number_data n) ≡ None
no_texts_in_number None = refl
no_texts_in_number (Some n) = refl

no_texts_in_object : (ms : Option Members) → option_and_then texts_in (option_map object_data ms) ≡ None
no_texts_in_object None = refl
no_texts_in_object (Some ms) = refl

no_texts : (value : json.Json) → is_list value ≡ false → option_and_then texts_in (of_json value) ≡ None
no_texts json.null h = refl
no_texts (json.boolean b) h = refl
no_texts (json.number s) h = no_texts_in_number (number_of s)
no_texts (json.string s) h = refl
no_texts (json.array js) h = absurd (true≢false h)
no_texts (json.object ms) h = no_texts_in_object (of_members ms no_members)

no_texts_read : (found : Option (json.Json × List Token)) → reads_list found ≡ false
    → option_and_then texts_in (option_and_then of_json (option_and_then (λ p. json.if_last p.0 p.1) found)) ≡ None
no_texts_read None h = refl
no_texts_read (Some p) h = by_rest p.0 p.1 h
  where
    by_rest : (value : json.Json) (rest : List Token) → is_list value ≡ false → option_and_then texts_in (option_and_then of_json (json.if_last value rest)) ≡ None
    by_rest value [] h = no_texts value h
    by_rest value (t ∷ ts) h = refl

-- a list in JSON begins with `[` behind white space
pub no_json_form : (text : List ℕ) → begins_list text ≡ false → json_form text ≡ None
unfolding json_form
no_json_form text h =
    let opened = first_token_opens-punctuate (lex between text) (first_opens-lex text h) in
    no_texts_read (json.value max_depth (tokens text)) (ap reads_list (value_is max_depth (tokens text)) ∙ reads_list-value_with _ _ (tokens text) opened)
