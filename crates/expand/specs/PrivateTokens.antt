-- The parts that a list of tokens stands for.
use Rattle.std.specs.Prelude.{◌≡◌, ℕ, List, [], ◌∷◌, ◌++◌, refl}
use Rattle.std.proofs.Common.{ap, ◌∙◌}
use Rattle.std.specs.Coded.{Coded, code_by, coded_list}
use Rattle.expand.specs.Value.{Parts, no_part, byte, variable, with_word}
use Rattle.expand.specs.declared.token.Token.{Token}
use Rattle.expand.specs.declared.token.Token.TheVariants.{Plain, Variable, Open, Close}
use Rattle.expand.specs.contracts.token.Token as token

-- Words that stand within one another are levels: the innermost word first, then the rest of the one around it, and so
-- on. The last level is the word that stands in no other.

-- the innermost word, the empty one where there is no level
abbrev pub innermost : List Parts → Parts
innermost [] = no_part
innermost (w ∷ ws) = w

-- the levels around the innermost word
abbrev pub around : List Parts → List Parts
around [] = []
around (w ∷ ws) = ws

-- levels with bytes of plain text before the innermost word
abbrev pub with_plain : List ℕ → List Parts → List Parts
with_plain [] ws = ws
with_plain (b ∷ bs) ws = byte b (innermost (with_plain bs ws)) ∷ around (with_plain bs ws)

-- levels with one token before them: a variable with a word of its own takes the innermost word, up to its close, and
-- goes before what is around it
abbrev pub with_token : Token → List Parts → List Parts
with_token (Plain text) ws = with_plain text ws
with_token (Variable v) ws = variable v (innermost ws) ∷ around ws
with_token (Open o t v) ws = with_word o t v (innermost ws) (innermost (around ws)) ∷ around (around ws)
with_token Close ws = no_part ∷ ws

-- levels with tokens before them, the last token first
abbrev pub onto : List Token → List Parts → List Parts
onto [] ws = ws
onto (t ∷ ts) ws = with_token t (onto ts ws)

-- the levels of tokens alone
abbrev pub levels : List Token → List Parts
levels ts = onto ts (no_part ∷ [])

-- the word of tokens
abbrev pub word_of : List Token → Parts
word_of ts = innermost (levels ts)

-- the tokens of a word, with a close behind each word within it
abbrev pub tokens_of : Parts → List Token
tokens_of no_part = []
tokens_of (byte b w) = Plain (b ∷ []) ∷ tokens_of w
tokens_of (variable v w) = Variable v ∷ tokens_of w
tokens_of (with_word o t v d w) = Open o t v ∷ (tokens_of d ++ (Close ∷ tokens_of w))

-- a word before the innermost one
abbrev joined : Parts → Parts → Parts
joined no_part u = u
joined (byte b w) u = byte b (joined w u)
joined (variable v w) u = variable v (joined w u)
joined (with_word o t v d w) u = with_word o t v d (joined w u)

joined-no_part : (w : Parts) → joined w no_part ≡ w
joined-no_part no_part = refl
joined-no_part (byte b w) = ap (λ (u : Parts). byte b u) (joined-no_part w)
joined-no_part (variable v w) = ap (λ (u : Parts). variable v u) (joined-no_part w)
joined-no_part (with_word o t v d w) = ap (λ (u : Parts). with_word o t v d u) (joined-no_part w)

pub onto-append : (ts us : List Token) (ws : List Parts) → onto (ts ++ us) ws ≡ onto ts (onto us ws)
onto-append [] us ws = refl
onto-append (t ∷ ts) us ws = ap (λ (vs : List Parts). with_token t vs) (onto-append ts us ws)

onto-tokens_of : (w u : Parts) (us : List Parts) → onto (tokens_of w) (u ∷ us) ≡ joined w u ∷ us
onto-tokens_of no_part u us = refl
onto-tokens_of (byte b w) u us = ap (λ (vs : List Parts). with_token (Plain (b ∷ [])) vs) (onto-tokens_of w u us)
onto-tokens_of (variable v w) u us = ap (λ (vs : List Parts). with_token (Variable v) vs) (onto-tokens_of w u us)
onto-tokens_of (with_word o t v d w) u us =
    ap (λ (vs : List Parts). with_token (Open o t v) vs)
    (onto-append (tokens_of d) (Close ∷ tokens_of w) (u ∷ us)
    ∙ ap (λ (vs : List Parts). onto (tokens_of d) (no_part ∷ vs)) (onto-tokens_of w u us)
    ∙ onto-tokens_of d no_part (joined w u ∷ us)
    ∙ ap (λ (e : Parts). e ∷ joined w u ∷ us) (joined-no_part d))

-- each word is that of its tokens
pub word_of-tokens_of : (w : Parts) → word_of (tokens_of w) ≡ w
word_of-tokens_of w = ap innermost (onto-tokens_of w no_part []) ∙ joined-no_part w

-- the code of a word, as its tokens
abbrev pub parts_code : Coded Parts
parts_code = code_by (List Token) (coded_list token.the_row.coded) tokens_of word_of word_of-tokens_of
