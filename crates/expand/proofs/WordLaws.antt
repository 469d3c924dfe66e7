-- Laws of words: each text is just one word, the one that reading it from the front gives, or none.
use Rattle.std.specs.Prelude.{◌≡◌, ℕ, List, Option, Some, None, option_map, option_and_then, refl}
use Rattle.std.proofs.Common.{sym, ◌∙◌, ap}
use Rattle.std.specs.Str.{chars}
use Rattle.lines.specs.declared.escape.Escape.{Escape}
use Rattle.expand.specs.Value.{Parts}
use Rattle.expand.specs.PrivateTokens.{word_of}
use Rattle.expand.specs.PrivatePieces.{Piece, tokens}
use Rattle.expand.specs.Word.{IsWord, word}
use Rattle.expand.specs.PrivateReading.{pieces}
use Rattle.expand.specs.PrivateScan.{scanned}
use Rattle.expand.proofs.ScanLaws.{scanned-is, scanned-only}
use Rattle.expand.proofs.SyntaxLaws.{read-is, read-only}
use Rattle.expand.specs.declared.character.Character.{Character}
use Rattle.expand.specs.declared.kind.Kind.{Kind}

word_by : (kind : Kind) (e : Escape) (text : List ℕ) (o : Option (List Character)) → scanned kind e (chars text) ≡ o → (w : Parts)
    → option_map (λ (ps : List Piece). word_of (tokens ps)) (option_and_then pieces o) ≡ Some w → IsWord kind e text w
word_by kind e text None s w h = absurd (cc)
word_by kind e text (Some cs) s w h = (cs, scanned-is kind e (chars text) cs s, read-is cs w h)

pub word-is : (kind : Kind) (e : Escape) (text : List ℕ) (w : Parts) → word kind e text ≡ Some w → IsWord kind e text w
unfolding word
word-is kind e text w h = word_by kind e text (scanned kind e (chars text)) refl w h

pub word-only : (kind : Kind) (e : Escape) (text : List ℕ) (w : Parts) → IsWord kind e text w → word kind e text ≡ Some w
unfolding word
word-only kind e text w h =
    ap (λ (o : Option (List Character)). option_map (λ (ps : List Piece). word_of (tokens ps)) (option_and_then pieces o)) (scanned-only kind e (chars text) h.0 h.1)
    ∙ read-only h.0 w h.2

none_some : (w : Parts) → None ≡ Some w → ⊥
none_some w h = cc

-- a text for which reading gives none is no word
pub no_word : (kind : Kind) (e : Escape) (text : List ℕ) → word kind e text ≡ None → (w : Parts) → IsWord kind e text w → ⊥
no_word kind e text h w i = none_some w (sym h ∙ word-only kind e text w i)
