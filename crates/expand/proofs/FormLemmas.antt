-- A text of ordinary bytes is the word of them, and expanding that word gives the text.
use Rattle.std.proofs.Common.{◌≡◌, ℕ, Bool, true, false, List, [], ◌∷◌, Option, None, refl, ap, subst, ◌∙◌, sym}
use Rattle.std.specs.Prelude.{if◌then◌else◌, Result}
use Rattle.std.specs.Str.{IsUtf8}
use Rattle.std.proofs.lemmas.Bool.{true≢false}
use Rattle.plain.specs.declared.fault.Fault.{Fault}
use Rattle.lines.specs.declared.escape.Escape.{Escape}
use Rattle.expand.specs.Expanding.{Gives, fault_of, unexpanded}
use Rattle.expand.specs.PrivateExpanding.{IsWithin}
use Rattle.expand.specs.PrivateForm.{are_ordinary}
use Rattle.expand.specs.Value.{Parts, no_part, with_text, value, refusal}
use Rattle.expand.specs.Word.{IsWord, is_ordinary, AreOrdinary}
use Rattle.expand.proofs.ExpandLemmas.{gives-within, gives-by, most_text_bytes-is}
use Rattle.expand.proofs.OrdinaryLaws.{ordinary-word}
use Rattle.expand.proofs.ValueLaws.{value-text, refusal-text}
use Rattle.expand.specs.declared.fault.Unexpanded.{Unexpanded}
use Rattle.expand.specs.declared.kind.Kind.{Kind}

all_by : (kind : Kind) (e : Escape) (cs : List ℕ) (t : Bool) → ((if t then are_ordinary kind e cs else false) ≡ true) → (t ≡ true) × (are_ordinary kind e cs ≡ true)
all_by kind e cs true h = (refl, h)
all_by kind e cs false h = absurd (true≢false (sym h))

-- bytes that were tested are ordinary as the definition says
all_ordinary : (kind : Kind) (e : Escape) (bytes : List ℕ) → are_ordinary kind e bytes ≡ true → AreOrdinary kind e bytes
all_ordinary kind e [] h = tt
all_ordinary kind e (c ∷ cs) h =
    let both = all_by kind e cs (is_ordinary kind e c) h in
    (both.0, all_ordinary kind e cs both.1)

-- the word of a text whose bytes were tested
pub plain_is_word : (kind : Kind) (e : Escape) (text bytes : List ℕ) (test : Bool) (word : Parts) → IsUtf8 text → bytes ≡ text → test ≡ are_ordinary kind e bytes → test ≡ true
    → word ≡ with_text text no_part → IsWord kind e text word
plain_is_word kind e text bytes test word u same is h i =
    subst (λ (w : Parts). IsWord kind e text w) (sym i)
    (ordinary-word kind e text u (all_ordinary kind e text (ap (are_ordinary kind e) (sym same) ∙ sym is ∙ h)))

-- the value of the word of a text that is kept as it is
pub gives_plain : (s : List ℕ → Option (List ℕ)) (text : List ℕ) (w : Parts) (r : Result (List ℕ) (Fault Unexpanded)) → with_text text no_part ≡ w → IsWithin 1048576 text r → Gives (unexpanded s w) (value s w) r
gives_plain s text w r h k =
    let same_value : text ≡ value s w = sym (value-text s text) ∙ ap (value s) h in
    let unrefused : None ≡ refusal s w = sym (refusal-text s text) ∙ ap (refusal s) h in
    subst (λ l. Gives (fault_of l (refusal s w) (value s w)) (value s w) r) most_text_bytes-is
    (gives-by 1048576 None (refusal s w) text (value s w) r unrefused same_value (gives-within 1048576 text r k))
