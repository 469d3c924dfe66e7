-- Facts on the warnings of a text.
use Rattle.std.proofs.Common.{◌≡◌, ◌<◌, ◌+◌, ◌++◌, ◌⊎◌, ℕ, List, [], ◌∷◌, Option, Some, None, Result, drop, get_or, length, refl, sym, ap, ◌∙◌, inl, inr}
use Rattle.std.specs.Prelude.{IfOk}
use Rattle.std.specs.List.{cons_option, filter_map}
use Rattle.std.proofs.lemmas.List.{append-nil, append_assoc}
use Rattle.std.proofs.lemmas.Slice.Zip.{AllZip-long}
use Rattle.std.proofs.lemmas.Result.{IfOk-weaker}
use Rattle.plain.specs.declared.refusal.Refusal.{Refusal}
use Rattle.lines.specs.Text.{AreLines}
use Rattle.lines.specs.declared.line.Line.{Line}
use Rattle.lines.proofs.TextLaws.{lines_same}
use Rattle.instructions.specs.Instruction.{Instruction}
use Rattle.instructions.specs.Parsing.{Spells}
use Rattle.dockerfile.specs.Dockerfile.{AreInstructions, AreSpelled, IsRefused}
use Rattle.scopes.specs.Evaluate.{Values}
use Rattle.warnings.specs.Known.{Known}
use Rattle.warnings.specs.PrivateKnown.{KnowsFile, known_by}
use Rattle.warnings.specs.Place.{place_after}
use Rattle.warnings.specs.Warnings.{AreWarningsOf, listed, warnings_at, warnings_from, warnings_in, warnings_of}
use Rattle.warnings.specs.declared.known.Known as declared
use Rattle.warnings.specs.declared.place.Place.{Place}
use Rattle.warnings.specs.declared.warning.Warning.{Warning}
use Rattle.warnings.proofs.KnownFacts.{dropped, known_same}

-- there is an instruction for each line
pub as_long : (lines : List Line) (is : List Instruction) → AreSpelled lines is → length lines ≡ length is
as_long lines is h = sym (AllZip-long Spells lines is h)

-- a warning, if there is one, before those that come after
listed_more : (found : List Warning) (warning : Option Warning) (rest : List Warning) → (found ++ listed warning) ++ rest ≡ found ++ cons_option warning rest
listed_more found None rest = ap (λ ws. ws ++ rest) (append-nil found)
listed_more found (Some warning) rest = append_assoc found (warning ∷ []) rest

-- one part more, whose warning is added if there is one
pub pushed : {X : Type 0} (warn : X → Option Warning) (xs : List X) (index : ℕ) (x : X) (warning : Option Warning) (found more all : List Warning)
    → index < length xs → x ≡ get_or xs index x → warning ≡ warn x → more ≡ found ++ listed warning
    → found ++ filter_map warn (drop index xs) ≡ all → more ++ filter_map warn (drop (index + 1) xs) ≡ all
pushed warn xs index x warning found more all lt here is added far =
    ap (λ ws. ws ++ filter_map warn (drop (index + 1) xs)) (added ∙ ap (λ o. found ++ listed o) is)
    ∙ (listed_more found (warn x) (filter_map warn (drop (index + 1) xs)) ∙ (ap (λ ys. found ++ filter_map warn ys) (sym (dropped xs index x lt here)) ∙ far))

-- one instruction more
pub step : (known : Known) (place : Place) (lines : List Line) (is : List Instruction) (index : ℕ) (line : Line) (i : Instruction) (found more all : List Warning)
    → index < length lines → index < length is → line ≡ get_or lines index line → i ≡ get_or is index i
    → found ++ warnings_from known place (drop index lines) (drop index is) ≡ all → more ≡ found ++ warnings_at known place line i
    → more ++ warnings_from known (place_after place line i) (drop (index + 1) lines) (drop (index + 1) is) ≡ all
step known place lines is index line i found more all lt below here there far added =
    ap (λ ws. ws ++ warnings_from known (place_after place line i) (drop (index + 1) lines) (drop (index + 1) is)) added
    ∙ (append_assoc found (warnings_at known place line i) (warnings_from known (place_after place line i) (drop (index + 1) lines) (drop (index + 1) is))
    ∙ (ap (λ (js : List Instruction). found ++ warnings_from known place (line ∷ drop (index + 1) lines) js) (sym (dropped is index i below there))
    ∙ (ap (λ (ls : List Line). found ++ warnings_from known place ls (drop index is)) (sym (dropped lines index line lt here)) ∙ far)))

-- what is found by what the code knows of a file is what is found by the file
pub by_known : {E : Type 0} (args : Values) (lines : List Line) (is : List Instruction) (known : declared.Known) (result : Result (List Warning) E) → KnowsFile is known
    → IfOk result (λ found. found ≡ warnings_in (known_by args known) lines is) → IfOk result (λ found. found ≡ warnings_of args lines is)
by_known args lines is known result knows gives =
    IfOk-weaker result _ _ (λ found is_found. is_found ∙ ap (λ (it : Known). warnings_in it lines is) (known_same args is known knows)) gives

-- what is found of a text's lines are its warnings
pub found_all : {E : Type 0} (args : Values) (text : List ℕ) (lines : List Line) (is : List Instruction) (result : Result (List Warning) E)
    → AreLines text lines → AreSpelled lines is → IfOk result (λ found. found ≡ warnings_of args lines is) → IfOk result (λ found. AreWarningsOf args text found)
found_all args text lines is result cut spelled gives = IfOk-weaker result _ _ (λ found is_found. inl (lines, is, cut, spelled, is_found)) gives

-- laws

-- each text has its warnings
pub warned : (args : Values) (text : List ℕ) → ((found : List Instruction) × AreInstructions text found) ⊎ ((refusal : Refusal) × IsRefused text refusal)
    → (found : List Warning) × AreWarningsOf args text found
warned args text (inl read) = (warnings_of args read.1.0 read.0, inl (read.1.0, read.0, read.1.1, read.1.2, refl))
warned args text (inr told) = ([], inr (told.0, told.1, refl))

-- it has no others
pub warned_once : ((text : List ℕ) (found others : List Instruction) → AreInstructions text found → AreInstructions text others → found ≡ others)
    → ((text : List ℕ) (found : List Instruction) (refusal : Refusal) → AreInstructions text found → IsRefused text refusal → ⊥)
    → (args : Values) (text : List ℕ) (found others : List Warning) → AreWarningsOf args text found → AreWarningsOf args text others → found ≡ others
warned_once same apart args text found others (inl a) (inl b) =
    a.4 ∙ (ap (λ (ls : List Line). warnings_of args ls a.1) (lines_same text a.0 b.0 a.2 b.2)
    ∙ (ap (λ (is : List Instruction). warnings_of args b.0 is) (same text a.1 b.1 (a.0, a.2, a.3) (b.0, b.2, b.3)) ∙ sym b.4))
warned_once same apart args text found others (inl a) (inr b) = absurd (apart text a.1 b.0 (a.0, a.2, a.3) b.1)
warned_once same apart args text found others (inr a) (inl b) = absurd (apart text b.1 a.0 (b.0, b.2, b.3) a.1)
warned_once same apart args text found others (inr a) (inr b) = a.2 ∙ sym b.2
