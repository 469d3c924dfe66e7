-- The levels of what is read, and one more character of a reading.
use Rattle.std.proofs.Common.{◌≡◌, ◌<◌, ◌+◌, ℕ, zero, suc, Bool, false, List, [], ◌∷◌, ◌++◌, Option, Some, None, length, refl, ap, ap₂, ◌∙◌, sym, subst, append_assoc, drop, get_or}
use Rattle.std.specs.Prelude.{option_map, option_and_then, if◌then◌else◌}
use Rattle.expand.specs.Value.{Parts, no_part, byte, variable, with_word}
use Rattle.expand.specs.PrivateTokens.{innermost, around, with_plain, with_token, onto, levels, word_of, onto-append}
use Rattle.expand.specs.Syntax.{character_bytes}
use Rattle.expand.specs.PrivatePieces.{Piece, itself, bare, braced, opening, close, tokens, piece_tokens, plain_bytes}
use Rattle.expand.proofs.PieceForms.{AllStand}
use Rattle.std.proofs.lemmas.List.{at_drop_more}
use Rattle.expand.specs.PrivateOutput.{bytewise}
use Rattle.expand.specs.PrivateReading.{IsStep, Step, step, sign_of, pieces_from, pieces}
use Rattle.expand.specs.declared.state.Reading.{Reading}
use Rattle.std.specs.Str.{chars}
use Rattle.lines.specs.declared.escape.Escape.{Escape}
use Rattle.expand.specs.declared.kind.Kind.{Kind}
use Rattle.expand.specs.PrivateScan.{scanned}
use Rattle.expand.specs.Word.{word}
use Rattle.expand.proofs.ReadLaws.{pieces-stand}
use Rattle.expand.specs.declared.character.Character.{Character}
use Rattle.expand.specs.declared.state.Begun.{Begun}
use Rattle.expand.specs.declared.state.Begun.TheVariants.{Nothing}
use Rattle.expand.specs.declared.token.Token.{Token}
use Rattle.expand.specs.declared.token.Token.TheVariants.{Plain, Variable, Open, Close}

pub tokens-append : (ps qs : List Piece) → tokens (ps ++ qs) ≡ tokens ps ++ tokens qs
tokens-append [] qs = refl
tokens-append (p ∷ ps) qs = ap (λ (ts : List Token). piece_tokens p ++ ts) (tokens-append ps qs) ∙ sym (append_assoc (piece_tokens p) (tokens ps) (tokens qs))

-- plain text byte by byte has the levels of the text

onto-bytes : (text : List ℕ) (ws : List Parts) → onto (plain_bytes text) ws ≡ with_plain text ws
onto-bytes [] ws = refl
onto-bytes (b ∷ bs) ws = ap (λ (us : List Parts). byte b (innermost us) ∷ around us) (onto-bytes bs ws)

pub onto-bytewise : (ts : List Token) (ws : List Parts) → onto (bytewise ts) ws ≡ onto ts ws
onto-bytewise [] ws = refl
onto-bytewise (Plain text ∷ ts) ws = onto-append (plain_bytes text) (bytewise ts) ws ∙ onto-bytes text (onto (bytewise ts) ws) ∙ ap (λ (us : List Parts). with_plain text us) (onto-bytewise ts ws)
onto-bytewise (Variable v ∷ ts) ws = ap (λ (us : List Parts). with_token (Variable v) us) (onto-bytewise ts ws)
onto-bytewise (Open o t v ∷ ts) ws = ap (λ (us : List Parts). with_token (Open o t v) us) (onto-bytewise ts ws)
onto-bytewise (Close ∷ ts) ws = ap (λ (us : List Parts). with_token Close us) (onto-bytewise ts ws)

-- pieces that stand have as many levels as words are open

abbrev HasLevels : ℕ → List Parts → Type 0
HasLevels n [] = ⊥
HasLevels zero (w ∷ ws) = ws ≡ []
HasLevels (suc n) (w ∷ ws) = HasLevels n ws

no_levels : (n : ℕ) → HasLevels n [] → ⊥
no_levels zero h = h
no_levels (suc n) h = h

on_top : (n : ℕ) (w : Parts) (ws : List Parts) → HasLevels n ws → HasLevels n (w ∷ around ws)
on_top n w [] h = absurd (no_levels n h)
on_top zero w (u ∷ us) h = h
on_top (suc n) w (u ∷ us) h = h

levels_bytes : (n : ℕ) (text : List ℕ) (ws : List Parts) → HasLevels n ws → HasLevels n (with_plain text ws)
levels_bytes n [] ws h = h
levels_bytes n (b ∷ bs) ws h = on_top n (byte b (innermost (with_plain bs ws))) (with_plain bs ws) (levels_bytes n bs ws h)

levels_opened : (n : ℕ) (w : Parts) (ws : List Parts) → HasLevels (suc n) ws → HasLevels n (w ∷ around (around ws))
levels_opened n w [] h = absurd h
levels_opened n w (u ∷ us) h = on_top n w us h

has_levels : (n : ℕ) (ps : List Piece) → AllStand n ps → HasLevels n (levels (tokens ps))
has_levels n [] h = subst (λ m. HasLevels m (no_part ∷ [])) (sym h) refl
has_levels n (itself c ∷ ps) h =
    subst (λ (ws : List Parts). HasLevels n ws) (sym (onto-append (plain_bytes (character_bytes c)) (tokens ps) (no_part ∷ []) ∙ onto-bytes (character_bytes c) (levels (tokens ps))))
    (levels_bytes n (character_bytes c) (levels (tokens ps)) (has_levels n ps h.1))
has_levels n (bare v ∷ ps) h = on_top n (variable v (innermost (levels (tokens ps)))) (levels (tokens ps)) (has_levels n ps h.2)
has_levels n (braced v ∷ ps) h = on_top n (variable v (innermost (levels (tokens ps)))) (levels (tokens ps)) (has_levels n ps h.2)
has_levels n (opening o t v ∷ ps) h = levels_opened n (with_word o t v (innermost (levels (tokens ps))) (innermost (around (levels (tokens ps))))) (levels (tokens ps)) (has_levels (suc n) ps h.2)
has_levels zero (close ∷ ps) h = absurd h
has_levels (suc n) (close ∷ ps) h = has_levels n ps h

one_level : (ws : List Parts) → HasLevels zero ws → around ws ≡ []
one_level [] h = absurd h
one_level (w ∷ ws) h = h

none_some : (ts : List Token) → Some ts ≡ None → ⊥
none_some ts h = cc

read_from : (ts : List Token) (o : Option (List Piece)) → ((ps : List Piece) → o ≡ Some ps → AllStand 0 ps) → Some (bytewise ts) ≡ option_map tokens o → (around (levels ts) ≡ []) × (option_map (λ (ps : List Piece). word_of (tokens ps)) o ≡ Some (word_of ts))
read_from ts None a h = absurd (none_some (bytewise ts) h)
read_from ts (Some ps) a h =
    let same : bytewise ts ≡ tokens ps = cc in
    let whole : levels ts ≡ levels (tokens ps) = sym (onto-bytewise ts (no_part ∷ [])) ∙ ap levels same in
    (ap around whole ∙ one_level (levels (tokens ps)) (has_levels 0 ps (a ps refl)), ap (λ (ws : List Parts). Some (innermost ws)) (sym whole))

none_by : (o : Option (List Piece)) → None ≡ option_map tokens o → o ≡ None
none_by None h = refl
none_by (Some ps) h = cc

stand_by : (u : Option (List Character)) (ps : List Piece) → option_and_then pieces u ≡ Some ps → AllStand 0 ps
stand_by None ps h = absurd (cc)
stand_by (Some cs) ps h = pieces-stand cs ps h

-- tokens that were read have one level, and are the word of the text
pub read_word : (kind : Kind) (e : Escape) (text cs : List ℕ) (ts : List Token) → cs ≡ chars text → Some (bytewise ts) ≡ option_map tokens (option_and_then pieces (scanned kind e cs))
    → (around (levels ts) ≡ []) × (word kind e text ≡ Some (word_of ts))
unfolding word
read_word kind e text cs ts same h =
    let found : Some (bytewise ts) ≡ option_map tokens (option_and_then pieces (scanned kind e (chars text))) = h ∙ ap (λ (t : List ℕ). option_map tokens (option_and_then pieces (scanned kind e t))) same in
    read_from ts (option_and_then pieces (scanned kind e (chars text))) (λ ps i. stand_by (scanned kind e (chars text)) ps i) found

pub read_no_word : (kind : Kind) (e : Escape) (text cs : List ℕ) → cs ≡ chars text → None ≡ option_map tokens (option_and_then pieces (scanned kind e cs)) → word kind e text ≡ None
unfolding word
read_no_word kind e text cs same h =
    ap (λ (o : Option (List Piece)). option_map (λ (ps : List Piece). word_of (tokens ps)) o)
    (ap (λ (t : List ℕ). option_and_then pieces (scanned kind e t)) (sym same) ∙ none_by (option_and_then pieces (scanned kind e cs)) h)

-- what is made so far, before what follows

pub made_more : (out front : List Token) (es : List Piece) (o : Option (List Piece)) → front ≡ out ++ tokens es
    → option_map (λ (ps : List Piece). front ++ tokens ps) o ≡ option_map (λ (ps : List Piece). out ++ tokens ps) (option_map (λ (ps : List Piece). es ++ ps) o)
made_more out front es None h = refl
made_more out front es (Some ps) h =
    ap (λ (ts : List Token). Some ts) (ap (λ (ts : List Token). ts ++ tokens ps) h ∙ append_assoc out (tokens es) (tokens ps) ∙ ap (λ (ts : List Token). out ++ ts) (sym (tokens-append es ps)))

pub made_none : (front : List Token) (o : Option (List Piece)) → front ≡ [] → option_map (λ (ps : List Piece). front ++ tokens ps) o ≡ option_map tokens o
made_none front None h = refl
made_none front (Some ps) h = ap (λ (ts : List Token). Some (ts ++ tokens ps)) h

pub made_first : (front : List Token) (n : ℕ) (b : Begun) (cs : List Character) → front ≡ [] → n ≡ 0 → b ≡ Nothing → option_map (λ (ps : List Piece). front ++ tokens ps) (pieces_from n b cs) ≡ option_map tokens (pieces cs)
unfolding pieces
made_first front n b cs h i j = ap₂ (λ m (d : Begun). option_map (λ (ps : List Piece). front ++ tokens ps) (pieces_from m d cs)) i j ∙ made_none front (pieces_from 0 Nothing cs) h

step_by : (out front : List Token) (m : ℕ) (d : Begun) (s : Step) (cs : List Character) (all : Option (List Token)) → s.is_bad ≡ false → front ≡ out ++ tokens s.ended → m ≡ s.depth → d ≡ s.begun
    → option_map (λ (ps : List Piece). out ++ tokens ps) (if s.is_bad then None else option_map (λ (ps : List Piece). s.ended ++ ps) (pieces_from s.depth s.begun cs)) ≡ all
    → option_map (λ (ps : List Piece). front ++ tokens ps) (pieces_from m d cs) ≡ all
step_by out front m d s cs all g h i j k =
    made_more out front s.ended (pieces_from m d cs) h
    ∙ ap₂ (λ (l : ℕ) (b : Begun). option_map (λ (ps : List Piece). out ++ tokens ps) (option_map (λ (ps : List Piece). s.ended ++ ps) (pieces_from l b cs))) i j
    ∙ ap (λ (b : Bool). option_map (λ (ps : List Piece). out ++ tokens ps) (if b then None else option_map (λ (ps : List Piece). s.ended ++ ps) (pieces_from s.depth s.begun cs))) (sym g)
    ∙ k

pub read_more : (out more : List Token) (n : ℕ) (b : Begun) (cs : List Character) (i : ℕ) (e : Character) (all : Option (List Token)) (o : Option Reading) (next : Reading) → o ≡ Some next → i < length cs
    → IsStep out more (step n b (sign_of (get_or cs i e)) (get_or cs i e)) o
    → option_map (λ (ps : List Piece). out ++ tokens ps) (pieces_from n b (drop i cs)) ≡ all
    → option_map (λ (ps : List Piece). more ++ tokens ps) (pieces_from next.depth next.begun (drop (i + 1) cs)) ≡ all
read_more out more n b cs i e all o next is lt s h =
    let t : IsStep out more (step n b (sign_of (get_or cs i e)) (get_or cs i e)) (Some next) = subst (λ (u : Option Reading). IsStep out more (step n b (sign_of (get_or cs i e)) (get_or cs i e)) u) is s in
    step_by out more next.depth next.begun (step n b (sign_of (get_or cs i e)) (get_or cs i e)) (drop (i + 1) cs) all t.0 t.1 t.2 t.3
    (sym (at_drop_more (λ (ds : List Character). option_map (λ (ps : List Piece). out ++ tokens ps) (pieces_from n b ds)) cs i e lt) ∙ h)

pub read_some_word : (kind : Kind) (e : Escape) (text cs : List ℕ) (ts : List Token) (o : Option (List Token)) → cs ≡ chars text → o ≡ Some ts
    → option_map bytewise o ≡ option_map tokens (option_and_then pieces (scanned kind e cs)) → (around (levels ts) ≡ []) × (word kind e text ≡ Some (word_of ts))
read_some_word kind e text cs ts o same is h = read_word kind e text cs ts same (ap (λ (u : Option (List Token)). option_map bytewise u) (sym is) ∙ h)

pub read_none_word : (kind : Kind) (e : Escape) (text cs : List ℕ) (o : Option (List Token)) → cs ≡ chars text → o ≡ None
    → option_map bytewise o ≡ option_map tokens (option_and_then pieces (scanned kind e cs)) → word kind e text ≡ None
read_none_word kind e text cs o same is h = read_no_word kind e text cs same (ap (λ (u : Option (List Token)). option_map bytewise u) (sym is) ∙ h)
