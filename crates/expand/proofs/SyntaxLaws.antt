-- Laws of the syntax: pieces that stand are those of just one syntax, so marked characters have one at most, and are read as
-- just one word, or none.
use Rattle.std.specs.Prelude.{◌≡◌, ℕ, zero, suc, false, List, [], ◌∷◌, ◌++◌, Option, Some, None, option_map, refl}
use Rattle.std.proofs.Common.{sym, ◌∙◌, ap, ap₂, subst, append_assoc, append-nil}
use Rattle.expand.specs.Value.{Parts, with_text}
use Rattle.expand.specs.PrivateTokens.{word_of, tokens_of, word_of-tokens_of}
use Rattle.expand.specs.Syntax.{Syntax, ended, standing, bare_name, braced_name, braced_word, active, operator_text, written, goes_on, IsDollarAlone, StandsForItself, Stands, character_bytes, parts_of, IsRead}
use Rattle.expand.specs.PrivatePieces.{Piece, itself, bare, braced, opening, close, plain_bytes, tokens}
use Rattle.expand.proofs.PieceForms.{written as pieces_text, AllStand}
use Rattle.expand.specs.PrivateReading.{pieces}
use Rattle.expand.proofs.ReadLaws.{pieces-good, pieces-only, IsGood}
use Rattle.expand.specs.declared.character.Character.{Character}
use Rattle.expand.specs.declared.character.Character.TheVariants.{Active, Literal}
use Rattle.expand.specs.declared.token.Token.{Token}
use Rattle.expand.specs.declared.token.Token.TheVariants.{Plain, Variable, Open, Close}

-- the pieces of a syntax, before others: a word within it goes up to its own close
abbrev flat : Syntax → List Piece → List Piece
flat ended ps = ps
flat (standing c rest) ps = itself c ∷ flat rest ps
flat (bare_name v rest) ps = bare v ∷ flat rest ps
flat (braced_name v rest) ps = braced v ∷ flat rest ps
flat (braced_word o t v word rest) ps = opening o t v ∷ flat word (close ∷ flat rest ps)

-- they are written as the syntax

within-text : (v : List ℕ) (ends word rest behind all : List Character) → all ≡ word ++ Active 125 ∷ (rest ++ behind)
    → (active v ++ ends) ++ all ≡ (active v ++ (ends ++ (word ++ Active 125 ∷ rest))) ++ behind
within-text v ends word rest behind all h =
    ap (λ (t : List Character). (active v ++ ends) ++ t) (h ∙ sym (append_assoc word (Active 125 ∷ rest) behind))
    ∙ append_assoc (active v) ends ((word ++ Active 125 ∷ rest) ++ behind)
    ∙ ap (λ (t : List Character). active v ++ t) (sym (append_assoc ends (word ++ Active 125 ∷ rest) behind))
    ∙ sym (append_assoc (active v) (ends ++ (word ++ Active 125 ∷ rest)) behind)

braced-text : (v : List ℕ) (rest behind all : List Character) → all ≡ rest ++ behind → (active v ++ Active 125 ∷ []) ++ all ≡ (active v ++ Active 125 ∷ rest) ++ behind
braced-text v rest behind all h =
    ap (λ (t : List Character). (active v ++ Active 125 ∷ []) ++ t) h ∙ append_assoc (active v) (Active 125 ∷ []) (rest ++ behind) ∙ sym (append_assoc (active v) (Active 125 ∷ rest) behind)

flat-text : (s : Syntax) (ps : List Piece) → pieces_text (flat s ps) ≡ written s ++ pieces_text ps
flat-text ended ps = refl
flat-text (standing c rest) ps = ap (λ (t : List Character). c ∷ t) (flat-text rest ps)
flat-text (bare_name v rest) ps = ap (λ (t : List Character). Active 36 ∷ (active v ++ t)) (flat-text rest ps) ∙ ap (λ (t : List Character). Active 36 ∷ t) (sym (append_assoc (active v) (written rest) (pieces_text ps)))
flat-text (braced_name v rest) ps = ap (λ (t : List Character). Active 36 ∷ Active 123 ∷ t) (braced-text v (written rest) (pieces_text ps) (pieces_text (flat rest ps)) (flat-text rest ps))
flat-text (braced_word o u v word rest) ps =
    ap (λ (t : List Character). Active 36 ∷ Active 123 ∷ t)
    (within-text v (operator_text o u) (written word) (written rest) (pieces_text ps) (pieces_text (flat word (close ∷ flat rest ps)))
    (flat-text word (close ∷ flat rest ps) ∙ ap (λ (t : List Character). written word ++ Active 125 ∷ t) (flat-text rest ps)))

-- where a syntax may stand, its pieces may, and the other way round

-- what follows neither goes on with a name nor opens one behind a `$`
abbrev IsHarmless : List Character → Type 0
IsHarmless cs = IsDollarAlone cs × (goes_on cs ≡ false)

alone-more : (cs ds : List Character) → IsDollarAlone ds → IsDollarAlone cs → IsDollarAlone (cs ++ ds)
alone-more [] ds h i = h
alone-more (Active c ∷ cs) ds h i = i
alone-more (Literal c ∷ cs) ds h i = tt

alone-less : (cs ds : List Character) → IsDollarAlone (cs ++ ds) → IsDollarAlone cs
alone-less [] ds h = tt
alone-less (Active c ∷ cs) ds h = h
alone-less (Literal c ∷ cs) ds h = tt

goes_on-more : (cs ds : List Character) → goes_on ds ≡ false → goes_on cs ≡ false → goes_on (cs ++ ds) ≡ false
goes_on-more [] ds h i = h
goes_on-more (Active c ∷ cs) ds h i = i
goes_on-more (Literal c ∷ cs) ds h i = refl

goes_on-less : (cs ds : List Character) → goes_on (cs ++ ds) ≡ false → goes_on cs ≡ false
goes_on-less [] ds h = refl
goes_on-less (Active c ∷ cs) ds h = h
goes_on-less (Literal c ∷ cs) ds h = refl

stands-more : (n : ℕ) (c : Character) (cs ds : List Character) → IsDollarAlone ds → StandsForItself n c cs → StandsForItself n c (cs ++ ds)
stands-more n (Active c) cs ds h i = (λ j. alone-more cs ds h (i.0 j), i.1)
stands-more n (Literal c) cs ds h i = tt

stands-less : (n : ℕ) (c : Character) (cs ds : List Character) → StandsForItself n c (cs ++ ds) → StandsForItself n c cs
stands-less n (Active c) cs ds h = (λ j. alone-less cs ds (h.0 j), h.1)
stands-less n (Literal c) cs ds h = tt

flat-stands : (n : ℕ) (s : Syntax) (ps : List Piece) → Stands n s → IsHarmless (pieces_text ps) → AllStand n ps → AllStand n (flat s ps)
flat-stands n ended ps h i j = j
flat-stands n (standing c rest) ps h i j =
    (subst (λ (t : List Character). StandsForItself n c t) (sym (flat-text rest ps)) (stands-more n c (written rest) (pieces_text ps) i.0 h.0), flat-stands n rest ps h.1 i j)
flat-stands n (bare_name v rest) ps h i j = (h.0, ap goes_on (flat-text rest ps) ∙ goes_on-more (written rest) (pieces_text ps) i.1 h.1, flat-stands n rest ps h.2 i j)
flat-stands n (braced_name v rest) ps h i j = (h.0, h.1, flat-stands n rest ps h.2 i j)
flat-stands n (braced_word o t v word rest) ps h i j = (h.0, h.1, flat-stands (suc n) word (close ∷ flat rest ps) h.2 ((refl, refl), refl) (flat-stands n rest ps h.3 i j))

-- the pieces behind the innermost of n words that are open: its close, and the rest of the word around it
abbrev Ends : ℕ → List Piece → Type 0
Ends zero ps = ps ≡ []
Ends (suc n) ps = (s : Syntax) × (behind : List Piece) × Stands n s × (ps ≡ close ∷ flat s behind) × Ends n behind

-- the pieces begin with the rest of the innermost word
abbrev Splits : ℕ → List Piece → Type 0
Splits n ps = (s : Syntax) × (behind : List Piece) × Stands n s × (ps ≡ flat s behind) × Ends n behind

-- what stands before it
split-opening : (n : ℕ) (p : Piece) (ps : List Piece) (before : Syntax → Syntax → Syntax)
    → ((word rest : Syntax) → Stands (suc n) word → Stands n rest → Stands n (before word rest))
    → ((word rest : Syntax) (behind : List Piece) → p ∷ flat word (close ∷ flat rest behind) ≡ flat (before word rest) behind)
    → Splits (suc n) ps → Splits n (p ∷ ps)
split-opening n p ps before h i s =
    let ends = s.4 in (
      before s.0 ends.0,
      ends.1,
      h s.0 ends.0 s.2 ends.2,
      ap (λ (qs : List Piece). p ∷ qs) (s.3 ∙ ap (flat s.0) ends.3) ∙ i s.0 ends.0 ends.1,
      ends.4,
    )

splits : (n : ℕ) (ps : List Piece) → AllStand n ps → Splits n ps
splits n [] h = subst (λ m. Splits m []) (sym h) (ended, [], tt, refl, refl)
splits n (itself c ∷ ps) h =
    let s = splits n ps h.1 in (
      standing c s.0,
      s.1,
      (stands-less n c (written s.0) (pieces_text s.1) (subst (λ (t : List Character). StandsForItself n c t) (ap pieces_text s.3 ∙ flat-text s.0 s.1) h.0), s.2),
      ap (λ (qs : List Piece). itself c ∷ qs) s.3,
      s.4,
    )
splits n (bare v ∷ ps) h =
    let s = splits n ps h.2 in (
      bare_name v s.0,
      s.1,
      (h.0, goes_on-less (written s.0) (pieces_text s.1) (sym (ap goes_on (ap pieces_text s.3 ∙ flat-text s.0 s.1)) ∙ h.1), s.2),
      ap (λ (qs : List Piece). bare v ∷ qs) s.3,
      s.4,
    )
splits n (braced v ∷ ps) h = let s = splits n ps h.2 in (braced_name v s.0, s.1, (h.0, h.1, s.2), ap (λ (qs : List Piece). braced v ∷ qs) s.3, s.4)
splits n (opening o t v ∷ ps) h = split-opening n (opening o t v) ps (braced_word o t v) (λ word rest i j. (h.0, h.1, i, j)) (λ word rest behind. refl) (splits (suc n) ps h.2)
splits zero (close ∷ ps) h = absurd h
splits (suc n) (close ∷ ps) h = let s = splits n ps h in (ended, close ∷ ps, tt, refl, (s.0, s.1, s.2, ap (λ (qs : List Piece). close ∷ qs) s.3, s.4))

-- the pieces of a syntax stand for the tokens of its parts

text-tokens : (text : List ℕ) (word : Parts) (ts : List Token) → plain_bytes text ++ (tokens_of word ++ ts) ≡ tokens_of (with_text text word) ++ ts
text-tokens [] word ts = refl
text-tokens (b ∷ bs) word ts = ap (λ (us : List Token). Plain (b ∷ []) ∷ us) (text-tokens bs word ts)

flat-tokens : (s : Syntax) (ps : List Piece) → tokens (flat s ps) ≡ tokens_of (parts_of s) ++ tokens ps
flat-tokens ended ps = refl
flat-tokens (standing c rest) ps = ap (λ (ts : List Token). plain_bytes (character_bytes c) ++ ts) (flat-tokens rest ps) ∙ text-tokens (character_bytes c) (parts_of rest) (tokens ps)
flat-tokens (bare_name v rest) ps = ap (λ (ts : List Token). Variable v ∷ ts) (flat-tokens rest ps)
flat-tokens (braced_name v rest) ps = ap (λ (ts : List Token). Variable v ∷ ts) (flat-tokens rest ps)
flat-tokens (braced_word o t v word rest) ps =
    ap (λ (ts : List Token). Open o t v ∷ ts)
    (flat-tokens word (close ∷ flat rest ps) ∙ ap (λ (ts : List Token). tokens_of (parts_of word) ++ (Close ∷ ts)) (flat-tokens rest ps)
    ∙ sym (append_assoc (tokens_of (parts_of word)) (Close ∷ tokens_of (parts_of rest)) (tokens ps)))

flat-word : (s : Syntax) → word_of (tokens (flat s [])) ≡ parts_of s
flat-word s = ap word_of (flat-tokens s [] ∙ append-nil (tokens_of (parts_of s))) ∙ word_of-tokens_of (parts_of s)

-- so marked characters are one word or none

-- reading what a syntax is written as finds its pieces
pieces-syntax : (s : Syntax) → Stands 0 s → pieces (written s) ≡ Some (flat s [])
pieces-syntax s h = pieces-only (written s) (flat s []) (flat-stands 0 s [] h (tt, refl) refl) (sym (flat-text s [] ∙ append-nil (written s)))

some_word : (w u : Parts) → Some w ≡ Some u → w ≡ u
some_word w u h = cc

read_by : (cs : List Character) (o : Option (List Piece)) (w : Parts) → IsGood 0 cs o → option_map (λ (ps : List Piece). word_of (tokens ps)) o ≡ Some w → IsRead cs w
read_by cs None w g h = absurd (cc)
read_by cs (Some ps) w g h =
    let s = splits 0 ps g.0 in
    let same : ps ≡ flat s.0 [] = s.3 ∙ ap (flat s.0) s.4 in (
      s.0,
      s.2,
      g.1 ∙ ap pieces_text same ∙ flat-text s.0 [] ∙ append-nil (written s.0),
      sym (some_word (word_of (tokens ps)) w h) ∙ ap (λ (qs : List Piece). word_of (tokens qs)) same ∙ flat-word s.0,
    )

pub read-is : (cs : List Character) (w : Parts) → option_map (λ (ps : List Piece). word_of (tokens ps)) (pieces cs) ≡ Some w → IsRead cs w
read-is cs w h = read_by cs (pieces cs) w (pieces-good cs) h

pub read-only : (cs : List Character) (w : Parts) → IsRead cs w → option_map (λ (ps : List Piece). word_of (tokens ps)) (pieces cs) ≡ Some w
read-only cs w h =
    ap (λ (o : Option (List Piece)). option_map (λ (ps : List Piece). word_of (tokens ps)) o) (ap pieces h.2 ∙ pieces-syntax h.0 h.1)
    ∙ ap (λ (u : Parts). Some u) (flat-word h.0 ∙ sym h.3)

-- and pieces are those of one syntax alone

-- the syntaxes of pieces, the innermost first: what stands behind the last close, and so on outwards
abbrev first : List Syntax → Syntax
first [] = ended
first (s ∷ ss) = s

abbrev others : List Syntax → List Syntax
others [] = []
others (s ∷ ss) = ss

abbrev with_piece : Piece → List Syntax → List Syntax
with_piece (itself c) ss = standing c (first ss) ∷ others ss
with_piece (bare v) ss = bare_name v (first ss) ∷ others ss
with_piece (braced v) ss = braced_name v (first ss) ∷ others ss
with_piece (opening o t v) ss = braced_word o t v (first ss) (first (others ss)) ∷ others (others ss)
with_piece close ss = ended ∷ ss

abbrev syntaxes : List Piece → List Syntax
syntaxes [] = ended ∷ []
syntaxes (p ∷ ps) = with_piece p (syntaxes ps)

syntaxes-some : (ps : List Piece) → syntaxes ps ≡ first (syntaxes ps) ∷ others (syntaxes ps)
syntaxes-some [] = refl
syntaxes-some (itself c ∷ ps) = refl
syntaxes-some (_ ∷ ps) = refl

-- a syntax before another
abbrev joined : Syntax → Syntax → Syntax
joined ended t = t
joined (standing c rest) t = standing c (joined rest t)
joined (bare_name v rest) t = bare_name v (joined rest t)
joined (braced_name v rest) t = braced_name v (joined rest t)
joined (braced_word o t v word rest) u = braced_word o t v word (joined rest u)

joined-ended : (s : Syntax) → joined s ended ≡ s
joined-ended ended = refl
joined-ended (standing c rest) = ap (λ (t : Syntax). standing c t) (joined-ended rest)
joined-ended (bare_name v rest) = ap (λ (t : Syntax). bare_name v t) (joined-ended rest)
joined-ended (braced_name v rest) = ap (λ (t : Syntax). braced_name v t) (joined-ended rest)
joined-ended (braced_word o u v word rest) = ap (λ (t : Syntax). braced_word o u v word t) (joined-ended rest)

abbrev joined_to : Syntax → List Syntax → List Syntax
joined_to s ss = joined s (first ss) ∷ others ss

syntaxes-flat : (s : Syntax) (ps : List Piece) → syntaxes (flat s ps) ≡ joined_to s (syntaxes ps)
syntaxes-flat ended ps = syntaxes-some ps
syntaxes-flat (standing c rest) ps = ap (λ (ss : List Syntax). with_piece (itself c) ss) (syntaxes-flat rest ps)
syntaxes-flat (bare_name v rest) ps = ap (λ (ss : List Syntax). with_piece (bare v) ss) (syntaxes-flat rest ps)
syntaxes-flat (braced_name v rest) ps = ap (λ (ss : List Syntax). with_piece (braced v) ss) (syntaxes-flat rest ps)
syntaxes-flat (braced_word o u v word rest) ps =
    ap (λ (ss : List Syntax). with_piece (opening o u v) ss) (syntaxes-flat word (close ∷ flat rest ps) ∙ ap₂ (λ (t : Syntax) (ss : List Syntax). t ∷ ss) (joined-ended word) (syntaxes-flat rest ps))

syntax-flat : (s : Syntax) → first (syntaxes (flat s [])) ≡ s
syntax-flat s = ap first (syntaxes-flat s []) ∙ joined-ended s

same_pieces : (ps qs : List Piece) → Some ps ≡ Some qs → ps ≡ qs
same_pieces ps qs h = cc

pub syntax-only : (s t : Syntax) → Stands 0 s → Stands 0 t → written s ≡ written t → s ≡ t
syntax-only s t h i same =
    sym (syntax-flat s)
    ∙ ap (λ (ps : List Piece). first (syntaxes ps)) (same_pieces (flat s []) (flat t []) (sym (pieces-syntax s h) ∙ ap pieces same ∙ pieces-syntax t i))
    ∙ syntax-flat t
