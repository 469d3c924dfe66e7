-- What adding to an output does to its tokens.
use Rattle.std.proofs.Common.{◌≡◌, ℕ, List, [], ◌∷◌, ◌++◌, length, refl, ap, ◌∙◌, sym, append_assoc, append-nil, arith}
use Rattle.expand.specs.PrivatePieces.{plain_bytes}
use Rattle.expand.specs.PrivateOutput.{bytewise}
use Rattle.expand.specs.declared.token.Token.{Token}
use Rattle.expand.specs.declared.token.Token.TheVariants.{Plain, Variable, Open, Close}

pub bytewise-append : (ts us : List Token) → bytewise (ts ++ us) ≡ bytewise ts ++ bytewise us
bytewise-append [] us = refl
bytewise-append (Plain text ∷ ts) us = ap (λ (vs : List Token). plain_bytes text ++ vs) (bytewise-append ts us) ∙ sym (append_assoc (plain_bytes text) (bytewise ts) (bytewise us))
bytewise-append (Variable v ∷ ts) us = ap (λ (vs : List Token). Variable v ∷ vs) (bytewise-append ts us)
bytewise-append (Open o t v ∷ ts) us = ap (λ (vs : List Token). Open o t v ∷ vs) (bytewise-append ts us)
bytewise-append (Close ∷ ts) us = ap (λ (vs : List Token). Close ∷ vs) (bytewise-append ts us)

pub bytewise_plain : (ts : List Token) (text : List ℕ) → bytewise (ts ++ Plain text ∷ []) ≡ bytewise ts ++ plain_bytes text
bytewise_plain ts text = bytewise-append ts (Plain text ∷ []) ∙ ap (λ (vs : List Token). bytewise ts ++ vs) (append-nil (plain_bytes text))

pub bytewise_no_plain : (ts : List Token) (text : List ℕ) → length text ≡ 0 → bytewise ts ≡ bytewise ts ++ plain_bytes text
bytewise_no_plain ts [] h = sym (append-nil (bytewise ts))
bytewise_no_plain ts (b ∷ bs) h = absurd (omega arith)

pub bytewise_more : (ts made : List Token) (text : List ℕ) (token : Token) → bytewise ts ≡ made → text ≡ [] → bytewise (ts ++ token ∷ []) ++ plain_bytes text ≡ made ++ bytewise (token ∷ [])
bytewise_more ts made text token h i =
    ap (λ t. bytewise (ts ++ token ∷ []) ++ plain_bytes t) i ∙ append-nil (bytewise (ts ++ token ∷ []))
    ∙ bytewise-append ts (token ∷ []) ∙ ap (λ (vs : List Token). vs ++ bytewise (token ∷ [])) h
