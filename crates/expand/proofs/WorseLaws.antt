-- Laws of what is reported of a line's texts: it adds up, and a text with a value adds nothing.
use Rattle.std.specs.Prelude.{◌≡◌, ℕ, List, [], ◌∷◌, ◌++◌, Option, Some, None, refl}
use Rattle.std.proofs.Common.{ap, ◌∙◌, sym}
use Rattle.expand.specs.Value.{Parts, value}
use Rattle.expand.specs.Expanding.{unexpanded, valued_by, valued, worse, worst}
use Rattle.expand.specs.declared.fault.Unexpanded.{Unexpanded}
use Rattle.expand.specs.declared.fault.Unexpanded.TheVariants.{TooLong, Required}

pub worse-none : (fault : Option Unexpanded) → worse fault None ≡ fault
worse-none None = refl
worse-none (Some TooLong) = refl
worse-none (Some (Required text)) = refl

pub worse-assoc : (one two three : Option Unexpanded) → worse (worse one two) three ≡ worse one (worse two three)
worse-assoc None two three = refl
worse-assoc (Some TooLong) two three = refl
worse-assoc (Some (Required text)) None three = refl
worse-assoc (Some (Required text)) (Some TooLong) three = refl
worse-assoc (Some (Required text)) (Some (Required other)) None = refl
worse-assoc (Some (Required text)) (Some (Required other)) (Some TooLong) = refl
worse-assoc (Some (Required text)) (Some (Required other)) (Some (Required more)) = refl

pub worst-append : (one two : List (Option Unexpanded)) → worst (one ++ two) ≡ worse (worst one) (worst two)
worst-append [] two = refl
worst-append (fault ∷ faults) two = ap (worse fault) (worst-append faults two) ∙ sym (worse-assoc fault (worst faults) (worst two))

-- nothing is against two texts together only if nothing is against either
pub worse_none-left : (one two : Option Unexpanded) → worse one two ≡ None → one ≡ None
worse_none-left None two h = refl
worse_none-left (Some TooLong) two h = h
worse_none-left (Some (Required text)) None h = h
worse_none-left (Some (Required text)) (Some TooLong) h = absurd (cc)
worse_none-left (Some (Required text)) (Some (Required other)) h = h

pub worse_none-right : (one two : Option Unexpanded) → worse one two ≡ None → two ≡ None
worse_none-right None two h = h
worse_none-right (Some TooLong) None h = refl
worse_none-right (Some TooLong) (Some why) h = absurd (cc)
worse_none-right (Some (Required text)) None h = refl
worse_none-right (Some (Required text)) (Some TooLong) h = absurd (cc)
worse_none-right (Some (Required text)) (Some (Required other)) h = absurd (cc)

-- a word that nothing is against has its value
pub valued-is : (s : List ℕ → Option (List ℕ)) (w : Parts) → unexpanded s w ≡ None → valued s w ≡ Some (value s w)
valued-is s w h = ap (λ o. valued_by o (value s w)) h

pub valued-none : (s : List ℕ → Option (List ℕ)) (w : Parts) (why : Unexpanded) → unexpanded s w ≡ Some why → valued s w ≡ None
valued-none s w why h = ap (λ o. valued_by o (value s w)) h
