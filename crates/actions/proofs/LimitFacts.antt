-- Texts against their limit, and what is against a line.
use Rattle.std.specs.Prelude.{◌≡◌, ◌<◌, ◌≤◌, ◌||◌, ℕ, Bool, true, false, List, Option, Some, None, option_map, length, refl, if◌then◌else◌}
use Rattle.std.proofs.Common.{ap, sym, subst, ◌∙◌}
use Rattle.std.proofs.lemmas.Bool.{lt-ltb, le-ltb, true≢false}
use Rattle.std.proofs.lemmas.Option.{same_Some, none-some}
use Rattle.plain.specs.Limits.{most_text_bytes}
use Rattle.plain.specs.declared.refusal.Code.{Code}
use Rattle.plain.specs.declared.refusal.Code.TheVariants.{R18}
use Rattle.expand.specs.Expanding.{worse}
use Rattle.expand.specs.Reasons.{reason_of}
use Rattle.expand.specs.declared.fault.Unexpanded.{Unexpanded}
use Rattle.expand.specs.declared.fault.Unexpanded.TheVariants.{TooLong, Required}
use Rattle.expand.specs.declared.reason.Reason.{Reason}
use Rattle.expand.proofs.WorseLaws.{worse-assoc}
use Rattle.expand.specs.declared.reason.Reason.TheVariants.{Coded}
use Rattle.instructions.specs.Least.{least}
use Rattle.instructions.specs.Reason.{is_long, required_in, reason_by, reason}
use Rattle.actions.specs.Copy.{literal_fault}

pub neither : (a b : Bool) → (a || b) ≡ false → (a ≡ false) × (b ≡ false)
neither true b e = absurd (true≢false e)
neither false b e = (refl, e)

-- nothing is against a text within the limit
short_text : (text : List ℕ) → length text ≤ most_text_bytes → literal_fault text ≡ None
short_text text h = rw (le-ltb most_text_bytes (length text) h) refl

-- a text past the limit is too long
long_text : (text : List ℕ) → most_text_bytes < length text → literal_fault text ≡ Some TooLong
long_text text h = rw (lt-ltb most_text_bytes (length text) h) refl

most_text_bytes-is : most_text_bytes ≡ 1048576
unfolding most_text_bytes
most_text_bytes-is = refl

-- the same by the limit's number
pub short_here : (text : List ℕ) → length text ≤ 1048576 → literal_fault text ≡ None
short_here text h = short_text text (subst (λ (n : ℕ). length text ≤ n) (sym most_text_bytes-is) h)

pub long_here : (text : List ℕ) → 1048576 < length text → literal_fault text ≡ Some TooLong
long_here text h = long_text text (subst (λ (n : ℕ). n < length text) (sym most_text_bytes-is) h)

-- what is given where a test fails

pub unless_some : {X : Type 0} (b : Bool) (x y : X) → (if b then None else Some x) ≡ Some y → (b ≡ false) × (y ≡ x)
unless_some true x y e = absurd (none-some y e)
unless_some false x y e = (refl, sym (same_Some x y e))

pub unless_none : {X : Type 0} (b : Bool) (x : X) → (if b then None else Some x) ≡ None → b ≡ true
unless_none true x e = refl
unless_none false x e = absurd (none-some x (sym e))

-- why a line is refused

-- what is against one text more, of two
pub worse_added : (fault one two : Option Unexpanded) → worse (worse fault one) two ≡ worse fault (worse one two)
worse_added fault one two = worse-assoc fault one two

-- a line has a text that is too long if one of two parts has
pub long_worse : (one two : Option Unexpanded) → is_long (worse one two) ≡ (is_long one || is_long two)
long_worse None two = refl
long_worse (Some TooLong) two = refl
long_worse (Some (Required text)) None = refl
long_worse (Some (Required text)) (Some TooLong) = refl
long_worse (Some (Required text)) (Some (Required other)) = refl

-- a code, and else R18 if a text is too long
abbrev pub or_long : Option Code → Bool → Option Code
or_long (Some code) long = Some code
or_long None long = if long then Some R18 else None

-- a code, and else what is against the texts
abbrev pub reported : Option Code → Option Unexpanded → Option Reason
reported (Some code) fault = Some (Coded code)
reported None fault = option_map reason_of fault

by_texts : (found fault : Option Unexpanded) → (is_long found ≡ false → found ≡ fault) → reason_by (or_long None (is_long found)) (required_in fault) ≡ option_map reason_of found
by_texts None fault same = ap (λ f. reason_by None (required_in f)) (sym (same refl))
by_texts (Some TooLong) fault same = refl
by_texts (Some (Required text)) fault same = ap (λ f. reason_by None (required_in f)) (sym (same refl))

by_code : (code : Option Code) (found fault : Option Unexpanded) → (is_long found ≡ false → found ≡ fault) → reason_by (or_long code (is_long found)) (required_in fault) ≡ reported code found
by_code (Some code) found fault same = refl
by_code None found fault same = by_texts found fault same

-- the reason to refuse a line, if R18 is due just where something that was found is too long, and else that is what is against its texts
pub reason_is : (due : Code → Bool) (fault : Option Unexpanded) (code : Option Code) (found : Option Unexpanded) → least due ≡ or_long code (is_long found) → (is_long found ≡ false → found ≡ fault)
    → reason due fault ≡ reported code found
reason_is due fault code found e same = ap (λ c. reason_by c (required_in fault)) e ∙ by_code code found fault same
