-- What a text is made of: blanks, characters that stand for themselves, escaped characters and quoted runs.
use Rattle.std.specs.Prelude.{◌≡◌, ℕ, Bool, true, false, List, [], ◌∷◌, ◌++◌}
use Rattle.lines.specs.Escape.{byte_of}
use Rattle.lines.specs.declared.escape.Escape.{Escape}
use Rattle.words.specs.Class.{class_of}
use Rattle.words.specs.declared.class.Class.{Class}
use Rattle.words.specs.declared.class.Class.TheVariants.{Blank, SingleQuote, DoubleQuote, Dollar, Equals, EscapeCharacter, Other}

-- what stands in double quotes: a character that is kept, or the escape character and the character that it frees
pub data Held : Type 0 where
  kept : ℕ → Held
  freed : ℕ → Held

-- a part of a text; of the last two nothing closes the quote
pub data Part : Type 0 where
  blank : ℕ → Part
  plain : ℕ → Part
  escaped : ℕ → Part
  single : List ℕ → Part
  double : List Held → Part
  open_single : List ℕ → Part
  open_double : List Held → Part

-- what stands in double quotes, as it is written
abbrev pub held_text : Escape → List Held → List ℕ
held_text escape [] = []
held_text escape (kept character ∷ held) = character ∷ held_text escape held
held_text escape (freed character ∷ held) = byte_of escape ∷ character ∷ held_text escape held

-- a part as it is written
abbrev pub part_text : Escape → Part → List ℕ
part_text escape (blank character) = character ∷ []
part_text escape (plain character) = character ∷ []
part_text escape (escaped character) = byte_of escape ∷ character ∷ []
part_text escape (single characters) = 39 ∷ (characters ++ 39 ∷ [])
part_text escape (double held) = 34 ∷ (held_text escape held ++ 34 ∷ [])
part_text escape (open_single characters) = 39 ∷ characters
part_text escape (open_double held) = 34 ∷ held_text escape held

-- parts as they are written
abbrev pub written : Escape → List Part → List ℕ
written escape [] = []
written escape (part ∷ parts) = part_text escape part ++ written escape parts

-- a character that stands for itself outside quotes is no blank and no quote, and the escape character only where
-- nothing follows it
abbrev pub IsPlain : Class → List Part → Type 0
IsPlain Dollar parts = Unit {0}
IsPlain Equals parts = Unit {0}
IsPlain EscapeCharacter parts = parts ≡ []
IsPlain Other parts = Unit {0}
IsPlain _ parts = ⊥

-- whether a character ends single quotes
abbrev pub is_single : Class → Bool
is_single SingleQuote = true
is_single _ = false

-- in single quotes each character is kept, and the next single quote ends them
abbrev pub AreInSingle : Escape → List ℕ → Type 0
AreInSingle escape [] = Unit {0}
AreInSingle escape (character ∷ characters) = (is_single (class_of escape character) ≡ false) × AreInSingle escape characters

-- in double quotes the escape character acts before a double quote, `$` and itself (own)
abbrev pub acts_before : Class → Bool
acts_before DoubleQuote = true
acts_before Dollar = true
acts_before EscapeCharacter = true
acts_before _ = false

-- in double quotes the escape character doesn't act before what follows
abbrev pub IsIdleBefore : Escape → List ℕ → Type 0
IsIdleBefore escape [] = Unit {0}
IsIdleBefore escape (character ∷ characters) = acts_before (class_of escape character) ≡ false

-- a character that is kept in double quotes, before what follows, is no double quote, and the escape character only
-- where it doesn't act
abbrev pub IsKept : Escape → Class → List ℕ → Type 0
IsKept escape DoubleQuote behind = ⊥
IsKept escape EscapeCharacter behind = IsIdleBefore escape behind
IsKept escape _ behind = Unit {0}

-- what stands in double quotes, before what follows
abbrev pub AreInDouble : Escape → List Held → List ℕ → Type 0
AreInDouble escape [] behind = Unit {0}
AreInDouble escape (kept character ∷ held) behind = IsKept escape (class_of escape character) (held_text escape held ++ behind) × AreInDouble escape held behind
AreInDouble escape (freed character ∷ held) behind = (acts_before (class_of escape character) ≡ true) × AreInDouble escape held behind

-- a part may stand before these: the escape character frees any character outside quotes, and nothing follows an open
-- quote (own)
abbrev pub Stands : Escape → Part → List Part → Type 0
Stands escape (blank character) parts = class_of escape character ≡ Blank
Stands escape (plain character) parts = IsPlain (class_of escape character) parts
Stands escape (escaped character) parts = Unit {0}
Stands escape (single characters) parts = AreInSingle escape characters
Stands escape (double held) parts = AreInDouble escape held (34 ∷ written escape parts)
Stands escape (open_single characters) parts = AreInSingle escape characters × (parts ≡ [])
Stands escape (open_double held) parts = AreInDouble escape held [] × (parts ≡ [])

-- each part may stand before those that follow
abbrev pub AllStand : Escape → List Part → Type 0
AllStand escape [] = Unit {0}
AllStand escape (part ∷ parts) = Stands escape part parts × AllStand escape parts

-- a text is made of these parts (Dockerfile reference, escaping and quoting; what acts where: own)
abbrev pub IsMadeOf : Escape → List ℕ → List Part → Type 0
IsMadeOf escape text parts = AllStand escape parts × (text ≡ written escape parts)
