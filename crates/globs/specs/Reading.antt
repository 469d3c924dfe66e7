-- The parts that a component's characters spell, as a function of them: where each character leads, one after another. What it gives is
-- said on whole texts in `Grammar`, and a law says that the two agree and that no characters spell two lists of parts.
use Rattle.std.specs.Prelude.{ℕ, true, false, List, [], ◌∷◌, ◌++◌, Option, Some, None, option_and_then, nat_eq, if◌then◌else◌}
use Rattle.globs.specs.declared.part.Range.{Range}
use Rattle.globs.specs.declared.part.Part.{Part}
use Rattle.globs.specs.declared.part.Part.TheVariants.{AnyRun, AnyOne, Exactly, Class}
use Rattle.globs.specs.declared.sign.Sign.{Sign}
use Rattle.globs.specs.declared.sign.Sign.TheVariants.{Star, Question, Backslash, Open, Close, Hyphen, Caret, Other}
use Rattle.globs.specs.declared.reading.State.{State}
use Rattle.globs.specs.declared.reading.State.TheVariants.{Outside, Escaped, Opened, Between, EscapedLow, Low, Dash, EscapedHigh}
use Rattle.globs.specs.declared.reading.Reading.{Reading}

-- what a character is to the syntax
unfoldable pub sign_at : ℕ → Sign
sign_at c =
    if nat_eq c 42 then Star else if nat_eq c 63 then Question else if nat_eq c 92 then Backslash else if nat_eq c 91 then Open
    else if nat_eq c 93 then Close else if nat_eq c 45 then Hyphen else if nat_eq c 94 then Caret else Other

abbrev pub with_part : Reading → Part → Reading
with_part r part = record { parts = r.parts ++ part ∷ []; negated = r.negated; ranges = r.ranges; state = Outside }

abbrev pub with_range : Reading → ℕ → ℕ → State → Reading
with_range r low high next = record { parts = r.parts; negated = r.negated; ranges = r.ranges ++ record { low = low; high = high } ∷ []; state = next }

abbrev pub in_state : Reading → State → Reading
in_state r next = record { parts = r.parts; negated = r.negated; ranges = r.ranges; state = next }

abbrev pub in_negated : Reading → Reading
in_negated r = record { parts = r.parts; negated = true; ranges = r.ranges; state = Between }

-- the end of a class: one without an item is malformed
abbrev pub closed : Reading → List Range → Option Reading
closed r [] = None
closed r (range ∷ ranges) = Some (record { parts = r.parts ++ Class r.negated (range ∷ ranges) ∷ []; negated = false; ranges = []; state = Outside })

-- outside of a class
abbrev pub outside : Reading → Sign → ℕ → Reading
outside r Star c = with_part r AnyRun
outside r Question c = with_part r AnyOne
outside r Backslash c = in_state r Escaped
outside r Open c = in_state r Opened
outside r Close c = with_part r (Exactly c)
outside r Hyphen c = with_part r (Exactly c)
outside r Caret c = with_part r (Exactly c)
outside r Other c = with_part r (Exactly c)

-- in a class, where an item may begin
abbrev pub between : Reading → Sign → ℕ → Option Reading
between r Star c = Some (in_state r (Low c))
between r Question c = Some (in_state r (Low c))
between r Backslash c = Some (in_state r EscapedLow)
between r Open c = Some (in_state r (Low c))
between r Close c = closed r r.ranges
between r Hyphen c = None
between r Caret c = Some (in_state r (Low c))
between r Other c = Some (in_state r (Low c))

-- right behind the `[`
abbrev pub opened : Reading → Sign → ℕ → Option Reading
opened r Caret c = Some (in_negated r)
opened r Star c = between r Star c
opened r Question c = between r Question c
opened r Backslash c = between r Backslash c
opened r Open c = between r Open c
opened r Close c = between r Close c
opened r Hyphen c = between r Hyphen c
opened r Other c = between r Other c

-- behind a character in a class: it is the low end of a range, or an item of its own
abbrev pub low : Reading → ℕ → Sign → ℕ → Option Reading
low r l Hyphen c = Some (in_state r (Dash l))
low r l Star c = between (with_range r l l r.state) Star c
low r l Question c = between (with_range r l l r.state) Question c
low r l Backslash c = between (with_range r l l r.state) Backslash c
low r l Open c = between (with_range r l l r.state) Open c
low r l Close c = between (with_range r l l r.state) Close c
low r l Caret c = between (with_range r l l r.state) Caret c
low r l Other c = between (with_range r l l r.state) Other c

-- behind the `-` of a range
abbrev pub dashed : Reading → ℕ → Sign → ℕ → Option Reading
dashed r l Backslash c = Some (in_state r (EscapedHigh l))
dashed r l Hyphen c = None
dashed r l Close c = None
dashed r l Star c = Some (with_range r l c Between)
dashed r l Question c = Some (with_range r l c Between)
dashed r l Open c = Some (with_range r l c Between)
dashed r l Caret c = Some (with_range r l c Between)
dashed r l Other c = Some (with_range r l c Between)

abbrev pub stepped : State → Reading → Sign → ℕ → Option Reading
stepped Outside r sign c = Some (outside r sign c)
stepped Escaped r sign c = Some (with_part r (Exactly c))
stepped Opened r sign c = opened r sign c
stepped Between r sign c = between r sign c
stepped EscapedLow r sign c = Some (in_state r (Low c))
stepped (Low l) r sign c = low r l sign c
stepped (Dash l) r sign c = dashed r l sign c
stepped (EscapedHigh l) r sign c = Some (with_range r l c Between)

-- one more character; nothing where none of its kind may stand
abbrev pub step : Reading → ℕ → Option Reading
step r c = stepped r.state r (sign_at c) c

-- where all characters lead
abbrev pub run : Reading → List ℕ → Option Reading
run r [] = Some r
run r (c ∷ cs) = option_and_then (λ next. run next cs) (step r c)

abbrev pub start : Reading
start = record { parts = []; negated = false; ranges = []; state = Outside }

abbrev pub parts_in : State → List Part → Option (List Part)
parts_in Outside parts = Some parts
parts_in Escaped parts = None
parts_in Opened parts = None
parts_in Between parts = None
parts_in EscapedLow parts = None
parts_in (Low l) parts = None
parts_in (Dash l) parts = None
parts_in (EscapedHigh l) parts = None

-- the parts at the end, which has to be outside of classes and escapes
abbrev pub finished : Reading → Option (List Part)
finished r = parts_in r.state r.parts

-- the parts that the characters spell; none where they are malformed
abbrev pub parts_of : List ℕ → Option (List Part)
parts_of cs = option_and_then finished (run start cs)
