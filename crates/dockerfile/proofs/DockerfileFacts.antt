-- Facts on the instructions of a text.
use Rattle.std.specs.Prelude.{◌≡◌, ◌<◌, ◌≤◌, ◌⊎◌, ℕ, zero, suc, List, [], ◌∷◌, ◌++◌, length, map, None, Some, Option, Err, slice_get, refl}
use Rattle.std.specs.List.{All}
use Rattle.std.proofs.Common.{sym, ◌∙◌, ap, ap₂, subst, inl, inr, arith, append_assoc, length-append}
use Rattle.std.proofs.lemmas.List.{append-nil}
use Rattle.std.proofs.lemmas.List.Elements.{All-nil, All-cons}
use Rattle.plain.specs.Limits.{most_lines, most_line_number}
use Rattle.plain.specs.declared.fault.Fault.{Fault}
use Rattle.plain.specs.declared.fault.Fault.TheVariants.{Because, Memory}
use Rattle.plain.specs.declared.refusal.Code.{Code}
use Rattle.plain.specs.declared.refusal.Code.TheVariants.{R18}
use Rattle.plain.specs.declared.refusal.Refusal.{Refusal}
use Rattle.lines.specs.File.{refused_at, directive_faults, if_some, numbers_of, IsFile}
use Rattle.lines.specs.Text.{text_lines, AreLines}
use Rattle.lines.specs.Text as lines_of
use Rattle.lines.specs.declared.line.Line.{Line}
use Rattle.lines.proofs.TextLaws as lines_answer
use Rattle.lines.proofs.NumberLemmas.{AreNumbered, lines_numbered}
use Rattle.instructions.specs.Least.{least}
use Rattle.instructions.specs.Instruction.{IsInstruction}
use Rattle.instructions.specs.Parsing.{is_due, Spells, IsParsed}
use Rattle.instructions.specs.Instruction.{Instruction}
use Rattle.instructions.proofs.InstructionLaws.{spelled_is_whole}
use Rattle.dockerfile.specs.Dockerfile.{AreSpelled, IsSound, IsFirstDue, AreInstructions, IsRefused, AscendBelow, IsDockerfile}
use Rattle.dockerfile.specs.PrivateDockerfile.{AreParsed}

-- the lines so far, and those that are left
pub record LinesSoFar (all rest : List Line) (found : List Instruction) : Type 0 where
  pub done : List Line
  pub split : all ≡ done ++ rest
  pub spelled : AreSpelled done found

pub lines_first : (all : List Line) (found : List Instruction) → found ≡ [] → LinesSoFar all all found
lines_first all found none = record { done = []; split = refl; spelled = subst (λ (is : List Instruction). AreSpelled [] is) (sym none) tt }

pub spelled_push : (lines : List Line) (found : List Instruction) (line : Line) (i : Instruction) → AreSpelled lines found → Spells line i → AreSpelled (lines ++ line ∷ []) (found ++ i ∷ [])
spelled_push [] [] line i s h = (h, tt)
spelled_push [] (j ∷ js) line i s h = absurd s
spelled_push (l ∷ ls) [] line i s h = absurd s
spelled_push (l ∷ ls) (j ∷ js) line i s h = (s.0, spelled_push ls js line i s.1 h)

pub lines_step : (all rest left : List Line) (line : Line) (found more : List Instruction) (i : Instruction)
    → LinesSoFar all rest found → rest ≡ line ∷ left → Spells line i → more ≡ found ++ i ∷ [] → LinesSoFar all left more
lines_step all rest left line found more i far is spells added = record {
  done = far.done ++ line ∷ [];
  split = far.split ∙ (ap (λ (ls : List Line). far.done ++ ls) is ∙ sym (append_assoc far.done (line ∷ []) left));
  spelled = subst (λ (is : List Instruction). AreSpelled (far.done ++ line ∷ []) is) (sym added) (spelled_push far.done found line i far.spelled spells);
}

spelled_sound : (lines : List Line) (found : List Instruction) → AreSpelled lines found → All IsSound lines
spelled_sound [] [] h = All-nil IsSound
spelled_sound [] (i ∷ is) h = absurd h
spelled_sound (line ∷ lines) [] h = absurd h
spelled_sound (line ∷ lines) (i ∷ is) h = All-cons IsSound line lines h.0.2 (spelled_sound lines is h.1)

lines_refused : (all rest left : List Line) (line : Line) (found : List Instruction) (refusal : Refusal)
    → LinesSoFar all rest found → rest ≡ line ∷ left → (refusal.line ≡ line.number) × (least (is_due line) ≡ Some refusal.code) → IsFirstDue all refusal
lines_refused all rest left line found refusal far is told = record {
  before = far.done;
  line = line;
  after = left;
  cut = far.split ∙ ap (λ (ls : List Line). far.done ++ ls) is;
  sound = spelled_sound far.done found far.spelled;
  number = told.0;
  due = told.1;
}

pub lines_told : (all rest left : List Line) (line : Line) (found : List Instruction) (fault : Fault Refusal)
    → LinesSoFar all rest found → rest ≡ line ∷ left → IsParsed line (Err fault) → AreParsed all (Err fault)
lines_told all rest left line found (Because refusal) far is told = lines_refused all rest left line found refusal far is told
lines_told all rest left line found Memory far is told = tt

pub lines_all : (all rest : List Line) (found : List Instruction) → LinesSoFar all rest found → length rest ≡ 0 → AreSpelled all found
lines_all all [] found far over = subst (λ (ls : List Line). AreSpelled ls found) (sym (far.split ∙ append-nil far.done)) far.spelled
lines_all all (line ∷ rest) found far over = absurd (omega (arith, over))

-- the lines of instructions ascend as those that spell them do

numbers_within : (low : ℕ) (lines : List Line) (high : ℕ) → AreNumbered low lines high → low ≤ high
numbers_within low [] high h = h
numbers_within low (line ∷ lines) high h = omega (arith, h.0, numbers_within line.number lines high h.3)

stands : (low number : ℕ) (i : Instruction) (more : List Instruction) → i.line ≡ number → low < number → number ≤ most_line_number
    → AscendBelow number more → AscendBelow low (i ∷ more)
stands low number i more is above within rest =
    subst (λ (n : ℕ). (low < n) × (n ≤ most_line_number) × AscendBelow n more) (sym is) (above, within, rest)

spelled_ascend : (low : ℕ) (lines : List Line) (found : List Instruction) → AreNumbered low lines most_line_number → AreSpelled lines found → AscendBelow low found
spelled_ascend low [] [] h s = tt
spelled_ascend low [] (i ∷ is) h s = absurd s
spelled_ascend low (line ∷ lines) [] h s = absurd s
spelled_ascend low (line ∷ lines) (i ∷ is) h s =
    stands low line.number i is s.0.1 h.0 (numbers_within line.number lines most_line_number h.3) (spelled_ascend line.number lines is h.3 s.1)

-- a text that isn't refused has no more lines than it may have

append_none : {X : Type 0} (xs ys : List X) → [] ≡ xs ++ ys → (xs ≡ []) × (ys ≡ [])
append_none [] ys h = (refl, sym h)
append_none (x ∷ xs) ys h = cc

none_at : (code : Code) (o : Option ℕ) → refused_at code o ≡ [] → o ≡ None
none_at code None h = refl
none_at code (Some n) h = cc

is_past : {X : Type 0} (xs : List X) (n : ℕ) → slice_get xs n ≡ None → length xs ≤ n
is_past [] n h = omega arith
is_past (x ∷ xs) zero h = cc
is_past (x ∷ xs) (suc n) h = omega (arith, is_past xs n h)

length-numbers : (lines : List Line) → length (map (λ (line : Line). line.number) lines) ≡ length lines
length-numbers [] = refl
length-numbers (line ∷ lines) = ap suc (length-numbers lines)

numbers_many : (lines : List Line) (unclosed : Option ℕ) → length lines ≤ length (numbers_of lines unclosed)
numbers_many lines unclosed =
    omega (arith, length-append (map (λ (line : Line). line.number) lines) (if_some unclosed), length-numbers lines)

through : (a b c : ℕ) → a ≤ b → b ≤ c → a ≤ c
through a b c h k = omega arith

file_few : (lines : List (List ℕ)) (found : List Line) → IsFile lines found [] → length found ≤ most_lines
file_few lines found f =
    let limit = (append_none (directive_faults [] f.directives) _ f.wrong).1 in
    let none = (append_none (refused_at R18 (slice_get (numbers_of found f.unclosed) most_lines)) _ (sym limit)).0 in
    let few : length (numbers_of found f.unclosed) ≤ most_lines = is_past (numbers_of found f.unclosed) most_lines (none_at R18 _ none) in
    through (length found) (length (numbers_of found f.unclosed)) most_lines (numbers_many found f.unclosed) few

spelled_long : (lines : List Line) (found : List Instruction) → AreSpelled lines found → length found ≡ length lines
spelled_long [] [] s = refl
spelled_long [] (i ∷ is) s = absurd s
spelled_long (line ∷ lines) [] s = absurd s
spelled_long (line ∷ lines) (i ∷ is) s = ap suc (spelled_long lines is s.1)

-- each instruction is whole

spelled_whole : (lines : List Line) (found : List Instruction) → AreSpelled lines found → All (λ (i : Instruction). IsInstruction i.kind) found
spelled_whole [] [] s = All-nil (λ (i : Instruction). IsInstruction i.kind)
spelled_whole [] (i ∷ is) s = absurd s
spelled_whole (line ∷ lines) [] s = absurd s
spelled_whole (line ∷ lines) (i ∷ is) s = All-cons (λ (j : Instruction). IsInstruction j.kind) i is (spelled_is_whole line i s.0) (spelled_whole lines is s.1)

pub are_dockerfile : (text : List ℕ) (found : List Instruction) → AreInstructions text found → IsDockerfile found
are_dockerfile text found h = record {
  whole = spelled_whole h.0 found h.2;
  ascend = spelled_ascend 0 h.0 found (lines_numbered text h.0 h.1) h.2;
  few = subst (λ (n : ℕ). n ≤ most_lines) (sym (spelled_long h.0 found h.2)) (file_few (text_lines text) h.0 h.1.2);
}

-- lines have instructions, or a first one for which a code is due

abbrev pub OneSpelled : Type 0
OneSpelled = (line : Line) (i j : Instruction) → Spells line i → Spells line j → i ≡ j

abbrev pub SpelledOrRefused : Type 0
SpelledOrRefused = (line : Line) → ((i : Instruction) × Spells line i) ⊎ ((c : Code) × (least (is_due line) ≡ Some c))

abbrev pub AreAnswered : List Line → Type 0
AreAnswered lines = ((found : List Instruction) × AreSpelled lines found) ⊎ ((refusal : Refusal) × IsFirstDue lines refusal)

first_here : (line : Line) (lines : List Line) (c : Code) → least (is_due line) ≡ Some c → IsFirstDue (line ∷ lines) (record { code = c; line = line.number })
first_here line lines c due = record { before = []; line = line; after = lines; cut = refl; sound = All-nil IsSound; number = refl; due = due }

first_later : (line : Line) (lines : List Line) (refusal : Refusal) → IsSound line → IsFirstDue lines refusal → IsFirstDue (line ∷ lines) refusal
first_later line lines refusal sound first = record {
  before = line ∷ first.before;
  line = first.line;
  after = first.after;
  cut = ap (λ (ls : List Line). line ∷ ls) first.cut;
  sound = All-cons IsSound line first.before sound first.sound;
  number = first.number;
  due = first.due;
}

answered_later : (line : Line) (lines : List Line) (i : Instruction) → Spells line i → AreAnswered lines → AreAnswered (line ∷ lines)
answered_later line lines i spells (inl found) = inl (i ∷ found.0, (spells, found.1))
answered_later line lines i spells (inr told) = inr (told.0, first_later line lines told.0 spells.2 told.1)

answered_by : (line : Line) (lines : List Line) → ((i : Instruction) × Spells line i) ⊎ ((c : Code) × (least (is_due line) ≡ Some c)) → AreAnswered lines → AreAnswered (line ∷ lines)
answered_by line lines (inl is) rest = answered_later line lines is.0 is.1 rest
answered_by line lines (inr due) rest = inr (record { code = due.0; line = line.number }, first_here line lines due.0 due.1)

lines_answered : SpelledOrRefused → (lines : List Line) → AreAnswered lines
lines_answered either [] = inl ([], tt)
lines_answered either (line ∷ lines) = answered_by line lines (either line) (lines_answered either lines)

abbrev pub IsAnswered : List ℕ → Type 0
IsAnswered text = ((found : List Instruction) × AreInstructions text found) ⊎ ((refusal : Refusal) × IsRefused text refusal)

answered_lines : (text : List ℕ) (lines : List Line) → AreLines text lines → AreAnswered lines → IsAnswered text
answered_lines text lines are (inl found) = inl (found.0, (lines, are, found.1))
answered_lines text lines are (inr told) = inr (told.0, inr (lines, are, told.1))

text_answered : SpelledOrRefused → (text : List ℕ) → ((lines : List Line) × AreLines text lines) ⊎ ((refusal : Refusal) × lines_of.IsRefused text refusal) → IsAnswered text
text_answered either text (inl read) = answered_lines text read.0 read.1 (lines_answered either read.0)
text_answered either text (inr told) = inr (told.0, inl told.1)

pub answered : SpelledOrRefused → (text : List ℕ) → IsAnswered text
answered either text = text_answered either text (lines_answer.answered text)

-- and one answer only

spelled_same : OneSpelled → (lines : List Line) (found others : List Instruction) → AreSpelled lines found → AreSpelled lines others → found ≡ others
spelled_same one [] [] [] s t = refl
spelled_same one [] [] (j ∷ js) s t = absurd t
spelled_same one [] (i ∷ is) js s t = absurd s
spelled_same one (line ∷ lines) [] js s t = absurd s
spelled_same one (line ∷ lines) (i ∷ is) [] s t = absurd t
spelled_same one (line ∷ lines) (i ∷ is) (j ∷ js) s t =
    let first : i ≡ j = one line i j s.0 t.0 in
    let rest : is ≡ js = spelled_same one lines is js s.1 t.1 in
    cc

pub instructions_same : OneSpelled → (text : List ℕ) (found others : List Instruction) → AreInstructions text found → AreInstructions text others → found ≡ others
instructions_same one text found others h k =
    spelled_same one h.0 found others h.2 (subst (λ (ls : List Line). AreSpelled ls others) (lines_answer.lines_same text k.0 h.0 k.1 h.1) k.2)

sound_head : (line : Line) (lines : List Line) → All IsSound (line ∷ lines) → IsSound line
sound_head line lines all = all 0 line (omega arith)

sound_tail : (line : Line) (lines : List Line) → All IsSound (line ∷ lines) → All IsSound lines
sound_tail line lines all k d within = all (suc k) d (omega arith)

due_or_sound : (line : Line) (c : Code) → IsSound line → least (is_due line) ≡ Some c → ⊥
due_or_sound line c sound due = let e : None ≡ Some c = sym sound ∙ due in cc

front_same : (a b c d : List Line) (x y : Line) (p q : Code) → a ++ x ∷ c ≡ b ++ y ∷ d → All IsSound a → All IsSound b
    → least (is_due x) ≡ Some p → least (is_due y) ≡ Some q → x ≡ y
front_same [] [] c d x y p q e s t h k = cc
front_same [] (z ∷ b) c d x y p q e s t h k =
    let here : x ≡ z = cc in
    absurd (due_or_sound z p (sound_head z b t) (subst (λ (l : Line). least (is_due l) ≡ Some p) here h))
front_same (z ∷ a) [] c d x y p q e s t h k =
    let here : y ≡ z = cc in
    absurd (due_or_sound z q (sound_head z a s) (subst (λ (l : Line). least (is_due l) ≡ Some q) here k))
front_same (z ∷ a) (w ∷ b) c d x y p q e s t h k =
    let rest : a ++ x ∷ c ≡ b ++ y ∷ d = cc in
    front_same a b c d x y p q rest (sound_tail z a s) (sound_tail w b t) h k

refusal_of : ℕ → Code → Refusal
refusal_of line code = record { code = code; line = line }

first_same : (lines : List Line) (one other : Refusal) → IsFirstDue lines one → IsFirstDue lines other → one ≡ other
unfolding refusal_of
first_same lines one other f g =
    let here : f.line ≡ g.line = front_same f.before g.before f.after g.after f.line g.line one.code other.code (sym f.cut ∙ g.cut) f.sound g.sound f.due g.due in
    let number : one.line ≡ other.line = f.number ∙ (ap (λ (l : Line). l.number) here ∙ sym g.number) in
    let some : Some one.code ≡ Some other.code = sym f.due ∙ (ap (λ (l : Line). least (is_due l)) here ∙ g.due) in
    let code : one.code ≡ other.code = cc in
    ap₂ refusal_of number code

pub refusals_same : (text : List ℕ) (one other : Refusal) → IsRefused text one → IsRefused text other → one ≡ other
refusals_same text one other (inl f) (inl g) = lines_answer.refusal_same text one other f g
refusals_same text one other (inl f) (inr g) = absurd (lines_answer.never_both text g.0 one g.1 f)
refusals_same text one other (inr f) (inl g) = absurd (lines_answer.never_both text f.0 other f.1 g)
refusals_same text one other (inr f) (inr g) =
    first_same f.0 one other f.2 (subst (λ (ls : List Line). IsFirstDue ls other) (lines_answer.lines_same text g.0 f.0 g.1 f.1) g.2)

split_sound : (a c : List Line) (x : Line) (found : List Instruction) → AreSpelled (a ++ x ∷ c) found → IsSound x
split_sound [] c x [] s = absurd s
split_sound [] c x (i ∷ is) s = s.0.2
split_sound (z ∷ a) c x [] s = absurd s
split_sound (z ∷ a) c x (i ∷ is) s = split_sound a c x is s.1

never_both : (lines : List Line) (found : List Instruction) (refusal : Refusal) → AreSpelled lines found → IsFirstDue lines refusal → ⊥
never_both lines found refusal s f =
    due_or_sound f.line refusal.code (split_sound f.before f.after f.line found (subst (λ (ls : List Line). AreSpelled ls found) f.cut s)) f.due

pub answers_apart : (text : List ℕ) (found : List Instruction) (refusal : Refusal) → AreInstructions text found → IsRefused text refusal → ⊥
answers_apart text found refusal h (inl f) = lines_answer.never_both text h.0 refusal h.1 f
answers_apart text found refusal h (inr f) =
    never_both h.0 found refusal h.2 (subst (λ (ls : List Line). IsFirstDue ls refusal) (lines_answer.lines_same text f.0 h.0 f.1 h.1) f.2)
