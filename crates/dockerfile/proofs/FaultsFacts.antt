-- Facts on all faults of a text.
use Rattle.std.specs.Prelude.{◌≡◌, ◌≢◌, ◌<◌, ◌≤◌, ◌⊎◌, ℕ, List, [], ◌∷◌, ◌++◌, length, None, Some, Option, option_map, Result, Ok, Err, refl}
use Rattle.std.specs.List.{cons_option}
use Rattle.std.proofs.Common.{sym, ◌∙◌, ap, subst, inl, inr, arith, append_assoc}
use Rattle.std.proofs.lemmas.List.{append-nil, length_push}
use Rattle.std.proofs.lemmas.List.Elements.{All-nil, All-cons, filter_map-append}
use Rattle.plain.specs.Limits.{most_line_number}
use Rattle.plain.specs.declared.fault.Fault.{Fault}
use Rattle.plain.specs.declared.fault.Fault.TheVariants.{Because, Memory}
use Rattle.plain.specs.declared.refusal.Code.{Code}
use Rattle.plain.specs.declared.refusal.Refusal.{Refusal}
use Rattle.lines.specs.Text.{AreLines}
use Rattle.lines.specs.Text as lines_of
use Rattle.lines.specs.declared.line.Line.{Line}
use Rattle.lines.proofs.TextLaws as lines_answer
use Rattle.lines.proofs.NumberLemmas.{AreNumbered, lines_numbered}
use Rattle.instructions.specs.Least.{least}
use Rattle.instructions.specs.Parsing.{is_due, Spells, IsParsed}
use Rattle.instructions.specs.Instruction.{Instruction}
use Rattle.dockerfile.specs.Dockerfile.{AreSpelled, IsSound, IsFirstDue, AreInstructions, IsRefused}
use Rattle.dockerfile.specs.Faults.{refusal_of, refusals_of, AreFaults, RefusalsBelow, AreInOrder}
use Rattle.dockerfile.specs.PrivateDockerfile.{Adds}
use Rattle.dockerfile.proofs.DockerfileFacts.{spelled_push, SpelledOrRefused, refusals_same, answers_apart}

abbrev refusal_by : ℕ → Code → Refusal
refusal_by line code = record { code = code; line = line }

-- the refusals of the lines so far, and their instructions where there is none
pub record CheckedSoFar (all rest : List Line) (found : List Instruction) (refusals : List Refusal) : Type 0 where
  pub done : List Line
  pub split : all ≡ done ++ rest
  pub told : refusals ≡ refusals_of done
  pub spelled : refusals ≡ [] → AreSpelled done found

pub checked_first : (all : List Line) (found : List Instruction) (refusals : List Refusal) → found ≡ [] → refusals ≡ [] → CheckedSoFar all all found refusals
checked_first all found refusals none free = record {
  done = [];
  split = refl;
  told = free;
  spelled = λ e. subst (λ (is : List Instruction). AreSpelled [] is) (sym none) tt;
}

refusals_push : (lines : List Line) (line : Line) → refusals_of (lines ++ line ∷ []) ≡ refusals_of lines ++ cons_option (refusal_of line) []
refusals_push lines line = filter_map-append refusal_of lines (line ∷ [])

sound_refusal : (line : Line) → IsSound line → refusal_of line ≡ None
sound_refusal line sound = ap (λ (o : Option Code). option_map (λ (code : Code). refusal_by line.number code) o) sound

told_refusal : (line : Line) (refusal : Refusal) → refusal.line ≡ line.number → least (is_due line) ≡ Some refusal.code → refusal_of line ≡ Some refusal
told_refusal line refusal number due =
    ap (λ (o : Option Code). option_map (λ (code : Code). refusal_by line.number code) o) due ∙ ap (λ (n : ℕ). Some (refusal_by n refusal.code)) (sym number)

split_next : (all done rest left : List Line) (line : Line) → all ≡ done ++ rest → rest ≡ line ∷ left → all ≡ (done ++ line ∷ []) ++ left
split_next all done rest left line split is =
    split ∙ (ap (λ (ls : List Line). done ++ ls) is ∙ sym (append_assoc done (line ∷ []) left))

pub checked_spelled : (all rest left : List Line) (line : Line) (found more : List Instruction) (refusals : List Refusal) (i : Instruction)
    → CheckedSoFar all rest found refusals → rest ≡ line ∷ left → Spells line i → more ≡ found ++ i ∷ [] → CheckedSoFar all left more refusals
checked_spelled all rest left line found more refusals i far is spells added = record {
  done = far.done ++ line ∷ [];
  split = split_next all far.done rest left line far.split is;
  told =
      far.told
      ∙ (sym (append-nil (refusals_of far.done))
      ∙ (ap (λ (o : Option Refusal). refusals_of far.done ++ cons_option o []) (sym (sound_refusal line spells.2)) ∙ sym (refusals_push far.done line)));
  spelled = λ e.
      subst (λ (is : List Instruction). AreSpelled (far.done ++ line ∷ []) is) (sym added) (spelled_push far.done found line i (far.spelled e) spells);
}

push_some : (refusals : List Refusal) (refusal : Refusal) → refusals ++ refusal ∷ [] ≡ [] → ⊥
push_some refusals refusal e = let h = sym (length_push refusals refusal) ∙ ap length e in omega (arith, h)

pub checked_refused : (all rest left : List Line) (line : Line) (found : List Instruction) (refusals more : List Refusal) (refusal : Refusal)
    → CheckedSoFar all rest found refusals → rest ≡ line ∷ left → IsParsed line (Err (Because refusal)) → more ≡ refusals ++ refusal ∷ []
    → CheckedSoFar all left found more
checked_refused all rest left line found refusals more refusal far is told added = record {
  done = far.done ++ line ∷ [];
  split = split_next all far.done rest left line far.split is;
  told =
      added
      ∙ (ap (λ (rs : List Refusal). rs ++ refusal ∷ []) far.told
      ∙ (ap (λ (o : Option Refusal). refusals_of far.done ++ cons_option o []) (sym (told_refusal line refusal told.0 told.1)) ∙ sym (refusals_push far.done line)));
  spelled = λ e. absurd (push_some refusals refusal (sym added ∙ e));
}

pub checked_step : (all rest left : List Line) (line : Line) (found more_found : List Instruction) (refusals more : List Refusal) (parsed : Result Instruction (Fault Refusal))
    → CheckedSoFar all rest found refusals → rest ≡ line ∷ left → IsParsed line parsed → Adds parsed found refusals more_found more
    → CheckedSoFar all left more_found more
checked_step all rest left line found more_found refusals more (Ok i) far is told adds =
    subst (λ (rs : List Refusal). CheckedSoFar all left more_found rs) (sym adds.1) (checked_spelled all rest left line found more_found refusals i far is told adds.0)
checked_step all rest left line found more_found refusals more (Err (Because refusal)) far is told adds =
    subst (λ (is : List Instruction). CheckedSoFar all left is more) (sym adds.0) (checked_refused all rest left line found refusals more refusal far is told adds.1)
checked_step all rest left line found more_found refusals more (Err Memory) far is told adds = absurd adds

empty_of_length : {X : Type 0} (xs : List X) → length xs ≡ 0 → xs ≡ []
empty_of_length [] e = refl
empty_of_length (x ∷ xs) e = absurd (omega (arith, e))

all_done : (all rest : List Line) (found : List Instruction) (refusals : List Refusal) (far : CheckedSoFar all rest found refusals) → length rest ≡ 0 → all ≡ far.done
all_done all rest found refusals far over = far.split ∙ (ap (λ (ls : List Line). far.done ++ ls) (empty_of_length rest over) ∙ append-nil far.done)

pub checked_sound : (all rest : List Line) (found : List Instruction) (refusals : List Refusal) → CheckedSoFar all rest found refusals → length rest ≡ 0
    → length refusals ≡ 0 → AreSpelled all found
checked_sound all rest found refusals far over none =
    subst (λ (ls : List Line). AreSpelled ls found) (sym (all_done all rest found refusals far over)) (far.spelled (empty_of_length refusals none))

pub checked_faults : (all rest : List Line) (found : List Instruction) (refusals : List Refusal) → CheckedSoFar all rest found refusals → length rest ≡ 0
    → length refusals ≢ 0 → (refusals ≡ refusals_of all) × (refusals ≢ [])
checked_faults all rest found refusals far over some =
    (far.told ∙ ap refusals_of (sym (all_done all rest found refusals far over)), λ e. some (ap length e))

-- a line without a fault spells an instruction

none_some : {X : Type 0} (x : X) → None ≡ Some x → ⊥
none_some x e = cc

some_none : {X : Type 0} (x : X) → Some x ≡ None → ⊥
some_none x e = cc

no_code : (line : Line) (o : Option Code) → least (is_due line) ≡ o → refusal_of line ≡ None → IsSound line
no_code line None e none = e
no_code line (Some code) e none =
    absurd (some_none (refusal_by line.number code) (sym (ap (λ (o : Option Code). option_map (λ (c : Code). refusal_by line.number c) o) e) ∙ none))

free_by : (line : Line) → ((i : Instruction) × Spells line i) ⊎ ((c : Code) × (least (is_due line) ≡ Some c)) → IsSound line → (i : Instruction) × Spells line i
free_by line (inl spells) sound = spells
free_by line (inr due) sound = absurd (none_some due.0 (sym sound ∙ due.1))

pub free_spells : SpelledOrRefused → (line : Line) → refusal_of line ≡ None → (i : Instruction) × Spells line i
free_spells either line none = free_by line (either line) (no_code line (least (is_due line)) refl none)

pub spells_free : (line : Line) (i : Instruction) → Spells line i → refusal_of line ≡ None
spells_free line i spells = sound_refusal line spells.2

-- lines that have no refusal spell instructions, and the first of their refusals is that of the first line that spells none

abbrev pub FirstOf : List Line → List Refusal → Type 0
FirstOf lines [] = (found : List Instruction) × AreSpelled lines found
FirstOf lines (refusal ∷ more) = IsFirstDue lines refusal

first_here : (line : Line) (lines : List Line) (refusal : Refusal) → refusal.line ≡ line.number → least (is_due line) ≡ Some refusal.code → IsFirstDue (line ∷ lines) refusal
first_here line lines refusal number due = record { before = []; line = line; after = lines; cut = refl; sound = All-nil IsSound; number = number; due = due }

first_later : (line : Line) (lines : List Line) (refusal : Refusal) → IsSound line → IsFirstDue lines refusal → IsFirstDue (line ∷ lines) refusal
first_later line lines refusal sound first = record {
  before = line ∷ first.before;
  line = first.line;
  after = first.after;
  cut = ap (λ (ls : List Line). line ∷ ls) first.cut;
  sound = All-cons IsSound line first.before sound first.sound;
  number = first.number;
  due = first.due;
}

first_spelled : (line : Line) (lines : List Line) (i : Instruction) (refusals : List Refusal) → Spells line i → FirstOf lines refusals → FirstOf (line ∷ lines) refusals
first_spelled line lines i [] spells rest = (i ∷ rest.0, (spells, rest.1))
first_spelled line lines i (refusal ∷ more) spells rest = first_later line lines refusal spells.2 rest

first_refused : (line : Line) (lines : List Line) (code : Code) → least (is_due line) ≡ Some code
    → FirstOf (line ∷ lines) (cons_option (refusal_of line) (refusals_of lines))
first_refused line lines code due =
    subst (λ (o : Option Refusal). FirstOf (line ∷ lines) (cons_option o (refusals_of lines))) (sym (told_refusal line (refusal_by line.number code) refl due))
    (first_here line lines (refusal_by line.number code) refl due)

first_by : (line : Line) (lines : List Line) → ((i : Instruction) × Spells line i) ⊎ ((c : Code) × (least (is_due line) ≡ Some c)) → FirstOf lines (refusals_of lines)
    → FirstOf (line ∷ lines) (cons_option (refusal_of line) (refusals_of lines))
first_by line lines (inl spells) rest =
    subst (λ (o : Option Refusal). FirstOf (line ∷ lines) (cons_option o (refusals_of lines))) (sym (sound_refusal line spells.1.2))
    (first_spelled line lines spells.0 (refusals_of lines) spells.1 rest)
first_by line lines (inr due) rest = first_refused line lines due.0 due.1

first_of_lines : SpelledOrRefused → (lines : List Line) → FirstOf lines (refusals_of lines)
first_of_lines either [] = ([], tt)
first_of_lines either (line ∷ lines) = first_by line lines (either line) (first_of_lines either lines)

abbrev pub FirstOfText : List ℕ → List Refusal → Type 0
FirstOfText text [] = (found : List Instruction) × AreInstructions text found
FirstOfText text (refusal ∷ more) = IsRefused text refusal

text_first : (text : List ℕ) (lines : List Line) (faults : List Refusal) → AreLines text lines → FirstOf lines faults → FirstOfText text faults
text_first text lines [] are first = (first.0, (lines, are, first.1))
text_first text lines (refusal ∷ more) are first = inr (lines, are, first)

first_of_text : SpelledOrRefused → (text : List ℕ) (faults : List Refusal) → AreFaults text faults → FirstOfText text faults
first_of_text either text faults (inl alone) = subst (λ (rs : List Refusal). FirstOfText text rs) (sym alone.2) (inl alone.1)
first_of_text either text faults (inr due) =
    text_first text due.0 faults due.1 (subst (λ (rs : List Refusal). FirstOf due.0 rs) (sym due.2) (first_of_lines either due.0))

pub first_is_refusal : SpelledOrRefused → (text : List ℕ) (refusal : Refusal) (more : List Refusal) → AreFaults text (refusal ∷ more) → IsRefused text refusal
first_is_refusal either text refusal more are = first_of_text either text (refusal ∷ more) are

pub none_is_read : SpelledOrRefused → (text : List ℕ) → AreFaults text [] → (found : List Instruction) × AreInstructions text found
none_is_read either text are = first_of_text either text [] are

pub read_has_none : SpelledOrRefused → (text : List ℕ) (found : List Instruction) (faults : List Refusal) → AreInstructions text found → AreFaults text faults → faults ≡ []
read_has_none either text found [] read are = refl
read_has_none either text found (refusal ∷ more) read are = absurd (answers_apart text found refusal read (first_is_refusal either text refusal more are))

pub refused_is_first : SpelledOrRefused → (text : List ℕ) (refusal : Refusal) (faults : List Refusal) → IsRefused text refusal → AreFaults text faults
    → (more : List Refusal) × (faults ≡ refusal ∷ more)
refused_is_first either text refusal [] refused are =
    let read = none_is_read either text are in absurd (answers_apart text read.0 refusal read.1 refused)
refused_is_first either text refusal (other ∷ more) refused are =
    (more, ap (λ (r : Refusal). r ∷ more) (refusals_same text other refusal (first_is_refusal either text other more are) refused))

-- each text has its faults, and no others

pub text_has_faults : (text : List ℕ) → ((lines : List Line) × AreLines text lines) ⊎ ((refusal : Refusal) × lines_of.IsRefused text refusal)
    → (faults : List Refusal) × AreFaults text faults
text_has_faults text (inl read) = (refusals_of read.0, inr (read.0, read.1, refl))
text_has_faults text (inr told) = (told.0 ∷ [], inl (told.0, told.1, refl))

pub has_faults : (text : List ℕ) → (faults : List Refusal) × AreFaults text faults
has_faults text = text_has_faults text (lines_answer.answered text)

pub faults_same : (text : List ℕ) (faults others : List Refusal) → AreFaults text faults → AreFaults text others → faults ≡ others
faults_same text faults others (inl one) (inl other) =
    one.2 ∙ (ap (λ (r : Refusal). r ∷ []) (lines_answer.refusal_same text one.0 other.0 one.1 other.1) ∙ sym other.2)
faults_same text faults others (inl one) (inr due) = absurd (lines_answer.never_both text due.0 one.0 due.1 one.1)
faults_same text faults others (inr due) (inl one) = absurd (lines_answer.never_both text due.0 one.0 due.1 one.1)
faults_same text faults others (inr due) (inr more) =
    due.2 ∙ (ap refusals_of (lines_answer.lines_same text due.0 more.0 due.1 more.1) ∙ sym more.2)

-- they stand in the order of the lines

below_lower : (low lower : ℕ) (refusals : List Refusal) → lower ≤ low → RefusalsBelow low refusals → RefusalsBelow lower refusals
below_lower low lower [] le h = tt
below_lower low lower (r ∷ rs) le h = let above : low < r.line = h.0 in (omega (arith, above, le), h.1)

below_by : (low : ℕ) (line : Line) (refusals : List Refusal) (o : Option Code) → low < line.number → RefusalsBelow line.number refusals
    → RefusalsBelow low (cons_option (option_map (λ code. record { code = code; line = line.number }) o) refusals)
below_by low line refusals None above rest = below_lower line.number low refusals (omega (arith, above)) rest
below_by low line refusals (Some code) above rest = (above, rest)

lines_below : (low : ℕ) (lines : List Line) (high : ℕ) → AreNumbered low lines high → RefusalsBelow low (refusals_of lines)
lines_below low [] high h = tt
lines_below low (line ∷ lines) high h = below_by low line (refusals_of lines) (least (is_due line)) h.0 (lines_below line.number lines high h.3)

in_order : (low : ℕ) (refusals : List Refusal) → RefusalsBelow low refusals → AreInOrder refusals
in_order low [] h = tt
in_order low (r ∷ rs) h = h.1

pub faults_in_order : (text : List ℕ) (faults : List Refusal) → AreFaults text faults → AreInOrder faults
faults_in_order text faults (inl alone) = subst AreInOrder (sym alone.2) tt
faults_in_order text faults (inr due) =
    subst AreInOrder (sym due.2) (in_order 0 (refusals_of due.0) (lines_below 0 due.0 most_line_number (lines_numbered text due.0 due.1)))
