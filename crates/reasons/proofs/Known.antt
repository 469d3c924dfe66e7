-- What is known of the line that decides of a path.
use Rattle.std.proofs.Common.{◌≡◌, ◌∙◌, ◌-◌, ◌<◌, ◌++◌, ◌∷◌, [], ◌+◌, ◌≤◌, arith, zero, suc, drop, drop-cons, add-one, Result, Err, IfOk, ℕ, Bool, true, false, List, Option, Some, None, Ok, length, get_or, refl, sym, ap, subst, true≢false}
use Rattle.std.specs.Borrow.{Bor}
use Rattle.std.specs.Prelude.{◌↔◌, IsTrue, slice_get, option_map}
use Rattle.std.specs.Str.Lines.{lines}
use Rattle.std.proofs.lemmas.Option.{get_or_from_slice_get, same_Some, slice_get-map, slice_get_within}
use Rattle.ignorefile.specs.declared.line.Line.{Line}
use Rattle.counted.specs.Edges.{line_of}
use Rattle.ignorefile.specs.File.{ignore_of, line_of as said_of, numbers_of, without_byte_order_mark}
use Rattle.ignorefile.specs.Kept.{IsDeciding, Kept, LetsKeep}
use Rattle.bundle.specs.declared.whole.IgnoreFile.{IgnoreFile}
use Rattle.std.proofs.lemmas.Grind.{common_steps}
use Rattle.reasons.specs.Reasons.{AreReasons, IsReason, TellsLine, decided}
use Rattle.reasons.specs.PrivateReasons.{IsCut, IsKnownLine, IsLineAt}

found_line : (file : IgnoreFile) (n : ℕ) (line : Line) (b : Bool) → line.exception ≡ b → slice_get file.lines n ≡ Some line
    → (LetsKeep file.lines (Some n) → ⊥) → IsLineAt file n false
found_line file n line true is at none = absurd (none (line, (at, is)))
found_line file n line false is at none = (line, at, is)

-- the line that decides is an exception exactly if the path is kept
pub line_at : (file : IgnoreFile) (path : List (List ℕ)) (n : ℕ) (kept : Bool) → IsDeciding file.lines path (Some n)
    → (Kept file.lines path ↔ LetsKeep file.lines (Some n)) → (IsTrue kept ↔ Kept file.lines path) → IsLineAt file n kept
line_at file path n true decides lets is = let line = lets.0 (is.0 refl) in (line.0, line.1.0, line.1.1)
line_at file path n false decides lets is =
    found_line file n decides.0.0 decides.0.0.exception refl decides.0.1.0 (λ h. true≢false (sym (is.1 (lets.1 h))))

-- a line stands at its number
abbrev Stands : Type 0
Stands = (bytes : List ℕ) (said : List Line) (n : ℕ) (line : Line) → ignore_of bytes ≡ Ok said → slice_get said n ≡ Some line
    → (number : ℕ) × ((text : List ℕ) × ((slice_get (numbers_of bytes) n ≡ Some number)
    × ((slice_get (lines (without_byte_order_mark bytes)) (number - 1) ≡ Some text) × (said_of text ≡ Some (Some line)))))

-- a text that is found among texts that are lent
lent : (found : Option (Bor (List ℕ))) (text : List ℕ) → option_map (λ t. t.now) found ≡ Some text → (t : Bor (List ℕ)) × ((found ≡ Some t) × (t.now ≡ text))
lent None text is = cc
lent (Some t) text is = (t, (refl, same_Some t.now text is))

pub known : Stands → (file : IgnoreFile) (numbers : List ℕ) (texts : List (Bor (List ℕ))) (position : ℕ) (exception : Bool) → IsCut file numbers texts
    → IsLineAt file position exception → IsKnownLine file numbers texts position exception
known stands file numbers texts position exception cut at =
    let found = stands file.bytes file.lines position at.0 cut.read at.1 in
    let number = found.0 in
    let numbered : slice_get numbers position ≡ Some number = ap (λ ns. slice_get ns position) cut.numbered ∙ found.1.1.0 in
    let text = lent (slice_get texts (number - 1)) found.1.0 (sym (slice_get-map (λ t. t.now) texts (number - 1)) ∙ ap (λ ts. slice_get ts (number - 1)) cut.cut ∙ found.1.1.1.0) in
    let same : get_or numbers position 0 ≡ number = get_or_from_slice_get numbers position number 0 numbered in
    record {
      line = at.0;
      is = at.2;
      number = number;
      text = text.0;
      numbered = numbered;
      cut = text.1.0;
      stands = record { has = at.1; numbered = found.1.1.0; reads = found.1.1.1.0 ∙ ap Some (sym text.1.1) };
      within = slice_get_within numbers position number numbered;
      less = subst (λ n. n - 1 < length texts) (sym same) (slice_get_within texts (number - 1) text.0 text.1.0);
    }

-- what holds of a value that is there
pub if_ok : {T E : Type 0} (result : Result T E) (These Those : T → Type 0) → ((x : T) → These x → Those x) → IfOk result These → IfOk result Those
if_ok (Ok x) These Those more is = more x is
if_ok (Err e) These Those more is = is

-- what is told of the line, by what its number and its text are
pub line_told : (file : IgnoreFile) (numbers : List ℕ) (texts : List (Bor (List ℕ))) (position : ℕ) (exception : Bool)
    → (known : IsKnownLine file numbers texts position exception) (word told : List ℕ) (number : ℕ) (text : Bor (List ℕ)) → number ≡ known.number → text ≡ known.text
    → told ≡ decided exception word number text.now → TellsLine file word (Some position) told
line_told file numbers texts position exception known word told number text same_number same_text is = (
  known.line,
  known.number,
  known.text.now,
  known.stands,
  is ∙ ap (λ e. decided e word number text.now) (sym known.is) ∙ ap (λ n. decided known.line.exception word n text.now) same_number
      ∙ ap (λ (t : Bor (List ℕ)). decided known.line.exception word known.number t.now) same_text,
)

pub text_at : (texts : List (Bor (List ℕ))) (i number : ℕ) (text d : Bor (List ℕ)) → i ≡ number - 1 → slice_get texts (number - 1) ≡ Some text → get_or texts i d ≡ text
text_at texts i number text d is found = ap (λ j. get_or texts j d) is ∙ get_or_from_slice_get texts (number - 1) text d found

drop_word : (words : List (List ℕ)) (i : ℕ) (d : List ℕ) → i < length words → drop i words ≡ get_or words i d ∷ drop (i + 1) words
drop_word words i d less = drop-cons words i d less ∙ ap (λ n. get_or words i d ∷ drop n words) (sym (add-one i))

-- what is told of one more word
pub next : (file : IgnoreFile) (words : List (List ℕ)) (i : ℕ) (word default reason so_far items : List ℕ) → i < length words
    → ((rest : List ℕ) → AreReasons file (drop i words) rest → AreReasons file words (so_far ++ rest)) → word ≡ get_or words i default → IsReason file word reason
    → items ≡ (so_far ++ reason) ++ 10 ∷ [] → (rest : List ℕ) → AreReasons file (drop (i + 1) words) rest → AreReasons file words (items ++ rest)
next file words i word default reason so_far items less before this is grown rest later =
    let same : so_far ++ (line_of reason ++ rest) ≡ ((so_far ++ reason) ++ 10 ∷ []) ++ rest = grind (arith, common_steps) in
    let here : IsReason file (get_or words i default) reason = subst (λ w. IsReason file w reason) this is in
    let told = before (line_of reason ++ rest) (subst (λ ws. AreReasons file ws (line_of reason ++ rest)) (sym (drop_word words i default less)) (reason, rest, here, later, refl)) in
    subst (AreReasons file words) (same ∙ ap (λ text. text ++ rest) (sym grown)) told

-- nothing is told of no word
pub ended : (file : IgnoreFile) (words : List (List ℕ)) (i : ℕ) → length words ≤ i → AreReasons file (drop i words) []
ended file [] zero all = refl
ended file [] (suc i) all = refl
ended file (word ∷ words) zero all = absurd (omega arith)
ended file (word ∷ words) (suc i) all = ended file words i (omega arith)
