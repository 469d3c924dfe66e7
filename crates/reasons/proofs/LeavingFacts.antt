-- What is known of the line that leaves a path out.
use Rattle.std.proofs.Common.{◌≡◌, ◌∙◌, ℕ, Bool, List, Option, Some, sym, ap}
use Rattle.std.specs.Borrow.{Bor}
use Rattle.bundle.specs.declared.whole.IgnoreFile.{IgnoreFile}
use Rattle.reasons.specs.Leaving.{LeavesLine, leaving}
use Rattle.reasons.specs.PrivateReasons.{IsKnownLine}
use Rattle.reasons.specs.declared.leaving.LeavingLine.{LeavingLine}

-- the line, by what its number and its text are
pub line_left : (file : IgnoreFile) (numbers : List ℕ) (texts : List (Bor (List ℕ))) (position : ℕ) (exception : Bool)
    → (known : IsKnownLine file numbers texts position exception) (left : Option LeavingLine) (number : ℕ) (text : Bor (List ℕ)) → number ≡ known.number
    → text ≡ known.text → left ≡ leaving exception number text.now → LeavesLine file (Some position) left
line_left file numbers texts position exception known left number text same_number same_text is = (
  known.line,
  known.number,
  known.text.now,
  known.stands,
  is ∙ ap (λ e. leaving e number text.now) (sym known.is) ∙ ap (λ n. leaving known.line.exception n text.now) same_number
      ∙ ap (λ (t : Bor (List ℕ)). leaving known.line.exception known.number t.now) same_text,
)
