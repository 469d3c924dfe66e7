use Rattle.std.proofs.Common.{◌≡◌, ◌+◌, Some, length, refl, true, false, sym, subst, rules}
use Rattle.std.specs.List.{slice_get}
use Rattle.std.proofs.lemmas.Option.{slice_get_read}
use Rattle.lines.specs.Marks.{closes}
use Rattle.lines.specs.PrivateScan.{IsInStage}
use Rattle.lines.specs.PrivateSteps.{read_line}
use Rattle.lines.specs.declared.scan.Stage.{Stage}
use Rattle.lines.proofs.ScanLaws.{stays_inside, goes_to_next}
use Rattle.lines.proofs.blocks.after_closing.Goals as goal

pub returns-then-not-closes-clause-state : goal.returns-then-not-closes-clause-state
returns-then-not-closes-clause-state c =
    let ms = c.args.marks.now in
    let p = c.args.progress in
    let mark = c.in-Some.mark.now in
    let there : slice_get ms c.args.index ≡ Some mark = slice_get_read ms (length ms) c.args.index mark refl (search rules) (search rules) in
    let goes : closes mark c.args.line.now ≡ false = first_of (search rules, cc) in
    λ s h.
    subst (λ (t : Stage). IsInStage ms p t (read_line s c.args.line.now)) (sym c.requires)
    (stays_inside ms p s c.args.index mark c.args.line.now (subst (λ (t : Stage). IsInStage ms p t s) c.requires h) there goes)

pub returns-in-Some-get-clause-state : goal.returns-in-Some-get-clause-state
returns-in-Some-get-clause-state c =
    let ms = c.args.marks.now in
    let p = c.args.progress in
    let mark = c.in-Some.mark.now in
    let next = c.in-Some-get.field-0.now in
    let there : slice_get ms c.args.index ≡ Some mark = slice_get_read ms (length ms) c.args.index mark refl (search rules) (search rules) in
    let behind : slice_get ms (c.args.index + 1) ≡ Some next = slice_get_read ms (length ms) (c.args.index + 1) next refl (search rules) (search rules) in
    let shut : closes mark c.args.line.now ≡ true = first_of (search rules, cc) in
    λ s h. goes_to_next ms p s c.args.index mark next c.args.line.now (subst (λ (t : Stage). IsInStage ms p t s) c.requires h) there shut behind
