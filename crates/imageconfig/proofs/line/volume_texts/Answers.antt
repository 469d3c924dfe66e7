use Rattle.std.proofs.Common.{◌≡◌, ◌∙◌, ℕ, List, Some, None, ap, sym}
use Rattle.std.specs.List.{list_any}
use Rattle.plain.specs.declared.refusal.Code.TheVariants.{R06}
use Rattle.expand.specs.Expanding.{is_empty}
use Rattle.scopes.specs.Scope.{value_in}
use Rattle.imageconfig.specs.Lines.{values_of, words_fault}
use Rattle.imageconfig.proofs.LineFacts.{words_given}
use Rattle.imageconfig.proofs.StepFacts.{no_reason}
use Rattle.imageconfig.proofs.line.volume_texts.Goals as goal

pub returns-in-None : goal.returns-in-None
returns-in-None c =
    let none : words_fault (value_in c.args.before.now) c.args.paths.now ≡ None = sym c.in_ok-values.ensures.fault ∙ c.in-None.is in (
      ap (λ (texts : List (List ℕ)). Some texts) (sym (c.in_ok-values.ensures.values ∙ words_given (value_in c.args.before.now) c.args.paths.now none)),
      no_reason R06 (list_any is_empty (values_of (value_in c.args.before.now) c.args.paths.now)) (words_fault (value_in c.args.before.now) c.args.paths.now)
          (ap (list_any is_empty) (sym (c.as_slice.ensures ∙ c.in_ok-values.ensures.values)) ∙ sym c.have_empty.ensures ∙ c.if-have_empty.false) none,
    )
