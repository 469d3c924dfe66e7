use Rattle.std.proofs.Common.{◌≡◌, ◌∙◌, List, Some, None, ap, sym, arith}
use Rattle.plain.specs.declared.refusal.Code.TheVariants.{R10}
use Rattle.scopes.specs.Scope.{value_in}
use Rattle.imageconfig.specs.Lines.{label_fault}
use Rattle.imageconfig.specs.Rows.{Row}
use Rattle.imageconfig.proofs.LineFacts.{has_empty_key, labelled-more, AreLabelled, labelled-done, labels_given}
use Rattle.imageconfig.proofs.StepFacts.{no_reason}
use Rattle.imageconfig.proofs.line.label_rows.Goals as goal

pub loop-label-preserved : goal.loop-label-preserved
loop-label-preserved c =
    labelled-more (value_in c.args.before.now) c.args.labels.now c.loop-label.label-index c.label-item.result c.loop-label.line c.in_ok-line.line
    c.loop-label-test.true c.label-item.is c.in_ok-line.ensures c.loop-label.invariant

pub returns-in-None : goal.returns-in-None
returns-in-None c =
    let found : AreLabelled (value_in c.args.before.now) c.args.labels.now c.loop-label.line =
    labelled-done (value_in c.args.before.now) c.args.labels.now c.loop-label.label-index c.loop-label.line (omega (arith, c.loop-label-test.false)) c.loop-label.invariant in
    let none : label_fault (value_in c.args.before.now) c.args.labels.now ≡ None = sym found.fault ∙ c.in-None.is in (
      ap (λ (rows : List Row). Some rows) (sym (found.rows ∙ labels_given (value_in c.args.before.now) c.args.labels.now none)),
      no_reason R10 (has_empty_key (value_in c.args.before.now) c.args.labels.now) (label_fault (value_in c.args.before.now) c.args.labels.now) (sym found.keys ∙ c.if-has_empty_key.false) none,
    )
