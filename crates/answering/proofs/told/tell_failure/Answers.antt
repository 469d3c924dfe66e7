use Rattle.bundle.specs.Answer.{failed_text}
use Rattle.answering.specs.declared.status.Status.TheVariants.{Failed}
use Rattle.answering.specs.Told.{TellsText}
use Rattle.answering.proofs.TellFacts.{told_of, line_tells}
use Rattle.std.proofs.Common.{◌≡◌}
use Rattle.answering.proofs.told.tell_failure.Goals as goal

pub returns : goal.returns
returns g c =
    let text = failed_text c.args.line c.args.cause in
    told_of (λ other. other ≡ c.in_ok-told.told) (TellsText Failed text)
    (λ other is. line_tells Failed text c.in_ok-text.text c.in_ok-told.told other c.in_ok-told.ensures.status c.in_ok-told.ensures.line c.in_ok-text.ensures is)
    _ _ _ _ c.write_told.result c.write_told.ensures
