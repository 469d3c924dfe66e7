use Rattle.bundle.specs.Answer.{refused_text}
use Rattle.answering.specs.declared.status.Status.TheVariants.{Refused}
use Rattle.answering.specs.Told.{TellsText}
use Rattle.answering.proofs.TellFacts.{told_of, line_tells}
use Rattle.std.proofs.Common.{◌≡◌}
use Rattle.answering.proofs.told.tell_refusal.Goals as goal

pub returns : goal.returns
returns g c =
    let text = refused_text c.args.refusal in
    told_of (λ other. other ≡ c.in_ok-told.told) (TellsText Refused text)
    (λ other is. line_tells Refused text c.in_ok-text.text c.in_ok-told.told other c.in_ok-told.ensures.status c.in_ok-told.ensures.line c.in_ok-text.ensures is)
    _ _ _ _ c.write_told.result c.write_told.ensures
