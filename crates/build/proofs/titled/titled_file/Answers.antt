use Rattle.std.proofs.Common.{Err, subst}
use Rattle.dockerfile.specs.Dockerfile.{IsReadWithLines}
use Rattle.build.proofs.AskFacts.{text_refused}
use Rattle.build.proofs.TitledFacts.{unread}
use Rattle.build.proofs.titled.titled_file.Goals as goal

pub returns-in-Err-clause-asked : goal.returns-in-Err-clause-asked
returns-in-Err-clause-asked c =
    text_refused c.args.bundle c.in-Err.fault _
    (unread _ c.in-Err.fault (subst (λ text. IsReadWithLines text (Err c.in-Err.fault)) c.as_slice.ensures c.in-Err.ensures)) c.rejection_fault.ensures
