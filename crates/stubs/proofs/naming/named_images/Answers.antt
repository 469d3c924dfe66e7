use Rattle.std.proofs.Common.{Err, inr, subst}
use Rattle.dockerfile.specs.Dockerfile.{IsRead, IsRefused}
use Rattle.stubs.proofs.naming.named_images.Goals as goal

pub returns-in-Err-Because : goal.returns-in-Err-Because
returns-in-Err-Because c =
    let told = subst (λ f. IsRead c.as_slice.result.now (Err f)) c.in-Err-Because.field-0-is c.in-Err-Because.ensures in
    inr (c.in-Err-Because.field-0-0, subst (λ text. IsRefused text c.in-Err-Because.field-0-0) c.as_slice.ensures told, c.new.ensures)
