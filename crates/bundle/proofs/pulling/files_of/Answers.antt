use Rattle.std.proofs.Common.{Some, unwrap_or, ap, sym, ◌∙◌}
use Rattle.bundle.specs.Parts.{files_with}
use Rattle.bundle.proofs.FoundFacts.{files_are}
use Rattle.bundle.proofs.pulling.files_of.Goals as goal

pub returns : goal.returns
returns c listed are = files_are _ listed _ c.in_ok-dockerfile.dockerfile c.args.context c.in_ok-target.target c.in_ok-dockerfile.ensures are c.in_ok-target.ensures
    ∙ ap (λ l. Some (files_with c.in_ok-dockerfile.dockerfile l c.in_ok-target.target)) (ap (unwrap_or c.args.context) (sym c.empty.ensures) ∙ sym c.unwrap_or-context.ensures)
