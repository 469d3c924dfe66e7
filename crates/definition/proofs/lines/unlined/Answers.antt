use Rattle.std.proofs.Common.{ap, sym, ◌∙◌}
use Rattle.std.specs.Prelude.{codes}
use Rattle.serde_json.specs.Data.{Members, object}
use Rattle.serde_json.specs.View.{view, members_view}
use Rattle.serde_json.proofs.Views.{view-Object}
use Rattle.definition.specs.Lines.{unlined}
use Rattle.definition.proofs.LinesFacts.{without-entry}
use Rattle.definition.proofs.lines.unlined.Goals as goal

pub returns-in-Object : goal.returns-in-Object
returns-in-Object c =
    view-Object c.remove.new.self
    ∙ ap (λ (ms : Members). object ms) (ap members_view c.remove.ensures.entries ∙ without-entry (codes "places") c.in-Object.members.entries)
    ∙ sym (ap unlined (ap view c.in-Object.is ∙ view-Object c.in-Object.members))
