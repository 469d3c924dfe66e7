use Rattle.std.proofs.Common.{Some, ap, ◌∙◌}
use Rattle.serde_json.specs.Find.{as_bool}
use Rattle.entries.proofs.KeyFacts.{file_row, if_ok, missing}
use Rattle.entries.proofs.spelled.Spelled.row.Goals as goal

pub returns-in-None : goal.returns-in-None
returns-in-None c = if_ok c.file.result _ _ c.file.ensures (λ row is found h. file_row found h.known row (missing as_bool _ (h.dir ∙ ap Some c.in-None.is)) (is found h))
