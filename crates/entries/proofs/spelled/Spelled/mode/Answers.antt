use Rattle.std.proofs.Common.{Some, ap, sym, ◌∙◌, codes}
use Rattle.serde_json.specs.Find.{get_member}
use Rattle.entries.specs.PrivateKeys.{lent_text}
use Rattle.entries.proofs.KeyFacts.{mode_read}
use Rattle.entries.proofs.spelled.Spelled.mode.Goals as goal

pub returns-in-Some-mode_of : goal.returns-in-Some-mode_of
returns-in-Some-mode_of c found h =
    mode_read (get_member (codes "mode") found) c.in-Some.text.now c.in-Some-mode_of.mode (h.mode ∙ ap (λ o. Some (lent_text o)) c.in-Some.is) (sym c.in-Some-mode_of.ensures)
