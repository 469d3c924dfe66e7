use Rattle.std.proofs.Common.{Some, ap, ◌∙◌, codes}
use Rattle.serde_json.specs.Find.{get_member}
use Rattle.borrowed.proofs.PulledFacts.{what_it_gives}
use Rattle.entries.specs.PrivateKeys.{lent_text}
use Rattle.entries.proofs.KeyFacts.{path_read}
use Rattle.entries.proofs.spelled.Spelled.path.Goals as goal

pub returns-in-Some : goal.returns-in-Some
returns-in-Some c =
    what_it_gives c.read_path.result _ _ c.read_path.ensures (λ path is found h.
    path_read (get_member (codes "path") found) c.in-Some.text.now (h.path ∙ ap (λ o. Some (lent_text o)) c.in-Some.is) ∙ is)
