use Rattle.std.proofs.Common.{◌≡◌, false, ◌||◌, ap, ap₂, ◌∙◌, codes}
use Rattle.serde_json.specs.Data.{string}
use Rattle.serde_json.specs.Written.{compact_text}
use Rattle.strict.specs.Written.{list_data}
use Rattle.imageconfig.specs.Writing.{is_set, variable_data}
use Rattle.counted.proofs.GatheringFacts.{says_none, says_both, says_as}
use Rattle.configtext.specs.PrivateFields.{said_if}
use Rattle.configtext.proofs.unsaid.put_first.Goals as goal

pub returns-clause-says : goal.returns-clause-says
returns-clause-says g c =
    let one : c.put_list-later.result ≡ (is_set c.args.config.now.cmd || false) = c.put_list-later.ensures.later ∙ ap (λ xs. is_set xs || false) c.as_slice.ensures in
    let two : c.put_list-later-2.result ≡ (is_set c.args.config.now.entrypoint || (is_set c.args.config.now.cmd || false)) =
    c.put_list-later-2.ensures.later ∙ ap₂ (λ xs b. is_set xs || b) c.as_slice-2.ensures one in
    says_both (says_as c.put_list-later.ensures.says (ap (λ xs. said_if (is_set xs) false (codes "Cmd") (compact_text (list_data string xs))) c.as_slice.ensures))
    (says_both
    (says_as c.put_list-later-2.ensures.says (ap₂ (λ xs b. said_if (is_set xs) b (codes "Entrypoint") (compact_text (list_data string xs))) c.as_slice-2.ensures one))
    (says_both
    (says_as c.put_variables.ensures.says (ap (λ b. said_if (is_set c.args.config.now.env) b (codes "Env") (compact_text (list_data variable_data c.args.config.now.env))) two))
    (says_none _)))
