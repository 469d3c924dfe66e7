use Rattle.std.proofs.Common.{◌≡◌, ◌∙◌, IfOk, map, subst}
use Rattle.meant.specs.Begun.{stages_in}
use Rattle.meant.proofs.LineFacts.{first_lines}
use Rattle.meant.proofs.begun.ended_stages.Goals as goal

pub returns : goal.returns
returns c =
    let before = first_lines c.count_before_last.result c.args.lines.now ∙ c.count_before_last.ensures.before in
    subst (λ texts. IfOk c.stages_in.result (λ names. map (λ name. name.now) names.items ≡ stages_in texts)) before c.stages_in.ensures
