use Rattle.std.proofs.Common.{◌≡◌, Bor, option_map, subst}
use Rattle.std.specs.Prelude.{IfOk}
use Rattle.std.specs.FinMap.{get}
use Rattle.plain.specs.declared.text.Text.{Text}
use Rattle.stages.specs.Faults.{stage_refusals}
use Rattle.stages.specs.Naming.{names_in}
use Rattle.stages.proofs.FaultsFacts.{all_reported}
use Rattle.stages.proofs.faults.list_refusals.Goals as goal

pub returns : goal.returns
returns g c =
    let known = names_in c.args.images.now in
    let args = get c.args.args.now in
    let target = option_map (λ (t : Bor Text). t.now) c.args.target in
    subst (λ is. IfOk c.with_line_refusals.result (λ refusals. refusals ≡ stage_refusals known args target is)) c.instructions-instructions.ensures.list
    (all_reported known args target c.instructions-instructions.result.now c.in_ok-refusals.refusals c.with_line_refusals.result c.in_ok-refusals.ensures
    c.with_line_refusals.ensures)
