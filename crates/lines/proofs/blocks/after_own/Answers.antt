use Rattle.std.proofs.Common.{◌≡◌, true, sym, ◌∙◌, subst}
use Rattle.lines.specs.Escape.{byte_of}
use Rattle.lines.specs.File.{goes_on}
use Rattle.lines.specs.PrivateScan.{IsInStage}
use Rattle.lines.specs.PrivateSteps.{read_line}
use Rattle.lines.specs.declared.scan.Stage.{Stage}
use Rattle.lines.proofs.ScanLaws.{stays_own}
use Rattle.lines.proofs.blocks.after_own.Goals as goal

pub returns-clause-state : goal.returns-clause-state
returns-clause-state c =
    let p = c.args.progress in
    let on : goes_on (byte_of p.escape) c.args.line.now ≡ true = sym c.goes_on.ensures ∙ c.if-not-goes_on.false in
    λ marks s h.
    subst (λ (t : Stage). IsInStage marks (record p { is_past = c.is_past-past.result }) t (read_line s c.args.line.now)) (sym c.requires)
    (stays_own p c.is_past-past.result s c.args.line.now (subst (λ (t : Stage). IsInStage marks p t s) c.requires h) on c.is_past-past.ensures)
