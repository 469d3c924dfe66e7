use Rattle.std.proofs.Common.{sym, ap, ◌∙◌}
use Rattle.lines.specs.PrivateScan.{state_at}
use Rattle.lines.specs.declared.scan.Place.{Place}
use Rattle.lines.proofs.ScanLaws.{dropped_at}
use Rattle.lines.proofs.blocks.after_dropped.Goals as goal

pub returns-clause-state : goal.returns-clause-state
returns-clause-state c =
    let p = c.args.progress.now in
    dropped_at p.place p.room p.place.seen c.args.line.now (sym c.is_skipped.ensures ∙ c.if-not-is_skipped.false) (sym c.is_directive.ensures ∙ c.if-is_directive.false)
    ∙ ap (λ (place : Place). state_at place p.room) (sym c.place_after.ensures)
