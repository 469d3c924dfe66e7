use Rattle.std.proofs.Common.{sym, ap, ◌∙◌, subst}
use Rattle.lines.specs.PrivateScan.{state_at, block_lines, Fits}
use Rattle.lines.specs.declared.state.FileState.{FileState}
use Rattle.lines.proofs.FitLaws.{block_fit}
use Rattle.lines.proofs.RoomLaws.{after_lines-room}
use Rattle.lines.proofs.blocks.take_block.Goals as goal

pub settle-requires-clause-fits : goal.settle-requires-clause-fits
settle-requires-clause-fits c =
    let p = c.args.scan.progress in
    subst Fits (sym c.in-Ok.ensures) (block_fit p.place p.room (block_lines p.is_first c.text_of.result.now))

pub settle-requires-clause-room : goal.settle-requires-clause-room
settle-requires-clause-room c =
    let p = c.args.scan.progress in
    ap (λ (s : FileState). s.room) c.in-Ok.ensures ∙ after_lines-room (state_at p.place p.room) (block_lines p.is_first c.text_of.result.now)
