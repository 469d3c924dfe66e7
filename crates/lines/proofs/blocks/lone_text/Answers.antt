use Rattle.std.proofs.Common.{◌<◌, rules}
use Rattle.std.proofs.lemmas.Option.{IfSome_then}
use Rattle.lines.proofs.LoneLaws.{lone_at}
use Rattle.lines.proofs.blocks.lone_text.Goals as goal

pub returns-clause-state : goal.returns-clause-state
returns-clause-state c =
    let p = c.args.progress.now in
    let some : 0 < p.room = search rules in
    IfSome_then c.lone_in.result c.lone_in.ensures (λ text lone. lone_at p.place p.room p.place.seen c.args.line.now text.now lone some)
