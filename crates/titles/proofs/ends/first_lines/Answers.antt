use Rattle.std.proofs.Common.{sym}
use Rattle.std.proofs.lemmas.List.{take-map}
use Rattle.titles.proofs.ends.first_lines.Goals as goal

pub returns-then-count-lines : goal.returns-then-count-lines
returns-then-count-lines c = sym (take-map (λ line. line.now) c.args.count c.args.lines.now)
