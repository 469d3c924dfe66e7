use Rattle.std.proofs.Common.{◌∙◌, map, sym, ap}
use Rattle.std.proofs.lemmas.List.{drop-map}
use Rattle.globs.proofs.Cuts.{whole-tail}
use Rattle.titles.proofs.ends.lines_after.Goals as goal

pub returns-then-count-lines : goal.returns-then-count-lines
returns-then-count-lines c =
    ap (λ lines. map (λ line. line.now) lines) (whole-tail c.args.lines.now c.args.count) ∙ sym (drop-map (λ line. line.now) c.args.count c.args.lines.now)
