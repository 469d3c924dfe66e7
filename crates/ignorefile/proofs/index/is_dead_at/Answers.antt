use Rattle.ignorefile.proofs.Leaving.{dead-at}
use Rattle.ignorefile.proofs.index.is_dead_at.Goals as goal

pub returns : goal.returns
returns c h = dead-at c.args.lines.now c.args.position _ c.args.folder.now c.requires c.index-lines-position.is (c.is_dead_in.ensures h)
