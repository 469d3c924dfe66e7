use Rattle.words.proofs.QuoteLaws.{open_from-is}
use Rattle.words.proofs.cutting.ends_open.Goals as goal

pub loop-byte-init : goal.loop-byte-init
loop-byte-init c = open_from-is c.args.escape c.args.text.now
