use Rattle.std.proofs.Common.{refl, arith}
use Rattle.plain.specs.Limits.{most_dockerfile_bytes}
use Rattle.lines.proofs.ReaderLaws.{nothing_fine}
use Rattle.lines.proofs.kept.nothing.Goals as goal

pub returns : goal.returns
unfolding most_dockerfile_bytes
returns c = (omega arith, refl, nothing_fine _ refl c.new.ensures.items refl refl c.first_progress.ensures c.new-3.ensures.items)
