use Rattle.lines.proofs.CutLaws.{structure_of}
use Rattle.lines.proofs.FileLaws.{IsFile-same}
use Rattle.lines.proofs.laws.structures_agree.Goals as goal

pub returns : goal.returns
returns c = record { some = λ lines. let has = structure_of lines in (has.found, has.faults, has.file); one = IsFile-same }
