use Rattle.std.proofs.Common.{take}
use Rattle.ignorefile.specs.PrivateIndex.{IsIndex}
use Rattle.ignorefile.proofs.ignore.Ignore.from_lines.Given as goal

abbrev pub invariant-loop-position : goal.invariant-loop-position
invariant-loop-position l = IsIndex (take l.position l.rows) l.by_name.entries l.by_folder.entries l.by_begin l.by_count l.others
