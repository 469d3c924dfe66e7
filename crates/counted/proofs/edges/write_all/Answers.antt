use Rattle.std.proofs.Common.{rules}
use Rattle.counted.proofs.Writing.{more_written}
use Rattle.counted.proofs.edges.write_all.Goals as goal

pub writing-preserved : goal.writing-preserved
writing-preserved g c = record {
  written = more_written _ _ _ _ _ _ c.writing.invariant.written c.in-Ok.ensures.bytes;
  quiet = search rules;
}
