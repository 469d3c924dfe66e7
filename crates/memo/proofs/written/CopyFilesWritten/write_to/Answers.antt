use Rattle.std.specs.Prelude.{◌++◌}
use Rattle.std.specs.Hash.{slice}
use Rattle.llb.specs.Hash.{file_source_writes, path_writes, copy_options_writes}
use Rattle.memo.specs.Key.{Takes}
use Rattle.memo.proofs.WrittenLemmas.{takes_then}
use Rattle.memo.proofs.written.CopyFilesWritten.write_to.Goals as goal

pub returns : goal.returns
returns c =
    let files = c.args.self.now in
    let before = c.args.hasher.now in
    let sources = slice file_source_writes files.sources in
    let dest : Takes before c.write_to-2.new.hasher (sources ++ path_writes files.dest) =
    takes_then before c.write_to.new.hasher c.write_to-2.new.hasher sources (path_writes files.dest) c.write_to.ensures c.write_to-2.ensures in
    takes_then before c.write_to-2.new.hasher c.write_to-3.new.hasher (sources ++ path_writes files.dest) (copy_options_writes files.options) dest c.write_to-3.ensures
