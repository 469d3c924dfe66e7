use Rattle.std.specs.Prelude.{◌++◌}
use Rattle.std.specs.Hash.{bool}
use Rattle.llb.specs.Hash.{path_writes}
use Rattle.memo.specs.Key.{Takes}
use Rattle.memo.proofs.WrittenLemmas.{takes_then}
use Rattle.memo.proofs.written.BindWritten.write_to.Goals as goal

pub returns : goal.returns
returns c =
    let bind = c.args.self.now in
    let before = c.args.hasher.now in
    let source : Takes before c.write_to-2.new.hasher (bool bind.rw ++ path_writes bind.source) =
    takes_then before c.write_to.new.hasher c.write_to-2.new.hasher (bool bind.rw) (path_writes bind.source) c.write_to.ensures c.write_to-2.ensures in
    takes_then before c.write_to-2.new.hasher c.write_to-3.new.hasher (bool bind.rw ++ path_writes bind.source) (path_writes bind.target) source c.write_to-3.ensures
