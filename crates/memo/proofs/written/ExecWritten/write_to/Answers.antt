use Rattle.std.specs.Prelude.{◌++◌}
use Rattle.std.specs.Hash.{HashWrites, slice, str}
use Rattle.plain.specs.Hash.{variable_writes}
use Rattle.llb.specs.Hash.{bind_writes, cache_writes, path_writes}
use Rattle.memo.specs.Key.{Takes}
use Rattle.memo.proofs.WrittenLemmas.{takes_then}
use Rattle.memo.proofs.written.ExecWritten.write_to.Goals as goal

pub returns : goal.returns
returns c =
    let exec = c.args.self.now in
    let before = c.args.hasher.now in
    let binds : HashWrites = slice bind_writes exec.binds in
    let caches : HashWrites = binds ++ slice cache_writes exec.caches in
    let dir : HashWrites = caches ++ path_writes exec.dir in
    let env : HashWrites = dir ++ slice variable_writes exec.env in
    let user : HashWrites = env ++ str exec.user in
    let to_caches : Takes before c.write_to-2.new.hasher caches = takes_then before c.write_to.new.hasher c.write_to-2.new.hasher binds (slice cache_writes exec.caches) c.write_to.ensures c.write_to-2.ensures in
    let to_dir : Takes before c.write_to-3.new.hasher dir = takes_then before c.write_to-2.new.hasher c.write_to-3.new.hasher caches (path_writes exec.dir) to_caches c.write_to-3.ensures in
    let to_env : Takes before c.write_to-4.new.hasher env = takes_then before c.write_to-3.new.hasher c.write_to-4.new.hasher dir (slice variable_writes exec.env) to_dir c.write_to-4.ensures in
    let to_user : Takes before c.write_to-5.new.hasher user = takes_then before c.write_to-4.new.hasher c.write_to-5.new.hasher env (str exec.user) to_env c.write_to-5.ensures in
    takes_then before c.write_to-5.new.hasher c.write_to-6.new.hasher user (slice str exec.words) to_user c.write_to-6.ensures
