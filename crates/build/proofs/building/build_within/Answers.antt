use Rattle.std.proofs.Common.{◌+◌, ap, refl}
use Rattle.memo.proofs.GrowLemmas.{grows-same}
use Rattle.build.specs.Ends.{Devices, devices}
use Rattle.build.proofs.BuildingFacts.{read_of, loses_at_most, has_told}
use Rattle.build.proofs.building.build_within.Goals as goal

pub returns : goal.returns
returns g c =
    let out = g.E.Executor.out c.args.executor.now in
    let bytes = c.in_ok-bytes.bytes.items in
    let old : Devices = devices (g.R.CountedRead.remaining c.args.input.now) (g.R.CountedRead.failures c.args.input.now) (g.W.CountedWrite.contents c.args.output.now) (g.W.CountedWrite.failures c.args.output.now) in
    let new : Devices = devices (g.R.CountedRead.remaining c.read_all.new.input) (g.R.CountedRead.failures c.read_all.new.input) (g.W.CountedWrite.contents c.tell_bundle.new.output) (g.W.CountedWrite.failures c.tell_bundle.new.output) in
    let read = read_of _ old.left new.left bytes _ (ap (λ n. n + 1) c.requires.limit) refl c.in_ok-bytes.ensures.bytes in
    record {
      ends = has_told out old new bytes c.tell_bundle.result read c.tell_bundle.ensures.told c.in_ok-bytes.ensures.count;
      taken = loses_at_most _ old.left new.left _ c.in_ok-bytes.ensures.bytes;
      memo = c.tell_bundle.ensures.memo;
    }

-- nothing is built
pub returns-in_err-bytes-clause-memo : goal.returns-in_err-bytes-clause-memo
returns-in_err-bytes-clause-memo g c = grows-same c.args.memo.now
