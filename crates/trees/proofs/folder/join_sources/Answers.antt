use Rattle.std.proofs.Common.{subst}
use Rattle.trees.specs.declared.folder.Joined.TheVariants.{All, TooDeep}
use Rattle.trees.specs.Copy.{source_changes}
use Rattle.trees.specs.PrivateCopy.{Comes}
use Rattle.trees.specs.PrivateNode.{map_of}
use Rattle.trees.proofs.FolderDone.{sources-more, sources-sink, sources-none}
use Rattle.trees.proofs.folder.join_sources.Goals as goal

pub loop-source-preserved : goal.loop-source-preserved
loop-source-preserved c = λ into end came h.
    c.loop-source.invariant into end came (sources-more c.args.options.now into c.args.from.now c.args.dest.now c.args.sources.now c.loop-source.source-index c.source-item.result (map_of c.loop-source.joined) (map_of c.join_source.new.joined) end came c.loop-source-test.true c.source-item.is (subst (Comes c.args.dest.now (source_changes c.args.options.now into c.args.from.now c.args.dest.now c.source-item.result) (map_of c.loop-source.joined) (map_of c.join_source.new.joined)) c.in-All.is (c.in_ok-join_source.ensures into)) h)

pub returns-in-TooDeep : goal.returns-in-TooDeep
returns-in-TooDeep c = λ into.
    c.loop-source.invariant into (map_of c.join_source.new.joined) TooDeep (sources-sink c.args.options.now into c.args.from.now c.args.dest.now c.args.sources.now c.loop-source.source-index c.source-item.result (map_of c.loop-source.joined) c.loop-source-test.true c.source-item.is (subst (Comes c.args.dest.now (source_changes c.args.options.now into c.args.from.now c.args.dest.now c.source-item.result) (map_of c.loop-source.joined) (map_of c.join_source.new.joined)) c.in-TooDeep.is (c.in_ok-join_source.ensures into)))

pub returns : goal.returns
returns c = λ into. c.loop-source.invariant into _ All (sources-none c.args.options.now into c.args.from.now c.args.dest.now c.args.sources.now c.loop-source.source-index (map_of c.loop-source.joined) c.loop-source-test.false)
