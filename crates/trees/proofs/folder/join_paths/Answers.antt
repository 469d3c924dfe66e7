use Rattle.std.proofs.Common.{subst}
use Rattle.trees.specs.declared.folder.Joined.TheVariants.{All, TooDeep}
use Rattle.trees.specs.Copy.{path_changes}
use Rattle.trees.specs.PrivateCopy.{Comes}
use Rattle.trees.specs.PrivateNode.{map_of}
use Rattle.trees.proofs.FolderDone.{paths-more, paths-sink, paths-none}
use Rattle.trees.proofs.folder.join_paths.Goals as goal

pub loop-path-preserved : goal.loop-path-preserved
loop-path-preserved c = λ into end came h.
    c.loop-path.invariant into end came (paths-more c.args.options.now into c.args.from.now c.args.dest.now c.args.paths.now c.loop-path.path-index c.path-item.result (map_of c.loop-path.joined) (map_of c.join_match.new.joined) end came c.loop-path-test.true c.path-item.is (subst (Comes c.args.dest.now (path_changes c.args.options.now into c.args.from.now c.args.dest.now c.path-item.result) (map_of c.loop-path.joined) (map_of c.join_match.new.joined)) c.in-All.is (c.in_ok-join_match.ensures into)) h)

pub returns-in-TooDeep : goal.returns-in-TooDeep
returns-in-TooDeep c = λ into.
    c.loop-path.invariant into (map_of c.join_match.new.joined) TooDeep (paths-sink c.args.options.now into c.args.from.now c.args.dest.now c.args.paths.now c.loop-path.path-index c.path-item.result (map_of c.loop-path.joined) c.loop-path-test.true c.path-item.is (subst (Comes c.args.dest.now (path_changes c.args.options.now into c.args.from.now c.args.dest.now c.path-item.result) (map_of c.loop-path.joined) (map_of c.join_match.new.joined)) c.in-TooDeep.is (c.in_ok-join_match.ensures into)))

pub returns : goal.returns
returns c = λ into. c.loop-path.invariant into _ All (paths-none c.args.options.now into c.args.from.now c.args.dest.now c.args.paths.now c.loop-path.path-index (map_of c.loop-path.joined) c.loop-path-test.false)
