use Rattle.std.proofs.Common.{drop, ◌+◌}
use Rattle.trees.specs.Copy.{parent_meta, paths_changes, path_changes}
use Rattle.trees.specs.PrivateNode.{map_of}
use Rattle.trees.specs.PrivateCopy.{kind_in}
use Rattle.trees.proofs.PlacingSteps.{made-step, made-fault, handed-on, next-path}
use Rattle.trees.proofs.placing.place_matches.Goals as goal

pub loop-path-preserved : goal.loop-path-preserved
loop-path-preserved c =
    let options = c.args.options.now in
    let from = c.args.from.now in
    let dest = c.args.dest.now in
    let paths = c.args.paths.now in
    let index = c.loop-path.path-index in
    let left = paths_changes options c.args.into from dest in
    made-step (parent_meta options) (left paths) (kind_in c.args.placed.now.entries) (map_of c.args.root.now) (left (drop index paths)) (kind_in c.loop-path.placed.entries) (map_of c.loop-path.root) c.loop-path.invariant
    (path_changes options c.args.into from dest c.path-item.result) (left (drop (index + 1) paths)) (kind_in c.place_match.new.placed.entries) (map_of c.place_match.new.root)
    (next-path options c.args.into from dest paths index c.path-item.result c.loop-path-test.true c.path-item.is) c.in_ok-place_match.ensures

pub returns-in_err-place_match : goal.returns-in_err-place_match
returns-in_err-place_match c =
    let options = c.args.options.now in
    let from = c.args.from.now in
    let dest = c.args.dest.now in
    let paths = c.args.paths.now in
    let index = c.loop-path.path-index in
    let left = paths_changes options c.args.into from dest in
    let then = kind_in c.place_match.new.placed.entries in
    let fault = c.in_err-place_match.field-0.0 in
    handed-on (parent_meta options) (left paths) (kind_in c.args.placed.now.entries) (map_of c.args.root.now) then (map_of c.place_match.new.root) fault c.from_residual.result c.from_residual.ensures.1
    (made-fault (parent_meta options) (left paths) (kind_in c.args.placed.now.entries) (map_of c.args.root.now) (left (drop index paths)) (kind_in c.loop-path.placed.entries) (map_of c.loop-path.root) c.loop-path.invariant
    (path_changes options c.args.into from dest c.path-item.result) (left (drop (index + 1) paths)) then (map_of c.place_match.new.root)
    (next-path options c.args.into from dest paths index c.path-item.result c.loop-path-test.true c.path-item.is) then (map_of c.place_match.new.root) fault c.in_err-place_match.ensures)
