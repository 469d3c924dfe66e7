use Rattle.std.proofs.Common.{Bool, None, refl, subst, drop, ◌+◌}
use Rattle.trees.specs.Copy.{parent_meta, changes_of, source_changes}
use Rattle.trees.specs.PrivateNode.{map_of}
use Rattle.trees.specs.PrivateCopy.{AppliesChanges, kind_in}
use Rattle.trees.proofs.PlacingSteps.{made-step, made-fault, made-all, handed-on, next-source}
use Rattle.trees.proofs.placing.place_each.Goals as goal

pub loop-source-preserved : goal.loop-source-preserved
loop-source-preserved c =
    let options = c.args.options.now in
    let into = c.goes_into-into.result in
    let from = c.args.from.now in
    let dest = c.args.dest.now in
    let sources = c.args.sources.now in
    let index = c.loop-source.source-index in
    let left = changes_of options into from dest in
    made-step (parent_meta options) (left sources) (λ _. None) (map_of c.args.root.now) (left (drop index sources)) (kind_in c.loop-source.placed.entries) (map_of c.loop-source.root) c.loop-source.invariant
    (source_changes options into from dest c.source-item.result) (left (drop (index + 1) sources)) (kind_in c.place_source.new.placed.entries) (map_of c.place_source.new.root)
    (next-source options into from dest sources index c.source-item.result c.loop-source-test.true c.source-item.is) c.in_ok-place_source.ensures

pub returns-in_err-place_source : goal.returns-in_err-place_source
returns-in_err-place_source c =
    let options = c.args.options.now in
    let into = c.goes_into-into.result in
    let from = c.args.from.now in
    let dest = c.args.dest.now in
    let sources = c.args.sources.now in
    let index = c.loop-source.source-index in
    let left = changes_of options into from dest in
    let old = map_of c.args.root.now in
    let new = map_of c.place_source.new.root in
    let then = kind_in c.place_source.new.placed.entries in
    let fault = c.in_err-place_source.field-0.0 in
    subst (λ (b : Bool). AppliesChanges (parent_meta options) (changes_of options b from dest sources) old new c.from_residual.result) c.goes_into-into.ensures
    (made-all (parent_meta options) (left sources) (λ _. None) old then new c.from_residual.result (λ _. refl) c.requires
    (handed-on (parent_meta options) (left sources) (λ _. None) old then new fault c.from_residual.result c.from_residual.ensures.1
    (made-fault (parent_meta options) (left sources) (λ _. None) old (left (drop index sources)) (kind_in c.loop-source.placed.entries) (map_of c.loop-source.root) c.loop-source.invariant
    (source_changes options into from dest c.source-item.result) (left (drop (index + 1) sources)) then new
    (next-source options into from dest sources index c.source-item.result c.loop-source-test.true c.source-item.is) then new fault c.in_err-place_source.ensures)))
