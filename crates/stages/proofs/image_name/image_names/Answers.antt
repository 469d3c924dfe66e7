use Rattle.std.proofs.Common.{◌++◌, ap, ◌∙◌}
use Rattle.std.specs.FinMap.{get}
use Rattle.stages.specs.ImageNames.{on_line, image_names_of}
use Rattle.stages.proofs.ImageFacts.{names_first, names_turn, names_last, names_over}
use Rattle.stages.proofs.image_name.image_names.Goals as goal

pub loop-instruction-init : goal.loop-instruction-init
loop-instruction-init c =
    names_first _ c.instructions-instructions.result.now _ _ _ c.new-outer.ensures c.new-names.ensures c.new-found.ensures

pub loop-instruction-preserved : goal.loop-instruction-preserved
loop-instruction-preserved c =
    names_turn _ _ c.instructions-instructions.result.now c.loop-instruction.instruction-index c.instruction-item.result _ _ _ c.take_in.new.outer _ _
    c.take_in.new.names _ c.push_names.new.found _ c.loop-instruction-test.true c.instruction-item.is c.kind-kind.ensures.kind c.line.ensures
    c.loop-instruction.invariant c.as_slice.ensures
    (c.in_ok-push_names.ensures ∙ ap (λ images. c.loop-instruction.found ++ on_line c.line.result images) c.in_ok-images.ensures)
    c.in_ok-goes_on.ensures.goes c.if-not-goes_on.false c.in_ok-goes_on.ensures.names

pub returns-then-not-goes_on : goal.returns-then-not-goes_on
returns-then-not-goes_on c =
    names_last _ _ c.instructions-instructions.result.now c.loop-instruction.instruction-index c.instruction-item.result _ _ _ c.take_in.new.outer _ _
    _ c.push_names.new.found _ c.loop-instruction-test.true c.instruction-item.is c.kind-kind.ensures.kind c.line.ensures
    c.loop-instruction.invariant c.as_slice.ensures
    (c.in_ok-push_names.ensures ∙ ap (λ images. c.loop-instruction.found ++ on_line c.line.result images) c.in_ok-images.ensures)
    c.in_ok-goes_on.ensures.goes c.if-not-goes_on.true
    ∙ ap (λ is. image_names_of (get c.args.args.now) is) c.instructions-instructions.ensures.list

pub returns : goal.returns
returns c =
    names_over _ _ c.instructions-instructions.result.now c.loop-instruction.instruction-index _ _ c.loop-instruction.found c.loop-instruction-test.false
    c.loop-instruction.invariant
    ∙ ap (λ is. image_names_of (get c.args.args.now) is) c.instructions-instructions.ensures.list
