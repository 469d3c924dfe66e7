use Rattle.std.proofs.Common.{◌∙◌, sym}
use Rattle.checks.specs.Images.{image_names}
use Rattle.checks.proofs.ImageFacts.{alike, alike_without}
use Rattle.checks.proofs.images.images_for.Goals as goal

pub returns-then-need_images : goal.returns-then-need_images
returns-then-need_images c = alike c.image_names.result (image_names c.args.bytes.now) c.args.faults.now c.image_names.ensures

pub returns : goal.returns
returns c =
    alike_without c.new.result (image_names c.args.bytes.now) c.args.faults.now (sym c.need_images.ensures ∙ c.if-need_images.false)
