use Rattle.std.proofs.Common.{◌∙◌, List, subst}
use Rattle.expand.specs.declared.reason.Rejection.{Rejection}
use Rattle.checks.specs.Images.{image_names}
use Rattle.checks.specs.PrivateImages.{AreShownAlike}
use Rattle.checks.specs.Shown.{readable_lines, shown_check}
use Rattle.checks.proofs.TextFacts.{checked}
use Rattle.checks.proofs.checked.check.Goals as goal

pub returns : goal.returns
returns g c =
    checked c.args.file.now c.args.bytes.now c.args.form _ c.in_ok-images.images _ c.in_ok-faults.ensures.faults c.in_ok-faults.ensures.text c.in_ok-faults.ensures.target
    c.in_ok-faults.ensures.flaw
    (subst (λ (faults : List Rejection). AreShownAlike c.in_ok-images.images (image_names c.args.bytes.now) faults) c.as_slice.ensures c.in_ok-images.ensures)
    (c.in_ok-text.ensures
    ∙ (λ i. shown_check c.args.file.now c.args.form (c.as_ref.ensures.value i) (c.as_ref-2.ensures.value i) (c.as_slice-2.ensures i) (readable_lines (c.as_slice-4.ensures i)) (c.as_slice-3.ensures i)))
    c.is_empty.ensures
