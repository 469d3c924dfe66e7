use Rattle.std.proofs.Common.{◌≡◌, IfOk, subst}
use Rattle.plans.specs.Value.{copied_files}
use Rattle.vertexrun.proofs.FileSteps.{copy_on-one, copy_on-two, gives_value}
use Rattle.vertexrun.proofs.files.settle_copy.Goals as goal

pub returns-in-len1 : goal.returns-in-len1
returns-in-len1 c =
    gives_value c.copied_files-in-len1.result _ _
    (copy_on-one (λ tree. tree.now) c.args.files.now c.args.inputs.now c.base-item.result c.in-len1.len_at_least c.in-len1.len_below c.base-item.is)
    (subst (λ from. IfOk c.copied_files-in-len1.result (λ value. value ≡ copied_files c.args.files.now c.base-item.result.now from)) c.empty.ensures c.copied_files-in-len1.ensures)

pub returns-in-len2 : goal.returns-in-len2
returns-in-len2 c =
    gives_value c.copied_files-in-len2.result _ _
    (copy_on-two (λ tree. tree.now) c.args.files.now c.args.inputs.now c.base-item-then-inputs-lt3.result c.from-item.result c.in-len2.len_at_least c.in-len2.len_below
    c.base-item-then-inputs-lt3.is c.from-item.is)
    c.copied_files-in-len2.ensures
