use Rattle.std.proofs.Common.{◌≡◌, Some, None, sym, ap, ap₂, ◌∙◌}
use Rattle.actions.proofs.CopyFacts.{found_fault, copy_reason, code_is, fault_is, all_given, files_are}
use Rattle.actions.proofs.LimitFacts.{reported}
use Rattle.actions.proofs.copy.copied_files.Goals as goal

pub returns-in-Some : goal.returns-in-Some
returns-in-Some c =
    copy_reason c.args.at.now.scope.now c.args.at.now.dir.now c.args.sources c.args.destination.now
    ∙ ap (λ code. reported code (found_fault c.args.at.now.scope.now c.args.at.now.dir.now c.args.sources c.args.destination.now))
    (sym (code_is c.args.at.now.scope.now c.args.sources c.args.destination.now (c.as_slice.ensures ∙ c.in_ok-files.ensures.files) c.len-count.ensures c.in_ok-text.ensures.value c.in_ok-code.ensures) ∙ c.in-Some.is)

pub returns-in-Some-fault : goal.returns-in-Some-fault
returns-in-Some-fault c =
    copy_reason c.args.at.now.scope.now c.args.at.now.dir.now c.args.sources c.args.destination.now
    ∙ ap₂ reported
    (sym (code_is c.args.at.now.scope.now c.args.sources c.args.destination.now (c.as_slice.ensures ∙ c.in_ok-files.ensures.files) c.len-count.ensures c.in_ok-text.ensures.value c.in_ok-code.ensures) ∙ c.in_default.is)
    (sym (fault_is c.args.at.now.scope.now c.args.at.now.dir.now c.args.sources c.args.destination.now c.in_ok-files.ensures.patterns c.in_ok-files.ensures.documents c.in_ok-text.ensures.value c.in_ok-text.ensures.fault c.joined.ensures c.in_ok-reached.ensures.fault) ∙ c.in-Some-fault.is)
    ∙ ap (λ why. Some why) (sym c.of.ensures)

pub returns : goal.returns
returns c =
    let nothing : found_fault c.args.at.now.scope.now c.args.at.now.dir.now c.args.sources c.args.destination.now ≡ None =
    sym (fault_is c.args.at.now.scope.now c.args.at.now.dir.now c.args.sources c.args.destination.now c.in_ok-files.ensures.patterns c.in_ok-files.ensures.documents c.in_ok-text.ensures.value c.in_ok-text.ensures.fault c.joined.ensures c.in_ok-reached.ensures.fault) ∙ c.in_default-fault.is in (
      files_are c.args.at.now.scope.now c.args.at.now.dir.now c.args.sources c.args.destination.now c.args.flags.now c.in_ok-files.field-0.files c.unwrap-dest.result
          (all_given c.args.at.now.scope.now c.args.at.now.dir.now c.args.sources c.args.destination.now nothing) c.in_ok-files.ensures.files c.in_ok-text.ensures.value c.in_ok-reached.ensures.reached c.unwrap-dest.ensures,
      copy_reason c.args.at.now.scope.now c.args.at.now.dir.now c.args.sources c.args.destination.now
          ∙ ap₂ reported
          (sym (code_is c.args.at.now.scope.now c.args.sources c.args.destination.now (c.as_slice.ensures ∙ c.in_ok-files.ensures.files) c.len-count.ensures c.in_ok-text.ensures.value c.in_ok-code.ensures) ∙ c.in_default.is)
          nothing,
    )
