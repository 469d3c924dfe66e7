use Rattle.std.proofs.Common.{◌≡◌, ◌∙◌, ℕ, List, Result, refl, subst}
use Rattle.answering.specs.declared.status.Status.{Status}
use Rattle.build.specs.Ends.{Devices}
use Rattle.plans.specs.Value.{Out}
use Rattle.program.specs.declared.fault.TellFault.{TellFault}
use Rattle.program.specs.Check.{file_shown}
use Rattle.program.specs.Explain.{ExplainEnds}
use Rattle.program.proofs.InputFacts.{called_file, called_folder, called_given, called_none, opened_file, opened_folder, opened_given}
use Rattle.program.proofs.bundles.explain_build.Goals as goal

-- what positions call the Dockerfile
explained : (file shown : List ℕ) (out : Out) (old new : Devices) (ended : Result Status TellFault) → shown ≡ file → ExplainEnds shown out old new ended
    → ExplainEnds file out old new ended
explained file shown out old new ended is ends = subst (λ name. ExplainEnds name out old new ended) is ends

pub returns-in-Ok-Given-clause-calls : goal.returns-in-Ok-Given-clause-calls
returns-in-Ok-Given-clause-calls g c =
    called_given _ _ _ (ExplainEnds (file_shown c.args.source.now.choice) (g.E.Executor.out c.args.executor.now)) _ _ _ _ _ _ _ (opened_given _ _ _ _ c.in-Ok-Given.ensures.opened c.in-Ok-Given.field-0-is) c.in-Ok-Given.ensures.quiet
    (explained _ _ (g.E.Executor.out c.args.executor.now) _ _ _ c.file_shown-shown.ensures c.explain_bundle-ended.ensures.ends) c.finish.ensures.says c.finish.ensures.is

pub returns-in-Ok-File-clause-calls : goal.returns-in-Ok-File-clause-calls
returns-in-Ok-File-clause-calls g c =
    called_file _ _ _ (ExplainEnds (file_shown c.args.source.now.choice) (g.E.Executor.out c.args.executor.now)) _ _ _ _ _ _ _ _ _ _ _ _ (opened_file _ _ _ _ _ c.in-Ok-File.ensures.opened c.in-Ok-File.field-0-is) c.place_of.ensures c.in-Ok-File.ensures.quiet refl refl
    (explained _ _ (g.E.Executor.out c.args.executor.now) _ _ _ c.file_shown-shown.ensures c.explain_bundle-ended-in-Ok-File.ensures.ends) c.finish_file.ensures.says c.finish_file.ensures.is

pub returns-in-Ok-Folder-clause-calls : goal.returns-in-Ok-Folder-clause-calls
returns-in-Ok-Folder-clause-calls g c =
    called_folder _ _ _ (ExplainEnds (file_shown c.args.source.now.choice) (g.E.Executor.out c.args.executor.now)) _ _ _ _ _ _ _ _ _ _ (opened_folder _ _ _ _ _ c.in-Ok-Folder.ensures.opened c.in-Ok-Folder.field-0-is) (c.new-reader.ensures ∙ c.as_str.ensures)
    c.in-Ok-Folder.ensures.quiet refl refl (explained _ _ (g.E.Executor.out c.args.executor.now) _ _ _ c.file_shown-shown.ensures c.explain_bundle-ended-in-Ok-Folder.ensures.ends) c.finish_folder.ensures.says c.finish_folder.ensures.is

pub returns-in-Err-clause-calls : goal.returns-in-Err-clause-calls
returns-in-Err-clause-calls g c = called_none _ _ _ (ExplainEnds (file_shown c.args.source.now.choice) (g.E.Executor.out c.args.executor.now)) _ _ _ _ _ refl refl refl refl c.in-Err.ensures.shut
