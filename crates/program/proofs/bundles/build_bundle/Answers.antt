use Rattle.std.proofs.Common.{◌∙◌, refl}
use Rattle.build.specs.Ends.{Ends}
use Rattle.program.specs.Faults.{EndsAs}
use Rattle.program.proofs.InputFacts.{called_file, called_folder, called_given, called_none, opened_file, opened_folder, opened_given}
use Rattle.program.proofs.bundles.build_bundle.Goals as goal

pub returns-in-Ok-Given-clause-calls : goal.returns-in-Ok-Given-clause-calls
returns-in-Ok-Given-clause-calls g c =
    called_given _ _ _ (EndsAs (Ends (g.E.Executor.out c.args.executor.now))) _ _ _ _ _ _ _ (opened_given _ _ _ _ c.in-Ok-Given.ensures.opened c.in-Ok-Given.field-0-is) c.in-Ok-Given.ensures.quiet
    c.build_anew-ended.ensures.ends c.finish.ensures.says c.finish.ensures.is

pub returns-in-Ok-File-clause-calls : goal.returns-in-Ok-File-clause-calls
returns-in-Ok-File-clause-calls g c =
    called_file _ _ _ (EndsAs (Ends (g.E.Executor.out c.args.executor.now))) _ _ _ _ _ _ _ _ _ _ _ _ (opened_file _ _ _ _ _ c.in-Ok-File.ensures.opened c.in-Ok-File.field-0-is) c.place_of.ensures c.in-Ok-File.ensures.quiet refl refl
    c.build_anew-ended-in-Ok-File.ensures.ends c.finish_file.ensures.says c.finish_file.ensures.is

pub returns-in-Ok-Folder-clause-calls : goal.returns-in-Ok-Folder-clause-calls
returns-in-Ok-Folder-clause-calls g c =
    called_folder _ _ _ (EndsAs (Ends (g.E.Executor.out c.args.executor.now))) _ _ _ _ _ _ _ _ _ _ (opened_folder _ _ _ _ _ c.in-Ok-Folder.ensures.opened c.in-Ok-Folder.field-0-is) (c.new-reader.ensures ∙ c.as_str.ensures)
    c.in-Ok-Folder.ensures.quiet refl refl c.build_anew-ended-in-Ok-Folder.ensures.ends c.finish_folder.ensures.says c.finish_folder.ensures.is

pub returns-in-Err-clause-calls : goal.returns-in-Err-clause-calls
returns-in-Err-clause-calls g c = called_none _ _ _ (EndsAs (Ends (g.E.Executor.out c.args.executor.now))) _ _ _ _ _ refl refl refl refl c.in-Err.ensures.shut
